-- One value for each element.
use Rattle.std.proofs.Common.{◌≡◌, ◌++◌, ◌∷◌, [], map, Option}
use Rattle.std.proofs.lemmas.List.{map_push}
use Rattle.std.proofs.lemmas.Result.{err_from_is_err_and}
use Rattle.patch_bytes.specs.Memory.{memory_of}
use Rattle.elf_format.specs.Options.{each}
use Rattle.elf_format.specs.declared.records.NeedNameNumbers.{NeedNameNumbers}
use Rattle.elf_format.specs.Versions.{VersionName, shown_need_name}
use Rattle.elf_image_versions.specs.VersionsModel.{name_model}
use Rattle.elf_format.proofs.ForCallers.ReadingSteps.{no_name}
use Rattle.elf_format.proofs.ForCallers.ReadingSteps.{each_done, each_ends, each_goes}
use Rattle.elf_image_versions.proofs.kept.need_names.Goals as goal

pub returns-in_err-one : goal.returns-in_err-one
returns-in_err-one c =
    let p = err_from_is_err_and c.from_residual.result c.from_residual.ensures.1 in
    let f : NeedNameNumbers → Option (VersionName) = shown_need_name c.args.room (memory_of c.args.texts.now) in
    rw (p.1, p.2) (each_ends f c.in_err-one.field-0.0 (map name_model c.loop-version.made.items) c.args.versions.now c.loop-version.version-index (no_name) (each f c.args.versions.now) c.loop-version-test.true c.in_err-one.ensures.shown c.loop-version.invariant)

pub loop-version-preserved : goal.loop-version-preserved
loop-version-preserved c =
    let f : NeedNameNumbers → Option (VersionName) = shown_need_name c.args.room (memory_of c.args.texts.now) in
    let made = c.in_ok-one.one in
    let e : map name_model c.push.new.self.items ≡ map name_model c.loop-version.made.items ++ name_model made ∷ [] = rw c.in_ok-push.ensures.items (map_push name_model c.loop-version.made.items made) in
    rw e (each_goes f (map name_model c.loop-version.made.items) c.args.versions.now c.loop-version.version-index (no_name) (name_model made) (each f c.args.versions.now) c.loop-version-test.true c.in_ok-one.ensures.shown c.loop-version.invariant)

pub returns : goal.returns
returns c =
    let f : NeedNameNumbers → Option (VersionName) = shown_need_name c.args.room (memory_of c.args.texts.now) in
    each_done f (map name_model c.loop-version.made.items) c.args.versions.now c.loop-version.version-index (each f c.args.versions.now) c.loop-version-test.false c.loop-version.invariant

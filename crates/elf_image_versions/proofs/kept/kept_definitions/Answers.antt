-- One value for each element.
use Rattle.std.proofs.Common.{◌≡◌, ◌++◌, ◌∷◌, [], map, Option, sym, ap, subst, ◌∙◌}
use Rattle.std.proofs.lemmas.List.{map_push}
use Rattle.std.proofs.lemmas.Result.{err_from_is_err_and}
use Rattle.patch_bytes.specs.Memory.{memory_of}
use Rattle.elf_format.specs.Options.{each}
use Rattle.elf_format.specs.Answers.{Fails}
use Rattle.elf_image_versions.specs.VersionsModel.{definition_model}
use Rattle.elf_format.specs.Versions.{DefinitionNumbers, VersionDefinition, shown_definition}
use Rattle.elf_format.proofs.ForCallers.ReadingSteps.{each_done, each_ends, each_goes}
use Rattle.elf_image_versions.proofs.kept.kept_definitions.Goals as goal

pub returns-in_err-one : goal.returns-in_err-one
returns-in_err-one c =
    let p = err_from_is_err_and c.from_residual.result c.from_residual.ensures.1 in
    let f : DefinitionNumbers → Option VersionDefinition = shown_definition c.args.room (memory_of c.args.texts.now) in
    rw (p.1, p.2) (each_ends f c.in_err-one.field-0.0 (map definition_model c.loop-raw.made.items) c.args.walked.now c.loop-raw.raw-index c.raw-item.result (each f c.args.walked.now) c.loop-raw-test.true
    (subst (λ e. Fails c.in_err-one.field-0.0 (f e)) c.raw-item.is c.in_err-one.ensures) c.loop-raw.invariant)

pub loop-raw-preserved : goal.loop-raw-preserved
loop-raw-preserved c =
    let f : DefinitionNumbers → Option VersionDefinition = shown_definition c.args.room (memory_of c.args.texts.now) in
    let made = c.in_ok-one.one in
    let e : map definition_model c.push.new.self.items ≡ map definition_model c.loop-raw.made.items ++ definition_model made ∷ [] = rw c.in_ok-push.ensures.items (map_push definition_model c.loop-raw.made.items made) in
    rw e (each_goes f (map definition_model c.loop-raw.made.items) c.args.walked.now c.loop-raw.raw-index c.raw-item.result (definition_model made) (each f c.args.walked.now) c.loop-raw-test.true
    (ap f (sym c.raw-item.is) ∙ c.in_ok-one.ensures) c.loop-raw.invariant)

pub returns : goal.returns
returns c =
    let f : DefinitionNumbers → Option VersionDefinition = shown_definition c.args.room (memory_of c.args.texts.now) in
    each_done f (map definition_model c.loop-raw.made.items) c.args.walked.now c.loop-raw.raw-index (each f c.args.walked.now) c.loop-raw-test.false c.loop-raw.invariant

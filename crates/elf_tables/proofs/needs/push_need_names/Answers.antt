use Rattle.std.proofs.Common.{◌≡◌, ◌+◌, ◌<◌, ℕ, Bool, List, true, cond, length, map, get_or, ltb, sym, subst, ap, ◌∙◌, arith}
use Rattle.std.specs.Prelude.{is_some}
use Rattle.std.proofs.lemmas.List.{get_or-map, length-map}
use Rattle.std.proofs.lemmas.List.Sums.{AllPass-from_list_all}
use Rattle.elf_format.specs.Versions.{VersionName}
use Rattle.elf_image.specs.declared.version.VersionNeedName.{VersionNeedName}
use Rattle.elf_image.specs.ImageModel.{name_model}
use Rattle.elf_tables.specs.Strings.{place_of}
use Rattle.elf_tables.specs.VersionRecords.{PlacedName, placed_name, spelled_need_name}
use Rattle.elf_tables.specs.VersionSteps.{NameFits}
use Rattle.elf_tables.proofs.ChainingSteps.{chaining-all, chaining-more}
use Rattle.elf_tables.proofs.needs.push_need_names.Goals as goal

-- the i-th of the versions
kept_here : (versions : List VersionNeedName) (i : ℕ) (v : VersionNeedName) → i < length versions → v ≡ get_or versions i v → get_or (map name_model versions) i (name_model v) ≡ name_model v
kept_here versions i v within is = get_or-map name_model versions i v (name_model v) within ∙ ap name_model (sym is)

pub push_need_name-requires : goal.push_need_name-requires
push_need_name-requires c =
    let v : VersionNeedName = c.index-versions-i.result in
    let has_text : VersionName → Bool = λ n. is_some (place_of c.args.table.now n.name) in
    let within : c.loop-i.i < length (map name_model c.args.versions.now) = omega (arith, length-map c.args.versions.now name_model) in
    subst (λ (n : VersionName). has_text n ≡ true) (kept_here c.args.versions.now c.loop-i.i v (omega arith) c.index-versions-i.is)
    (AllPass-from_list_all has_text (map name_model c.args.versions.now) c.requires c.loop-i.i (name_model v) within)

pub loop-i-preserved : goal.loop-i-preserved
loop-i-preserved c =
    let v : VersionNeedName = c.index-versions-i.result in
    let kept : List VersionName = map name_model c.args.versions.now in
    let xs : List PlacedName = map (placed_name c.args.table.now) kept in
    let d : PlacedName = placed_name c.args.table.now (name_model v) in
    let long_kept : length kept ≡ length c.args.versions.now = length-map c.args.versions.now name_model in
    let long : length xs ≡ length c.args.versions.now = length-map kept (placed_name c.args.table.now) ∙ long_kept in
    let here : d ≡ get_or xs c.loop-i.i d =
    ap (placed_name c.args.table.now) (sym (kept_here c.args.versions.now c.loop-i.i v (omega arith) c.index-versions-i.is))
    ∙ sym (get_or-map (placed_name c.args.table.now) kept c.loop-i.i (name_model v) d (omega arith)) in
    chaining-more (spelled_need_name c.args.order) (λ v. 16) NameFits c.args.bytes.now.items xs c.loop-i.i c.loop-i.bytes.items c.push_need_name.new.bytes.items d
    (cond (ltb (c.loop-i.i + 1) (length c.args.versions.now)) 16 0) c.loop-i.invariant (omega arith) here c.in_ok-push_need_name.ensures.1
    (ap (λ m. cond (ltb (c.loop-i.i + 1) m) 16 0) (sym long)) c.in_ok-push_need_name.ensures.0

pub returns : goal.returns
returns c =
    let kept : List VersionName = map name_model c.args.versions.now in
    let xs : List PlacedName = map (placed_name c.args.table.now) kept in
    let long : length xs ≡ length c.args.versions.now = length-map kept (placed_name c.args.table.now) ∙ length-map c.args.versions.now name_model in
    chaining-all (spelled_need_name c.args.order) (λ v. 16) NameFits c.args.bytes.now.items xs c.loop-i.i c.loop-i.bytes.items c.loop-i.invariant (omega arith)

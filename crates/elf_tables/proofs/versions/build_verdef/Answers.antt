use Rattle.std.proofs.Common.{◌≡◌, ◌+◌, ◌<◌, ℕ, Bool, List, [], true, cond, length, map, get_or, ltb, sym, subst, ap, ◌∙◌, arith}
use Rattle.std.specs.Prelude.{is_some}
use Rattle.std.specs.List.{list_all}
use Rattle.std.proofs.lemmas.List.{get_or-map, length-map}
use Rattle.std.proofs.lemmas.List.Folds.{list_all-map, list_any_at}
use Rattle.std.proofs.lemmas.List.Sums.{AllPass-from_list_all}
use Rattle.std.proofs.lemmas.Result.{err_from_is_err_and}
use Rattle.patch_bytes.specs.ByteString.{StringValue}
use Rattle.patch_bytes.specs.Memory.{memory_of}
use Rattle.elf_format.specs.Versions.{VersionDefinition}
use Rattle.elf_format.specs.Views.{defined_versions}
use Rattle.elf_image.specs.VersionDef.{VersionDef}
use Rattle.elf_image.specs.ImageModel.{definition_model}
use Rattle.elf_tables.specs.Strings.{place_of}
use Rattle.elf_tables.specs.VersionRecords.{PlacedDefinition, are_names_too_many, definition_size, placed_definition, spelled_definition}
use Rattle.elf_tables.specs.VersionSteps.{DefinitionFits}
use Rattle.elf_tables.proofs.ChainingSteps.{chaining-all, chaining-more, fits_each, names_fit}
use Rattle.elf_tables.proofs.VersionLaws.{definitions-read_back}
use Rattle.elf_tables.proofs.versions.build_verdef.Goals as goal

-- the i-th of the versions
kept_here : (versions : List VersionDef) (i : ℕ) (v : VersionDef) → i < length versions → v ≡ get_or versions i v → get_or (map definition_model versions) i (definition_model v) ≡ definition_model v
kept_here versions i v within is = get_or-map definition_model versions i v (definition_model v) within ∙ ap definition_model (sym is)

pub push_definition-requires : goal.push_definition-requires
push_definition-requires c =
    let v : VersionDef = c.index-records-i.result in
    let has_texts : VersionDefinition → Bool = λ d. list_all (λ name. is_some (place_of c.args.names.now name)) d.names in
    let within : c.loop-i.i < length (map definition_model c.args.records.now) = omega (arith, length-map c.args.records.now definition_model) in
    sym (list_all-map (λ name. is_some (place_of c.args.names.now name)) (λ (name : StringValue). name.bytes) v.names.items)
    ∙ subst (λ (d : VersionDefinition). has_texts d ≡ true) (kept_here c.args.records.now c.loop-i.i v (omega arith) c.index-records-i.is)
    (AllPass-from_list_all has_texts (map definition_model c.args.records.now) c.requires c.loop-i.i (definition_model v) within)

pub returns-in_err-push_definition-clause-bytes : goal.returns-in_err-push_definition-clause-bytes
returns-in_err-push_definition-clause-bytes c =
    let e = err_from_is_err_and c.from_residual.result c.from_residual.ensures.1 in
    let v : VersionDef = c.index-records-i.result in
    let within : c.loop-i.i < length (map definition_model c.args.records.now) = omega (arith, length-map c.args.records.now definition_model) in
    rw (e.1, e.2) (λ large. list_any_at are_names_too_many (map definition_model c.args.records.now) c.loop-i.i (definition_model v) within
    (subst (λ (d : VersionDefinition). are_names_too_many d ≡ true) (sym (kept_here c.args.records.now c.loop-i.i v (omega arith) c.index-records-i.is)) (c.in_err-push_definition.ensures large)))

pub loop-i-preserved : goal.loop-i-preserved
loop-i-preserved c =
    let v : VersionDef = c.index-records-i.result in
    let kept : List VersionDefinition = map definition_model c.args.records.now in
    let xs : List PlacedDefinition = map (placed_definition c.args.names.now) kept in
    let d : PlacedDefinition = placed_definition c.args.names.now (definition_model v) in
    let long_kept : length kept ≡ length c.args.records.now = length-map c.args.records.now definition_model in
    let long : length xs ≡ length c.args.records.now = length-map kept (placed_definition c.args.names.now) ∙ long_kept in
    let here : d ≡ get_or xs c.loop-i.i d =
    ap (placed_definition c.args.names.now) (sym (kept_here c.args.records.now c.loop-i.i v (omega arith) c.index-records-i.is))
    ∙ sym (get_or-map (placed_definition c.args.names.now) kept c.loop-i.i (definition_model v) d (omega arith)) in
    chaining-more (spelled_definition c.args.order) definition_size DefinitionFits [] xs c.loop-i.i c.loop-i.bytes.items c.push_definition.new.bytes.items d
    (cond (ltb (c.loop-i.i + 1) (length c.args.records.now)) (definition_size d) 0) c.loop-i.invariant (omega arith) here c.in_ok-push_definition.ensures.1
    (ap (λ m. cond (ltb (c.loop-i.i + 1) m) (definition_size d) 0) (sym long)) c.in_ok-push_definition.ensures.0

pub returns-clause-bytes : goal.returns-clause-bytes
returns-clause-bytes c =
    let kept : List VersionDefinition = map definition_model c.args.records.now in
    let xs : List PlacedDefinition = map (placed_definition c.args.names.now) kept in
    let long : length xs ≡ length c.args.records.now = length-map kept (placed_definition c.args.names.now) ∙ length-map c.args.records.now definition_model in
    let all = chaining-all (spelled_definition c.args.order) definition_size DefinitionFits [] xs c.loop-i.i c.loop-i.bytes.items c.loop-i.invariant (omega arith) in
    (all.0, names_fit c.args.names.now kept all.1)

pub returns-clause-read : goal.returns-clause-read
unfolding defined_versions
returns-clause-read c =
    let kept : List VersionDefinition = map definition_model c.args.records.now in
    let xs : List PlacedDefinition = map (placed_definition c.args.names.now) kept in
    let long_kept : length kept ≡ length c.args.records.now = length-map c.args.records.now definition_model in
    let long : length xs ≡ length c.args.records.now = length-map kept (placed_definition c.args.names.now) ∙ long_kept in
    let all = chaining-all (spelled_definition c.args.order) definition_size DefinitionFits [] xs c.loop-i.i c.loop-i.bytes.items c.loop-i.invariant (omega arith) in
    λ wide room stand enough.
    ap (λ count. defined_versions (record { wide = wide; order = c.args.order }) room (record { bytes = memory_of c.loop-i.bytes.items; texts = memory_of c.args.names.now.bytes; count = count })) (sym long_kept)
    ∙ definitions-read_back (record { wide = wide; order = c.args.order }) room c.args.names.now c.loop-i.bytes.items kept stand enough c.requires (fits_each c.args.names.now kept all.1) all.0

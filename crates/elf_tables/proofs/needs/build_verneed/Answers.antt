use Rattle.std.proofs.Common.{◌≡◌, ◌+◌, ◌<◌, ℕ, Bool, List, [], true, cond, length, map, get_or, ltb, sym, subst, ap, ◌∙◌, arith}
use Rattle.std.specs.Prelude.{◌&&◌, is_some}
use Rattle.std.specs.List.{list_all}
use Rattle.std.proofs.lemmas.Bool.{and_parts}
use Rattle.std.proofs.lemmas.List.{get_or-map, length-map}
use Rattle.std.proofs.lemmas.List.Folds.{list_any_at}
use Rattle.std.proofs.lemmas.List.Sums.{AllPass-from_list_all}
use Rattle.std.proofs.lemmas.Result.{err_from_is_err_and}
use Rattle.patch_bytes.specs.Memory.{memory_of}
use Rattle.elf_format.specs.Versions.{VersionNeeds}
use Rattle.elf_format.specs.Views.{needed_versions}
use Rattle.elf_image.specs.declared.version.VersionNeed.{VersionNeed}
use Rattle.elf_image.specs.ImageModel.{needs_model}
use Rattle.elf_tables.specs.Strings.{place_of}
use Rattle.elf_tables.specs.VersionRecords.{PlacedNeeds, are_versions_too_many, needs_size, placed_needs, spelled_needs}
use Rattle.elf_tables.specs.VersionSteps.{NeedsFit}
use Rattle.elf_tables.proofs.ChainingSteps.{chaining-all, chaining-more}
use Rattle.elf_tables.proofs.NeedsSteps.{needs_fit, needs_fit_each}
use Rattle.elf_tables.proofs.VersionLaws.{needs-read_back}
use Rattle.elf_tables.proofs.needs.build_verneed.Goals as goal

-- the i-th of the libraries
kept_here : (records : List VersionNeed) (i : ℕ) (v : VersionNeed) → i < length records → v ≡ get_or records i v → get_or (map needs_model records) i (needs_model v) ≡ needs_model v
kept_here records i v within is = get_or-map needs_model records i v (needs_model v) within ∙ ap needs_model (sym is)

pub push_needs-requires : goal.push_needs-requires
push_needs-requires c =
    let v : VersionNeed = c.index-records-i.result in
    let has_texts : VersionNeeds → Bool = λ m. is_some (place_of c.args.names.now m.file) && list_all (λ n. is_some (place_of c.args.names.now n.name)) m.versions in
    let within : c.loop-i.i < length (map needs_model c.args.records.now) = omega (arith, length-map c.args.records.now needs_model) in
    let known : has_texts (needs_model v) ≡ true = subst (λ (m : VersionNeeds). has_texts m ≡ true) (kept_here c.args.records.now c.loop-i.i v (omega arith) c.index-records-i.is)
    (AllPass-from_list_all has_texts (map needs_model c.args.records.now) c.requires c.loop-i.i (needs_model v) within) in
    let parts = and_parts (is_some (place_of c.args.names.now v.file.bytes)) (list_all (λ n. is_some (place_of c.args.names.now n.name)) (needs_model v).versions) known in
    record { file = parts.0; names = parts.1 }

pub returns-in_err-push_needs-clause-bytes : goal.returns-in_err-push_needs-clause-bytes
returns-in_err-push_needs-clause-bytes c =
    let e = err_from_is_err_and c.from_residual.result c.from_residual.ensures.1 in
    let v : VersionNeed = c.index-records-i.result in
    let within : c.loop-i.i < length (map needs_model c.args.records.now) = omega (arith, length-map c.args.records.now needs_model) in
    rw (e.1, e.2) (λ large. list_any_at are_versions_too_many (map needs_model c.args.records.now) c.loop-i.i (needs_model v) within
    (subst (λ (m : VersionNeeds). are_versions_too_many m ≡ true) (sym (kept_here c.args.records.now c.loop-i.i v (omega arith) c.index-records-i.is)) (c.in_err-push_needs.ensures large)))

pub loop-i-preserved : goal.loop-i-preserved
loop-i-preserved c =
    let v : VersionNeed = c.index-records-i.result in
    let kept : List VersionNeeds = map needs_model c.args.records.now in
    let xs : List PlacedNeeds = map (placed_needs c.args.names.now) kept in
    let d : PlacedNeeds = placed_needs c.args.names.now (needs_model v) in
    let long_kept : length kept ≡ length c.args.records.now = length-map c.args.records.now needs_model in
    let long : length xs ≡ length c.args.records.now = length-map kept (placed_needs c.args.names.now) ∙ long_kept in
    let here : d ≡ get_or xs c.loop-i.i d =
    ap (placed_needs c.args.names.now) (sym (kept_here c.args.records.now c.loop-i.i v (omega arith) c.index-records-i.is))
    ∙ sym (get_or-map (placed_needs c.args.names.now) kept c.loop-i.i (needs_model v) d (omega arith)) in
    chaining-more (spelled_needs c.args.order) needs_size NeedsFit [] xs c.loop-i.i c.loop-i.bytes.items c.push_needs.new.bytes.items d
    (cond (ltb (c.loop-i.i + 1) (length c.args.records.now)) (needs_size d) 0) c.loop-i.invariant (omega arith) here c.in_ok-push_needs.ensures.1
    (ap (λ m. cond (ltb (c.loop-i.i + 1) m) (needs_size d) 0) (sym long)) c.in_ok-push_needs.ensures.0

pub returns-clause-bytes : goal.returns-clause-bytes
returns-clause-bytes c =
    let kept : List VersionNeeds = map needs_model c.args.records.now in
    let xs : List PlacedNeeds = map (placed_needs c.args.names.now) kept in
    let long : length xs ≡ length c.args.records.now = length-map kept (placed_needs c.args.names.now) ∙ length-map c.args.records.now needs_model in
    let all = chaining-all (spelled_needs c.args.order) needs_size NeedsFit [] xs c.loop-i.i c.loop-i.bytes.items c.loop-i.invariant (omega arith) in
    (all.0, needs_fit c.args.names.now kept all.1)

pub returns-clause-read : goal.returns-clause-read
unfolding needed_versions
returns-clause-read c =
    let kept : List VersionNeeds = map needs_model c.args.records.now in
    let xs : List PlacedNeeds = map (placed_needs c.args.names.now) kept in
    let long_kept : length kept ≡ length c.args.records.now = length-map c.args.records.now needs_model in
    let long : length xs ≡ length c.args.records.now = length-map kept (placed_needs c.args.names.now) ∙ long_kept in
    let all = chaining-all (spelled_needs c.args.order) needs_size NeedsFit [] xs c.loop-i.i c.loop-i.bytes.items c.loop-i.invariant (omega arith) in
    λ wide room stand enough.
    ap (λ count. needed_versions (record { wide = wide; order = c.args.order }) room (record { bytes = memory_of c.loop-i.bytes.items; texts = memory_of c.args.names.now.bytes; count = count })) (sym long_kept)
    ∙ needs-read_back (record { wide = wide; order = c.args.order }) room c.args.names.now c.loop-i.bytes.items kept stand enough c.requires (needs_fit_each c.args.names.now kept all.1) all.0

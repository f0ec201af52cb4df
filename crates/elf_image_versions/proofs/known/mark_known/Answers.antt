-- First the marks of defined versions, then those of needed ones.
use Rattle.std.proofs.Common.{◌≡◌, ℕ, List, Bool, map, ap, ◌∙◌}
use Rattle.std.specs.List.{flat_map}
use Rattle.std.specs.Vec.{with_items}
use Rattle.std.proofs.lemmas.List.{with_items_is}
use Rattle.elf_image_versions.specs.WalkSteps.{marked}
use Rattle.elf_image_versions.proofs.VersionSteps.{marks_known}
use Rattle.elf_image_versions.proofs.known.mark_known.Goals as goal

pub returns : goal.returns
returns c =
    let ms : List ℕ = map (λ d. d.index) c.args.definitions.now in
    let ns : List ℕ = flat_map (λ n. map (λ v. v.index) n.versions) c.args.needs.now in
    let first : List Bool = c.mark_definitions.new.marks in
    let second : List Bool = c.mark_needs.new.marks in
    let v = c.in_ok-marks.marks in
    let one : (with_items v first).items ≡ first = with_items_is v first (c.mark_definitions.auto.marks ∙ c.deref_mut.ensures.len) in
    let both : (with_items (with_items v first) second).items ≡ second = with_items_is (with_items v first) second (c.mark_needs.auto.marks ∙ c.deref_mut-2.ensures.len) in
    marks_known ms ns v.items (with_items (with_items v first) second).items c.in_ok-marks.ensures.long c.in_ok-marks.ensures.unmarked
    (both ∙ c.mark_needs.ensures ∙ ap (marked ns) (c.deref_mut-2.ensures.value ∙ one ∙ c.mark_definitions.ensures ∙ ap (marked ms) c.deref_mut.ensures.value))

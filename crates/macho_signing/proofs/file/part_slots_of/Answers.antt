use Rattle.std.proofs.Common.{◌≡◌, ◌∙◌, ◌||◌, List, refl, sym}
use Rattle.std.proofs.lemmas.List.Elements.{All-more}
use Rattle.std.proofs.lemmas.List.Folds.{list_any_more}
use Rattle.macho_signing.specs.declared.file.Part.{Part}
use Rattle.macho_signing.specs.File.{has_identity_in, part_bytes}
use Rattle.macho_signing.specs.Thin.{AreSlotsPlaced, Pages, pages_of}
use Rattle.macho_signing.proofs.PartSteps.{fault_more, slots_more}
use Rattle.macho_signing.proofs.file.part_slots_of.Goals as goal
use Rattle.macho_signing.proofs.file.part_slots_of.Goals.{then-are_some_left, else-are_some_left}

pub loop-part-preserved : goal.loop-part-preserved
loop-part-preserved c =
    let pages : Pages = pages_of c.args.scope in
    let bytes = c.args.bytes.now in
    let parts : List Part = c.args.parts.now in
    let i = c.loop-part.part-index in
    let inside = c.loop-part-test.true in
    let before = c.loop-part.invariant in
    let told = c.in_ok-made.ensures in
    let now : c.if-are_some_left.are_some_left ≡ (c.loop-part.are_some_left || c.in_ok-made.made.is_left) = elim c.if-are_some_left.branch [
      | then-are_some_left w ↦ rw (w.are_some_left-is, w.if-are_some_left.true) refl
      | else-are_some_left w ↦ rw (w.are_some_left-is, w.if-are_some_left.false) refl
    ] in
    record {
      made = slots_more pages bytes parts i _ c.loop-part.slots.items c.push_shifted.new.slots.items c.in_ok-made.made.slots.items c.deref.result.now inside before.made told.1 c.deref.ensures.value c.in_ok-push_shifted.ensures;
      identities = now ∙ rw (before.identities, told.2) (sym (list_any_more (has_identity_in bytes) parts i _ inside));
      placed = All-more (λ p. AreSlotsPlaced (part_bytes bytes p)) parts i _ inside before.placed told.3;
      left = fault_more pages bytes parts i _ inside told.0 before.left;
    }

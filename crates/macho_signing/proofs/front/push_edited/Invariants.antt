-- The slots of the pages so far.
use Rattle.std.proofs.Common.{◌≡◌, ◌++◌, filter, map}
use Rattle.std.specs.List.{range_with_len}
use Rattle.macho_signatures.specs.Renewed.{is_touched, slot_for}
use Rattle.macho_signing.specs.Front.{AreEdits}
use Rattle.macho_signing.specs.Thin.{differences}
use Rattle.macho_signing.proofs.front.push_edited.Given as goal

abbrev pub invariant-loop-page : goal.invariant-loop-page
invariant-loop-page l = AreEdits l.old l.new (λ before after.
    l.slots.items ≡ l.fn.slots.items ++ map (slot_for l.directory after) (filter (is_touched l.directory (differences before after)) (range_with_len 0 l.page)))

-- The slots of the pages so far.
use Rattle.std.proofs.Common.{◌≡◌, ◌++◌, filter, map}
use Rattle.std.specs.List.{range_with_len}
use Rattle.macho_signatures.specs.Renewed.{is_touched, slot_for}
use Rattle.macho_signing.specs.Thin.{pages_of, touched_by}
use Rattle.macho_signing.proofs.thin.push_slots.Given as goal

abbrev pub invariant-loop-page : goal.invariant-loop-page
invariant-loop-page l = l.slots.items ≡ l.fn.slots.items ++ map (slot_for l.directory l.bytes) (filter (is_touched l.directory (touched_by (pages_of l.scope) l.bytes)) (range_with_len 0 l.page))

-- The slots of the pages so far.
use Rattle.std.proofs.Common.{◌≡◌, ◌++◌, filter, map}
use Rattle.std.specs.List.{range_with_len}
use Rattle.macho_signatures.specs.Renewed.{is_touched, slot_for}
use Rattle.macho_signatures.proofs.directory.Directory.push_slots.Given as goal

abbrev pub invariant-loop-page : goal.invariant-loop-page
invariant-loop-page l = l.slots.items ≡ l.fn.slots.items ++ map (slot_for l.self l.bytes) (filter (is_touched l.self l.touched) (range_with_len 0 l.page))

use Rattle.std.proofs.Common.{◌≡◌, drop}
use Rattle.std.specs.List.{list_any}
use Rattle.elf_notes.specs.Notes.{is_read_only_at}
use Rattle.elf_notes.proofs.read_only.is_any_planned.Given as goal

-- no segment so far is one that can only be read, at the address
abbrev pub invariant-loop-segment : goal.invariant-loop-segment
invariant-loop-segment l = list_any (is_read_only_at l.address) (drop l.segment-index l.segments) ≡ list_any (is_read_only_at l.address) l.segments

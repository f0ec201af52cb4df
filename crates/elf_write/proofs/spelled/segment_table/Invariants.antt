use Rattle.std.proofs.Common.{◌≡◌, take}
use Rattle.std.specs.List.{flat_map}
use Rattle.elf_tables.specs.Spelled.{spelled_segment_header}
use Rattle.elf_write.proofs.spelled.segment_table.Given as goal

-- the bytes of the program headers so far
abbrev pub invariant-loop-segment : goal.invariant-loop-segment
invariant-loop-segment l = l.bytes.items ≡ flat_map (spelled_segment_header l.form) (take l.segment-index l.segments)

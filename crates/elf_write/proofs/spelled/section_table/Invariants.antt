use Rattle.std.proofs.Common.{◌≡◌, take}
use Rattle.std.specs.List.{flat_map}
use Rattle.elf_tables.specs.Spelled.{spelled_section_header}
use Rattle.elf_write.proofs.spelled.section_table.Given as goal

-- the bytes of the section headers so far
abbrev pub invariant-loop-header : goal.invariant-loop-header
invariant-loop-header l = l.bytes.items ≡ flat_map (spelled_section_header l.form) (take l.header-index l.headers)

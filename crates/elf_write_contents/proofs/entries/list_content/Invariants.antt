use Rattle.std.proofs.Common.{◌≡◌, ◌++◌, drop}
use Rattle.std.specs.List.{flat_map}
use Rattle.elf_tables.specs.Spelled.{spelled_entry}
use Rattle.elf_write_contents.proofs.entries.list_content.Given as goal

-- the bytes so far, with those of the entries that are left, are all of them
abbrev pub invariant-loop-entry : goal.invariant-loop-entry
invariant-loop-entry l =
    l.bytes.items ++ flat_map (spelled_entry l.form) (drop l.entry-index l.raw) ≡ flat_map (spelled_entry l.form) l.raw

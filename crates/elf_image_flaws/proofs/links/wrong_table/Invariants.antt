use Rattle.std.proofs.Common.{◌≡◌, drop}
use Rattle.elf_image_rules.specs.Read.{parts_model}
use Rattle.elf_image_flaws.specs.Flaws.{first_flawed, first_told, numbered, table_flaw}
use Rattle.elf_image_flaws.proofs.links.wrong_table.Given as goal

-- what is told of the sections that are left is told of all
abbrev pub invariant-loop-number : goal.invariant-loop-number
invariant-loop-number l = first_told (numbered (table_flaw (parts_model l.parts))) l.number (drop l.number l.sections) ≡ first_flawed (table_flaw (parts_model l.parts)) l.sections

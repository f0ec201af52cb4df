use Rattle.std.proofs.Common.{◌≡◌, drop}
use Rattle.elf_image_flaws.specs.Flaws.{first_flawed, first_told, numbered, records_flaw}
use Rattle.elf_image_flaws.proofs.versions.partial_records.Given as goal

-- what is told of the sections that are left is told of all
abbrev pub invariant-loop-number : goal.invariant-loop-number
invariant-loop-number l = first_told (numbered (λ _ s. records_flaw l.defined l.needed s)) l.number (drop l.number l.sections) ≡ first_flawed (λ _ s. records_flaw l.defined l.needed s) l.sections

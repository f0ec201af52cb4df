-- Changes of sections, one by one.
use Rattle.std.specs.Prelude.{ℕ, List}
use Rattle.elf_format.specs.Image.{ImageSection}

-- the section with another name (gABI, Sections, sh_name)
abbrev pub with_section_name : List ℕ → ImageSection → ImageSection
with_section_name name s = record s { name = name }

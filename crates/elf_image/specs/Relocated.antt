-- Relocations that name symbols.
use Rattle.std.specs.Prelude.{ℕ, List, Bool, true, false, ◌&&◌, not, Option, ◌==◌}
use Rattle.std.specs.List.{list_any}
use Rattle.elf_format.specs.declared.form.Form.{Form}
use Rattle.elf_format.specs.declared.section_data.SectionData.{SectionData}
use Rattle.elf_format.specs.declared.section_data.SectionData.TheVariants as kinds
use Rattle.elf_format.specs.Image.{ImageSection}
use Rattle.elf_format.specs.Options.{is_some_and}
use Rattle.elf_format.specs.Records.{relocations_in}
use Rattle.elf_image.specs.Kept.{KeptSection}

-- the bytes are relocations that are read, not such that are kept as they are
abbrev pub are_relocations : SectionData → Bool
are_relocations kind = elim kind [ kinds.Relocation ↦ true | _ ↦ false ]

-- the section's relocations are against the table of symbols with that number (gABI, Sections, sh_link)
abbrev pub is_against : Option ℕ → ImageSection → Bool
is_against table s = are_relocations s.kind && is_some_and (λ n. n == s.sh_link) table

-- the section's relocations are against a table of symbols, and one of them names the symbol with a number (gABI, Relocation, r_info)
abbrev pub names_symbol : Form → Option ℕ → ℕ → ImageSection → Bool
names_symbol form table number s = is_against table s && list_any (λ x. x.r_symbol == number) (relocations_in form s.sh_type s.content)

-- one of some sections names a symbol with one of some numbers; symbol 0 is no symbol (gABI, Symbol Table, STN_UNDEF)
abbrev pub is_symbol_used : Form → Option ℕ → List ℕ → List KeptSection → Bool
is_symbol_used form table numbers sections =
    list_any (λ s. list_any (λ number. not (number == 0) && names_symbol form table number s.section) numbers) sections

-- Which sections can't go: those by which a file is read, and those that something which stays leans on.
use Rattle.std.specs.Prelude.{ℕ, List, [], ◌∷◌, Bool, ◌&&◌, ◌||◌, not, ◌==◌}
use Rattle.std.specs.List.{list_any}
use Rattle.elf_format.specs.declared.constants.TheConstants.{SHF_INFO_LINK, SHT_DYNAMIC, SHT_DYNSYM, SHT_GNU_HASH, SHT_GNU_VERDEF, SHT_GNU_VERNEED, SHT_GNU_VERSYM, SHT_HASH, SHT_NULL, SHT_REL, SHT_RELA, SHT_SYMTAB}
use Rattle.elf_format.specs.Image.{Image, ImageSection}
use Rattle.elf_format.specs.Options.{is_one_of}
use Rattle.elf_format.specs.Places.{is_set}
use Rattle.elf_image.specs.Kept.{KeptSection, dynamic_strings_number, is_numbered}
use Rattle.elf_image.specs.Staying.{going, staying}

-- ## Sections by which a file is read

-- the types of which no section goes (gABI, Dynamic Section, Symbol Table, Hash Table; GNU hash section, symbol versioning)
abbrev pub lasting_types : List ℕ
lasting_types = SHT_DYNAMIC ∷ SHT_DYNSYM ∷ SHT_HASH ∷ SHT_GNU_HASH ∷ SHT_GNU_VERSYM ∷ SHT_GNU_VERDEF ∷ SHT_GNU_VERNEED ∷ []

-- the null section, the section of names (gABI, ELF Header, e_shstrndx), the dynamic strings, and one of those types
abbrev pub is_lasting : Image → KeptSection → Bool
is_lasting image s =
    s.number == 0 || s.number == image.header.e_shstrndx || is_numbered (dynamic_strings_number image) s || is_one_of lasting_types s.section.sh_type

-- ## Links

-- sh_info is a section's number (gABI, Sections, sh_link and sh_info, SHF_INFO_LINK)
abbrev pub is_info_number : ImageSection → Bool
is_info_number s =
    is_one_of (SHT_REL ∷ SHT_RELA ∷ []) s.sh_type
    || is_set SHF_INFO_LINK s.sh_flags && not (is_one_of (SHT_NULL ∷ SHT_SYMTAB ∷ SHT_DYNSYM ∷ SHT_GNU_VERDEF ∷ SHT_GNU_VERNEED ∷ []) s.sh_type)

-- the section names the one with that number, by sh_link or by an sh_info that is a section's number; one of type SHT_NULL names none
abbrev pub names_section : ImageSection → ℕ → Bool
names_section s number = not (s.sh_type == SHT_NULL) && (number == s.sh_link || is_info_number s && number == s.sh_info)

-- ## Both, and the dynamic symbols

-- one of the sections that go lasts, a section that stays names a section that goes, or a dynamic symbol is defined in one (gABI, Symbol
-- Table, st_shndx)
abbrev pub is_section_used : Image → List ℕ → Bool
is_section_used image gone =
    list_any (is_lasting image) (going gone image)
    || list_any (λ s. list_any (names_section s.section) gone) (staying gone image)
    || list_any (λ y. is_one_of gone y.st_shndx) image.dynamic_symbols

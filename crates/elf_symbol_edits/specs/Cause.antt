-- Why an edit is refused.
use Rattle.std.specs.Prelude.{Bool, false, ◌&&◌, ◌||◌, not, ◌==◌, if◌then◌else◌, Option, Some, None, Result, Ok, Err}
use Rattle.std.specs.List.{list_any}
use Rattle.elf_format.specs.declared.constants.TheConstants.{EM_MIPS, SHT_DYNSYM, SHT_SYMTAB}
use Rattle.elf_format.specs.Image.{Image}
use Rattle.elf_format.specs.Options.{first_there}
use Rattle.elf_edits.specs.Cause.{fixed_names}
use Rattle.elf_edits.specs.Symbols.{has_new_name}
use Rattle.elf_edits.specs.Texts.{has_some, holds_nul}
use Rattle.elf_image.specs.Needed.{is_section_used}
use Rattle.elf_image.specs.Relocated.{is_symbol_used}
use Rattle.elf_image.specs.Renumbering.{can_renumber, has_opaque_user}
use Rattle.elf_image.specs.Staying.{staying, table_number}
use Rattle.elf_symbol_edits.specs.declared.cause.Cause.{Cause}
use Rattle.elf_symbol_edits.specs.declared.cause.Cause.TheVariants.{CannotRenumber, MipsImage, NulInText, SectionInUse, SymbolInRelocation}
use Rattle.elf_symbol_edits.specs.Deletion.{Deletion, deletion_of}
use Rattle.elf_symbol_edits.specs.SymbolEdit.{RenameAllSymbols, SymbolEdit, edited, texts_of}

abbrev pub cause_if : Bool → Cause → Option Cause
cause_if stands cause = if stands then Some cause else None

-- ## Before it is looked at what is to go

-- a dynamic symbol is to have another name, and hash tables or relocations can't follow
abbrev pub is_name_fixed : SymbolEdit → Image → Bool
is_name_fixed (RenameAllSymbols pairs) image = list_any (has_new_name pairs) (fixed_names image)
is_name_fixed _ image = false

-- the machine, then a NUL in a name, then names that have to stay
abbrev pub cause_before : SymbolEdit → Image → Option Cause
cause_before edit image =
    first_there (cause_if (image.header.e_machine == EM_MIPS) MipsImage)
    (first_there (cause_if (list_any holds_nul (texts_of edit)) NulInText)
    (cause_if (is_name_fixed edit image) CannotRenumber))

-- ## What is to go

-- a relocation of a section that stays names a symbol that goes (gABI, Relocation)
abbrev pub is_named_by_relocation : Deletion → Image → Bool
is_named_by_relocation d image =
    is_symbol_used image.form (table_number SHT_SYMTAB image) d.symbols (staying d.sections image)
    || is_symbol_used image.form (table_number SHT_DYNSYM image) d.dynamic_symbols (staying d.sections image)

-- a symbol goes, and what names the symbols of its table by their numbers can't follow: a section that stays, is kept as it is and links
-- to the table, or, of the dynamic symbols, a hash table that can't be made anew
abbrev pub is_fixed : Deletion → Image → Bool
is_fixed d image =
    has_some d.symbols && has_opaque_user (table_number SHT_SYMTAB image) (staying d.sections image)
    || has_some d.dynamic_symbols && not (can_renumber image)

-- the first cause against a deletion, or else a section that is needed
abbrev pub cause_of_deletion : Deletion → Image → Option Cause
cause_of_deletion d image =
    first_there (cause_if (is_named_by_relocation d image) SymbolInRelocation)
    (first_there (cause_if (is_fixed d image) CannotRenumber)
    (cause_if (is_section_used image d.sections) SectionInUse))

-- ## Both

-- The first cause that stands against an edit of an image.
abbrev pub cause : SymbolEdit → Image → Option Cause
cause edit image = first_there (cause_before edit image) (cause_of_deletion (deletion_of edit image) image)

-- One edit: the image after it, or the first cause that stands against it.
abbrev pub step : SymbolEdit → Image → Result Image Cause
step edit image = elim (cause edit image) [ None ↦ Ok (edited edit image) | Some reason ↦ Err reason ]

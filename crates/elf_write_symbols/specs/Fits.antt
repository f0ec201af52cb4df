-- Whether the new numbers of symbols fit the relocations that name them.
use Rattle.std.specs.Prelude.{ℕ, List, Bool, ◌&&◌, Option, Some, None, if◌then◌else◌}
use Rattle.elf_format.specs.declared.constants.TheConstants.{SHT_DYNSYM, SHT_SYMTAB}
use Rattle.elf_format.specs.Image.{Image, ImageSection}
use Rattle.elf_format.specs.Options.{first_there, is_none_or}
use Rattle.elf_write_spec.specs.Renumbered.{do_relocations_fit}
use Rattle.elf_image.specs.Kept.{KeptSection}
use Rattle.elf_image.specs.Names.{are_names_changed}
use Rattle.elf_image.specs.Relocated.{is_against}
use Rattle.elf_image.specs.Staying.{table_number}
use Rattle.elf_write_spec.specs.Final.{is_static_renumbered, new_dynamic_symbols, new_static_symbols}

-- the new numbers of the dynamic symbols, where the section's relocations are against these and they are renumbered
abbrev pub dynamic_numbers_for : Image → Image → ImageSection → Option (List ℕ)
dynamic_numbers_for read image s =
    if are_names_changed read image && is_against (table_number SHT_DYNSYM image) s then Some (new_dynamic_symbols read image) else None

-- the new numbers of the static symbols, where the section's relocations are against these and they are renumbered
abbrev pub static_numbers_for : Image → Image → ImageSection → Option (List ℕ)
static_numbers_for read image s =
    if is_static_renumbered read image && is_against (table_number SHT_SYMTAB image) s then Some (new_static_symbols read image) else None

-- the new numbers of the symbols that the section's relocations name, where these are renumbered
abbrev pub numbers_for : Image → Image → ImageSection → Option (List ℕ)
numbers_for read image s = first_there (dynamic_numbers_for read image s) (static_numbers_for read image s)

-- the new number of each symbol that they name fits its field (gABI, Relocation, r_info)
abbrev pub do_numbers_fit_in : Image → Image → ImageSection → Bool
do_numbers_fit_in read image s =
    is_none_or (λ numbers. do_relocations_fit image.form s.sh_type numbers s.content) (numbers_for read image s)

abbrev pub do_section_relocations_fit : Image → Image → KeptSection → Bool
do_section_relocations_fit read image s = do_numbers_fit_in read image s.section

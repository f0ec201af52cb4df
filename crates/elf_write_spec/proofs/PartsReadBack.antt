-- What is read of each part of a written file.
use Rattle.std.proofs.Common.{◌≡◌, refl, ap, ◌∙◌, Some}
use Rattle.elf_format.specs.declared.constants.TheConstants.{SHT_DYNAMIC, SHT_DYNSYM, SHT_GNU_VERDEF, SHT_GNU_VERNEED, SHT_SYMTAB}
use Rattle.elf_format.specs.File.{section_of_type}
use Rattle.elf_format.specs.Image.{definitions_read, dynamic_symbols_read, entries_read, interpreter_read, needs_read, static_symbols}
use Rattle.elf_image.specs.Kept.{image_at_read}
use Rattle.elf_write_spec.specs.ReadBack.{HasWrittenParts, written_parts}
use Rattle.elf_write_spec.specs.Final.{final}
use Rattle.elf_write_spec.specs.Output.{IsPlannedOutput, Output}
use Rattle.elf_write_spec.proofs.DynamicReadBack.{dynamic_read_back}
use Rattle.elf_write_spec.proofs.EntriesReadBack.{entries_read_back}
use Rattle.elf_write_spec.proofs.InterpreterReadBack.{name_read_back}
use Rattle.elf_write_spec.proofs.RecordsReadBack.{definitions_read_back, needs_read_back}
use Rattle.elf_write_spec.proofs.SymbolsReadBack.{symbols_read_back}

-- the static symbols
pub symbols_read : (w : Output) → IsPlannedOutput w → HasWrittenParts w
    → static_symbols (written_parts w) (section_of_type SHT_SYMTAB w.headers) ≡ Some (final (image_at_read w.image) w.image).symbols
symbols_read w is has = symbols_read_back w is has

-- the dynamic symbols
pub loaded_symbols_read : (w : Output) → IsPlannedOutput w → HasWrittenParts w
    → dynamic_symbols_read (written_parts w) (section_of_type SHT_DYNSYM w.headers)
    ≡ Some (final (image_at_read w.image) w.image).dynamic_symbols
loaded_symbols_read w is has = dynamic_read_back w is has

-- the dynamic list
pub list_read : (w : Output) → IsPlannedOutput w → HasWrittenParts w
    → entries_read (written_parts w) (section_of_type SHT_DYNAMIC w.headers) ≡ Some (final (image_at_read w.image) w.image).entries
list_read w is has = entries_read_back w is has

-- the defined versions, of which none changes
definitions_kept : (w : Output) → w.image.definitions ≡ (final (image_at_read w.image) w.image).definitions
unfolding final
definitions_kept w = refl

pub defined_read : (w : Output) → IsPlannedOutput w → HasWrittenParts w
    → definitions_read (written_parts w) (section_of_type SHT_GNU_VERDEF w.headers)
    ≡ Some (final (image_at_read w.image) w.image).definitions
defined_read w is has = definitions_read_back w is has ∙ ap Some (definitions_kept w)

-- the needed versions
pub needed_read : (w : Output) → IsPlannedOutput w → HasWrittenParts w
    → needs_read (written_parts w) (section_of_type SHT_GNU_VERNEED w.headers) ≡ Some (final (image_at_read w.image) w.image).needs
needed_read w is has = needs_read_back w is has

-- the interpreter's name
interpreter_kept : (w : Output) → w.image.interpreter ≡ (final (image_at_read w.image) w.image).interpreter
unfolding final
interpreter_kept w = refl

pub name_read : (w : Output) → IsPlannedOutput w → HasWrittenParts w
    → interpreter_read (written_parts w) ≡ (final (image_at_read w.image) w.image).interpreter
name_read w is has = name_read_back w is has ∙ interpreter_kept w

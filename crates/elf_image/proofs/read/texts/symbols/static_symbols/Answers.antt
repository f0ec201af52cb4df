-- The symbols of the one section of static symbols.
use Rattle.std.proofs.Common.{List, Option, Some, sym, ap, ◌∙◌, length}
use Rattle.patch_bytes.specs.Memory.{memory_of}
use Rattle.elf_format.specs.declared.constants.TheConstants.{SHT_SYMTAB}
use Rattle.elf_format.specs.File.{Parts, linked_section, section_of_type}
use Rattle.elf_format.specs.declared.records.SectionHeader.{SectionHeader}
use Rattle.elf_format.specs.Rules.{texts_of}
use Rattle.elf_image_versions.specs.Read.{parts_model}
use Rattle.elf_image_versions.proofs.ForCallers.KeptSteps.{none_found}
use Rattle.elf_image.proofs.TextSteps.{static_none, static_some}
use Rattle.elf_image.proofs.read.texts.symbols.static_symbols.Goals as goal

pub returns-in_default : goal.returns-in_default
returns-in_default c =
    let o : Option SectionHeader = section_of_type SHT_SYMTAB c.args.parts.now.sections.items in
    ap Some c.none.ensures ∙ sym (static_none (parts_model c.args.parts.now) o
    (none_found c.section_of_type.result o c.in_default.not-Some (c.section_of_type.ensures ∙ ap (section_of_type SHT_SYMTAB) c.deref.ensures.value)))

pub returns : goal.returns
returns c =
    let p : Parts = parts_model c.args.parts.now in
    c.read.ensures (length c.args.parts.now.file.now) c.bytes_of-texts.ensures.short
    ∙ static_some p (section_of_type SHT_SYMTAB p.sections) c.in-Some.section (memory_of c.bytes_of-texts.result.now) c.section_bytes.result.now
    (c.in-Some.ensures ∙ ap (section_of_type SHT_SYMTAB) c.deref.ensures.value)
    (c.bytes_of-texts.ensures.value ∙ ap (texts_of p) (c.linked_section.ensures ∙ ap (λ (l : List SectionHeader). linked_section l c.in-Some.section) c.deref-2.ensures.value))
    c.section_bytes.ensures.value

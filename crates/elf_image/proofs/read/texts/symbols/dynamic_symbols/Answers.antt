-- The symbols of the one section of dynamic symbols.
use Rattle.std.proofs.Common.{Option, Some, sym, ap, ◌∙◌, length}
use Rattle.std.specs.Prelude.{option_map}
use Rattle.patch_bytes.specs.Memory.{memory_of}
use Rattle.elf_format.specs.declared.constants.TheConstants.{SHT_DYNSYM}
use Rattle.elf_format.specs.File.{Parts, section_of_type}
use Rattle.elf_format.specs.Answers.{borrowed}
use Rattle.elf_format.specs.declared.records.SectionHeader.{SectionHeader}
use Rattle.elf_image_versions.specs.Read.{parts_model}
use Rattle.elf_image_versions.proofs.ForCallers.KeptSteps.{none_found}
use Rattle.elf_image.proofs.TextSteps.{dynamic_none, dynamic_some}
use Rattle.elf_image.proofs.read.texts.symbols.dynamic_symbols.Goals as goal

pub returns-in_default : goal.returns-in_default
returns-in_default c =
    let o : Option SectionHeader = section_of_type SHT_DYNSYM c.args.parts.now.sections.items in
    ap Some c.none.ensures ∙ sym (dynamic_none (parts_model c.args.parts.now) o
    (none_found c.section_of_type.result o c.in_default.not-Some (c.section_of_type.ensures ∙ ap (section_of_type SHT_DYNSYM) c.deref.ensures.value)))

pub returns : goal.returns
returns c =
    let p : Parts = parts_model c.args.parts.now in
    c.read.ensures (length c.args.parts.now.file.now) c.dynamic_texts-texts.ensures.short
    ∙ dynamic_some p (section_of_type SHT_DYNSYM p.sections) c.in-Some.section (memory_of c.dynamic_texts-texts.result.now)
    (c.in-Some.ensures ∙ ap (section_of_type SHT_DYNSYM) c.deref.ensures.value) c.dynamic_texts-texts.ensures.value
    c.section_bytes.result.now (option_map borrowed c.version_bytes-versions.result) c.section_bytes.ensures.value c.version_bytes-versions.ensures

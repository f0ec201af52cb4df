-- The bytes of the linked section, cut where DT_STRSZ says.
use Rattle.std.proofs.Common.{List, ap, ◌∙◌}
use Rattle.patch_bytes.specs.Memory.{memory_of}
use Rattle.elf_format.specs.declared.constants.TheConstants.{DT_STRSZ}
use Rattle.elf_format.specs.Dynamic.{value_of_tag}
use Rattle.elf_format.specs.File.{linked_section}
use Rattle.elf_image_rules.specs.Read.{parts_model}
use Rattle.elf_format.specs.declared.records.SectionHeader.{SectionHeader}
use Rattle.elf_format.specs.Rules.{raw_entries}
use Rattle.elf_format.specs.Views.{first_by_tag, section_memory}
use Rattle.elf_image_versions.proofs.texts.dynamic_texts.Goals as goal

pub returns-clause-value : goal.returns-clause-value
returns-clause-value c =
    c.first_bytes.ensures.value
    ∙ ap (λ size. first_by_tag size (memory_of c.bytes_of-texts.result.now)) (c.value_of_tag.ensures ∙ ap (value_of_tag DT_STRSZ) c.requires)
    ∙ ap (first_by_tag (value_of_tag DT_STRSZ (raw_entries (parts_model c.args.parts.now))))
    (c.bytes_of-texts.ensures.value ∙ ap (section_memory c.args.parts.now.file.now) (c.linked_section.ensures ∙ ap (λ (l : List SectionHeader). linked_section l c.args.section) c.deref.ensures.value))

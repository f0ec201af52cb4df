use Rattle.std.proofs.Common.{ap, ◌∙◌}
use Rattle.elf_format.specs.declared.constants.TheConstants.{SHT_DYNAMIC}
use Rattle.elf_format.specs.File.{linked_section, section_of_type}
use Rattle.elf_image_rules.specs.Read.{parts_model}
use Rattle.elf_image_reasons.proofs.DetailSteps.{tables_told}
use Rattle.elf_image_reasons.proofs.tables.tables_detail.Goals as goal

pub returns : goal.returns
returns c =
    c.list_detail.ensures
    ∙ tables_told (parts_model c.args.parts.now) c.in_ok-list.list c.args.raw.now c.deref-3.result.now c.linked_section-strings.result c.symbol_size.result
    (c.in_ok-list.ensures ∙ ap (section_of_type SHT_DYNAMIC) c.deref.ensures.value) c.requires c.deref-3.ensures.value
    (c.linked_section-strings.ensures ∙ ap (λ ss. linked_section ss c.in_ok-list.list) c.deref-2.ensures.value) c.symbol_size.ensures.value

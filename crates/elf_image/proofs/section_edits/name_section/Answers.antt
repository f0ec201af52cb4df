-- The section with the name is put in its place.
use Rattle.std.proofs.Common.{◌∙◌, ap, arith, map, sym}
use Rattle.std.proofs.lemmas.List.{get_or-map, length-map, map-set}
use Rattle.elf_image_symbols.proofs.ListLaws.{changed_at-set}
use Rattle.elf_image.specs.ImageModel.{section_model}
use Rattle.elf_image.specs.SectionEdits.{with_section_name}
use Rattle.elf_image.proofs.section_edits.name_section.Goals as goal

pub returns : goal.returns
returns c =
    let old = c.args.sections.now.items in
    let x = c.index_mut.result.now in
    map-set section_model old c.args.i _
    ∙ changed_at-set (with_section_name c.args.name.bytes) (map section_model old) c.args.i (section_model x) (omega (arith, c.requires, length-map old section_model))
    (ap section_model c.index_mut.ensures.value ∙ sym (get_or-map section_model old c.args.i x (section_model x) c.requires))

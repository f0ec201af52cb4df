use Rattle.std.proofs.Common.{◌∙◌, ℕ, List, map, ap, sym}
use Rattle.std.specs.List.{slice_get}
use Rattle.std.specs.Str.{bytes_eq}
use Rattle.elf_format.specs.Image.{ImageSection}
use Rattle.elf_format.specs.Options.{is_some_and}
use Rattle.elf_image.specs.declared.section.Section.{Section}
use Rattle.elf_image.specs.ImageModel.{section_model}
use Rattle.elf_write_strings.specs.PlacedTexts.{names_of_sections}
use Rattle.elf_write_strings.proofs.NamesLeft.{section_left}
use Rattle.elf_write_strings.proofs.left.is_section_left.Goals as goal

pub returns : goal.returns
returns c =
    section_left c.args.read.now c.args.image.now c.requires.ready c.sections.result.now c.args.i c.index-sections-i.result c.read_section.result
    c.was_name.result c.sections.ensures c.requires.within c.index-sections-i.is c.read_section.ensures
    (c.was_name.ensures
    ∙ ap (λ (t : List ℕ). is_some_and (bytes_eq t) (slice_get (names_of_sections (map section_model c.sections-2.result.now)) c.read_section.result)) c.as_slice-name.ensures
    ∙ ap (λ (s : Section). is_some_and (bytes_eq (section_model s).name) (slice_get (names_of_sections (map section_model c.sections-2.result.now)) c.read_section.result))
    (sym c.index-sections-i.is)
    ∙ ap (λ (ss : List ImageSection). is_some_and (bytes_eq (section_model c.index-sections-i.result).name) (slice_get (names_of_sections ss) c.read_section.result))
    c.sections-2.ensures)

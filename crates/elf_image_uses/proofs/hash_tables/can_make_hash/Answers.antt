-- By what the search finds.
use Rattle.std.proofs.Common.{None, Some, ap, ◌∙◌}
use Rattle.elf_format.specs.declared.constants.TheConstants.{SHT_HASH}
use Rattle.elf_image.specs.ImageModel.{section_model}
use Rattle.elf_image_uses.specs.Renumbering.{can_make_gabi}
use Rattle.elf_image_uses.proofs.KeptSteps.{type_lent}
use Rattle.elf_image_uses.proofs.hash_tables.can_make_hash.Goals as goal

pub returns-in-None : goal.returns-in-None
returns-in-None c =
    type_lent SHT_HASH (can_make_gabi c.args.image.now.form) c.args.image.now c.source-source.ensures.edited c.sections.result.now None c.sections.ensures c.in-None.ensures

pub returns-in-Some : goal.returns-in-Some
returns-in-Some c =
    c.can_make_gabi.ensures
    ∙ ap (λ f. can_make_gabi f (section_model c.in-Some.section.now)) c.form.ensures
    ∙ type_lent SHT_HASH (can_make_gabi c.args.image.now.form) c.args.image.now c.source-source.ensures.edited c.sections.result.now (Some (section_model c.in-Some.section.now)) c.sections.ensures c.in-Some.ensures

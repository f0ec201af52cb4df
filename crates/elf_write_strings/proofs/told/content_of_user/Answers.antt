-- The section of that type, and what it links to.
use Rattle.std.proofs.Common.{◌∙◌, sym}
use Rattle.elf_image.specs.ImageModel.{section_model}
use Rattle.elf_write_strings.proofs.ToldTable.{section_here, user_apart, user_none, user_there}
use Rattle.elf_write_strings.proofs.told.content_of_user.Goals as goal

pub returns-in_default-clause-none : goal.returns-in_default-clause-none
returns-in_default-clause-none c =
    user_none c.args.image.now c.args.kind c.args.number c.source-source.ensures.edited (sym c.type_position.ensures ∙ c.in_default.is)

pub returns-then-section-number-clause-none : goal.returns-then-section-number-clause-none
returns-then-section-number-clause-none c =
    let at = sym c.type_position.ensures ∙ c.in-Some.is in
    user_apart c.args.image.now c.args.kind c.args.number c.source-source.ensures.edited c.in-Some.i at (section_model c.index-sections-i.result)
    (section_here c.args.image.now c.args.kind c.args.number c.source-source.ensures.edited c.in-Some.i at c.sections.result.now c.sections.ensures
    c.index-sections-i.result c.index-sections-i.is) c.if-section-number.true

pub returns-clause-some : goal.returns-clause-some
returns-clause-some c =
    let at = sym c.type_position.ensures ∙ c.in-Some.is in
    user_there c.args.image.now c.args.kind c.args.number c.source-source.ensures.edited c.in-Some.i at (section_model c.index-sections-i.result)
    (section_here c.args.image.now c.args.kind c.args.number c.source-source.ensures.edited c.in-Some.i at c.sections.result.now c.sections.ensures
    c.index-sections-i.result c.index-sections-i.is) c.if-section-number.false

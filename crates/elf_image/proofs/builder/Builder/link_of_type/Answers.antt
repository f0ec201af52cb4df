-- A search by the sections alone comes to the same link.
use Rattle.std.proofs.Common.{sym, ap, ◌∙◌}
use Rattle.elf_image.specs.Kept.{link_in_sections}
use Rattle.elf_image.proofs.KeptSections.{link_by_sections}
use Rattle.elf_image.proofs.builder.Builder.link_of_type.Goals as goal

pub returns : goal.returns
returns c = c.link_in_sections.ensures ∙ ap (link_in_sections c.args.kind) c.sections.ensures ∙ sym (link_by_sections c.args.kind c.args.self.now c.source-source.ensures.edited)

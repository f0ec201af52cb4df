use Rattle.std.proofs.Common.{ap, ◌∙◌}
use Rattle.elf_image.specs.Image.{lists_tag}
use Rattle.elf_apply.proofs.DraftLaws.{retagged_none, retagged_some}
use Rattle.elf_apply.proofs.steps.retag.Goals as goal

pub returns-then-any_with_tag : goal.returns-then-any_with_tag
returns-then-any_with_tag c =
    c.retag_all.ensures
    ∙ retagged_some c.args.old c.args.new c.args.builder.now c.any_with_tag.result (c.any_with_tag.ensures ∙ ap (lists_tag c.args.old) c.entries.ensures) c.if-any_with_tag.true

pub returns-else-any_with_tag : goal.returns-else-any_with_tag
returns-else-any_with_tag c = retagged_none c.args.old c.args.new c.args.builder.now c.any_with_tag.result (c.any_with_tag.ensures ∙ ap (lists_tag c.args.old) c.entries.ensures) c.if-any_with_tag.false

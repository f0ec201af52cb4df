use Rattle.std.proofs.Common.{ap, ◌∙◌}
use Rattle.elf_image.specs.Image.{lists_tag}
use Rattle.elf_apply.proofs.DropLaws.{dropped_none, dropped_some}
use Rattle.elf_apply.proofs.steps.drop_tag.Goals as goal

pub returns-then-any_with_tag : goal.returns-then-any_with_tag
returns-then-any_with_tag c =
    c.delete_dynamic_tag.ensures
    ∙ dropped_some c.args.tag c.args.builder.now c.any_with_tag.result (c.any_with_tag.ensures ∙ ap (lists_tag c.args.tag) c.entries.ensures) c.if-any_with_tag.true

pub returns-else-any_with_tag : goal.returns-else-any_with_tag
returns-else-any_with_tag c = dropped_none c.args.tag c.args.builder.now c.any_with_tag.result (c.any_with_tag.ensures ∙ ap (lists_tag c.args.tag) c.entries.ensures) c.if-any_with_tag.false

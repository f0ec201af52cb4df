-- The program header that is added is the first for the stack.
use Rattle.std.proofs.Common.{◌≡◌, ◌∙◌, None, refl, sym}
use Rattle.elf_format.specs.declared.constants.TheConstants.{PT_GNU_STACK}
use Rattle.elf_image.specs.File.{segment_of_type}
use Rattle.elf_edits.specs.Facts.{facts_model}
use Rattle.elf_apply.proofs.DraftLaws.{not_found}
use Rattle.elf_apply.proofs.StackLaws.{flags_added_are, no_refusal, stack_added}
use Rattle.elf_apply.proofs.ext.BuilderBuilderExt.add_gnu_stack.Goals as goal

pub returns : goal.returns
returns c =
    let image = c.args.self.now in
    let none : segment_of_type PT_GNU_STACK image.segments ≡ None = not_found _ c.stack.result (segment_of_type PT_GNU_STACK image.segments) c.stack.ensures (sym c.is_some.ensures ∙ c.if-is_some.false) in (
      (refl, λ w _. stack_added w image none, tt),
      record {
        lends = tt;
        answer = no_refusal image (facts_model c.image_facts.result) c.image_facts.ensures c.in_default.ensures;
        there = λ _ _. refl;
        value = flags_added_are c.in_ok-add_stack.field-0.now image.segments c.in_ok-add_stack.ensures.value none;
      },
    )

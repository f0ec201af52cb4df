-- A program header for the stack is there, or is added.
use Rattle.std.proofs.Common.{List, ap, sym, ◌∙◌, true}
use Rattle.elf_format.specs.declared.constants.TheConstants.{PT_GNU_STACK}
use Rattle.elf_format.specs.declared.records.SegmentHeader.{SegmentHeader}
use Rattle.elf_image.specs.File.{segment_of_type}
use Rattle.elf_apply.proofs.DraftLaws.{flags_there, found_there, is_there, not_found, pushed}
use Rattle.elf_apply.proofs.draft.put_flags.Goals as goal

pub set_stack_flags-requires : goal.set_stack_flags-requires
set_stack_flags-requires c =
    is_there (segment_of_type PT_GNU_STACK c.args.builder.now.segments)
    (found_there _ c.stack.result (segment_of_type PT_GNU_STACK c.args.builder.now.segments) c.stack.ensures (sym c.is_some.ensures ∙ c.if-is_some.true))

pub push_stack-requires : goal.push_stack-requires
push_stack-requires c = not_found _ c.stack.result (segment_of_type PT_GNU_STACK c.args.builder.now.segments) c.stack.ensures (sym c.is_some.ensures ∙ c.if-is_some.false)

pub returns-then-is_some : goal.returns-then-is_some
returns-then-is_some c =
    c.set_stack_flags.ensures
    ∙ ap (λ (l : List SegmentHeader). record c.args.builder.now { changed = true; segments = l })
    (flags_there c.args.flags c.args.builder.now.segments (found_there _ c.stack.result (segment_of_type PT_GNU_STACK c.args.builder.now.segments) c.stack.ensures (sym c.is_some.ensures ∙ c.if-is_some.true)))

pub returns-else-is_some : goal.returns-else-is_some
returns-else-is_some c =
    pushed c.push_stack.result c.args.flags c.args.builder.now c.push_stack.new.self
    (not_found _ c.stack.result (segment_of_type PT_GNU_STACK c.args.builder.now.segments) c.stack.ensures (sym c.is_some.ensures ∙ c.if-is_some.false)) c.push_stack.ensures

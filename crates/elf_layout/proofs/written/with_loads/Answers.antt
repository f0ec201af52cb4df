use Rattle.std.proofs.Common.{◌++◌, List, ap, sym, ◌∙◌}
use Rattle.std.proofs.lemmas.List.{append-nil, at_drop_all}
use Rattle.elf_format.specs.declared.records.SegmentHeader.{SegmentHeader}
use Rattle.elf_layout_plan.specs.Written.{behind_last_load}
use Rattle.elf_layout.proofs.WrittenSteps.{behind-more, behind-nothing}
use Rattle.elf_layout.proofs.written.with_loads.Goals as goal

pub loop-p-preserved : goal.loop-p-preserved
loop-p-preserved c =
    let d : SegmentHeader = record { p_type = 0; p_flags = 0; p_offset = 0; p_vaddr = 0; p_paddr = 0; p_filesz = 0; p_memsz = 0; p_align = 0 } in
    let step = behind-more c.args.loads.now c.args.headers.now c.loop-p.p-index d c.loop-p.left c.loop-p.made.items c.push_next.new.made.items c.loop-p-test.true
    c.loop-p.invariant.whole c.loop-p.invariant.left c.in_ok-push_next.ensures in
    record { whole = step.0; left = c.left_behind-left.ensures ∙ step.1 }

pub returns : goal.returns
returns c =
    let made : List SegmentHeader = c.loop-p.made.items in
    sym (append-nil made)
    ∙ ap (λ l. made ++ l) (sym (at_drop_all (behind_last_load c.args.loads.now) c.args.headers.now c.loop-p.p-index c.loop-p-test.false ∙ behind-nothing c.args.loads.now))
    ∙ c.loop-p.invariant.whole

-- All texts were looked at, or fewer are left than are to be found.
use Rattle.std.proofs.Common.{nat_eq, ap, ◌∙◌, arith}
use Rattle.elf_layout_sizes.proofs.TextSteps.{subsequence_at_end, subsequence_too_long}
use Rattle.elf_layout_sizes.proofs.strings.is_subsequence.Goals as goal

pub returns-then-len-next : goal.returns-then-len-next
returns-then-len-next c =
    subsequence_too_long c.args.some.now c.args.all.now c.loop-i.next c.loop-i.i (omega (arith, c.if-len-next.true, c.len.ensures, c.len-in-loop-i.ensures)) c.loop-i.invariant.1

pub returns : goal.returns
returns c =
    ap (λ n. nat_eq c.loop-i.next n) c.len-2.ensures
    ∙ subsequence_at_end c.args.some.now c.args.all.now c.loop-i.next c.loop-i.i c.loop-i.invariant.0 (omega (arith, c.len-i-end.ensures)) c.loop-i.invariant.1

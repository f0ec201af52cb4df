use Rattle.std.proofs.Common.{◌≡◌, ◌≤◌, drop, length}
use Rattle.elf_layout_plan.specs.Texts.{is_subsequence}
use Rattle.elf_layout_sizes.proofs.strings.is_subsequence.Given as goal

-- the texts that aren't found yet are the ones that are left with some left out, where all are
abbrev pub invariant-loop-i : goal.invariant-loop-i
invariant-loop-i l = (l.next ≤ length l.some) × (is_subsequence (drop l.next l.some) (drop l.i l.all) ≡ is_subsequence l.some l.all)

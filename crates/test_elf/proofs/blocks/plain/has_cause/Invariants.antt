use Rattle.std.proofs.Common.{◌≡◌, ◌<◌}
use Rattle.elf_layout_plan.specs.MovedBlocks.{EarlierMoves, LaterMoves, Pair}
use Rattle.test_elf.proofs.blocks.plain.has_cause.Given as goal

abbrev pub invariant-loop-before : goal.invariant-loop-before
invariant-loop-before l = (p : Pair l.blocks) → p.second ≡ l.place → p.first < l.before → LaterMoves p.earlier p.later → ⊥

abbrev pub invariant-loop-behind : goal.invariant-loop-behind
invariant-loop-behind l = (p : Pair l.blocks) → p.first ≡ l.place → p.second < l.behind → EarlierMoves p.earlier p.later → ⊥

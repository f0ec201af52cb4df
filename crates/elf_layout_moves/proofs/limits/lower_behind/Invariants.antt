use Rattle.std.proofs.Common.{ℕ, List, [], take}
use Rattle.elf_layout_moves.specs.Limits.{AreLimitsOf}
use Rattle.elf_layout_moves.proofs.limits.lower_behind.Given as goal

abbrev pub invariant-loop-block : goal.invariant-loop-block
invariant-loop-block l = (count : ℕ) (moved : List ℕ) → AreLimitsOf count l.from moved [] l.fn.limits.items
    → AreLimitsOf count l.from moved (take l.block-index l.blocks) l.limits.items

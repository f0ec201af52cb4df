use Rattle.std.proofs.Common.{get_or, sym, ap, ◌∙◌, ◌-◌, arith, None}
use Rattle.elf_layout.specs.Reaches.{joined}
use Rattle.elf_layout.proofs.ReachLaws.{over_none}
use Rattle.elf_layout.proofs.TreeSteps.{first_more, halves, last_more}
use Rattle.elf_layout.proofs.reaches.+reach_between.Goals as goal

pub returns-then-high-low : goal.returns-then-high-low
returns-then-high-low t c = sym (over_none c.args.tree.now c.args.low c.args.high (omega arith))

pub returns-then-low-eq1 : goal.returns-then-low-eq1
returns-then-low-eq1 t c =
    c.joined.ensures ∙ ap (joined (get_or c.args.tree.now c.args.low None)) c.reach_between.ensures
    ∙ first_more c.args.tree.now c.args.low c.args.high (omega arith) (omega arith)

pub returns-then-high-eq1 : goal.returns-then-high-eq1
returns-then-high-eq1 t c =
    c.joined-then-high-eq1.ensures ∙ ap (λ o. joined o (get_or c.args.tree.now (c.args.high - 1) None)) c.reach_between-then-high-eq1.ensures
    ∙ last_more c.args.tree.now c.args.low c.args.high (omega arith) (omega arith)

pub returns-else-high-eq1 : goal.returns-else-high-eq1
returns-else-high-eq1 t c =
    c.reach_between-else-high-eq1.ensures
    ∙ halves c.args.count c.args.tree.now c.args.low c.args.high c.requires.tree (omega arith) (omega arith) (λ h. omega (arith, h)) (λ h. omega (arith, h))

use Rattle.elf_write_strings.proofs.MadeStrings.{found_here, none_here, not_here}
use Rattle.elf_write_strings.proofs.made.made_of.Goals as goal

pub loop-table-preserved : goal.loop-table-preserved
loop-table-preserved c =
    not_here c.args.made.now c.args.number c.loop-table.table-index c.table-item.result c.loop-table-test.true c.table-item.is
    c.if-table-number.false c.loop-table.invariant

pub returns-then-table-number-clause-some : goal.returns-then-table-number-clause-some
returns-then-table-number-clause-some c =
    found_here c.args.made.now c.args.number c.loop-table.table-index c.table-item.result c.loop-table-test.true c.table-item.is
    c.if-table-number.true c.loop-table.invariant

pub returns-clause-none : goal.returns-clause-none
returns-clause-none c = none_here c.args.made.now c.args.number c.loop-table.table-index c.loop-table-test.false c.loop-table.invariant

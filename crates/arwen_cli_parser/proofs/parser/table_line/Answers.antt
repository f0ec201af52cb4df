-- Each command of the table is added behind those before it.
use Rattle.arwen_cli_parser.proofs.Parsing.{with_row}
use Rattle.arwen_cli_parser.proofs.parser.table_line.Goals as goal

pub loop-row-preserved : goal.loop-row-preserved
loop-row-preserved c =
    with_row c.args.first.word.now c.args.rows.now c.loop-row.row-index _ _ _ c.loop-row-test.true c.loop-row.invariant c.in_ok-line-2.ensures

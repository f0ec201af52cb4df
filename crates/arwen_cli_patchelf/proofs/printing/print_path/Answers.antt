-- The store that was opened is the one at the path.
use Rattle.arwen_cli_patchelf.proofs.PrintLaws.{opened_at, unopened}
use Rattle.arwen_cli_patchelf.proofs.printing.print_path.Goals as goal

pub returns-in-Err-clause-tells : goal.returns-in-Err-clause-tells
returns-in-Err-clause-tells g c =
    rw c.not_opened.ensures.error (unopened g.W.Write.contents g.W.CountedWrite.failed c.args.prints.now _ c.args.out.now c.in-Err.error c.if-is_empty.ensures)

pub returns-in-Err-print_each-clause-cause : goal.returns-in-Err-print_each-clause-cause
returns-in-Err-print_each-clause-cause g c =
    opened_at (g.O.OpensOnce.may_fail c.args.files c.args.path.now) g.O.Opened.Store.may_fail_read g.O.Opened.Store.failed (g.O.OpensOnce.contents c.args.files c.args.path.now) _ _
    c.in-Err-print_each.error _ c.in-Ok.ensures.bytes c.in-Ok.ensures.fresh c.in-Err-print_each.ensures.cause

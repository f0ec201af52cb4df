-- What fails behind the first print fails later.
use Rattle.std.proofs.lemmas.Result.{IfErr-weaker}
use Rattle.arwen_cli_patchelf.proofs.PrintLaws.{read_later}
use Rattle.arwen_cli_patchelf.proofs.printing.+print_each.Goals as goal

pub returns-clause-cause : goal.returns-clause-cause
returns-clause-cause g t c =
    IfErr-weaker c.print_each.result _ _
    (λ e why. read_later g.S.Store.may_fail_read (g.S.Store.contents c.args.store.now) (g.S.Store.contents c.print_one.new.store) _ _ _ e c.in_ok-print_one.ensures.kept c.in_ok-print_one.ensures.grows why)
    c.print_each.ensures.cause

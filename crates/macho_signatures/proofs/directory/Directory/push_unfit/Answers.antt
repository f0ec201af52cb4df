use Rattle.std.proofs.Common.{◌∙◌, ap}
use Rattle.macho_signatures.proofs.RenewalSteps.{unfit_all, unfit_left, unfit_pushed}
use Rattle.macho_signatures.proofs.directory.Directory.push_unfit.Goals as goal
use Rattle.macho_signatures.proofs.directory.Directory.push_unfit.Goals.{then-not-is_fit+in_ok-push, else-not-is_fit}

pub returns : goal.returns
returns c = unfit_all c.args.number c.args.self.now c.args.bytes.now c.loop-page.page c.args.pages.now.items c.loop-page.pages.items c.loop-page.auto.page-end c.loop-page-test.false c.loop-page.invariant

pub loop-page-preserved : goal.loop-page-preserved
loop-page-preserved c =
    elim c.if-not-is_fit.branch [
      | then-not-is_fit+in_ok-push w ↦
          unfit_pushed c.args.number c.args.self.now c.args.bytes.now c.loop-page.page c.args.pages.now.items c.loop-page.pages.items c.if-not-is_fit.pages.items c.is_fit.result c.loop-page.invariant
          (ap (λ v. v.items) w.pages-is ∙ w.in_ok-push.ensures.items) c.is_fit.ensures w.if-not-is_fit.true
      | else-not-is_fit w ↦
          ap (λ v. v.items) w.pages-is
          ∙ unfit_left c.args.number c.args.self.now c.args.bytes.now c.loop-page.page c.args.pages.now.items c.loop-page.pages.items c.is_fit.result c.loop-page.invariant c.is_fit.ensures w.if-not-is_fit.false
    ]

use Rattle.macho_signatures.specs.Pages.{is_fit}
use Rattle.macho_signatures.proofs.RenewalSteps.{fit_all, fit_more, one_unfit}
use Rattle.macho_signatures.proofs.directory.Directory.do_pages_fit.Goals as goal

pub returns : goal.returns
returns c = fit_all (is_fit c.args.self.now c.args.bytes.now) c.loop-page.page c.args.self.now.count c.loop-page.auto.page-end c.loop-page-test.false c.loop-page.invariant

pub loop-page-preserved : goal.loop-page-preserved
loop-page-preserved c = fit_more (is_fit c.args.self.now c.args.bytes.now) c.loop-page.page c.is_fit.result c.loop-page.invariant c.is_fit.ensures c.if-not-is_fit.false

pub returns-then-not-is_fit : goal.returns-then-not-is_fit
returns-then-not-is_fit c = one_unfit (is_fit c.args.self.now c.args.bytes.now) c.loop-page.page c.args.self.now.count c.is_fit.result c.loop-page-test.true c.is_fit.ensures c.if-not-is_fit.true

use Rattle.macho_signatures.proofs.RenewalSteps.{directories_fit, directory_fits, directory_unfit, placed_at}
use Rattle.macho_signatures.proofs.signature.Signature.do_pages_fit.Goals as goal

pub returns : goal.returns
returns c = directories_fit c.args.self.now.directories.items c.deref-directory-items.result.now c.args.bytes.now c.loop-directory.directory-index c.deref-directory-items.ensures.value c.loop-directory-test.false c.loop-directory.invariant

pub do_pages_fit-requires : goal.do_pages_fit-requires
do_pages_fit-requires c = placed_at c.args.self.now.start _ c.args.self.now.directories.items c.deref-directory-items.result.now c.loop-directory.directory-index _ c.requires.each c.deref-directory-items.ensures.value c.loop-directory-test.true

pub loop-directory-preserved : goal.loop-directory-preserved
loop-directory-preserved c = directory_fits c.args.self.now.directories.items c.deref-directory-items.result.now c.args.bytes.now c.loop-directory.directory-index _ c.do_pages_fit.result c.deref-directory-items.ensures.value c.loop-directory-test.true c.loop-directory.invariant c.do_pages_fit.ensures c.if-not-do_pages_fit.false

pub returns-then-not-do_pages_fit : goal.returns-then-not-do_pages_fit
returns-then-not-do_pages_fit c = directory_unfit c.args.self.now.directories.items c.deref-directory-items.result.now c.args.bytes.now c.loop-directory.directory-index _ c.do_pages_fit.result c.deref-directory-items.ensures.value c.loop-directory-test.true c.do_pages_fit.ensures c.if-not-do_pages_fit.true

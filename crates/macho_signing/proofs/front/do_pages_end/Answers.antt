use Rattle.std.proofs.Common.{rules}
use Rattle.macho_signing.proofs.FrontLaws.{ends_all, ends_more}
use Rattle.macho_signing.proofs.front.do_pages_end.Goals as goal

pub loop-directory-preserved : goal.loop-directory-preserved
loop-directory-preserved c = ends_more c.args.len c.args.directories.now c.loop-directory.directory-index _ c.loop-directory-test.true c.loop-directory.invariant (c.do_end.ensures (search (rules, c.if-not-do_end.false)))

pub returns : goal.returns
returns c = λ _. ends_all c.args.len c.args.directories.now c.loop-directory.directory-index c.loop-directory-test.false c.loop-directory.invariant

use Rattle.std.proofs.Common.{◌++◌, refl}
use Rattle.macho_signatures.proofs.RenewalSteps.{directories_all, directory_more}
use Rattle.macho_signing.specs.Thin.{differences}
use Rattle.macho_signing.proofs.front.edited_slots.Goals as goal

pub returns : goal.returns
returns c = λ rest. directories_all c.args.directories.now c.args.directories.now (differences (c.args.old.now ++ rest) (c.args.new.now ++ rest)) (c.args.new.now ++ rest) c.loop-directory.directory-index c.loop-directory.slots.items _ refl c.loop-directory-test.false (c.loop-directory.invariant rest)

pub loop-directory-preserved : goal.loop-directory-preserved
loop-directory-preserved c = λ rest. directory_more c.args.directories.now c.args.directories.now (differences (c.args.old.now ++ rest) (c.args.new.now ++ rest)) (c.args.new.now ++ rest) c.loop-directory.directory-index _ c.loop-directory.slots.items c.push_edited.new.slots.items _ refl c.loop-directory-test.true (c.in_ok-push_edited.ensures rest) (c.loop-directory.invariant rest)

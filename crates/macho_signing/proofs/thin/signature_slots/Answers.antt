use Rattle.macho_signatures.proofs.RenewalSteps.{directories_all, directory_more, placed_at}
use Rattle.macho_signing.specs.Thin.{pages_of, touched_by}
use Rattle.macho_signing.proofs.thin.signature_slots.Goals as goal

pub returns : goal.returns
returns c = directories_all c.args.signature.now.directories.items c.deref-directory-items.result.now (touched_by (pages_of c.args.scope) c.args.bytes.now) c.args.bytes.now c.loop-directory.directory-index c.loop-directory.slots.items _ c.deref-directory-items.ensures.value c.loop-directory-test.false c.loop-directory.invariant

pub push_slots-requires-clause-lies : goal.push_slots-requires-clause-lies
push_slots-requires-clause-lies c = placed_at c.args.signature.now.start _ c.args.signature.now.directories.items c.deref-directory-items.result.now c.loop-directory.directory-index _ c.requires.placed.each c.deref-directory-items.ensures.value c.loop-directory-test.true

pub loop-directory-preserved : goal.loop-directory-preserved
loop-directory-preserved c = directory_more c.args.signature.now.directories.items c.deref-directory-items.result.now (touched_by (pages_of c.args.scope) c.args.bytes.now) c.args.bytes.now c.loop-directory.directory-index _ c.loop-directory.slots.items c.push_slots.new.slots.items _ c.deref-directory-items.ensures.value c.loop-directory-test.true c.in_ok-push_slots.ensures c.loop-directory.invariant

-- An entry more was read, a bad one was found, or all are good.
use Rattle.std.proofs.Common.{refl}
use Rattle.macho_signatures.proofs.IndexLaws.{AreGood-push, all_blobs, first_blobs_more, none_bad_of, one_bad_of}
use Rattle.macho_signatures.proofs.blobs.read_index.Goals as goal

pub returns-in_default : goal.returns-in_default
returns-in_default c = λ _. (one_bad_of _ _ _ _ c.args.count c.args.signature.now c.loop-i.i c.number32-size.ensures c.index_end-end.ensures c.loop-i-test.true c.in_default.ensures, refl)

pub loop-i-preserved : goal.loop-i-preserved
loop-i-preserved c = record {
  made = first_blobs_more c.args.signature.now c.loop-i.i c.loop-i.blobs.items c.push.new.self.items c.in-Some.blob c.loop-i.invariant.made c.in-Some.ensures.0 c.in_ok-push.ensures.items;
  good = AreGood-push _ _ c.loop-i.blobs.items c.push.new.self.items c.in-Some.blob c.loop-i.invariant.good c.in-Some.ensures.1 c.in_ok-push.ensures.items;
}

pub returns : goal.returns
returns c =
    let all = all_blobs c.args.signature.now c.loop-i.i c.args.count c.loop-i.blobs.items c.loop-i.auto.i-end c.loop-i-test.false c.loop-i.invariant.made in
    (all, none_bad_of _ _ _ _ c.args.count c.args.signature.now c.loop-i.blobs.items c.number32-size.ensures c.index_end-end.ensures all c.loop-i.invariant.good)

use Rattle.std.proofs.Common.{arith}
use Rattle.byte_store.proofs.LoadLaws.{all_first, all_length, first_from}
use Rattle.byte_store.proofs.reading.load_up_to.Goals as goal

pub returns-clause-whole : goal.returns-clause-whole
returns-clause-whole g c below =
    let bytes = c.in_ok-bytes.bytes in
    all_first c.args.most _ bytes.items (omega (arith, bytes.ok.0))
    (first_from c.args.most (g.S.Store.contents c.args.store.now) _ bytes.items c.in_ok-expected.ensures.kept c.in_ok-bytes.ensures.read)

pub returns-clause-length : goal.returns-clause-length
returns-clause-length g c below =
    let bytes = c.in_ok-bytes.bytes in
    all_length _ _ bytes.items bytes.len bytes.ok.0 c.in_ok-bytes.ensures.kept
    (all_first c.args.most _ bytes.items (omega (arith, bytes.ok.0)) c.in_ok-bytes.ensures.read)

use Rattle.std.proofs.Common.{arith, inr}
use Rattle.byte_store.proofs.CauseLaws.{too_many}
use Rattle.byte_store.proofs.LoadLaws.{whole_first}
use Rattle.byte_store.proofs.reading.load_whole.Goals as goal

pub returns-clause-read : goal.returns-clause-read
returns-clause-read g c =
    whole_first c.args.most _ c.in_ok-bytes.bytes.items (omega (arith, c.in_ok-bytes.bytes.ok.0, c.if-len-most.false, c.len.ensures)) c.in_ok-bytes.ensures.read

pub returns-then-len-most-clause-cause : goal.returns-then-len-most-clause-cause
returns-then-len-most-clause-cause g c =
    let bytes = c.in_ok-bytes.bytes in
    inr (inr (c.too_long.ensures, too_many c.args.most _ bytes.items (omega (arith, bytes.ok.0, c.if-len-most.true, c.len.ensures)) c.in_ok-bytes.ensures.read))

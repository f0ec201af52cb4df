use Rattle.std.proofs.lemmas.Result.{err_from_is_err_and}
use Rattle.macho_signatures.proofs.SignatureLaws.{answers, fault_outside}
use Rattle.macho_signatures.proofs.signature.read_signature.Goals as goal

pub returns : goal.returns
returns c = answers c.args.dataoff c.args.datasize c.args.bytes.now c.in_ok-signature.signature.now c.read_signature_bytes.result c.in_ok-signature.ensures.0 c.in_ok-signature.ensures.1 c.read_signature_bytes.ensures

pub returns-in_err-signature : goal.returns-in_err-signature
returns-in_err-signature c =
    let p = err_from_is_err_and c.from_residual.result c.from_residual.ensures.1 in
    rw (p.1, p.2, c.in_err-signature.ensures.1) (λ _. fault_outside c.args.dataoff c.args.datasize c.args.bytes.now c.in_err-signature.ensures.0)

use Rattle.std.proofs.Common.{◌∙◌, List, subst, sym}
use Rattle.std.proofs.lemmas.Result.{err_from_is_err_and}
use Rattle.macho_signatures.specs.declared.blobs.Blob.{Blob}
use Rattle.macho_signatures.specs.Blobs.{AreBlobs}
use Rattle.macho_signatures.proofs.SignatureLaws.{answers_bytes, super_fault}
use Rattle.macho_signatures.proofs.signature.read_signature_bytes.Goals as goal

pub returns : goal.returns
returns c = answers_bytes c.args.dataoff c.args.signature.now c.in_ok-blobs.blobs.items c.read_contents.result c.in_ok-blobs.ensures.0 c.in_ok-blobs.ensures.2 c.in_ok-blobs.ensures.1 c.read_contents.ensures

pub returns-in_err-blobs : goal.returns-in_err-blobs
returns-in_err-blobs c =
    let p = err_from_is_err_and c.from_residual.result c.from_residual.ensures.1 in
    rw (p.1, p.2) (λ other. super_fault c.args.dataoff c.args.signature.now c.in_err-blobs.field-0.0 (c.in_err-blobs.ensures other))

pub read_contents-requires : goal.read_contents-requires
read_contents-requires c =
    let P : List Blob → Type 0 = λ xs. AreBlobs c.args.signature.now xs in
    record { are = subst P (sym c.deref.ensures.value) c.in_ok-blobs.ensures.2; all = c.deref.ensures.value ∙ c.in_ok-blobs.ensures.1 }

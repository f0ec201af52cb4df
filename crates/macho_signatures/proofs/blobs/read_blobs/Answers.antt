use Rattle.macho_signatures.proofs.IndexLaws.{filled_seen, super_found}
use Rattle.macho_signatures.proofs.blobs.read_blobs.Goals as goal

pub some_overlap-requires : goal.some_overlap-requires
some_overlap-requires c = filled_seen c.args.signature.now _ _ c.in_ok-count.count c.in_ok-blobs.blobs.items _ c.deref.ensures.value c.in_ok-blobs.ensures.0 c.in_ok-blobs.ensures.1

pub returns : goal.returns
returns c =
    let h = c.in_ok-count.ensures in
    super_found c.args.signature.now c.in_ok-count.count c.in_ok-blobs.blobs.items c.deref.result.now c.in_ok-some_overlap.field-0 h.0 h.1 h.3 h.5 c.in_ok-blobs.ensures.0 c.in_ok-blobs.ensures.1 c.deref.ensures.value c.in_ok-some_overlap.ensures c.if-branch.false

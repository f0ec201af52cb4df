use Rattle.std.proofs.Common.{◌≡◌, ◌==◌, false, take}
use Rattle.std.specs.List.{list_any}
use Rattle.macho_signatures.proofs.signature.has_main.Given as goal

abbrev pub invariant-loop-blob : goal.invariant-loop-blob
invariant-loop-blob l = list_any (λ blob. blob.kind == 0) (take l.blob-index l.blobs) ≡ false

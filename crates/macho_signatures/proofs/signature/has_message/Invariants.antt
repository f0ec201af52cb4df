use Rattle.std.proofs.Common.{◌≡◌, false, take}
use Rattle.std.specs.List.{list_any}
use Rattle.macho_signatures.specs.Signature.{is_message}
use Rattle.macho_signatures.proofs.signature.has_message.Given as goal

abbrev pub invariant-loop-blob : goal.invariant-loop-blob
invariant-loop-blob l = list_any (is_message l.fn.signature) (take l.blob-index l.blobs) ≡ false

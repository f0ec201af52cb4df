-- What was read, and that nothing was wrong so far.
use Rattle.std.proofs.Common.{◌≡◌, drop, map, take}
use Rattle.macho_signatures.specs.Signature.{blob_directory, blob_fault, first_fault}
use Rattle.macho_signatures.proofs.signature.read_directories.Given as goal

abbrev pub invariant-loop-blob : goal.invariant-loop-blob
invariant-loop-blob l = record {
  made : l.directories.items ≡ map (blob_directory l.start l.fn.signature) (take l.blob-index l.blobs);
  left : first_fault (blob_fault l.start l.fn.signature) l.blobs ≡ first_fault (blob_fault l.start l.fn.signature) (drop l.blob-index l.blobs);
}

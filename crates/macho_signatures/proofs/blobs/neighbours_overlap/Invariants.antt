use Rattle.std.proofs.Common.{◌≡◌, drop}
use Rattle.macho_signatures.proofs.OverlapLaws.{meets_last}
use Rattle.macho_signatures.proofs.blobs.neighbours_overlap.Given as goal

abbrev pub invariant-loop-blob : goal.invariant-loop-blob
invariant-loop-blob l = meets_last l.last_end (drop l.blob-index l.blobs) ≡ meets_last 0 l.blobs

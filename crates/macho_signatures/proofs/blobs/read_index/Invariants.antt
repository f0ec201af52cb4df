-- What was read so far.
use Rattle.std.proofs.Common.{◌≡◌}
use Rattle.macho_signatures.specs.Blobs.{first_blobs}
use Rattle.macho_signatures.proofs.IndexLaws.{AreGood}
use Rattle.macho_signatures.proofs.blobs.read_index.Given as goal

abbrev pub invariant-loop-i : goal.invariant-loop-i
invariant-loop-i l = record {
  made : l.blobs.items ≡ first_blobs l.fn.signature l.i;
  good : AreGood l.size l.end l.blobs.items;
}

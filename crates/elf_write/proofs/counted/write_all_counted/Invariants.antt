use Rattle.std.proofs.Common.{length, take, ◌-◌, ◌*◌, ◌≡◌, ◌≤◌}
use Rattle.std.specs.Io.KnownBytes.{Appends}
use Rattle.elf_write.specs.Counted.{Rises}
use Rattle.elf_write.proofs.counted.write_all_counted.Given as goal

abbrev pub invariant-loop-done : goal.invariant-loop-done
invariant-loop-done g l = record {
  within : l.done ≤ length l.bytes;
  written : Appends (g.W.Write.contents l.initial.w) (g.W.Write.contents l.w) (take l.done l.bytes);
  counted : Rises 0 (1000 * l.done) (g.W.CountedWrite.failed l.initial.w) (g.W.CountedWrite.failed l.w);
  idle : l.done ≡ 0 → l.w ≡ l.initial.w;
}

abbrev pub decreases-loop-done : goal.decreases-loop-done
decreases-loop-done g l = length l.bytes - l.done

use Rattle.std.specs.Io.KnownBytes.{Keeps}
use Rattle.elf_write.specs.Counted.{Rises}
use Rattle.elf_write.proofs.counted.put_some.Given as goal

abbrev pub invariant-loop-tried : goal.invariant-loop-tried
invariant-loop-tried g l = record {
  kept : Keeps (g.W.Write.contents l.initial.w) (g.W.Write.contents l.w);
  counted : Rises l._tried l._tried (g.W.CountedWrite.failed l.initial.w) (g.W.CountedWrite.failed l.w);
}

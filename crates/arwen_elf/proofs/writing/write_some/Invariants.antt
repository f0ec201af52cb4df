use Rattle.std.specs.Io.KnownBytes.{Keeps}
use Rattle.arwen_elf.proofs.writing.write_some.Given as goal

abbrev pub invariant-loop-tried : goal.invariant-loop-tried
invariant-loop-tried g l = Keeps (g.W.Write.contents l.initial.out) (g.W.Write.contents l.out)

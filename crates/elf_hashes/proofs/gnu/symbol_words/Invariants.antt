use Rattle.std.proofs.Common.{◌≡◌, ◌++◌, drop}
use Rattle.elf_hashes.specs.Gnu.{gnu_words}
use Rattle.elf_hashes.proofs.gnu.symbol_words.Given as goal

abbrev pub invariant-loop-i : goal.invariant-loop-i
invariant-loop-i l = l.made.items ++ gnu_words l.buckets (drop l.i l.hashes) ≡ gnu_words l.buckets l.hashes

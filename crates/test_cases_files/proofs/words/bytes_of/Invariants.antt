use Rattle.std.proofs.Common.{◌≡◌, ◌++◌, drop, map}
use Rattle.test_cases_files.specs.Words.{unmarked}
use Rattle.test_cases_files.proofs.words.bytes_of.Given as goal

-- the bytes so far, with those of the marks that are left
abbrev pub invariant-loop-mark : goal.invariant-loop-mark
invariant-loop-mark l = l.bytes.items ++ map unmarked (drop l.mark-index l.word) ≡ map unmarked l.word

use Rattle.std.proofs.Common.{◌≡◌, ◌++◌, drop, map}
use Rattle.command_words.specs.Parts.{texts_lent}
use Rattle.test_cases_files.specs.Words.{unquoted}
use Rattle.test_cases_files.proofs.words.words_of.Given as goal

-- the words so far, with those of the parts that are left
abbrev pub invariant-loop-part : goal.invariant-loop-part
invariant-loop-part l = texts_lent l.words.items ++ map unquoted (texts_lent (drop l.part-index l.parts)) ≡ map unquoted (texts_lent l.parts)

use Rattle.std.proofs.Common.{◌≡◌, ℕ, List, take}
use Rattle.test_cases_written.specs.Words.{AreBytes, hex_digits}
use Rattle.test_cases_written.proofs.words.bytes_spelled.Given as goal

-- the bytes so far are the first of any whose digits these are
abbrev pub invariant-loop-pair : goal.invariant-loop-pair
invariant-loop-pair l = (bytes : List ℕ) → AreBytes bytes → l.digits ≡ hex_digits bytes → l.made.items ≡ take l.pair-index bytes

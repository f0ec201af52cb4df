use Rattle.std.proofs.Common.{◌≡◌, drop}
use Rattle.std.specs.Str.{all_ascii_digits}
use Rattle.command_words.proofs.key_value.is_decimal.Given as goal

abbrev pub invariant-loop-byte : goal.invariant-loop-byte
invariant-loop-byte l = all_ascii_digits l.word ≡ all_ascii_digits (drop l.byte-index l.byte-items)

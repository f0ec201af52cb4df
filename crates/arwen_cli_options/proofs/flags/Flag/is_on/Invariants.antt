use Rattle.std.proofs.Common.{◌≡◌, drop, map}
use Rattle.arwen_cli_options.specs.Flags.{has_flag, is_flag_word}
use Rattle.arwen_cli_options.proofs.flags.Flag.is_on.Given as goal

-- no word so far tells
abbrev pub invariant-loop-word : goal.invariant-loop-word
invariant-loop-word l = has_flag (is_flag_word l.«self») (map (λ w. w.now) (drop l.word-index l.words)) ≡ has_flag (is_flag_word l.«self») (map (λ w. w.now) l.words)

use Rattle.std.proofs.Common.{◌≡◌, drop, map}
use Rattle.arwen_cli_options.specs.Options.{option_of, row_model}
use Rattle.arwen_cli_options.proofs.options.find_option.Given as goal

-- no row so far has the word
abbrev pub invariant-loop-row : goal.invariant-loop-row
invariant-loop-row l = option_of (map row_model (drop l.row-index l.rows)) l.word ≡ option_of (map row_model l.rows) l.word

use Rattle.std.proofs.Common.{◌≡◌, drop, map}
use Rattle.arwen_cli_show.specs.Args.{other_option}
use Rattle.arwen_cli_show.proofs.args.other_option.Given as goal

-- no word so far is one
abbrev pub invariant-loop-word : goal.invariant-loop-word
invariant-loop-word l = other_option (map (λ w. w.now) (drop l.word-index l.words)) ≡ other_option (map (λ w. w.now) l.words)

use Rattle.std.proofs.Common.{◌≡◌, drop, map}
use Rattle.arwen_cli_show.specs.Args.{asks_json}
use Rattle.arwen_cli_show.proofs.args.style_of.Given as goal

-- no word so far tells
abbrev pub invariant-loop-word : goal.invariant-loop-word
invariant-loop-word l = asks_json (map (λ w. w.now) (drop l.word-index l.words)) ≡ asks_json (map (λ w. w.now) l.words)

use Rattle.std.proofs.Common.{◌≡◌, ◌++◌, drop, if◌then◌else◌, map, string_bytes}
use Rattle.arwen_cli_show.specs.Args.{paths_given}
use Rattle.arwen_cli_show.proofs.args.paths_of.Given as goal

-- the paths so far, with those of the words that are left
abbrev pub invariant-loop-word : goal.invariant-loop-word
invariant-loop-word l =
    map string_bytes l.paths.items
    ++ (if l.is_open then paths_given (map (λ w. w.now) (drop l.word-index l.words)) else map (λ w. w.now) (drop l.word-index l.words))
    ≡ paths_given (map (λ w. w.now) l.words)

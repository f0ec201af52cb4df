use Rattle.std.proofs.Common.{◌≡◌, ◌++◌, drop, if◌then◌else◌, map}
use Rattle.arwen_cli_options.specs.Flags.{is_flag_word, without_flag}
use Rattle.arwen_cli_options.proofs.flags.Flag.take_off.Given as goal

-- the words so far, with what stays of those that are left
abbrev pub invariant-loop-word : goal.invariant-loop-word
invariant-loop-word l =
    map (λ w. w.now) l.heard.items
    ++ (if l.is_open then without_flag (is_flag_word l.«self») (map (λ w. w.now) (drop l.word-index l.words)) else map (λ w. w.now) (drop l.word-index l.words))
    ≡ without_flag (is_flag_word l.«self») (map (λ w. w.now) l.words)

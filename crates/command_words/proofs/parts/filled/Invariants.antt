use Rattle.std.proofs.Common.{◌≡◌, ◌++◌, drop}
use Rattle.command_words.specs.Parts.{texts_lent, without_empty}
use Rattle.command_words.proofs.parts.filled.Given as goal

-- the texts so far, with those that are left
abbrev pub invariant-loop-text : goal.invariant-loop-text
invariant-loop-text l = texts_lent l.made.items ++ without_empty (texts_lent (drop l.text-index l.texts)) ≡ without_empty (texts_lent l.texts)

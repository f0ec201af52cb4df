use denote.Text.{Utf8}
use denote.Shadow.{shadow}
use Rattle.test_cases_files.proofs.running.run_cases.Given as goal

-- the names that were given last are text
abbrev pub invariant-loop-line : goal.invariant-loop-line
invariant-loop-line g l =
    (goal.iterator-loop-line g).can_next l.line-iterator ×
    (goal.iterator-loop-line g).is_finite l.line-iterator ×
    shadow (Utf8 l.names)

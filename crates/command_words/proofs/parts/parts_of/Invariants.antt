use Rattle.std.proofs.Common.{◌≡◌, map}
use Rattle.command_words.specs.Parts.{texts_lent}
use Rattle.command_words.proofs.parts.parts_of.Given as goal

-- the parts that were yielded
abbrev pub invariant-loop-part : goal.invariant-loop-part
invariant-loop-part l = texts_lent l.parts.items ≡ map (λ x. x.now) l.yielded

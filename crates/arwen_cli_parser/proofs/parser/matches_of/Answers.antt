-- The parser's own clauses, at a command that is simple.
use Rattle.std.proofs.Common.{◌≡◌, ◌&&◌, Bool, true, false, refl}
use Rattle.arwen_cli_parser.proofs.parser.matches_of.Goals as goal

first_holds : (a b : Bool) → (a && b) ≡ true → a ≡ true
first_holds true b e = refl
first_holds false b e = absurd (cc)

pub returns-in-Ok-clause-taken : goal.returns-in-Ok-clause-taken
returns-in-Ok-clause-taken c simple = (c.in-Ok.ensures.kinds simple, (c.in-Ok.ensures.matches (first_holds _ _ simple)).1)

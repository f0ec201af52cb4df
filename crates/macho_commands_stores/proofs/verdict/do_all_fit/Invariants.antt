-- No part so far has a page that doesn't fit.
use Rattle.std.proofs.Common.{◌≡◌, drop, map}
use Rattle.std.specs.List.{list_all}
use Rattle.macho_signing.specs.Check.{checked_model}
use Rattle.macho_commands_stores.specs.Verdicts.{has_none}
use Rattle.macho_commands_stores.proofs.verdict.do_all_fit.Given as goal

abbrev pub invariant-loop-part : goal.invariant-loop-part
invariant-loop-part l = list_all has_none (map checked_model (drop l.part-index l.checked)) ≡ list_all has_none (map checked_model l.checked)

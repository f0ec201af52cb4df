-- All pages fit just where the pages of each slice do.
use Rattle.std.proofs.Common.{ap, map, ◌∙◌}
use Rattle.std.specs.List.{list_all}
use Rattle.macho_signing.specs.Check.{checked_model}
use Rattle.macho_commands_stores.specs.Verdicts.{has_none}
use Rattle.macho_commands.specs.Verifying.{do_pages_fit}
use Rattle.macho_commands.proofs.verifying.verify_bytes.Goals as goal

pub returns-clause-ok : goal.returns-clause-ok
unfolding do_pages_fit
returns-clause-ok c =
    c.in_ok-verdict_of.ensures
    ∙ ap (λ l. list_all has_none (map checked_model l)) c.deref.ensures.value
    ∙ ap (list_all has_none) c.in_ok-checked.ensures.1

-- Where there is no section none is needed.
use Rattle.std.proofs.Common.{◌∙◌, sym, ap, not}
use Rattle.elf_symbol_edits.proofs.DeletionSteps.{none_needed, some_if_not_empty}
use Rattle.elf_symbol_edits.proofs.deletion.is_one_used.Goals as goal

pub returns-else-not-is_empty : goal.returns-else-not-is_empty
returns-else-not-is_empty c =
    ap not c.if-not-is_empty.false
    ∙ sym (none_needed c.args.image.now c.args.gone.now (sym (some_if_not_empty c.args.gone.now) ∙ ap not (sym c.is_empty.ensures ∙ c.if-not-is_empty.false)))

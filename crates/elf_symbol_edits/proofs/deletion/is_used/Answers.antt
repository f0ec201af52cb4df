-- Where there is no symbol none is named.
use Rattle.std.proofs.Common.{◌∙◌, sym, ap, not}
use Rattle.elf_symbol_edits.proofs.DeletionSteps.{none_used, some_if_not_empty}
use Rattle.elf_image.specs.Staying.{staying, table_number}
use Rattle.elf_symbol_edits.proofs.deletion.is_used.Goals as goal

pub returns-else-not-is_empty : goal.returns-else-not-is_empty
returns-else-not-is_empty c =
    ap not c.if-not-is_empty.false
    ∙ sym (none_used c.args.image.now.form (table_number c.args.kind c.args.image.now) c.args.symbols.now (staying c.args.gone.now c.args.image.now)
    (sym (some_if_not_empty c.args.symbols.now) ∙ ap not (sym c.is_empty.ensures ∙ c.if-not-is_empty.false)))

use Rattle.std.proofs.Common.{◌∙◌, List, true, false, refl, sym}
use Rattle.elf_format.specs.Views.{NamedSymbol}
use Rattle.elf_write_symbol_tables.proofs.ForCallers.SymbolSteps.{with_part}
use Rattle.elf_write_symbol_tables.specs.Found.{is_local}
use Rattle.elf_image_symbols.specs.Loan.{symbols_now}
use Rattle.elf_write_spec.specs.Headers.{behind_locals as behind_all}
use Rattle.std.specs.Prelude.{slice_get}
use Rattle.elf_write_contents.proofs.HeadersLists.{behind_more}
use Rattle.elf_write_contents.proofs.headers.behind_locals.Goals as goal
use Rattle.elf_write_contents.proofs.headers.behind_locals.Goals.{then-is_local, else-is_local}

pub loop-i-init : goal.loop-i-init
unfolding behind_all
loop-i-init c = refl

pub loop-i-preserved : goal.loop-i-preserved
loop-i-preserved c =
    let ys : List NamedSymbol = symbols_now c.args.symbols in
    let (y, at, told) = with_part is_local (slice_get ys c.loop-i.i) c.is_local.result c.is_local.ensures in
    elim c.if-is_local.branch [
      | then-is_local w ↦ w.behind-is ∙ sym (behind_more ys c.loop-i.i y true at (told ∙ w.if-is_local.true))
      | else-is_local w ↦ w.behind-is ∙ c.loop-i.invariant ∙ sym (behind_more ys c.loop-i.i y false at (told ∙ w.if-is_local.false))
    ]

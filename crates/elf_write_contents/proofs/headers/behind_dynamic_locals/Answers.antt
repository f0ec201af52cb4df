-- The symbols in their new order, one by one.
use Rattle.std.proofs.Common.{◌≡◌, ◌∙◌, ℕ, List, true, false, length, refl, sym, ap, arith}
use Rattle.std.specs.Prelude.{Some, slice_get}
use Rattle.elf_format.specs.Image.{Image}
use Rattle.elf_format.specs.Views.{NamedSymbol}
use Rattle.elf_write_symbol_tables.specs.Found.{is_local}
use Rattle.elf_image_symbols.specs.Loan.{symbols_now}
use Rattle.elf_write_symbol_tables.proofs.ForCallers.SymbolSteps.{with_part}
use Rattle.elf_write_spec.specs.Final.{final, final_symbol}
use Rattle.elf_write_spec.specs.Headers.{behind_locals as behind_all}
use Rattle.elf_write_contents.proofs.HeadersLists.{behind_more}
use Rattle.elf_write_contents.proofs.HeadersOrder.{behind_end, placed}
use Rattle.elf_write_contents.proofs.headers.behind_dynamic_locals.Goals as goal
use Rattle.elf_write_contents.proofs.headers.behind_dynamic_locals.Goals.{then-is_local, else-is_local}

pub loop-i-init : goal.loop-i-init
unfolding behind_all
loop-i-init c = refl

pub loop-i-preserved : goal.loop-i-preserved
loop-i-preserved c =
    let read : Image = c.args.read.now in
    let image : Image = c.args.image.now in
    let ys : List NamedSymbol = (final read image).dynamic_symbols in
    let i : ℕ = c.loop-i.i in
    let (y, at, told) = with_part is_local (slice_get (symbols_now c.dynamic_symbols-symbols.result) c.order_of.result) c.is_local.result c.is_local.ensures in
    let there : slice_get image.dynamic_symbols c.order_of.result ≡ Some y =
    ap (λ (l : List NamedSymbol). slice_get l c.order_of.result) (sym c.dynamic_symbols-symbols.ensures.symbols) ∙ at in
    let final_at : slice_get ys i ≡ Some (final_symbol image y) = placed read image c.requires.ready i c.order_of.result y c.order_of.ensures.place there in
    elim c.if-is_local.branch [
      | then-is_local w ↦ w.behind-is ∙ sym (behind_more ys i (final_symbol image y) true final_at (told ∙ w.if-is_local.true))
      | else-is_local w ↦ w.behind-is ∙ c.loop-i.invariant ∙ sym (behind_more ys i (final_symbol image y) false final_at (told ∙ w.if-is_local.false))
    ]

pub returns : goal.returns
returns c =
    c.loop-i.invariant
    ∙ behind_end c.args.read.now c.args.image.now c.requires.ready c.loop-i.i
    (omega (arith, c.loop-i-test.false, c.loop-i.auto.i-end, c.len-i-end.ensures, ap length c.dynamic_symbols-symbols.ensures.symbols))

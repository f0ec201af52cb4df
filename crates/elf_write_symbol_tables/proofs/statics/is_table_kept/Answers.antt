use Rattle.std.proofs.Common.{◌≡◌, ◌∙◌, Bool, true, false, refl, sym, ap}
use Rattle.std.specs.Prelude.{◌&&◌}
use Rattle.elf_write_symbols.specs.Final.{are_symbols_kept as are_kept}
use Rattle.elf_write_symbol_tables.proofs.statics.is_table_kept.Goals as goal

with_false : (b : Bool) → false ≡ (b && false)
with_false true = refl
with_false false = refl

with_true : (b : Bool) → b ≡ (b && true)
with_true true = refl
with_true false = refl

pub returns-then-not-is_copied : goal.returns-then-not-is_copied
returns-then-not-is_copied c =
    with_false (are_kept c.args.read.now c.args.image.now)
    ∙ ap (λ (b : Bool). are_kept c.args.read.now c.args.image.now && b) (sym (sym c.is_copied.ensures ∙ c.if-not-is_copied.true))

pub returns : goal.returns
returns c =
    c.are_symbols_kept.ensures
    ∙ with_true (are_kept c.args.read.now c.args.image.now)
    ∙ ap (λ (b : Bool). are_kept c.args.read.now c.args.image.now && b) (sym (sym c.is_copied.ensures ∙ c.if-not-is_copied.false))

-- Where all are there, the position is the number.
use Rattle.std.proofs.Common.{◌<◌, Bool, ℕ, List, length, refl, sym, ap, ◌∙◌, arith}
use Rattle.std.specs.Prelude.{slice_get}
use Rattle.std.proofs.lemmas.Option.{slice_get_read}
use Rattle.elf_image_symbols.proofs.ForCallers.Lengths.{length-counted, slice_get-counted}
use Rattle.elf_image_symbols.specs.EditedList.{EditedList}
use Rattle.elf_image_symbols.specs.Rising.{numbers_there}
use Rattle.elf_image_symbols.proofs.EditedLaws.{length-symbols}
use Rattle.elf_image_symbols.proofs.edited_symbols.EditedSymbols.number_at.Goals as goal

pub returns-then-self : goal.returns-then-self
returns-then-self c =
    let s = c.self.inside in
    let count : ℕ = length s.table in
    let there = ap (λ (b : Bool). numbers_there b count s.kept.items) c.if-self.true in
    let less : c.args.i < count =
    omega (arith, c.requires, length-symbols s c.self.invariant c.args.self.now c.self.view_is, ap (λ (l : List ℕ). length l) there, length-counted count) in
    ap (λ (l : List ℕ). slice_get l c.args.i) (sym (ap (λ (l : EditedList). l.numbers) c.self.view_is) ∙ there) ∙ slice_get-counted count c.args.i less

pub returns-else-self : goal.returns-else-self
returns-else-self c =
    let s = c.self.inside in
    let there = ap (λ (b : Bool). numbers_there b (length s.table) s.kept.items) c.if-self.false in
    let less : c.args.i < length s.kept.items =
    omega (arith, c.requires, length-symbols s c.self.invariant c.args.self.now c.self.view_is, ap (λ (l : List ℕ). length l) there) in
    ap (λ (l : List ℕ). slice_get l c.args.i) (sym (ap (λ (l : EditedList). l.numbers) c.self.view_is) ∙ there)
    ∙ slice_get_read s.kept.items (length s.kept.items) c.args.i c.index.result.now refl less c.index.ensures

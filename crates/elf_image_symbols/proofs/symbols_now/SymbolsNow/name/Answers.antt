-- The name that its change has, or the one that was read.
use Rattle.std.proofs.Common.{◌≡◌, ℕ, List, Some, None, length, sym, ap, ◌∙◌, subst}
use Rattle.std.specs.Prelude.{option_map}
use Rattle.std.specs.List.Sorted.{IsNonDecreasingBy}
use Rattle.elf_format.specs.Views.{NamedSymbol}
use Rattle.elf_image_symbols.specs.declared.change.Change.{Change}
use Rattle.elf_image_symbols.specs.Changes.{change_of, number_of}
use Rattle.elf_image_symbols.proofs.ChangeLaws.{changes_never_fall}
use Rattle.elf_image_symbols.proofs.SymbolLaws.{now-none, now-some, read_part}
use Rattle.elf_image_symbols.proofs.EditedLaws.{number_below, symbol_is}
use Rattle.elf_image_symbols.proofs.symbols_now.SymbolsNow.name.Goals as goal

name_of : NamedSymbol → List ℕ
name_of y = y.name

pub find-requires : goal.find-requires
find-requires c =
    subst (IsNonDecreasingBy number_of) (sym c.deref.ensures.value)
    (changes_never_fall (length c.edited.inside.table) c.edited.inside.changes.items c.edited.invariant.changes.rising)

pub name-requires : goal.name-requires
name-requires c =
    number_below c.edited.inside c.edited.invariant c.args.self.now.edited.now c.edited.view_is c.args.i c.number_at-number.result c.number_at-number.ensures

pub returns-in-Some : goal.returns-in-Some
unfolding name_of
returns-in-Some c =
    let s = c.edited.inside in
    let n : ℕ = c.number_at-number.result in
    let found : change_of s.changes.items n ≡ Some c.in-Some.change.now = ap (λ (cs : List Change). change_of cs n) (sym c.deref.ensures.value) ∙ sym c.in-Some.ensures in
    ap (option_map name_of) (symbol_is s c.edited.invariant c.args.self.now.edited.now c.edited.view_is c.args.i n c.number_at-number.ensures)
    ∙ ap (λ (y : NamedSymbol). Some (name_of y)) (now-some s.table s.changes.items n c.in-Some.change.now found) ∙ ap (λ (l : List ℕ). Some l) (sym c.as_slice.ensures)

pub returns-in-None : goal.returns-in-None
unfolding name_of
returns-in-None c =
    let s = c.edited.inside in
    let e = c.args.self.now.edited.now in
    let n : ℕ = c.number_at-number.result in
    let found : change_of s.changes.items n ≡ None = ap (λ (cs : List Change). change_of cs n) (sym c.deref.ensures.value) ∙ sym c.in-None.ensures in
    let below = number_below s c.edited.invariant e c.edited.view_is c.args.i n c.number_at-number.ensures in
    ap (option_map name_of) (symbol_is s c.edited.invariant e c.edited.view_is c.args.i n c.number_at-number.ensures)
    ∙ ap (λ (y : NamedSymbol). Some (name_of y)) (now-none s.table s.changes.items n found) ∙ ap (λ (l : List ℕ). Some l) (read_part name_of s.table n c.name.result.now below c.name.ensures)

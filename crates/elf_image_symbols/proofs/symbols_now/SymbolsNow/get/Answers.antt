-- The symbol that was read, with its change where it has one.
use Rattle.std.proofs.Common.{◌≡◌, ℕ, List, Some, None, length, sym, ap, ◌∙◌, subst}
use Rattle.std.specs.List.Sorted.{IsNonDecreasingBy}
use Rattle.std.proofs.lemmas.Option.{get_or_from_slice_get}
use Rattle.elf_format.specs.Views.{NamedSymbol}
use Rattle.elf_image_symbols.specs.SymbolModel.{symbol_model}
use Rattle.elf_image_symbols.specs.declared.change.Change.{Change}
use Rattle.elf_image_symbols.specs.Changes.{change_of, changed_by, no_symbol, number_of, read_at}
use Rattle.elf_image_symbols.proofs.ChangeLaws.{changes_never_fall}
use Rattle.elf_image_symbols.proofs.SymbolLaws.{now-none, now-some}
use Rattle.elf_image_symbols.proofs.EditedLaws.{number_below, symbol_is}
use Rattle.elf_image_symbols.proofs.symbols_now.SymbolsNow.get.Goals as goal

pub get-read-requires : goal.get-read-requires
get-read-requires c =
    number_below c.edited.inside c.edited.invariant c.args.self.now.edited.now c.edited.view_is c.args.i c.number_at-number.result c.number_at-number.ensures

pub find-requires : goal.find-requires
find-requires c =
    subst (IsNonDecreasingBy number_of) (sym c.deref.ensures.value)
    (changes_never_fall (length c.edited.inside.table) c.edited.inside.changes.items c.edited.invariant.changes.rising)

pub returns-in-Some : goal.returns-in-Some
returns-in-Some c =
    let s = c.edited.inside in
    let n : ℕ = c.number_at-number.result in
    let read : read_at s.table n ≡ symbol_model c.get-read.result = get_or_from_slice_get s.table n (symbol_model c.get-read.result) no_symbol c.get-read.ensures in
    let found : change_of s.changes.items n ≡ Some c.in-Some.change.now = ap (λ (cs : List Change). change_of cs n) (sym c.deref.ensures.value) ∙ sym c.in-Some.ensures in
    symbol_is s c.edited.invariant c.args.self.now.edited.now c.edited.view_is c.args.i n c.number_at-number.ensures
    ∙ ap (λ (y : NamedSymbol). Some y) (now-some s.table s.changes.items n c.in-Some.change.now found ∙ ap (changed_by c.in-Some.change.now) read ∙ sym c.apply.ensures)

pub returns-in-None : goal.returns-in-None
returns-in-None c =
    let s = c.edited.inside in
    let n : ℕ = c.number_at-number.result in
    let read : read_at s.table n ≡ symbol_model c.get-read.result = get_or_from_slice_get s.table n (symbol_model c.get-read.result) no_symbol c.get-read.ensures in
    let found : change_of s.changes.items n ≡ None = ap (λ (cs : List Change). change_of cs n) (sym c.deref.ensures.value) ∙ sym c.in-None.ensures in
    symbol_is s c.edited.invariant c.args.self.now.edited.now c.edited.view_is c.args.i n c.number_at-number.ensures
    ∙ ap (λ (y : NamedSymbol). Some y) (now-none s.table s.changes.items n found ∙ read)

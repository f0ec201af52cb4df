-- The name that its change has, which has no NUL, or the one that was read.
use Rattle.std.proofs.Common.{◌≡◌, ℕ, List, Some, None, length, sym, ap, ◌∙◌, subst, inl, inr}
use Rattle.std.specs.Prelude.{◌==◌, ◌⊎◌, option_map}
use Rattle.std.specs.List.{list_any}
use Rattle.std.specs.List.Sorted.{IsNonDecreasingBy}
use Rattle.std.proofs.lemmas.Bool.{not-true}
use Rattle.elf_format.specs.Memory.{memory_of, text_at}
use Rattle.elf_format.specs.Views.{NamedSymbol}
use Rattle.elf_image_symbols.specs.FrontText.{front_text}
use Rattle.elf_image_symbols.proofs.FrontLaws.{front_text-again, front_text-stands, front_text-whole}
use Rattle.elf_image_symbols.specs.declared.change.Change.{Change}
use Rattle.elf_image_symbols.specs.Changes.{HasName, change_of, number_of, read_at}
use Rattle.elf_image_symbols.specs.EditedList.{IsName}
use Rattle.elf_image_symbols.proofs.ChangeLaws.{change_of-some, changes_never_fall}
use Rattle.elf_image_symbols.proofs.SymbolLaws.{now-none, now-some, read_part}
use Rattle.elf_image_symbols.proofs.EditedLaws.{number_below, symbol_is}
use Rattle.elf_image_symbols.proofs.symbols_now.SymbolsNow.name_front.Goals as goal

name_of : NamedSymbol → List ℕ
name_of y = y.name

-- a name that was read, or has no NUL, is the text at its own front
front_of_name : (front read name : List ℕ) → Some read ≡ text_at (length front) (memory_of front) 0 → (name ≡ read) ⊎ IsName name → front_text name ≡ name
front_of_name front read name stands has = elim has [
  | inl same ↦ subst (λ (n : List ℕ). front_text n ≡ n) (sym same) (front_text-again front read (sym stands))
  | inr is_name ↦ front_text-whole name (not-true (list_any (λ byte. byte == 0) name) is_name)
]

pub name_front-read-requires : goal.name_front-read-requires
name_front-read-requires c =
    number_below c.edited.inside c.edited.invariant c.args.self.now.edited.now c.edited.view_is c.args.i c.number_at-number.result c.number_at-number.ensures

pub find-requires : goal.find-requires
find-requires c =
    subst (IsNonDecreasingBy number_of) (sym c.deref.ensures.value)
    (changes_never_fall (length c.edited.inside.table) c.edited.inside.changes.items c.edited.invariant.changes.rising)

pub returns : goal.returns
unfolding name_of
returns c =
    let s = c.edited.inside in
    let e = c.args.self.now.edited.now in
    let n : ℕ = c.number_at-number.result in
    let front : List ℕ = c.name_front-read.result.now in
    let found : change_of s.changes.items n ≡ Some c.in-Some.change.now = ap (λ (cs : List Change). change_of cs n) (sym c.deref.ensures.value) ∙ sym c.in-Some.ensures in
    let (has, at) = change_of-some (HasName s.table) s.changes.items n c.in-Some.change.now c.edited.invariant.changes.named found in
    let name : List ℕ = c.in-Some.change.now.name.bytes in
    let is_named = subst (λ (k : ℕ). (name ≡ (read_at s.table k).name) ⊎ IsName name) at has in
    let below = number_below s c.edited.invariant e c.edited.view_is c.args.i n c.number_at-number.ensures in
    let stands = read_part (λ (y : NamedSymbol). Some y.name) s.table n (text_at (length front) (memory_of front) 0) below c.name_front-read.ensures in
    ap (option_map name_of) (symbol_is s c.edited.invariant e c.edited.view_is c.args.i n c.number_at-number.ensures)
    ∙ ap (λ (y : NamedSymbol). Some (name_of y)) (now-some s.table s.changes.items n c.in-Some.change.now found)
    ∙ ap (λ (l : List ℕ). Some l) (sym (front_of_name front (read_at s.table n).name name stands is_named))
    ∙ ap (λ (l : List ℕ). Some (front_text l)) (sym c.as_slice.ensures)

pub returns-in_default : goal.returns-in_default
unfolding name_of
returns-in_default c =
    let s = c.edited.inside in
    let e = c.args.self.now.edited.now in
    let n : ℕ = c.number_at-number.result in
    let front : List ℕ = c.name_front-read.result.now in
    let found : change_of s.changes.items n ≡ None = ap (λ (cs : List Change). change_of cs n) (sym c.deref.ensures.value) ∙ sym c.in_default.ensures in
    let below = number_below s c.edited.invariant e c.edited.view_is c.args.i n c.number_at-number.ensures in
    let stands = read_part (λ (y : NamedSymbol). Some y.name) s.table n (text_at (length front) (memory_of front) 0) below c.name_front-read.ensures in
    ap (option_map name_of) (symbol_is s c.edited.invariant e c.edited.view_is c.args.i n c.number_at-number.ensures)
    ∙ ap (λ (y : NamedSymbol). Some (name_of y)) (now-none s.table s.changes.items n found)
    ∙ ap (λ (l : List ℕ). Some l) (sym (front_text-stands front (read_at s.table n).name (sym stands)))

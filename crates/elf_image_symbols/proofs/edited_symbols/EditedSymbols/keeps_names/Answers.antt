-- All symbols are there, and each change leaves the name of its symbol.
use Rattle.std.proofs.Common.{◌<◌, ℕ, List, length, sym, ap, ◌∙◌, subst}
use Rattle.std.specs.List.{All}
use Rattle.std.proofs.lemmas.Bool.{both_ways, false≢true}
use Rattle.std.proofs.lemmas.List.{length-map}
use Rattle.elf_format.specs.Views.{NamedSymbol}
use Rattle.elf_image_symbols.specs.declared.change.Change.{Change}
use Rattle.elf_image_symbols.specs.Changes.{Leaves, number_of}
use Rattle.elf_image_symbols.proofs.ChangeLaws.{changes_below}
use Rattle.elf_image_symbols.proofs.EditedLaws.{keeps_part, whole_is}
use Rattle.elf_image_symbols.proofs.edited_symbols.EditedSymbols.keeps_names.Goals as goal

name_of : NamedSymbol → List ℕ
name_of y = y.name

pub returns-then-not-are_all_there : goal.returns-then-not-are_all_there
unfolding name_of
returns-then-not-are_all_there c = (
  λ h. absurd (false≢true h),
  λ same.
      absurd (both_ways c.are_all_there.result c.if-not-are_all_there.true
      (c.are_all_there.ensures.symbols.1 (sym (length-map c.args.self.now.symbols name_of) ∙ ap (λ (l : List (List ℕ)). length l) same ∙ length-map c.args.self.now.read name_of))),
)

pub keep_names-requires : goal.keep_names-requires
keep_names-requires c =
    subst (λ (cs : List Change). All (λ (d : Change). number_of d < length c.self.inside.table) cs) (sym c.deref.ensures.value)
    (changes_below (length c.self.inside.table) c.self.inside.changes.items c.self.invariant.changes.rising)

pub returns : goal.returns
returns c =
    let whole = c.are_all_there.ensures.numbers.0 c.if-not-are_all_there.false in
    let e = c.args.self.now in
    let Keep : List Change → Type 0 = λ cs. All (Leaves (λ (y : NamedSymbol). y.name) c.self.inside.table) cs in
    let keeps = keeps_part c.self.inside c.self.invariant e c.self.view_is (λ (y : NamedSymbol). y.name) (whole_is c.self.inside c.self.invariant e c.self.view_is whole) in (
      λ h. keeps.0 (subst Keep c.deref.ensures.value (c.keep_names.ensures.0 h)),
      λ same. c.keep_names.ensures.1 (subst Keep (sym c.deref.ensures.value) (keeps.1 same)),
    )

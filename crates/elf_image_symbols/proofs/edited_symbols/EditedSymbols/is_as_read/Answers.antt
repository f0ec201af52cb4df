-- All symbols are there, and each change leaves its symbol as it was.
use Rattle.std.proofs.Common.{◌<◌, List, length, map-id, sym, ◌∙◌, subst}
use Rattle.std.specs.List.{All}
use Rattle.elf_format.specs.Views.{NamedSymbol}
use Rattle.elf_image_symbols.specs.declared.change.Change.{Change}
use Rattle.elf_image_symbols.specs.Changes.{Leaves, number_of}
use Rattle.elf_image_symbols.proofs.ChangeLaws.{changes_below}
use Rattle.elf_image_symbols.proofs.EditedLaws.{keeps_part, whole_is}
use Rattle.elf_image_symbols.proofs.edited_symbols.EditedSymbols.is_as_read.Goals as goal

pub are_idle-requires : goal.are_idle-requires
are_idle-requires c =
    subst (λ (cs : List Change). All (λ (d : Change). number_of d < length c.self.inside.table) cs) (sym c.deref.ensures.value)
    (changes_below (length c.self.inside.table) c.self.inside.changes.items c.self.invariant.changes.rising)

pub returns : goal.returns
returns c =
    let whole = c.are_all_there.ensures.numbers.0 c.if-not-are_all_there.false in
    let e = c.args.self.now in
    let Idle : List Change → Type 0 = λ cs. All (Leaves (λ (y : NamedSymbol). y) c.self.inside.table) cs in
    let keeps = keeps_part c.self.inside c.self.invariant e c.self.view_is (λ (y : NamedSymbol). y) (whole_is c.self.inside c.self.invariant e c.self.view_is whole) in (
      λ h. (whole, sym (map-id e.symbols) ∙ keeps.0 (subst Idle c.deref.ensures.value (c.are_idle.ensures.0 h)) ∙ map-id e.read),
      λ p. c.are_idle.ensures.1 (subst Idle (sym c.deref.ensures.value) (keeps.1 (map-id e.symbols ∙ p.1 ∙ sym (map-id e.read)))),
    )

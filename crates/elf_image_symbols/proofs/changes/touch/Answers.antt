-- The change that is put in makes nothing of its symbol, and stands in order.
use Rattle.std.proofs.Common.{List, length, refl, sym, ap, ◌∙◌, subst, arith}
use Rattle.std.specs.Prelude.{insert}
use Rattle.std.specs.List.Sorted.{IsNonDecreasingBy}
use Rattle.elf_image_symbols.specs.declared.change.Change.{Change}
use Rattle.elf_image_symbols.specs.Changes.{AreChanges, IsGapFor, idle_change, number_of, symbol_now}
use Rattle.elf_image_symbols.proofs.ChangeLaws.{changes_fit, changes_never_fall}
use Rattle.elf_image_symbols.proofs.SymbolLaws.{now-inserted}
use Rattle.elf_image_symbols.proofs.EditedLaws.{are_inserted}
use Rattle.elf_image_symbols.proofs.changes.touch.Goals as goal

pub place_of-requires : goal.place_of-requires
place_of-requires c =
    subst (IsNonDecreasingBy number_of) (sym c.deref.ensures.value) (changes_never_fall (length c.args.table.now) c.args.changes.now.items c.requires.changes.rising)

pub insert_reserved-requires-clause-room : goal.insert_reserved-requires-clause-room
insert_reserved-requires-clause-room c =
    let gap : IsGapFor c.args.changes.now.items c.args.number c.in-Err.k = subst (λ (cs : List Change). IsGapFor cs c.args.number c.in-Err.k) c.deref.ensures.value c.in-Err.ensures in
    let change : Change = idle_change c.args.table.now c.args.number in
    omega (arith, changes_fit (length c.args.table.now) c.args.changes.now.items c.requires.changes.rising change c.in-Err.k c.requires.there gap, c.requires.room)

pub returns-in-Err-clause-changes : goal.returns-in-Err-clause-changes
returns-in-Err-clause-changes c =
    let gap : IsGapFor c.args.changes.now.items c.args.number c.in-Err.k = subst (λ (cs : List Change). IsGapFor cs c.args.number c.in-Err.k) c.deref.ensures.value c.in-Err.ensures in
    let change : Change = idle_change c.args.table.now c.args.number in
    subst (AreChanges c.args.table.now) (sym (c.insert_reserved.ensures.items ∙ ap (insert c.args.changes.now.items c.in-Err.k) c.idle-change.ensures))
    (are_inserted c.args.table.now c.args.changes.now.items change c.in-Err.k c.requires.there gap refl c.requires.changes)

pub returns-in-Err-clause-same : goal.returns-in-Err-clause-same
returns-in-Err-clause-same c = λ m.
    let gap : IsGapFor c.args.changes.now.items c.args.number c.in-Err.k = subst (λ (cs : List Change). IsGapFor cs c.args.number c.in-Err.k) c.deref.ensures.value c.in-Err.ensures in
    let change : Change = idle_change c.args.table.now c.args.number in
    ap (λ (cs : List Change). symbol_now c.args.table.now cs m) (c.insert_reserved.ensures.items ∙ ap (insert c.args.changes.now.items c.in-Err.k) c.idle-change.ensures)
    ∙ now-inserted c.args.table.now c.args.changes.now.items change c.in-Err.k gap refl refl m

-- An entry stays, or is left out.
use Rattle.std.proofs.Common.{◌≡◌, ◌∙◌, ap, false, map, not, sym, true}
use Rattle.elf_image.specs.Dynamic.{Entry}
use Rattle.elf_image.specs.ImageModel.{entry_model}
use Rattle.elf_edits.specs.Changes.{test_model}
use Rattle.elf_edits.proofs.ListSteps.{put_none, put_one}
use Rattle.elf_edits.proofs.list.entries_without.Goals.{then-not-holds+in_ok-try_clone+in_ok-push, else-not-holds}
use Rattle.elf_edits.proofs.list.entries_without.Goals as goal

pub loop-entry-preserved : goal.loop-entry-preserved
loop-entry-preserved c =
    let es = c.args.entries.now in
    let i = c.loop-entry.entry-index in
    let x = c.entry-item.result in
    let keep = λ (e : Entry). not (test_model c.args.test.now e) in
    elim c.if-not-holds.branch [
      | then-not-holds+in_ok-try_clone+in_ok-push w ↦
          let stays : keep (entry_model x) ≡ true = ap not (sym c.holds.ensures ∙ w.if-not-holds.true) in
          ap (λ v. map entry_model v.items) w.made-is ∙ ap (map entry_model) w.in_ok-push.ensures.items
          ∙ put_one keep es i x c.loop-entry-test.true c.entry-item.is c.loop-entry.made.items w.in_ok-try_clone.field-0 c.loop-entry.invariant stays w.in_ok-try_clone.ensures
      | else-not-holds w ↦
          let goes : keep (entry_model x) ≡ false = ap not (sym c.holds.ensures ∙ w.if-not-holds.false) in
          ap (λ v. map entry_model v.items) w.made-is
          ∙ put_none keep es i x c.loop-entry-test.true c.entry-item.is (map entry_model c.loop-entry.made.items) c.loop-entry.invariant goes
    ]

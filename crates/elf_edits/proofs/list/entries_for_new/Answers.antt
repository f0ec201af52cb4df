-- A name gets an entry, or is in the set.
use Rattle.std.proofs.Common.{◌∙◌, ap, map, sym}
use Rattle.std.specs.HashSet.{keys}
use Rattle.elf_format.specs.declared.constants.TheConstants.{DT_NEEDED}
use Rattle.elf_image.specs.Dynamic.{Text}
use Rattle.elf_image.specs.ImageModel.{entry_model}
use Rattle.elf_edits.specs.Changes.{has_name}
use Rattle.elf_edits.proofs.ListSteps.{add_none, add_one}
use Rattle.elf_edits.proofs.list.entries_for_new.Goals.{then-not-contains+in_ok-text_entry+in_ok-push, else-not-contains}
use Rattle.elf_edits.proofs.list.entries_for_new.Goals as goal

pub loop-name-preserved : goal.loop-name-preserved
loop-name-preserved c =
    let has = has_name (keys c.args.set.now) in
    let i = c.loop-name.name-index in
    let x = c.name-item.result in
    let found = c.contains.ensures ∙ ap has c.as_slice.ensures.value in
    elim c.if-not-contains.branch [
      | then-not-contains+in_ok-text_entry+in_ok-push w ↦
          ap (λ v. map entry_model v.items) w.made-is ∙ ap (map entry_model) w.in_ok-push.ensures.items
          ∙ add_one has c.args.names.now i x c.loop-name-test.true c.name-item.is c.loop-name.made.items w.in_ok-text_entry.field-0 c.loop-name.invariant (sym found ∙ w.if-not-contains.true)
          (w.in_ok-text_entry.ensures ∙ ap (Text DT_NEEDED) w.as_slice-then-not-contains.ensures.value)
      | else-not-contains w ↦
          ap (λ v. map entry_model v.items) w.made-is
          ∙ add_none has c.args.names.now i x c.loop-name-test.true c.name-item.is (map entry_model c.loop-name.made.items) c.loop-name.invariant (sym found ∙ w.if-not-contains.false)
    ]

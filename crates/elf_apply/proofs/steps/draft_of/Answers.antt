-- One more edit is written; no edit of the batch is refused.
use Rattle.std.proofs.Common.{List, ap, sym, subst, ◌∙◌, arith}
use Rattle.std.proofs.lemmas.List.{take_all}
use Rattle.elf_image.specs.Image.{Image}
use Rattle.elf_edits.specs.declared.edit.ElfEdit.{ElfEdit}
use Rattle.elf_edits.specs.EditModel.{edit_model}
use Rattle.elf_edits.specs.Cause.{facts_of, first_cause}
use Rattle.elf_edits.specs.Decided.{all_edited}
use Rattle.elf_apply.specs.Drafted.{ListsEntries, OnlyShows}
use Rattle.elf_apply.specs.Taken.{edits_model}
use Rattle.elf_apply.proofs.BatchSteps.{accepted_at, none_yet, one_more}
use Rattle.elf_apply.proofs.steps.draft_of.Goals as goal

pub loop-edit-init : goal.loop-edit-init
loop-edit-init c = none_yet c.known_image-builder.result.now c.new-draft.result (c.new-draft.ensures c.known_image-builder.result.now)

pub write-requires-clause-free : goal.write-requires-clause-free
write-requires-clause-free c =
    ap (λ (i : Image). first_cause (edit_model c.edit-item.result) (facts_of i)) c.known_image-builder.ensures.same
    ∙ accepted_at (facts_of c.args.builder.now) c.args.edits.now 0 c.loop-edit.edit-index c.edit-item.result c.loop-edit-test.true c.edit-item.is c.requires

pub write-requires-clause-listed : goal.write-requires-clause-listed
write-requires-clause-listed c = subst (λ (i : Image). ListsEntries i) (sym c.known_image-builder.ensures.same) c.known_image-builder.ensures.lists

pub write-requires-clause-draft : goal.write-requires-clause-draft
write-requires-clause-draft c = c.loop-edit.invariant.draft

pub loop-edit-preserved : goal.loop-edit-preserved
loop-edit-preserved c =
    one_more c.args.edits.now c.loop-edit.edit-index c.edit-item.result c.known_image-builder.result.now c.loop-edit.draft c.write.new.self
    c.loop-edit-test.true c.edit-item.is c.loop-edit.invariant c.in_ok-write.ensures

pub returns : goal.returns
returns c =
    subst (λ (i : Image). OnlyShows i (all_edited (edits_model c.args.edits.now) i) c.loop-edit.draft) c.known_image-builder.ensures.same
    (subst (λ (l : List ElfEdit). OnlyShows c.known_image-builder.result.now (all_edited (edits_model l) c.known_image-builder.result.now) c.loop-edit.draft)
    (take_all c.loop-edit.edit-index c.args.edits.now (omega arith)) c.loop-edit.invariant)

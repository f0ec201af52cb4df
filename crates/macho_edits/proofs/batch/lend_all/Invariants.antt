use Rattle.std.proofs.Common.{◌≡◌, take}
use Rattle.macho_edits.specs.Batch.{calls_of}
use Rattle.macho_edits.specs.Edit.{AreTexts, calls_lent}
use Rattle.macho_edits.proofs.batch.lend_all.Given as goal

-- the edits so far are lent
abbrev pub invariant-loop-edit : goal.invariant-loop-edit
invariant-loop-edit l = record {
  calls : calls_lent l.lent.items ≡ calls_of (take l.edit-index l.edits);
  texts : AreTexts l.lent.items;
}

use Rattle.std.proofs.Common.{◌≡◌, drop}
use Rattle.patch_bytes.specs.ByteString.{bytes_of_each}
use Rattle.macho_edits.specs.Edit.{calls_lent}
use Rattle.macho_edits.specs.State.{edited_by}
use Rattle.macho_edits.proofs.batch.edit_all.Given as goal

-- what is left to edit makes of the list what all edits make of it as it was
abbrev pub invariant-loop-index : goal.invariant-loop-index
invariant-loop-index l =
    edited_by l.ctx l.index (calls_lent (drop l.index l.edits)) (bytes_of_each l.commands.items) ≡ edited_by l.ctx 0 (calls_lent l.edits) (bytes_of_each l.fn.commands.items)

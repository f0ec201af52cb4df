use Rattle.std.proofs.Common.{◌≡◌, ℕ, List, Some, None, Ok, ap, ◌∙◌}
use Rattle.std.specs.List.{position}
use Rattle.patch_bytes.specs.ByteString.{bytes_of_each}
use Rattle.macho_edits.specs.Call.Cause.{rpath_missing}
use Rattle.macho_edits.specs.Edited.{is_rpath_named}
use Rattle.macho_edits.specs.Refused.{cause_of}
use Rattle.macho_edits.proofs.DraftLaws.{position-bytes, removed}
use Rattle.macho_edits.proofs.EditedLaws.{known-Refuses, remove_rpath-none, remove_rpath-some}
use Rattle.macho_edits.proofs.draft.drop_rpath.Goals as goal

pub returns-in_default : goal.returns-in_default
returns-in_default c =
    let at : position (is_rpath_named c.args.ctx.le c.args.old.now) (bytes_of_each c.args.commands.now.items) ≡ None = position-bytes (is_rpath_named c.args.ctx.le c.args.old.now) c.args.commands.now.items None (cc) in
    rw (remove_rpath-none c.args.ctx c.args.old.now (bytes_of_each c.args.commands.now.items) at) (known-Refuses (cause_of c.missing_rpath.result) (rpath_missing c.args.old.now) c.missing_rpath.ensures)

pub returns : goal.returns
returns c =
    let at : position (is_rpath_named c.args.ctx.le c.args.old.now) (bytes_of_each c.args.commands.now.items) ≡ Some c.in-Some.place = position-bytes (is_rpath_named c.args.ctx.le c.args.old.now) c.args.commands.now.items (Some c.in-Some.place) (cc) in
    remove_rpath-some c.args.ctx c.args.old.now (bytes_of_each c.args.commands.now.items) c.in-Some.place at ∙ ap (λ (xs : List (List ℕ)). Ok xs) (removed c.args.commands.now.items c.remove.new.self.items c.in-Some.place c.remove.ensures.items)

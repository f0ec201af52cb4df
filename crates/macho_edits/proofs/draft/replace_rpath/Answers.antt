use Rattle.std.proofs.Common.{◌≡◌, ℕ, List, Some, None, Result, Ok, sym, ap, ◌∙◌}
use Rattle.std.specs.List.{position}
use Rattle.std.proofs.lemmas.Result.{err_from_is_err_and}
use Rattle.patch_bytes.specs.ByteString.{bytes_of_each}
use Rattle.macho_edits.specs.Call.{Cause}
use Rattle.macho_edits.specs.Call.Cause.{rpath_missing}
use Rattle.macho_edits.specs.Edited.{is_rpath_named, list_with_at}
use Rattle.macho_edits.specs.Refused.{cause_of}
use Rattle.macho_edits.specs.Built.{rpath_built}
use Rattle.macho_edits.proofs.DraftLaws.{position-bytes}
use Rattle.macho_edits.proofs.EditedLaws.{change_rpath-none, change_rpath-some, known-Refuses, placed-Refuses}
use Rattle.macho_edits.proofs.draft.replace_rpath.Goals as goal

pub returns-in_default : goal.returns-in_default
returns-in_default c =
    let at : position (is_rpath_named c.args.ctx.le c.args.old.now) (bytes_of_each c.args.commands.now.items) ≡ None = position-bytes (is_rpath_named c.args.ctx.le c.args.old.now) c.args.commands.now.items None (cc) in
    rw (change_rpath-none c.args.ctx c.args.old.now c.args.new.now (bytes_of_each c.args.commands.now.items) at) (known-Refuses (cause_of c.missing_rpath.result) (rpath_missing c.args.old.now) c.missing_rpath.ensures)

pub returns-in_err-built : goal.returns-in_err-built
returns-in_err-built c =
    let at : position (is_rpath_named c.args.ctx.le c.args.old.now) (bytes_of_each c.args.commands.now.items) ≡ Some c.in-Some.place = position-bytes (is_rpath_named c.args.ctx.le c.args.old.now) c.args.commands.now.items (Some c.in-Some.place) (cc) in
    let p = err_from_is_err_and c.from_residual.result c.from_residual.ensures.1 in
    rw (p.1, p.2, change_rpath-some c.args.ctx c.args.old.now c.args.new.now (bytes_of_each c.args.commands.now.items) c.in-Some.place at) (placed-Refuses (cause_of c.in_err-built.field-0.0) c.in-Some.place (rpath_built c.args.ctx c.args.new.now) (bytes_of_each c.args.commands.now.items) c.in_err-built.ensures)

pub returns : goal.returns
returns c =
    let at : position (is_rpath_named c.args.ctx.le c.args.old.now) (bytes_of_each c.args.commands.now.items) ≡ Some c.in-Some.place = position-bytes (is_rpath_named c.args.ctx.le c.args.old.now) c.args.commands.now.items (Some c.in-Some.place) (cc) in
    change_rpath-some c.args.ctx c.args.old.now c.args.new.now (bytes_of_each c.args.commands.now.items) c.in-Some.place at
    ∙ ap (λ (r : Result (List ℕ) Cause). list_with_at c.in-Some.place r (bytes_of_each c.args.commands.now.items)) c.in_ok-built.ensures
    ∙ ap (λ (xs : List (List ℕ)). Ok xs) (sym c.replace.ensures)

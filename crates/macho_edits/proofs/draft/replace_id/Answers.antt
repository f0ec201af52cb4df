use Rattle.std.proofs.Common.{◌≡◌, ℕ, List, [], get_or, Some, None, Result, Ok, sym, ap, ◌∙◌}
use Rattle.std.specs.List.{position}
use Rattle.std.proofs.lemmas.Result.{err_from_is_err_and}
use Rattle.patch_bytes.specs.ByteString.{bytes_of_each}
use Rattle.macho_image.specs.Command.{dylib_of}
use Rattle.macho_edits.specs.Built.{dylib_built}
use Rattle.macho_edits.specs.Call.{Cause}
use Rattle.macho_edits.specs.Edited.{is_id, list_with_at}
use Rattle.macho_edits.proofs.DraftLaws.{position-bytes}
use Rattle.macho_edits.proofs.EditedLaws.{change_install_id-none, change_install_id-some, id_place, placed-Refuses}
use Rattle.macho_edits.specs.Refused.{cause_of}
use Rattle.macho_edits.proofs.draft.replace_id.Goals as goal

pub returns-in_default : goal.returns-in_default
returns-in_default c =
    let at : position (is_id c.args.ctx.le) (bytes_of_each c.args.commands.now.items) ≡ None = position-bytes (is_id c.args.ctx.le) c.args.commands.now.items None (cc) in
    change_install_id-none c.args.ctx c.args.new.now (bytes_of_each c.args.commands.now.items) at

pub dylib_at-old-requires : goal.dylib_at-old-requires
dylib_at-old-requires c =
    let at : position (is_id c.args.ctx.le) (bytes_of_each c.args.commands.now.items) ≡ Some c.in-Some.place = position-bytes (is_id c.args.ctx.le) c.args.commands.now.items (Some c.in-Some.place) (cc) in
    let found = id_place c.args.ctx (bytes_of_each c.args.commands.now.items) c.in-Some.place at in
    let same = c.as_slice-2.ensures.value in
    record { inside = rw same found.0; fixed = rw same found.1 }

pub returns-in_err-built : goal.returns-in_err-built
returns-in_err-built c =
    let at : position (is_id c.args.ctx.le) (bytes_of_each c.args.commands.now.items) ≡ Some c.in-Some.place = position-bytes (is_id c.args.ctx.le) c.args.commands.now.items (Some c.in-Some.place) (cc) in
    let old : c.dylib_at-old.result ≡ dylib_of c.args.ctx.le (get_or (bytes_of_each c.args.commands.now.items) c.in-Some.place []) = rw c.as_slice-2.ensures.value at c.dylib_at-old.ensures in
    let p = err_from_is_err_and c.from_residual.result c.from_residual.ensures.1 in
    rw (p.1, p.2, change_install_id-some c.args.ctx c.args.new.now (bytes_of_each c.args.commands.now.items) c.in-Some.place at, ← old) (placed-Refuses (cause_of c.in_err-built.field-0.0) c.in-Some.place (dylib_built c.args.ctx c.args.new.now c.dylib_at-old.result) (bytes_of_each c.args.commands.now.items) c.in_err-built.ensures)

pub returns : goal.returns
returns c =
    let at : position (is_id c.args.ctx.le) (bytes_of_each c.args.commands.now.items) ≡ Some c.in-Some.place = position-bytes (is_id c.args.ctx.le) c.args.commands.now.items (Some c.in-Some.place) (cc) in
    let old : c.dylib_at-old.result ≡ dylib_of c.args.ctx.le (get_or (bytes_of_each c.args.commands.now.items) c.in-Some.place []) = rw c.as_slice-2.ensures.value at c.dylib_at-old.ensures in
    change_install_id-some c.args.ctx c.args.new.now (bytes_of_each c.args.commands.now.items) c.in-Some.place at
    ∙ rw (← old) (ap (λ (r : Result (List ℕ) Cause). list_with_at c.in-Some.place r (bytes_of_each c.args.commands.now.items)) c.in_ok-built.ensures ∙ ap (λ (xs : List (List ℕ)). Ok xs) (sym c.replace.ensures))

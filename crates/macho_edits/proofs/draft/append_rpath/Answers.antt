use Rattle.std.proofs.Common.{ℕ, List, Result, Ok, ap, ◌∙◌}
use Rattle.std.proofs.lemmas.Result.{err_from_is_err_and}
use Rattle.patch_bytes.specs.ByteString.{bytes_of_each}
use Rattle.macho_edits.specs.Built.{rpath_built}
use Rattle.macho_edits.specs.Call.{Cause}
use Rattle.macho_edits.specs.Edited.{list_with_last}
use Rattle.macho_edits.specs.Refused.{cause_of}
use Rattle.macho_edits.proofs.DraftLaws.{pushed}
use Rattle.macho_edits.proofs.EditedLaws.{add_rpath-edited, appended-Refuses}
use Rattle.macho_edits.proofs.draft.append_rpath.Goals as goal

pub returns-in_err-built : goal.returns-in_err-built
returns-in_err-built c =
    let p = err_from_is_err_and c.from_residual.result c.from_residual.ensures.1 in
    rw (p.1, p.2, add_rpath-edited c.args.ctx c.args.new.now (bytes_of_each c.args.commands.now.items)) (appended-Refuses (cause_of c.in_err-built.field-0.0) (rpath_built c.args.ctx c.args.new.now) (bytes_of_each c.args.commands.now.items) c.in_err-built.ensures)

pub returns : goal.returns
returns c =
    add_rpath-edited c.args.ctx c.args.new.now (bytes_of_each c.args.commands.now.items)
    ∙ ap (λ (r : Result (List ℕ) Cause). list_with_last r (bytes_of_each c.args.commands.now.items)) c.in_ok-built.ensures
    ∙ ap (λ (xs : List (List ℕ)). Ok xs) (pushed c.args.commands.now.items c.push.new.self.items c.owned.result c.in_ok-built.built.items c.in_ok-push.ensures.items c.owned.ensures)

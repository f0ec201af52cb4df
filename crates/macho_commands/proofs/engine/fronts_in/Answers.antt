use Rattle.std.proofs.Common.{inl, inr, refl, string_bytes, subst}
use Rattle.std.proofs.lemmas.Result.{err_from_is_err_and}
use Rattle.arwen_macho.specs.declared.macho.MachoType.{MachoType}
use Rattle.command_words.specs.Rows.{Text}
use Rattle.macho_commands.specs.Notes.{TellsOf}
use Rattle.macho_commands.proofs.engine.fronts_in.Goals as goal

pub returns-in_err-text-clause-err : goal.returns-in_err-text-clause-err
returns-in_err-text-clause-err c =
    let p = err_from_is_err_and c.from_residual.result c.from_residual.ensures.1 in
    rw (p.1, p.2) (inl refl)

pub returns-in-Ok-clause-ok : goal.returns-in-Ok-clause-ok
returns-in-Ok-clause-ok c = (c.in-Ok.ensures.ok, c.in-Ok.ensures.shows)

-- the line is that of the file that was read
pub returns-in-Ok-clause-told : goal.returns-in-Ok-clause-told
returns-in-Ok-clause-told c =
    let text : Text = string_bytes c.in_ok-text.text in
    let Of : MachoType → Type 0 = λ file. TellsOf c.args.notes c.path_to_binary.result.now file text in
    let At : Text → Type 0 = λ at. TellsOf c.args.notes at c.args.macho.now text in
    subst At c.path_to_binary.ensures (subst Of c.inner.ensures c.in_ok-text.ensures)

pub returns-in-Err-clause-err : goal.returns-in-Err-clause-err
returns-in-Err-clause-err c = inr (c.in-Err.error, c.in-Err.ensures.err, c.refusal.ensures)

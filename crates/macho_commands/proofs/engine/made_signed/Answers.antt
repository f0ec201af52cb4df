use Rattle.std.proofs.Common.{List, subst}
use Rattle.std.proofs.lemmas.Result.{err_from_is_err_and}
use Rattle.arwen_macho.specs.Fronts.{fronts_on}
use Rattle.arwen_macho.specs.declared.front.Front.{Front}
use Rattle.macho_commands.specs.Engine.{SignsBy, asked, pages_by}
use Rattle.macho_commands.specs.Meaning.{macho_command_model}
use Rattle.macho_commands.proofs.SigningLaws.{tells_signed, writes_signed}
use Rattle.macho_commands.proofs.engine.made_signed.Goals as goal

pub returns-in_err-fronts-clause-err : goal.returns-in_err-fronts-clause-err
returns-in_err-fronts-clause-err c =
    let p = err_from_is_err_and c.from_residual.result c.from_residual.ensures.1 in
    rw (p.1, p.2) (tells_signed c.args.signs (asked (macho_command_model c.args.command.now)) c.args.bytes.now _ c.in_err-fronts.ensures.err)

pub returns-clause-ok : goal.returns-clause-ok
returns-clause-ok c =
    let By : List Front → Type 0 = λ l. SignsBy (pages_by c.args.signs c.args.bytes.now) (fronts_on l c.args.bytes.now) c.in_ok-new.new in
    writes_signed c.args.signs (asked (macho_command_model c.args.command.now)) c.args.bytes.now c.in_ok-fronts.fronts.items c.in_ok-new.new c.requires c.in_ok-fronts.ensures.ok (subst By c.deref.ensures.value c.in_ok-new.ensures.ok)

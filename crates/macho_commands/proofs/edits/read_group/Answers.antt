-- A group's first word finds the row of its edit, whose values the words behind it are.
use Rattle.std.proofs.Common.{◌≡◌, Ok, Result, map, sym, ap, subst, ◌∙◌}
use Rattle.std.proofs.lemmas.Result.{err_from_is_err_and}
use Rattle.std.specs.Prelude.{IfErr, IfOk, option_map}
use Rattle.command_words.specs.Groups.{TellsWrong, Wrong, other_words}
use Rattle.command_words.specs.Rows.{row_model}
use Rattle.command_words.proofs.ForCallers.{by_row, fault_told, no_row, texts}
use Rattle.macho_edits.specs.Batch.{call_made}
use Rattle.macho_edits.specs.Call.{Call}
use Rattle.macho_commands.specs.Edits.{macho_edit}
use Rattle.macho_commands.specs.Meaning.{macho_lines, macho_command_model}
use Rattle.macho_commands.proofs.edits.read_group.Goals as goal

pub returns-in_err-row-clause-err : goal.returns-in_err-row-clause-err
returns-in_err-row-clause-err c =
    let p = err_from_is_err_and c.from_residual.result c.from_residual.ensures.1 in
    let wrong = c.in_err-row.ensures.err in
    let none = no_row macho_edit macho_lines (map row_model c.macho_table.result.now) (texts c.args.words.now) wrong.0 c.macho_table.ensures wrong.1 in
    rw (p.1, p.2) (fault_told c.args.group _ wrong.0 c.in_err-row.field-0.0 none wrong.2)

pub returns-in-Some-clause-ok : goal.returns-in-Some-clause-ok
returns-in-Some-clause-ok c =
    let asked = sym (ap (option_map macho_command_model) c.in-Some.is) ∙ c.in_ok-command.ensures in
    let is = by_row macho_edit macho_lines (map row_model c.macho_table.result.now) (texts c.args.words.now) (row_model c.in_ok-row.row.now) (texts c.in_ok-row.words.now) _ c.macho_table.ensures c.in_ok-row.ensures.ok asked in
    let Made : Result Call Wrong → Type 0 = λ r. IfOk c.edit_of.result (λ edit. r ≡ Ok (call_made edit)) in
    subst Made (sym is) c.edit_of.ensures.ok

pub returns-in-Some-clause-err : goal.returns-in-Some-clause-err
returns-in-Some-clause-err c =
    let asked = sym (ap (option_map macho_command_model) c.in-Some.is) ∙ c.in_ok-command.ensures in
    let is = by_row macho_edit macho_lines (map row_model c.macho_table.result.now) (texts c.args.words.now) (row_model c.in_ok-row.row.now) (texts c.in_ok-row.words.now) _ c.macho_table.ensures c.in_ok-row.ensures.ok asked in
    let Told : Result Call Wrong → Type 0 = λ r. IfErr c.edit_of.result (TellsWrong c.args.group r) in
    subst Told (sym is) c.edit_of.ensures.err

pub returns-in-None-clause-err : goal.returns-in-None-clause-err
returns-in-None-clause-err c =
    let asked = sym (ap (option_map macho_command_model) c.in-None.is) ∙ c.in_ok-command.ensures in
    let row = row_model c.in_ok-row.row.now in
    let words = texts c.in_ok-row.words.now in
    let is = by_row macho_edit macho_lines (map row_model c.macho_table.result.now) (texts c.args.words.now) row words _ c.macho_table.ensures c.in_ok-row.ensures.ok asked in
    fault_told c.args.group _ (other_words row.kind words) _ is c.other_words.ensures

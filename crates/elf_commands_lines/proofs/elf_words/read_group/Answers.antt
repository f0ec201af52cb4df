-- A group's first word finds the row of its edit, whose values the words behind it are.
use Rattle.std.proofs.Common.{◌≡◌, Ok, Result, map, refl, sym, ap, subst, ◌∙◌}
use Rattle.std.proofs.lemmas.Result.{err_from_is_err_and}
use Rattle.std.specs.Prelude.{IfErr, IfOk, option_map}
use Rattle.command_words.specs.Groups.{TellsWrong, Wrong, other_words}
use Rattle.command_words.specs.Rows.{row_model}
use Rattle.command_words.proofs.ForCallers.{by_row, fault_told, no_row, texts}
use Rattle.command_words.proofs.ForCallers.{told_by_values}
use Rattle.elf_commands_lines.specs.Groups.{GroupEdit, group_model}
use Rattle.elf_commands_lines.specs.ElfWords.{elf_edit}
use Rattle.elf_commands_lines.specs.Meaning.{elf_lines, reading_of}
use Rattle.elf_commands_lines.proofs.elf_words.read_group.Goals as goal

pub returns-in_err-row-clause-err : goal.returns-in_err-row-clause-err
returns-in_err-row-clause-err c =
    let p = err_from_is_err_and c.from_residual.result c.from_residual.ensures.1 in
    let wrong = c.in_err-row.ensures.err in
    let none = no_row elf_edit elf_lines (map row_model c.elf_table.result.now) (texts c.args.words.now) wrong.0 c.elf_table.ensures wrong.1 in
    rw (p.1, p.2) (fault_told c.args.group _ wrong.0 c.in_err-row.field-0.0 none wrong.2)

pub returns-in_err-command-clause-err : goal.returns-in_err-command-clause-err
returns-in_err-command-clause-err c =
    let p = err_from_is_err_and c.from_residual-in_err-command.result c.from_residual-in_err-command.ensures.1 in
    let row = row_model c.in_ok-row.row.now in
    let words = texts c.in_ok-row.words.now in
    let is = by_row elf_edit elf_lines (map row_model c.elf_table.result.now) (texts c.args.words.now) row words _ c.elf_table.ensures c.in_ok-row.ensures.ok refl in
    let e = c.in_err-command.field-0.0 in
    let Told : Result GroupEdit Wrong → Type 0 = λ r. TellsWrong c.args.group r e in
    rw (p.1, p.2) (subst Told (sym is) (told_by_values elf_edit (λ wrong. refl) c.args.group row.kind words _ e c.in_err-command.ensures.err))

pub returns-in-Some-clause-ok : goal.returns-in-Some-clause-ok
returns-in-Some-clause-ok c =
    let asked = sym (ap (option_map reading_of) c.in-Some.is) ∙ c.in_ok-command.ensures.ok in
    let is = by_row elf_edit elf_lines (map row_model c.elf_table.result.now) (texts c.args.words.now) (row_model c.in_ok-row.row.now) (texts c.in_ok-row.words.now) _ c.elf_table.ensures c.in_ok-row.ensures.ok asked in
    let Made : Result GroupEdit Wrong → Type 0 = λ r. IfOk c.edit_of.result (λ edit. r ≡ Ok (group_model edit)) in
    subst Made (sym is) c.edit_of.ensures.ok

pub returns-in-Some-clause-err : goal.returns-in-Some-clause-err
returns-in-Some-clause-err c =
    let asked = sym (ap (option_map reading_of) c.in-Some.is) ∙ c.in_ok-command.ensures.ok in
    let is = by_row elf_edit elf_lines (map row_model c.elf_table.result.now) (texts c.args.words.now) (row_model c.in_ok-row.row.now) (texts c.in_ok-row.words.now) _ c.elf_table.ensures c.in_ok-row.ensures.ok asked in
    let Told : Result GroupEdit Wrong → Type 0 = λ r. IfErr c.edit_of.result (TellsWrong c.args.group r) in
    subst Told (sym is) c.edit_of.ensures.err

pub returns-in-None-clause-err : goal.returns-in-None-clause-err
returns-in-None-clause-err c =
    let asked = sym (ap (option_map reading_of) c.in-None.is) ∙ c.in_ok-command.ensures.ok in
    let row = row_model c.in_ok-row.row.now in
    let words = texts c.in_ok-row.words.now in
    let is = by_row elf_edit elf_lines (map row_model c.elf_table.result.now) (texts c.args.words.now) row words _ c.elf_table.ensures c.in_ok-row.ensures.ok asked in
    fault_told c.args.group _ (other_words row.kind words) _ is c.other_words.ensures

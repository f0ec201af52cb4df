-- The values of the words are those that the row's command takes.
use Rattle.std.proofs.Common.{◌≡◌, ◌∙◌, Option, None, ap, subst, sym}
use Rattle.std.specs.Prelude.{IfErr, IfOk, option_and_then, option_map}
use Rattle.command_words.specs.Rows.{Given, given_model, meant_with}
use Rattle.command_words.specs.WordValues.{TellsValues}
use Rattle.elf_commands_lines.specs.Meaning.{elf_lines, reading_of}
use Rattle.elf_commands_lines.proofs.elf_words.command_without_path.Goals as goal

pub returns-in-Some-clause-ok : goal.returns-in-Some-clause-ok
returns-in-Some-clause-ok c =
    let given = sym (ap (option_map given_model) c.in-Some.is) ∙ c.in_ok-values.ensures in
    let Means : Option Given → Type 0 = λ o. IfOk c.command_with.result (λ command. option_map reading_of command ≡ option_and_then (meant_with elf_lines c.args.row.now.name.now) o) in
    subst Means given c.command_with.ensures.ok

pub returns-in-Some-clause-err : goal.returns-in-Some-clause-err
returns-in-Some-clause-err c =
    let given = sym (ap (option_map given_model) c.in-Some.is) ∙ c.in_ok-values.ensures in
    let Tells : Option Given → Type 0 = λ o. IfErr c.command_with.result (TellsValues c.args.group (option_and_then (meant_with elf_lines c.args.row.now.name.now) o)) in
    subst Tells given c.command_with.ensures.err

pub returns-in-None-clause-ok : goal.returns-in-None-clause-ok
returns-in-None-clause-ok c =
    let given : None ≡ _ = sym (ap (option_map given_model) c.in-None.is) ∙ c.in_ok-values.ensures in
    ap (option_and_then (meant_with elf_lines c.args.row.now.name.now)) given

-- The values that are found ask for the command of their name.
use Rattle.std.proofs.Common.{List, Bor, Ok, codes, map, sym, ◌∙◌, subst}
use Rattle.std.proofs.lemmas.Result.{IfErr-weaker, IfOk-weaker, err_from_is_err_and}
use Rattle.arwen_cli_faults.specs.Meaning.{elf_lines}
use Rattle.command_words.specs.Rows.{Named, Text, given_model}
use Rattle.arwen_cli_parser.specs.Parser.{IsTaken}
use Rattle.arwen_cli.proofs.Meanings.{found_meaning}
use Rattle.arwen_cli.proofs.cli.line.parse_elf.Goals as goal

abbrev texts : List (Bor Text) → List Text
texts = map (λ w. w.now)

pub returns-in_err-name-clause-refused : goal.returns-in_err-name-clause-refused
returns-in_err-name-clause-refused c =
    let p = err_from_is_err_and c.from_residual.result c.from_residual.ensures.1 in
    rw p.1 (λ meaning by.
    let taken = subst (λ (t : List Named). IsTaken (codes "elf") t (texts c.args.words.now) by.0) (sym c.elf_table.ensures) by.1 in
    p.2 ∙ c.in_err-name.ensures.refused by.0 taken)

pub returns-clause-means : goal.returns-clause-means
returns-clause-means c =
    let name = c.in_ok-name.name.now in
    let given = given_model c.in_ok-name.values in
    let taken = subst (λ (t : List Named). IsTaken (codes "elf") t (texts c.args.words.now) (name, given)) c.elf_table.ensures c.in_ok-name.ensures.taken in
    IfOk-weaker c.elf_command.result _ _ (λ command is. ((name, given), taken, is)) c.elf_command.ensures.means

pub returns-clause-refused : goal.returns-clause-refused
returns-clause-refused c =
    let name = c.in_ok-name.name.now in
    let given = given_model c.in_ok-name.values in
    let taken = subst (λ (t : List Named). IsTaken (codes "elf") t (texts c.args.words.now) (name, given)) c.elf_table.ensures c.in_ok-name.ensures.taken in
    IfErr-weaker c.elf_command.result _ _ (λ error refused meaning by.
    refused meaning (found_meaning (codes "elf") elf_lines (texts c.args.words.now) (name, given) (Ok meaning) taken by)) c.elf_command.ensures.refused

-- The values that are found ask for the command of their name.
use Rattle.std.proofs.Common.{List, Bor, codes, map, sym, ap, ◌∙◌, subst}
use Rattle.std.specs.Option.{option_map}
use Rattle.std.proofs.lemmas.Result.{IfErr-weaker, IfOk-weaker, err_from_is_err_and}
use Rattle.macho_commands.specs.Meaning.{macho_lines, macho_command_model}
use Rattle.command_words.specs.Rows.{Named, Text, given_model}
use Rattle.arwen_cli_parser.specs.Parser.{IsTaken}
use Rattle.arwen_cli.proofs.Meanings.{no_meaning}
use Rattle.arwen_cli.proofs.cli.line.parse_macho.Goals as goal

abbrev texts : List (Bor Text) → List Text
texts = map (λ w. w.now)

pub returns-in_err-name-clause-refused : goal.returns-in_err-name-clause-refused
returns-in_err-name-clause-refused c =
    let p = err_from_is_err_and c.from_residual.result c.from_residual.ensures.1 in
    rw p.1 (λ meaning by.
    let taken = subst (λ (t : List Named). IsTaken (codes "macho") t (texts c.args.words.now) by.0) (sym c.macho_table.ensures) by.1 in
    p.2 ∙ c.in_err-name.ensures.refused by.0 taken)

pub returns-clause-means : goal.returns-clause-means
returns-clause-means c =
    let name = c.in_ok-name.name.now in
    let given = given_model c.in_ok-name.values in
    let taken = subst (λ (t : List Named). IsTaken (codes "macho") t (texts c.args.words.now) (name, given)) c.macho_table.ensures c.in_ok-name.ensures.taken in
    IfOk-weaker c.or_usage.result _ _ (λ command is. ((name, given), taken, sym c.with_values.ensures ∙ ap (option_map macho_command_model) is)) c.or_usage.ensures.ok

pub returns-clause-refused : goal.returns-clause-refused
returns-clause-refused c =
    let name = c.in_ok-name.name.now in
    let given = given_model c.in_ok-name.values in
    let taken = subst (λ (t : List Named). IsTaken (codes "macho") t (texts c.args.words.now) (name, given)) c.macho_table.ensures c.in_ok-name.ensures.taken in
    IfErr-weaker c.or_usage.result _ _ (λ error none meaning by.
    absurd (no_meaning (codes "macho") macho_lines (texts c.args.words.now) (name, given) meaning taken by (ap (option_map macho_command_model) (sym none) ∙ c.with_values.ensures))) c.or_usage.ensures.none

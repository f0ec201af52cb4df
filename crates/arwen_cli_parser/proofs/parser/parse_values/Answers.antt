-- The command that the parser finds by its table, by its name and its rows.
use Rattle.std.proofs.Common.{map, sym, ap, ◌∙◌}
use Rattle.std.proofs.lemmas.Result.{IfErr-weaker, IfOk-weaker, err_from_is_err_and}
use Rattle.clap.specs.Walk.{rows_of}
use Rattle.clap.specs.Words.{found_of}
use Rattle.command_words.specs.Rows.{row_model}
use Rattle.arwen_cli_parser.specs.Parser.{taken_in}
use Rattle.arwen_cli_parser.proofs.Parsing.{by_parts, no_command, some≢none}
use Rattle.arwen_cli_parser.proofs.parser.parse_values.Goals as goal

pub returns-in_err-matches-clause-refused : goal.returns-in_err-matches-clause-refused
returns-in_err-matches-clause-refused c =
    let step = c.from_residual in
    let p = err_from_is_err_and step.result step.ensures.1 in
    rw p.1 (λ taken t. p.2 ∙ c.in_err-matches.ensures.refused t.0)

pub returns-in_default-clause-refused : goal.returns-in_default-clause-refused
returns-in_default-clause-refused c taken t =
    let found = sym c.in_ok-matches.ensures.taken.1 ∙ no_command _ c.in_default.ensures.rows in
    absurd (some≢none taken (sym (ap (taken_in (map row_model c.args.rows.now)) found) ∙ t.1))

pub returns-clause-taken : goal.returns-clause-taken
returns-clause-taken c =
    let parsed = c.in_ok-matches.ensures.taken in
    let found = sym parsed.1 ∙ by_parts _ c.in-Some.name.now (rows_of (found_of c.in-Some.found.now)) c.in-Some.ensures.name c.in-Some.ensures.rows in
    IfOk-weaker c.row_values.result _ _ (λ taken h. (parsed.0, ap (taken_in (map row_model c.args.rows.now)) found ∙ h)) c.row_values.ensures.taken

pub returns-clause-refused : goal.returns-clause-refused
returns-clause-refused c =
    let parsed = c.in_ok-matches.ensures.taken in
    let found = sym parsed.1 ∙ by_parts _ c.in-Some.name.now (rows_of (found_of c.in-Some.found.now)) c.in-Some.ensures.name c.in-Some.ensures.rows in
    IfErr-weaker c.row_values.result _ _ (λ error h taken t. h taken (sym (ap (taken_in (map row_model c.args.rows.now)) found) ∙ t.1)) c.row_values.ensures.refused

-- The parser's clauses, at the commands of a table, which are simple.
use Rattle.std.proofs.Common.{List, Bor, map, sym, ap, ◌∙◌}
use Rattle.std.proofs.lemmas.Result.{IfErr-weaker, IfOk-weaker}
use Rattle.clap.specs.Walk.{Text}
use Rattle.clap.specs.Words.{App, fault_of, is_simple_and_free, subcommand_of}
use Rattle.command_words.specs.Rows.{row_model}
use Rattle.arwen_cli_parser.proofs.Table.{table_simple}
use Rattle.arwen_cli_parser.proofs.parser.matches_by.Goals as goal

abbrev texts : List (Bor Text) → List Text
texts = map (λ w. w.now)

pub returns-clause-taken : goal.returns-clause-taken
returns-clause-taken c =
    let app_is = c.in_ok-line.ensures in
    let simple = ap is_simple_and_free app_is ∙ table_simple c.args.first.word.now (map row_model c.args.rows.now) c.requires in
    IfOk-weaker c.matches_of.result _ _ (λ found m. (ap (λ (a : App). fault_of a (texts c.args.words.now)) (sym app_is) ∙ (m simple).0, (m simple).1 ∙ ap (λ (a : App). subcommand_of a (texts c.args.words.now)) app_is)) c.matches_of.ensures.taken

pub returns-clause-refused : goal.returns-clause-refused
returns-clause-refused c =
    let app_is = c.in_ok-line.ensures in
    let simple = ap is_simple_and_free app_is ∙ table_simple c.args.first.word.now (map row_model c.args.rows.now) c.requires in
    IfErr-weaker c.matches_of.result _ _ (λ error h fault. h simple (ap (λ (a : App). fault_of a (texts c.args.words.now)) app_is ∙ fault)) c.matches_of.ensures.refused

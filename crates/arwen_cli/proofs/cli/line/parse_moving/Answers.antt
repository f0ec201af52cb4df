-- The values that are found ask for the command with the leave.
use Rattle.std.proofs.Common.{◌≡◌, ◌∙◌, List, ap, codes, map, subst, sym, true}
use Rattle.std.specs.Option.{option_map}
use Rattle.std.proofs.lemmas.Result.{IfOk-weaker}
use Rattle.command_words.specs.Rows.{Given, Named, Text, given_model, named_of}
use Rattle.arwen_cli_faults.specs.Meaning.{elf_command_model, elf_lines}
use Rattle.arwen_cli_options.specs.Lines.{without_move}
use Rattle.arwen_cli.specs.Moving.{takes_leave}
use Rattle.arwen_cli_parser.specs.Parser.{IsTaken}
use Rattle.arwen_cli.proofs.Meanings.{texts}
use Rattle.arwen_cli.proofs.cli.line.parse_moving.Goals as goal

pub returns : goal.returns
returns c =
    let name : Text = c.in_ok-name.name.now in
    let given : Given = given_model c.in_ok-name.values in
    let heard : texts c.as_slice.result.now ≡ without_move (texts c.args.words.now) = ap texts c.as_slice.ensures.value ∙ c.in_ok-heard.ensures in
    let by_table = subst (λ (t : List Named). IsTaken (codes "elf") t (texts c.as_slice.result.now) (name, given)) c.elf_table.ensures c.in_ok-name.ensures.taken in
    let taken = subst (λ (ws : List Text). IsTaken (codes "elf") (map named_of elf_lines) ws (name, given)) heard by_table in
    let leave : takes_leave name ≡ true = sym c.takes_leave.ensures ∙ c.if-not-takes_leave.false in
    IfOk-weaker c.or_usage.result _ _ (λ command is. ((name, given), taken, leave, sym c.in_ok-command.ensures ∙ ap (option_map elf_command_model) is)) c.or_usage.ensures.ok

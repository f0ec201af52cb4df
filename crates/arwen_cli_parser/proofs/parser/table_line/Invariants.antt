use Rattle.std.proofs.Common.{◌≡◌, map, take}
use Rattle.clap.specs.Words.{app_of}
use Rattle.command_words.specs.Rows.{row_model}
use Rattle.arwen_cli_parser.specs.Parser.{line_app}
use Rattle.arwen_cli_parser.proofs.parser.table_line.Given as goal

abbrev pub invariant-loop-row : goal.invariant-loop-row
invariant-loop-row l = app_of l.line ≡ line_app l.first.word.now (map row_model (take l.row-index l.rows))

use Rattle.std.proofs.Common.{◌≡◌, map, drop}
use Rattle.command_words.specs.Rows.{named, row_model}
use Rattle.command_words.proofs.rows.find_row.Given as goal

abbrev pub invariant-loop-row : goal.invariant-loop-row
invariant-loop-row l = named (map row_model l.rows) l.name ≡ named (map row_model (drop l.row-index l.rows)) l.name

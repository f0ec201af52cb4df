use Rattle.std.proofs.Common.{◌≡◌, map, drop}
use Rattle.arwen_c.specs.CauseWords.{row_model, words_in}
use Rattle.arwen_c.proofs.cause_rows.words_among.Given as goal

abbrev pub invariant-loop-row : goal.invariant-loop-row
invariant-loop-row l = words_in (map row_model l.rows) l.number ≡ words_in (map row_model (drop l.row-index l.rows)) l.number

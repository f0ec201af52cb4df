use Rattle.std.proofs.Common.{sym, ◌∙◌}
use Rattle.command_words.proofs.WordLemmas.{number_parsed}
use Rattle.command_words.proofs.key_value.decimal_number.Goals as goal

pub returns-then-is_decimal : goal.returns-then-is_decimal
returns-then-is_decimal c =
    c.ok.ensures.value ∙ number_parsed c.args.word.now c.parse.result c.parse.ensures.value.0 (sym c.is_decimal.ensures ∙ c.if-is_decimal.true)

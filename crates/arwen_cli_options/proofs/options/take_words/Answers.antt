-- What a word gives stands before what the words behind it give.
use Rattle.std.proofs.Common.{Bor, [], List, get_or, map, refl, ◌+◌, drop}
use Rattle.arwen_cli_options.specs.Options.{Text, ahead, given_model, line_from, row_model, wants_model}
use Rattle.arwen_cli_options.proofs.Turns.{turned}
use Rattle.arwen_cli_options.proofs.options.take_words.Goals as goal

abbrev none : Bor Text
none = record { ref_ptr = (0, 0); now = [] }

pub loop-word-preserved : goal.loop-word-preserved
loop-word-preserved c =
    let i = c.loop-word.word-index in
    let words : List (Bor Text) = c.args.words.now in
    let text = λ (w : Bor Text). w.now in
    let told = λ (left : List (Bor Text)).
    ahead (map given_model c.loop-word.given.items) (line_from (map row_model c.args.rows.now) (wants_model c.loop-word.wants) (map text left)) in
    turned told words i none (get_or words i none) _ _ c.loop-word-test.true refl (c.in_ok-wants.ensures.means (map text (drop (i + 1) words))) c.loop-word.invariant

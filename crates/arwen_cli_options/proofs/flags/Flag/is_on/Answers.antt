-- A word that is neither the mark nor the option is passed over.
use Rattle.std.proofs.Common.{Bor, [], List, ap, cond, drop, false, get_or, map, refl, sym, true, ◌+◌, ◌∙◌}
use Rattle.arwen_cli_options.specs.Flags.{has_flag, is_flag_word}
use Rattle.arwen_cli_options.specs.Options.{Text}
use Rattle.arwen_cli_options.proofs.Turns.{turned}
use Rattle.arwen_cli_options.proofs.flags.Flag.is_on.Goals as goal

abbrev none : Bor Text
none = record { ref_ptr = (0, 0); now = [] }

pub loop-word-preserved : goal.loop-word-preserved
loop-word-preserved c =
    let i = c.loop-word.word-index in
    let words : List (Bor Text) = c.args.words.now in
    let told = λ (left : List (Bor Text)). has_flag (is_flag_word c.args.self) (map (λ w. w.now) left) in
    let left = told (drop (i + 1) words) in
    turned told words i none (get_or words i none) _ _ c.loop-word-test.true refl
    (ap (λ b. cond b false (cond (is_flag_word c.args.self (get_or words i none).now) true left)) (sym c.is_mark.ensures ∙ c.if-is_mark.false)
    ∙ ap (λ b. cond b true left) (sym c.is_word.ensures ∙ c.if-is_word.false)) c.loop-word.invariant

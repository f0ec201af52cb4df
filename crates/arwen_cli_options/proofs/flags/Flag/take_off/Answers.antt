-- A word stays, or is the option that is left out.
use Rattle.std.proofs.Common.{◌≡◌, ◌∙◌, [], Bor, ap, cond, false, get_or, sym, true}
use Rattle.std.proofs.lemmas.Bool.{false≢true}
use Rattle.arwen_cli_options.specs.Flags.{is_flag_word, is_mark}
use Rattle.arwen_cli_options.specs.Options.{Text}
use Rattle.arwen_cli_options.proofs.FlagLaws.{all_stay, one_goes, one_stays}
use Rattle.arwen_cli_options.proofs.flags.Flag.take_off.Goals.{else-is_open-via-then-is_open+else-is_word, else-is_open-via-else-is_open, then-is_mark, else-is_mark}
use Rattle.arwen_cli_options.proofs.flags.Flag.take_off.Goals as goal

abbrev none : Bor Text
none = record { ref_ptr = (0, 0); now = [] }

pub loop-word-preserved : goal.loop-word-preserved
loop-word-preserved c =
    let word : Text = (get_or c.args.words.now c.loop-word.word-index none).now in
    let plain : c.loop-word.is_open ≡ true → is_flag_word c.args.self word ≡ false = elim c.else-is_open.branch [
      | else-is_open-via-then-is_open+else-is_word w ↦ λ _. sym w.is_word.ensures ∙ w.if-is_word.false
      | else-is_open-via-else-is_open w ↦ λ is. absurd (false≢true (sym w.if-is_open.false ∙ is))
    ] in
    let after : c.if-is_mark.is_open ≡ cond (is_mark word) false c.loop-word.is_open = elim c.if-is_mark.branch [
      | then-is_mark w ↦ w.is_open-is ∙ ap (λ b. cond b false c.loop-word.is_open) (sym w.if-is_mark.true ∙ c.is_mark.ensures)
      | else-is_mark w ↦ w.is_open-is ∙ ap (λ b. cond b false c.loop-word.is_open) (sym w.if-is_mark.false ∙ c.is_mark.ensures)
    ] in
    one_stays (λ w. w.now) (is_flag_word c.args.self) c.args.words.now c.loop-word.word-index none c.loop-word.is_open c.if-is_mark.is_open
    c.loop-word.heard.items c.push.new.self.items _ c.loop-word-test.true plain after c.in_ok-push.ensures.items c.loop-word.invariant

pub returns : goal.returns
returns c = all_stay (λ w. w.now) (is_flag_word c.args.self) c.args.words.now c.loop-word.word-index c.loop-word.is_open c.loop-word.heard.items _ c.loop-word-test.false c.loop-word.invariant

pub loop-word-preserved-then-is_word : goal.loop-word-preserved-then-is_word
loop-word-preserved-then-is_word c =
    one_goes (λ w. w.now) (is_flag_word c.args.self) c.args.words.now c.loop-word.word-index none c.loop-word.is_open c.loop-word.heard.items _
    c.loop-word-test.true c.if-is_open.true (sym c.is_word.ensures ∙ c.if-is_word.true) c.loop-word.invariant

-- The pairs that were read stand before what the words behind them give.
use Rattle.std.proofs.Common.{◌+◌, ◌<◌, ◌≡◌, ◌∙◌, List, ℕ, arith, length, map, string_bytes, ap, sym, subst}
use Rattle.std.proofs.lemmas.List.{length_push, map_push}
use Rattle.std.proofs.lemmas.Result.{err_from_is_err_and}
use Rattle.command_words.specs.KeyValue.{key_value}
use Rattle.command_words.specs.WordValues.{TellsNoPair, text_pair_model}
use Rattle.command_words.proofs.PairLemmas.{IsPairedTo, Pairs, all_paired, one_paired, pair_unread}
use Rattle.command_words.proofs.word_values.pairs_of.Goals as goal

pub returns-in_err-pair_of-clause-err : goal.returns-in_err-pair_of-clause-err
returns-in_err-pair_of-clause-err c =
    let p = err_from_is_err_and c.from_residual-in_err-pair_of.result c.from_residual-in_err-pair_of.ensures.1 in
    let i : ℕ = c.loop-word.word-index in
    let w = c.word-item.result in
    let inside : i < length c.args.words.now = omega arith in
    let number : c.len.result + 1 ≡ i + 1 = ap (λ (n : ℕ). n + 1) (c.len.ensures ∙ c.loop-word.pairs.ok.0 ∙ c.loop-word.invariant.counted) in
    let Told : ℕ → Type 0 = λ at. TellsNoPair at c.as_str.result.now c.in_err-pair_of.field-0.0 in
    let Lent : List ℕ → Type 0 = λ b. TellsNoPair (i + 1) b c.in_err-pair_of.field-0.0 in
    let told = subst Lent c.as_str.ensures.value (subst Told number c.in_err-pair_of.ensures.err) in
    rw (p.1, p.2) (pair_unread string_bytes c.args.words.now i w inside c.word-item.is (map text_pair_model c.loop-word.pairs.items) c.in_err-pair_of.field-0.0 told c.loop-word.invariant.read)

pub loop-word-preserved : goal.loop-word-preserved
loop-word-preserved c =
    let i : ℕ = c.loop-word.word-index in
    let w = c.word-item.result in
    let inside : i < length c.args.words.now = omega arith in
    let is = c.in_ok-push.ensures.items in
    let items = c.loop-word.pairs.items in
    let pair = c.in_ok-pair_of.field-0 in
    let At : Pairs → Type 0 = λ l. IsPairedTo (map string_bytes c.args.words.now) (i + 1) l in
    record {
      counted = ap length is ∙ length_push items pair ∙ ap (λ (n : ℕ). n + 1) c.loop-word.invariant.counted;
      read = subst At (sym (ap (map text_pair_model) is ∙ map_push text_pair_model items pair))
          (one_paired string_bytes c.args.words.now i w inside c.word-item.is (map text_pair_model items) (text_pair_model pair) (ap key_value (sym c.as_str.ensures.value) ∙ c.in_ok-pair_of.ensures.ok) c.loop-word.invariant.read);
    }

pub returns-clause-ok : goal.returns-clause-ok
returns-clause-ok c =
    all_paired string_bytes c.args.words.now c.loop-word.word-index (map text_pair_model c.loop-word.pairs.items) (omega (arith, c.loop-word-test.false)) c.loop-word.invariant.read

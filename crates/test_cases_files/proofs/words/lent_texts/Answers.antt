-- The next word is the text of the next bytes, and behind the last none are left.
use Rattle.std.proofs.Common.{ℕ, List, [], ◌∷◌, ◌+◌, ◌++◌, ◌<◌, ◌≤◌, ◌≡◌, ◌∙◌, Vec, Global, ap, arith, rules, drop, length, map, subst, sym}
use Rattle.std.proofs.lemmas.List.{append-nil, drop_all, drop_more, map-append}
use Rattle.command_words.specs.Parts.{texts_lent}
use Rattle.test_cases_files.specs.Words.{AreTextsOf, IsTextOf}
use Rattle.test_cases_files.proofs.TextLaws.{AreTextsSoFar, next_text}
use Rattle.test_cases_files.proofs.words.lent_texts.Goals as goal

-- the bytes of each of some texts
abbrev bytes_of : List (Vec ℕ Global) → List (List ℕ)
bytes_of texts = map (λ text. text.items) texts

pub loop-text-preserved : goal.loop-text-preserved
loop-text-preserved c =
    let all = c.args.texts.now in
    let i = c.loop-text.text-index in
    let text = c.text-item.result in
    let word = c.text_of.result in
    let words = c.loop-text.words.items in
    let inside : i < length all = omega arith in
    let left : drop i all ≡ text ∷ drop (i + 1) all = let at = drop_more all i text inside in cc in
    let so_far = subst (λ (left : List (Vec ℕ Global)). AreTextsSoFar (bytes_of all) (bytes_of left) (texts_lent words)) left c.loop-text.invariant in
    let is = subst (λ (bytes : List ℕ). IsTextOf bytes word.now) c.as_slice.ensures.value c.text_of.ensures in
    let pushed : texts_lent c.push.new.self.items ≡ texts_lent words ++ word.now ∷ [] =
    ap texts_lent c.in_ok-push.ensures.items ∙ map-append (λ text. text.now) words (word ∷ []) in
    subst (AreTextsSoFar (bytes_of all) (bytes_of (drop (i + 1) all))) (sym pushed)
    (next_text (bytes_of all) (bytes_of (drop (i + 1) all)) text.items (texts_lent words) word.now is so_far)

pub returns : goal.returns
returns c =
    let all = c.args.texts.now in
    let words = texts_lent c.loop-text.words.items in
    let past : length all ≤ c.loop-text.text-index = omega arith in
    let so_far = subst (λ (left : List (Vec ℕ Global)). AreTextsSoFar (bytes_of all) (bytes_of left) words) (drop_all c.loop-text.text-index all past) c.loop-text.invariant in
    subst (AreTextsOf (bytes_of all)) (append-nil words) (so_far [] (search (rules)))

-- Texts that are UTF-8, and texts by two.
use Rattle.std.proofs.Common.{◌≡◌, ◌∷◌, [], ◌++◌, ◌∙◌, ap, arith, refl, sym, Bool, true, false, Err, List, Ok, ℕ, ◌+◌, ◌*◌, ◌<◌, ◌≤◌, drop, get_or, length, append-nil, append_assoc}
use Rattle.std.proofs.lemmas.List.{drop_more, map_push}
use Rattle.std.proofs.lemmas.Str.{IsUtf8-from_is_utf8, is_utf8-from_IsUtf8}
use Rattle.std.specs.Str.{IsUtf8, is_utf8}
use Rattle.arwen_c_edits.specs.Lent.{Text, pairs_in, text_model, texts_model, word_in}
use Rattle.arwen_c_edits.specs.declared.fault.WrongEdit.TheVariants.{NoText}
use Rattle.arwen_c_edits.specs.declared.lent.LentText.{LentText}
use Rattle.elf_edits.specs.EditModel.{pair_model, pairs_model}
use Rattle.elf_edits.specs.TextModel.{Bytes}

pub word_there : (text word : Text) → IsUtf8 text → word ≡ text → word_in text ≡ Ok word
word_there text word is same = rw (is_utf8-from_IsUtf8 text is) (ap Ok (sym same))

pub no_utf8 : (text : Text) → (IsUtf8 text → ⊥) → is_utf8 text ≡ false
no_utf8 text none = by (is_utf8 text) refl
  where
    by : (b : Bool) → is_utf8 text ≡ b → is_utf8 text ≡ false
    by true is = absurd (none (IsUtf8-from_is_utf8 text is))
    by false is = is

pub no_word : (text : Text) → (IsUtf8 text → ⊥) → word_in text ≡ Err NoText
no_word text none = rw (no_utf8 text none) refl

-- ## Texts by two

-- the pairs that were copied stand in front of those that are left
abbrev pub ArePairsTo : List LentText → ℕ → List (Bytes × Bytes) → Type 0
ArePairsTo texts i pairs = pairs_model pairs ++ pairs_in (texts_model (drop (2 * i) texts)) ≡ pairs_in (texts_model texts)

module _ (texts : List LentText) (i : ℕ) where
  pub pair_more : (pairs new : List (Bytes × Bytes)) (pair : Bytes × Bytes) (old other : LentText) → 2 * i + 1 < length texts
      → old ≡ get_or texts (2 * i) old → other ≡ get_or texts (2 * i + 1) other → pair_model pair ≡ (text_model old, text_model other)
      → new ≡ pairs ++ pair ∷ [] → ArePairsTo texts i pairs → ArePairsTo texts (i + 1) new
  pair_more pairs new pair old other inside at_old at_other is pushed before =
      let first : drop (2 * i) texts ≡ old ∷ drop (2 * i + 1) texts =
      drop_more texts (2 * i) old (omega arith) ∙ ap (λ t. t ∷ drop (2 * i + 1) texts) (sym at_old) in
      let second : drop (2 * i + 1) texts ≡ other ∷ drop (2 * i + 1 + 1) texts =
      drop_more texts (2 * i + 1) other inside ∙ ap (λ t. t ∷ drop (2 * i + 1 + 1) texts) (sym at_other) in
      let place : 2 * i + 1 + 1 ≡ 2 * (i + 1) = omega arith in
      let left : drop (2 * i) texts ≡ old ∷ other ∷ drop (2 * (i + 1)) texts =
      first ∙ ap (λ l. old ∷ l) second ∙ ap (λ n. old ∷ other ∷ drop n texts) place in
      let rest = pairs_in (texts_model (drop (2 * (i + 1)) texts)) in
      let shown : pairs_model new ≡ pairs_model pairs ++ (text_model old, text_model other) ∷ [] =
      ap pairs_model pushed ∙ map_push pair_model pairs pair ∙ ap (λ p. pairs_model pairs ++ p ∷ []) is in
      ap (λ l. l ++ rest) shown ∙ append_assoc (pairs_model pairs) ((text_model old, text_model other) ∷ []) rest
      ∙ ap (λ l. pairs_model pairs ++ pairs_in (texts_model l)) (sym left) ∙ before

pub no_pairs : (texts : List LentText) → length texts ≤ 1 → pairs_in (texts_model texts) ≡ []
no_pairs [] few = refl
no_pairs (last ∷ []) few = refl
no_pairs (old ∷ other ∷ rest) few = absurd (omega arith)

pub all_pairs : (texts : List LentText) (i : ℕ) (pairs : List (Bytes × Bytes)) → length (drop (2 * i) texts) ≤ 1 → ArePairsTo texts i pairs
    → pairs_model pairs ≡ pairs_in (texts_model texts)
all_pairs texts i pairs few before =
    sym (append-nil (pairs_model pairs)) ∙ ap (λ l. pairs_model pairs ++ l) (sym (no_pairs (drop (2 * i) texts) few)) ∙ before

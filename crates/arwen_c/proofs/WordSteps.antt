-- Texts that are words, read one after the other.
use Rattle.std.proofs.Common.{◌≡◌, ◌∷◌, [], ◌++◌, ◌∙◌, ap, refl, sym, subst, Bor, Err, List, Ok, Result, map, ℕ, ◌+◌, ◌<◌, ◌≤◌, drop, get_or, length, append-nil, append_assoc}
use Rattle.std.proofs.lemmas.List.{drop_all, drop_more, map_push}
use Rattle.std.proofs.lemmas.Str.{is_utf8-from_IsUtf8}
use Rattle.std.specs.Str.{IsUtf8}
use Rattle.arwen_c_edits.proofs.ForCallers.{no_utf8}
use Rattle.arwen_c_edits.specs.Lent.{Text, text_model}
use Rattle.arwen_c_edits.specs.declared.lent.LentText.{LentText}
use Rattle.std.specs.Prelude.{IfErr, MatchResult}
use Rattle.std.specs.Str.Lossy.{utf8_lossy}
use Rattle.elf_image.specs.Rules.{has_magic}
use Rattle.arwen_c.specs.Calls.{TellsAppliedByWords, TellsByWords, TellsOfWords}
use Rattle.arwen_c.specs.Made.{OrMemory}
use Rattle.arwen_c.specs.Words.{behind, group_behind, words_from}
use Rattle.arwen_c.specs.declared.answer.Made.{Made}
use Rattle.arwen_c.specs.declared.error.CallError.{CallError}
use Rattle.arwen_c.specs.declared.error.CallError.TheVariants.{Array, Elf, Macho, Memory, NoText, UnknownFormat, Words}

-- what a look past the end gives
abbrev pub no_text : LentText
no_text = record { bytes = record { ref_ptr = (0, 0); now = [] } }

-- words that were read, and what the texts behind them give
abbrev pub in_front : List Text → Result (List Text) ℕ → Result (List Text) ℕ
in_front done (Ok words) = Ok (done ++ words)
in_front done (Err group) = Err group

in_front-nil : (r : Result (List Text) ℕ) → in_front [] r ≡ r
in_front-nil (Ok words) = refl
in_front-nil (Err group) = refl

in_front-behind : (done : List Text) (word : Text) (r : Result (List Text) ℕ) → in_front done (behind word r) ≡ in_front (done ++ word ∷ []) r
in_front-behind done word (Ok words) = ap Ok (sym (append_assoc done (word ∷ []) words))
in_front-behind done word (Err group) = refl

-- what the texts from a place on give, the first of them in this group
abbrev pub from_place : List LentText → ℕ → ℕ → Result (List Text) ℕ
from_place texts i group = words_from group (map text_model (drop i texts))

-- the state of the loop: the words that were read stand in front of what is left
abbrev pub AreWordsTo : List LentText → ℕ → ℕ → List (Bor Text) → Type 0
AreWordsTo texts i group words = in_front (map (λ w. w.now) words) (from_place texts i group) ≡ words_from 0 (map text_model texts)

pub no_words : (texts : List LentText) → AreWordsTo texts 0 0 []
no_words texts = in_front-nil (from_place texts 0 0)

module _ (texts : List LentText) (i group : ℕ) (words : List (Bor Text)) (inside : i < length texts) (before : AreWordsTo texts i group words) where
  abbrev pub text : Text
  text = text_model (get_or texts i no_text)

  left : map text_model (drop i texts) ≡ text ∷ map text_model (drop (i + 1) texts)
  left = ap (map text_model) (drop_more texts i no_text inside)

  step : IsUtf8 text → from_place texts i group ≡ behind text (from_place texts (i + 1) (group_behind group text))
  unfolding words_from
  step is = ap (words_from group) left ∙ rw (is_utf8-from_IsUtf8 text is) refl

  pub word_more : (new : List (Bor Text)) (word : Bor Text) (next : ℕ) → IsUtf8 text → word.now ≡ text → new ≡ words ++ word ∷ [] → next ≡ group_behind group word.now
      → AreWordsTo texts (i + 1) next new
  word_more new word next is same pushed grouped =
      let done = map (λ (w : Bor Text). w.now) words in
      let shown : map (λ (w : Bor Text). w.now) new ≡ done ++ text ∷ [] =
      ap (map (λ (w : Bor Text). w.now)) pushed ∙ map_push (λ (w : Bor Text). w.now) words word ∙ ap (λ t. done ++ t ∷ []) same in
      let group_is : next ≡ group_behind group text = grouped ∙ ap (group_behind group) same in
      ap (λ l. in_front l (from_place texts (i + 1) next)) shown ∙ ap (λ n. in_front (done ++ text ∷ []) (from_place texts (i + 1) n)) group_is
      ∙ sym (in_front-behind done text (from_place texts (i + 1) (group_behind group text))) ∙ ap (in_front done) (sym (step is)) ∙ before

  pub no_word : (IsUtf8 text → ⊥) → words_from 0 (map text_model texts) ≡ Err group
  unfolding words_from
  no_word none =
      sym before ∙ ap (λ l. in_front (map (λ (w : Bor Text). w.now) words) (words_from group l)) left ∙ rw (no_utf8 text none) refl

pub all_words : (texts : List LentText) (i group : ℕ) (words : List (Bor Text)) → length texts ≤ i → AreWordsTo texts i group words
    → words_from 0 (map text_model texts) ≡ Ok (map (λ w. w.now) words)
unfolding words_from
all_words texts i group words past before =
    let done = map (λ (w : Bor Text). w.now) words in
    sym before ∙ ap (λ l. in_front done (words_from group (map text_model l))) (drop_all i texts past) ∙ ap Ok (append-nil done)

-- ## Errors

or_memory : (was tells : CallError → Type 0) → ((e : CallError) → was e → tells e) → (e : CallError) → OrMemory was e → OrMemory tells e
or_memory was tells follows Memory h = tt
or_memory was tells follows (Array fault) h = follows (Array fault) h
or_memory was tells follows (Words fault) h = follows (Words fault) h
or_memory was tells follows (NoText group) h = follows (NoText group) h
or_memory was tells follows UnknownFormat h = follows UnknownFormat h
or_memory was tells follows (Elf error) h = follows (Elf error) h
or_memory was tells follows (Macho error) h = follows (Macho error) h

-- what an error tells of words that were read is told of the texts
pub told_of_words : (texts words : List Text) (name : List ℕ) (flags : ℕ) (file : List ℕ) → words_from 0 texts ≡ Ok words → (made : Result Made CallError)
    → IfErr made (OrMemory (TellsByWords (has_magic file) words (utf8_lossy name) flags file)) → IfErr made (TellsAppliedByWords texts name flags file)
told_of_words texts words name flags file is (Ok made) h = h
told_of_words texts words name flags file is (Err e) h =
    or_memory (TellsByWords (has_magic file) words (utf8_lossy name) flags file) (TellsOfWords texts name flags file)
    (λ x told.
    let Told : Result (List Text) ℕ → Type 0 = λ r. MatchResult r
    (λ found. TellsByWords (has_magic file) found (utf8_lossy name) flags file x) (λ group. x ≡ NoText group) in
    subst Told (sym is) told)
    e h

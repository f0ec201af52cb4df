-- Words of a line that stay, without an option.
use Rattle.std.proofs.Common.{◌≡◌, ◌∙◌, ◌+◌, ◌<◌, ◌≤◌, ◌++◌, append-nil, [], ◌∷◌, ℕ, Bool, List, ap, append_assoc, cond, drop, false, get_or, if◌then◌else◌, length, map, refl, sym, true}
use Rattle.std.proofs.lemmas.List.{at_drop_all, at_drop_more, map_push}
use Rattle.arwen_cli_options.specs.Flags.{is_mark, without_flag}
use Rattle.arwen_cli_options.specs.Options.{Text}

-- what stays of a word and those behind it, where the word isn't the option before the mark
stays_first : (is_flag mark wanted after : Bool) (word : Text) (some rest : List Text) → (wanted ≡ true → is_flag ≡ false) → after ≡ cond mark false wanted
    → cond wanted (cond is_flag some (cond mark (word ∷ rest) (word ∷ some))) (word ∷ rest) ≡ word ∷ cond after some rest
stays_first is_flag true true after word some rest plain is = rw (plain refl, is) refl
stays_first is_flag false true after word some rest plain is = rw (plain refl, is) refl
stays_first is_flag true false after word some rest plain is = rw is refl
stays_first is_flag false false after word some rest plain is = rw is refl

-- words by what holds them
module _ {S : Type 0} (text : S → Text) (is_flag : Text → Bool) (ws : List S) (i : ℕ) where
  -- what stays of words from the place on
  abbrev stays_from : Bool → List S → List Text
  stays_from wanted left = if wanted then without_flag is_flag (map text left) else map text left

  pub one_stays : (d : S) (wanted after : Bool) (old new : List S) (meant : List Text) → i < length ws → (wanted ≡ true → is_flag (text (get_or ws i d)) ≡ false)
      → after ≡ cond (is_mark (text (get_or ws i d))) false wanted → new ≡ old ++ get_or ws i d ∷ []
      → map text old ++ stays_from wanted (drop i ws) ≡ meant → map text new ++ stays_from after (drop (i + 1) ws) ≡ meant
  one_stays d wanted after old new meant inside plain is put before =
      let word : S = get_or ws i d in
      let rest : List Text = map text (drop (i + 1) ws) in
      ap (λ l. map text l ++ stays_from after (drop (i + 1) ws)) put
      ∙ ap (λ l. l ++ stays_from after (drop (i + 1) ws)) (map_push text old word)
      ∙ append_assoc (map text old) (text word ∷ []) (stays_from after (drop (i + 1) ws))
      ∙ ap (λ l. map text old ++ l) (sym (stays_first (is_flag (text word)) (is_mark (text word)) wanted after (text word) (without_flag is_flag rest) rest plain is)
      ∙ sym (at_drop_more (stays_from wanted) ws i d inside))
      ∙ before

  -- what stays where the word at the place is the option before the mark
  pub one_goes : (d : S) (wanted : Bool) (heard : List S) (meant : List Text) → i < length ws → wanted ≡ true → is_flag (text (get_or ws i d)) ≡ true
      → map text heard ++ stays_from wanted (drop i ws) ≡ meant → map text heard ++ stays_from wanted (drop (i + 1) ws) ≡ meant
  one_goes d wanted heard meant inside is_wanted is before =
      let word : Text = text (get_or ws i d) in
      let rest : List Text = map text (drop (i + 1) ws) in
      let some : List Text = without_flag is_flag rest in
      ap (λ l. map text heard ++ l) (sym (at_drop_more (stays_from wanted) ws i d inside
      ∙ ap (λ b. cond b (cond (is_flag word) some (cond (is_mark word) (word ∷ rest) (word ∷ some))) (word ∷ rest)) is_wanted
      ∙ ap (λ b. cond b some (cond (is_mark word) (word ∷ rest) (word ∷ some))) is
      ∙ ap (λ b. cond b some rest) (sym is_wanted)))
      ∙ before

  none_left : (wanted : Bool) → stays_from wanted [] ≡ []
  none_left true = refl
  none_left false = refl

  -- no word is left
  pub all_stay : (wanted : Bool) (heard : List S) (meant : List Text) → length ws ≤ i → map text heard ++ stays_from wanted (drop i ws) ≡ meant → map text heard ≡ meant
  all_stay wanted heard meant past before =
      sym (append-nil (map text heard)) ∙ ap (λ l. map text heard ++ l) (sym (at_drop_all (stays_from wanted) ws i past ∙ none_left wanted)) ∙ before

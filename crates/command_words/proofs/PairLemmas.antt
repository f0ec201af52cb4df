-- Pairs that are read from words one after another.
use Rattle.std.proofs.Common.{◌≡◌, ◌∷◌, [], ◌++◌, ◌<◌, ◌≤◌, ◌+◌, ◌-◌, List, Some, None, Result, Ok, Err, ℕ, arith, length, drop, get_or, map, refl, sym, ap, ◌∙◌, append-nil, append_assoc}
use Rattle.std.specs.Prelude.{option_map, slice_get}
use Rattle.std.proofs.lemmas.List.{drop-map, drop_all, drop_more}
use Rattle.std.proofs.lemmas.Option.{slice_get-get_or, slice_get-map}
use Rattle.command_words.specs.Groups.{Wrong}
use Rattle.command_words.specs.KeyValue.{key_value}
use Rattle.command_words.specs.Rows.{Text}
use Rattle.command_words.specs.WordValues.{TellsNoPair, TellsNoPairs, no_pair, pairs_from, then_pairs}
use Rattle.command_words.specs.declared.word_values.ValueError.{ValueError}
use Rattle.command_words.specs.declared.word_values.ValueError.TheVariants.{Memory, NoNumber, NoPair}

abbrev pub Pairs : Type 0
Pairs = List (Text × Text)

-- pairs that were read, and what the words behind them give
abbrev pub pairs_before : Pairs → Result Pairs Wrong → Result Pairs Wrong
pairs_before done (Ok pairs) = Ok (done ++ pairs)
pairs_before done (Err wrong) = Err wrong

pairs_before-then : (at : ℕ) (done : Pairs) (pair : Text × Text) (r : Result Pairs Wrong) → pairs_before done (then_pairs at (Some pair) r) ≡ pairs_before (done ++ pair ∷ []) r
pairs_before-then at done pair (Ok pairs) = ap Ok (sym (append_assoc done (pair ∷ []) pairs))
pairs_before-then at done pair (Err wrong) = refl

-- the state of the loop: the pairs that were read stand before what is left
abbrev pub IsPairedTo : List Text → ℕ → Pairs → Type 0
IsPairedTo words i done = pairs_before done (pairs_from (i + 1) (drop i words)) ≡ pairs_from 1 words

-- words by what holds them
module _ {S : Type 0} (bytes : S → Text) (ws : List S) where
  module _ (i : ℕ) (w : S) (inside : i < length ws) (at : w ≡ get_or ws i w) where
    left : drop i (map bytes ws) ≡ bytes w ∷ drop (i + 1) (map bytes ws)
    left = drop-map bytes i ws ∙ ap (map bytes) (drop_more ws i w inside ∙ ap (λ x. x ∷ drop (i + 1) ws) (sym at))
        ∙ ap (λ l. bytes w ∷ l) (sym (drop-map bytes (i + 1) ws))

    pairs_from-step : pairs_from (i + 1) (drop i (map bytes ws)) ≡ then_pairs (i + 1) (key_value (bytes w)) (pairs_from (i + 1 + 1) (drop (i + 1) (map bytes ws)))
    unfolding pairs_from
    pairs_from-step = ap (pairs_from (i + 1)) left

    pub one_paired : (done : Pairs) (pair : Text × Text) → key_value (bytes w) ≡ Some pair → IsPairedTo (map bytes ws) i done → IsPairedTo (map bytes ws) (i + 1) (done ++ pair ∷ [])
    one_paired done pair is before =
        let rest : Result Pairs Wrong = pairs_from (i + 1 + 1) (drop (i + 1) (map bytes ws)) in
        sym (pairs_before-then (i + 1) done pair rest) ∙ ap (λ o. pairs_before done (then_pairs (i + 1) o rest)) (sym is)
        ∙ ap (pairs_before done) (sym pairs_from-step) ∙ before

    pair_missing : (done : Pairs) → key_value (bytes w) ≡ None → IsPairedTo (map bytes ws) i done → pairs_from 1 (map bytes ws) ≡ Err (no_pair (i + 1))
    pair_missing done is before =
        let rest : Result Pairs Wrong = pairs_from (i + 1 + 1) (drop (i + 1) (map bytes ws)) in
        sym before ∙ ap (pairs_before done) pairs_from-step ∙ ap (λ o. pairs_before done (then_pairs (i + 1) o rest)) is

    here : slice_get (map bytes ws) i ≡ Some (bytes w)
    here = slice_get-map bytes ws i ∙ ap (option_map bytes) (slice_get-get_or ws i w inside ∙ ap (λ x. Some x) (sym at))

    -- the error of a word that is no pair is that of all words
    pub pair_unread : (done : Pairs) (e : ValueError) → TellsNoPair (i + 1) (bytes w) e → IsPairedTo (map bytes ws) i done → TellsNoPairs (map bytes ws) e
    pair_unread done Memory h before = tt
    pair_unread done (NoPair told place) h before =
        let counted : place - 1 ≡ i = omega (arith, h.2) in (
          pair_missing done h.0 before ∙ ap (λ p. Err (no_pair p)) (sym h.2),
          ap (λ p. slice_get (map bytes ws) p) counted ∙ here ∙ ap (λ t. Some t) (sym h.1),
        )
    pair_unread done (NoNumber told) h before = absurd h

  pub all_paired : (i : ℕ) (done : Pairs) → length ws ≤ i → IsPairedTo (map bytes ws) i done → pairs_from 1 (map bytes ws) ≡ Ok done
  unfolding pairs_from
  all_paired i done past before =
      sym before ∙ ap (λ l. pairs_before done (pairs_from (i + 1) l)) (drop-map bytes i ws ∙ ap (map bytes) (drop_all i ws past)) ∙ ap Ok (append-nil done)

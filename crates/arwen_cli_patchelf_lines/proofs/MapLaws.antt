-- The pairs of a map, one line further.
use Rattle.std.proofs.Common.{◌≡◌, ◌∙◌, ◌+◌, ◌<◌, ◌≤◌, ◌++◌, [], ◌∷◌, ℕ, Bor, List, Option, Some, None, Result, Ok, Err, ap, drop, get_or, length, map, sym}
use Rattle.std.specs.Prelude.{option_map}
use Rattle.std.proofs.lemmas.List.{at_drop_all, at_drop_more, map_push}
use Rattle.command_words.specs.Parts.{texts_lent}
use Rattle.arwen_cli_options.specs.Options.{Text}
use Rattle.arwen_cli_patchelf_lines.specs.NameMaps.{lent_pair, names_of, pair_of, pair_told, pairs_from, then_pairs}
use Rattle.arwen_cli_patchelf_lines.specs.declared.name_maps.MapWrong.{MapWrong}
use Rattle.arwen_cli_patchelf_lines.specs.declared.name_maps.NamePair.{NamePair}

abbrev pub Pairs : Type 0
Pairs = Result (List (Text × Text)) (MapWrong × ℕ)

module _ (lines : List (Bor Text)) (i : ℕ) (old : List NamePair) (meant : Pairs) (before : pairs_from (map lent_pair old) (i + 1) (texts_lent (drop i lines)) ≡ meant) where
  -- no line is left
  pub all_read : length lines ≤ i → meant ≡ Ok (map lent_pair old)
  all_read past = sym before ∙ at_drop_all (λ left. pairs_from (map lent_pair old) (i + 1) (texts_lent left)) lines i past

  -- what is found on the line at the place, behind the pairs so far
  module _ (d : Bor Text) (slice : List NamePair) (found : Option (Result NamePair MapWrong)) (inside : i < length lines) (same : slice ≡ old)
      (is : option_map pair_told found ≡ pair_of (map lent_pair slice) (names_of (get_or lines i d).now)) where
    rest : List (Text × Text) → Pairs
    rest more = pairs_from more (i + 1 + 1) (texts_lent (drop (i + 1) lines))

    here : meant ≡ then_pairs (map lent_pair old) (i + 1) (option_map pair_told found) rest
    unfolding rest
    here = sym before ∙ at_drop_more (λ left. pairs_from (map lent_pair old) (i + 1) (texts_lent left)) lines i d inside
        ∙ ap (λ one. then_pairs (map lent_pair old) (i + 1) one rest) (ap (λ l. pair_of (map lent_pair l) (names_of (get_or lines i d).now)) (sym same) ∙ sym is)

    pub one_read : (pair : NamePair) (told : Result NamePair MapWrong) (new : List NamePair) → found ≡ Some told → told ≡ Ok pair → new ≡ old ++ pair ∷ []
        → pairs_from (map lent_pair new) (i + 1 + 1) (texts_lent (drop (i + 1) lines)) ≡ meant
    unfolding rest
    one_read pair told new some ok put =
        ap (λ l. rest l) (ap (map lent_pair) put ∙ map_push lent_pair old pair)
        ∙ ap (λ one. then_pairs (map lent_pair old) (i + 1) (option_map pair_told one) rest) (sym (some ∙ ap (λ t. Some t) ok)) ∙ sym here

    pub ends_here : found ≡ None → meant ≡ Ok (map lent_pair old)
    ends_here none = here ∙ ap (λ one. then_pairs (map lent_pair old) (i + 1) (option_map pair_told one) rest) none

    pub wrong_here : (wrong : MapWrong) (told : Result NamePair MapWrong) → found ≡ Some told → told ≡ Err wrong → meant ≡ Err (wrong, i + 1)
    wrong_here wrong told some err = here ∙ ap (λ one. then_pairs (map lent_pair old) (i + 1) (option_map pair_told one) rest) (some ∙ ap (λ t. Some t) err)

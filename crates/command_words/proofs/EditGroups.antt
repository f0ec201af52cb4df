-- Reading groups of words one after another.
use Rattle.std.proofs.Common.{◌≡◌, ◌∷◌, [], ◌++◌, Ok, Err, List, Result, Bool, Bor, cond, true, false, map, ℕ, ◌+◌, ◌<◌, ◌≤◌, length, drop, get_or, refl, sym, ap, ◌∙◌, subst, append_assoc, append-nil}
use Rattle.std.specs.List.{onto_first, slice_split}
use Rattle.std.proofs.lemmas.List.{drop_all, drop_more, length_push, map_push}
use Rattle.command_words.specs.Groups.{TellsFault, TellsWrong, Wrong, behind, edits_by, edits_from, is_plus, then_edits}
use Rattle.command_words.specs.Rows.{Text}
use Rattle.command_words.specs.declared.edits.EditFault.{EditFault}
use Rattle.command_words.specs.declared.edits.EditsError.{EditsError}
use Rattle.command_words.specs.declared.edits.EditsError.TheVariants.{Fault, Memory}

abbrev pub texts : List (Bor Text) → List Text
texts = map (λ w. w.now)

abbrev pub is_plus_word : Bor Text → Bool
is_plus_word word = is_plus word.now

-- the groups of words that are behind references
abbrev pub groups_of : List (Bor Text) → List (List (Bor Text))
groups_of words = slice_split is_plus_word words

onto_first-texts : (word : Bor Text) (groups : List (List (Bor Text))) → onto_first word.now (map texts groups) ≡ map texts (onto_first word groups)
onto_first-texts word [] = refl
onto_first-texts word (group ∷ groups) = refl

slice_split-texts : (words : List (Bor Text)) → slice_split is_plus (texts words) ≡ map texts (groups_of words)
slice_split-texts [] = refl
slice_split-texts (word ∷ words) =
    ap (λ gs. cond (is_plus word.now) ([] ∷ gs) (onto_first word.now gs)) (slice_split-texts words) ∙ go (is_plus word.now)
  where
    go : (b : Bool) → cond b ([] ∷ map texts (groups_of words)) (onto_first word.now (map texts (groups_of words)))
        ≡ map texts (cond b ([] ∷ groups_of words) (onto_first word (groups_of words)))
    go true = refl
    go false = onto_first-texts word (groups_of words)

module _ {E : Type 0} where
  -- edits that were read, and what the groups behind them give
  abbrev pub in_front : List E → Result (List E) EditFault → Result (List E) EditFault
  in_front done (Ok edits) = Ok (done ++ edits)
  in_front done (Err fault) = Err fault

  in_front-nil : (r : Result (List E) EditFault) → in_front [] r ≡ r
  in_front-nil (Ok edits) = refl
  in_front-nil (Err fault) = refl

  in_front-behind : (done : List E) (edit : E) (r : Result (List E) EditFault) → in_front done (behind edit r) ≡ in_front (done ++ edit ∷ []) r
  in_front-behind done edit (Ok edits) = ap Ok (sym (append_assoc done (edit ∷ []) edits))
  in_front-behind done edit (Err fault) = refl

module _ {E : Type 0} (read : List Text → Result E Wrong) where
  -- what the groups from place i on give
  abbrev pub from_place : List (Bor Text) → ℕ → Result (List E) EditFault
  from_place words i = edits_from read i (map texts (drop i (groups_of words)))

  -- the state of the loop: the edits that were read stand in front of what is left
  abbrev pub IsReadTo : List (Bor Text) → ℕ → List E → Type 0
  IsReadTo words i done = in_front done (from_place words i) ≡ edits_by read (texts words)

  pub none_read : (words : List (Bor Text)) → IsReadTo words 0 []
  none_read words = in_front-nil (from_place words 0) ∙ ap (edits_from read 0) (sym (slice_split-texts words))

  module _ (words : List (Bor Text)) (i : ℕ) (group : List (Bor Text)) (inside : i < length (groups_of words)) (at : group ≡ get_or (groups_of words) i group) where
    left : drop i (groups_of words) ≡ group ∷ drop (i + 1) (groups_of words)
    left = drop_more (groups_of words) i group inside ∙ ap (λ g. g ∷ drop (i + 1) (groups_of words)) (sym at)

    from_place-step : from_place words i ≡ then_edits i (read (texts group)) (from_place words (i + 1))
    unfolding edits_from
    from_place-step = ap (λ gs. edits_from read i (map texts gs)) left

    pub one_read : (done : List E) (edit : E) → read (texts group) ≡ Ok edit → IsReadTo words i done → IsReadTo words (i + 1) (done ++ edit ∷ [])
    one_read done edit is before =
        sym (in_front-behind done edit (from_place words (i + 1))) ∙ ap (λ r. in_front done (then_edits i r (from_place words (i + 1)))) (sym is)
        ∙ ap (in_front done) (sym from_place-step) ∙ before

    pub fault_read : (done : List E) (e : EditsError) → TellsWrong i (read (texts group)) e → IsReadTo words i done → TellsFault (edits_by read (texts words)) e
    fault_read done Memory h before = tt
    fault_read done (Fault fault) h before =
        sym before ∙ ap (in_front done) from_place-step ∙ ap (λ r. in_front done (then_edits i r (from_place words (i + 1)))) h.1 ∙ ap Err (sym h.2)

  pub all_read : (words : List (Bor Text)) (i : ℕ) (done : List E) → length (groups_of words) ≤ i → IsReadTo words i done → edits_by read (texts words) ≡ Ok done
  unfolding edits_from
  all_read words i done past before =
      sym before ∙ ap (λ gs. in_front done (edits_from read i (map texts gs))) (drop_all i (groups_of words) past) ∙ ap Ok (append-nil done)

  -- the state after one more edit was pushed, where edits of the program mean edits
  pub pushed : {X : Type 0} (meant : X → E) (words : List (Bor Text)) (edits new : List X) (edit : X) → new ≡ edits ++ edit ∷ []
      → IsReadTo words (length edits + 1) (map meant edits ++ meant edit ∷ []) → IsReadTo words (length new) (map meant new)
  pushed meant words edits new edit is h =
      let counted : length new ≡ length edits + 1 = ap length is ∙ length_push edits edit in
      let shown : map meant new ≡ map meant edits ++ meant edit ∷ [] = ap (map meant) is ∙ map_push meant edits edit in
      let at : ℕ → List E → Type 0 = λ i done. IsReadTo words i done in
      subst (λ i. at i (map meant new)) (sym counted) (subst (λ done. at (length edits + 1) done) (sym shown) h)

-- Reading edits of a list one after the other.
use Rattle.std.proofs.Common.{◌≡◌, ◌∷◌, [], ◌++◌, Ok, Err, List, Result, map, ℕ, ◌+◌, ◌<◌, ◌≤◌, length, drop, get_or, refl, sym, ap, ◌∙◌, subst, append_assoc, append-nil}
use Rattle.std.proofs.lemmas.List.{drop_all, drop_more, map_push}
use Rattle.arwen_c_edits.specs.Faults.{TellsList, list_error}
use Rattle.arwen_c_edits.specs.Lent.{GivenEdit, Read, TellsWord, edit_model}
use Rattle.arwen_c_edits.specs.Lists.{behind, edits_from, then_edits}
use Rattle.arwen_c_edits.specs.declared.fault.ListError.{ListError}
use Rattle.arwen_c_edits.specs.declared.fault.ListFault.{ListFault}
use Rattle.arwen_c_edits.specs.declared.fault.ReadError.{ReadError}
use Rattle.arwen_c_edits.specs.declared.fault.ReadError.TheVariants.{Memory, Wrong}
use Rattle.arwen_c_edits.specs.declared.lent.LentEdit.{LentEdit}

-- what a look past the end gives
abbrev pub no_edit : LentEdit
no_edit = record { kind = 0; texts = record { ref_ptr = (0, 0); now = [] } }

module _ {E : Type 0} where
  -- edits that were read, and what those behind them give
  abbrev pub in_front : List E → Result (List E) ListFault → Result (List E) ListFault
  in_front done (Ok edits) = Ok (done ++ edits)
  in_front done (Err fault) = Err fault

  in_front-nil : (r : Result (List E) ListFault) → in_front [] r ≡ r
  in_front-nil (Ok edits) = refl
  in_front-nil (Err fault) = refl

  in_front-behind : (done : List E) (edit : E) (r : Result (List E) ListFault) → in_front done (behind edit r) ≡ in_front (done ++ edit ∷ []) r
  in_front-behind done edit (Ok edits) = ap Ok (sym (append_assoc done (edit ∷ []) edits))
  in_front-behind done edit (Err fault) = refl

module _ {E : Type 0} (read : GivenEdit → Read E) where
  -- what the edits from place i on give
  abbrev pub from_place : List LentEdit → ℕ → Result (List E) ListFault
  from_place edits i = edits_from read i (map edit_model (drop i edits))

  -- the state of the loop: the edits that were read stand in front of what is left
  abbrev pub IsReadTo : List LentEdit → ℕ → List E → Type 0
  IsReadTo edits i done = in_front done (from_place edits i) ≡ edits_from read 0 (map edit_model edits)

  pub none_read : (edits : List LentEdit) → IsReadTo edits 0 []
  none_read edits = in_front-nil (from_place edits 0)

  module _ (edits : List LentEdit) (i : ℕ) (inside : i < length edits) where
    abbrev pub edit : LentEdit
    edit = get_or edits i no_edit

    left : drop i edits ≡ edit ∷ drop (i + 1) edits
    left = drop_more edits i no_edit inside

    from_place-step : from_place edits i ≡ then_edits i (read (edit_model edit)) (from_place edits (i + 1))
    unfolding edits_from
    from_place-step = ap (λ es. edits_from read i (map edit_model es)) left

    one_read : (done : List E) (made : E) → read (edit_model edit) ≡ Ok made → IsReadTo edits i done → IsReadTo edits (i + 1) (done ++ made ∷ [])
    one_read done made is before =
        sym (in_front-behind done made (from_place edits (i + 1))) ∙ ap (λ r. in_front done (then_edits i r (from_place edits (i + 1)))) (sym is)
        ∙ ap (in_front done) (sym from_place-step) ∙ before

    -- one more edit is pushed behind those that were read, where edits of the program mean edits
    pub pushed : {X : Type 0} (meant : X → E) (done new : List X) (made : X) → read (edit_model edit) ≡ Ok (meant made) → new ≡ done ++ made ∷ []
        → IsReadTo edits i (map meant done) → IsReadTo edits (i + 1) (map meant new)
    pushed meant done new made is more before =
        let shown : map meant new ≡ map meant done ++ meant made ∷ [] = ap (map meant) more ∙ map_push meant done made in
        subst (λ (l : List E). IsReadTo edits (i + 1) l) (sym shown) (one_read (map meant done) (meant made) is before)

    pub fault_read : (done : List E) (error : ReadError) (e : ListError) → TellsWord (read (edit_model edit)) error → e ≡ list_error i error
        → IsReadTo edits i done → TellsList (edits_from read 0 (map edit_model edits)) e
    fault_read done error e told is before = subst (λ (x : ListError). TellsList (edits_from read 0 (map edit_model edits)) x) (sym is) (by error told)
      where
        by : (x : ReadError) → TellsWord (read (edit_model edit)) x → TellsList (edits_from read 0 (map edit_model edits)) (list_error i x)
        by Memory h = tt
        by (Wrong wrong) h =
            sym before ∙ ap (in_front done) from_place-step ∙ ap (λ r. in_front done (then_edits i r (from_place edits (i + 1)))) h

  pub all_read : (edits : List LentEdit) (i : ℕ) (done : List E) → length edits ≤ i → IsReadTo edits i done → edits_from read 0 (map edit_model edits) ≡ Ok done
  unfolding edits_from
  all_read edits i done past before =
      sym before ∙ ap (λ es. in_front done (edits_from read i (map edit_model es))) (drop_all i edits past) ∙ ap Ok (append-nil done)

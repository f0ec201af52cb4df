-- Pieces that turn bytes into others.
use Rattle.std.proofs.Common.{◌≡◌, ◌≤◌, ◌+◌, ◌-◌, ℕ, List, [], ◌∷◌, ◌++◌, length, take, drop, min, get_or, inl, inr, refl, sym, ap, ◌∙◌, subst, arith, All, Option, Some}
use Rattle.std.proofs.lemmas.Bool.{cases_lt}
use Rattle.std.proofs.lemmas.List.{append_assoc, drop-append-le, drop-drop, drop_all, drop_at, length-drop, length-take-le, map-append, take-append-drop, take-append-le, take-take, take_all, take_at}
use Rattle.std.proofs.lemmas.List.Elements.{All-head, All-push, All-same}
use Rattle.byte_store.specs.Known.{Becomes, IsAll, put_at}
use Rattle.byte_store.specs.Laid.{LiesIn, Patch, changed, laid, patch_of, patches_of}
use Rattle.byte_store.specs.Composed.{IsChange, Stands}
use Rattle.byte_store.specs.Replaced.{Turns}
use Rattle.byte_store.specs.declared.pieces.Piece.{Piece}
use Rattle.byte_store.proofs.LaidLaws.{laid-append, tail_lies}
use Rattle.byte_store.proofs.PutLaws.{take_sum}
use Rattle.byte_store.proofs.StandLaws.{stands_append}

-- what lies within the first bytes leaves those behind them
put_at-before : (at : ℕ) (part front rest : List ℕ) → at + length part ≤ length front → put_at at part (front ++ rest) ≡ put_at at part front ++ rest
put_at-before at part front rest inside =
    let end : ℕ = at + length part in
    ap (λ (xs : List ℕ). xs ++ (part ++ drop end (front ++ rest))) (take-append-le at front rest (omega arith))
    ∙ ap (λ (xs : List ℕ). take at front ++ (part ++ xs)) (drop-append-le end front rest inside)
    ∙ ap (λ (xs : List ℕ). take at front ++ xs) (sym (append_assoc part (drop end front) rest))
    ∙ sym (append_assoc (take at front) (part ++ drop end front) rest)

laid-before : (patches : List Patch) (front rest : List ℕ) → All (LiesIn (length front)) patches → laid patches (front ++ rest) ≡ laid patches front ++ rest
laid-before [] front rest inside = refl
laid-before (patch ∷ patches) front rest inside =
    ap (laid patches) (put_at-before patch.offset patch.bytes front rest (All-head (LiesIn (length front)) patch patches inside))
    ∙ laid-before patches (put_at patch.offset patch.bytes front) rest (tail_lies patch patches front inside)

-- the first bytes of one list, and the others of another: more of the first where both have the same there
same_next : (at n : ℕ) (old new : List ℕ) → take n (drop at old) ≡ take n (drop at new) → take at new ++ drop at old ≡ take (at + n) new ++ drop (at + n) old
same_next at n old new same =
    ap (λ (xs : List ℕ). take at new ++ xs) (sym (take-append-drop n (drop at old)))
    ∙ ap (λ (xs : List ℕ). take at new ++ (xs ++ drop n (drop at old))) same
    ∙ ap (λ (xs : List ℕ). take at new ++ (take n (drop at new) ++ xs)) (drop-drop n at old)
    ∙ sym (append_assoc (take at new) (take n (drop at new)) (drop (at + n) old))
    ∙ ap (λ (xs : List ℕ). xs ++ drop (at + n) old) (take_sum at n new)

-- the first bytes of one list, and the others of another: more of the first where a part of the first is laid there
next_over : (at n : ℕ) (old new : List ℕ) → at + n ≤ length new → put_at at (take n (drop at new)) (take at new ++ drop at old) ≡ take (at + n) new ++ drop (at + n) old
next_over at n old new inside =
    let part : List ℕ = take n (drop at new) in
    let front : List ℕ = take at new in
    let rest : List ℕ = drop at old in
    let long : length front ≡ at = length-take-le at new (omega arith) in
    let size : length part ≡ n = length-take-le n (drop at new) (omega (arith, length-drop at new)) in
    ap (λ (xs : List ℕ). xs ++ (part ++ drop (at + length part) (front ++ rest))) (take_at front rest at long)
    ∙ ap (λ (k : ℕ). front ++ (part ++ drop (at + k) (front ++ rest))) size
    ∙ ap (λ (xs : List ℕ). front ++ (part ++ xs)) (sym (drop-drop n at (front ++ rest)))
    ∙ ap (λ (xs : List ℕ). front ++ (part ++ drop n xs)) (drop_at front rest at long)
    ∙ ap (λ (xs : List ℕ). front ++ (part ++ xs)) (drop-drop n at old)
    ∙ sym (append_assoc front part (drop (at + n) old))
    ∙ ap (λ (xs : List ℕ). xs ++ drop (at + n) old) (take_sum at n new)

-- bytes that are the same between two positions
pub same_between : (at end : ℕ) (old new : List ℕ) → at ≤ end → take (end - at) (drop at old) ≡ take (end - at) (drop at new) → take at new ++ drop at old ≡ take end new ++ drop end old
same_between at end old new order same =
    let sum : at + (end - at) ≡ end = omega arith in
    same_next at (end - at) old new same ∙ ap (λ (k : ℕ). take k new ++ drop k old) sum

-- a piece of new bytes is put behind others
module _ (pieces more : List Piece) (p : Piece) (old new : List ℕ) (end : ℕ) (pushed : more ≡ pieces ++ p ∷ []) (is : p.bytes.now ≡ take (end - p.offset) (drop p.offset new)) (order : p.offset ≤ end) (within : end ≤ length new) where
  patch_pushed : patches_of more ≡ patches_of pieces ++ patch_of p ∷ []
  patch_pushed = ap patches_of pushed ∙ map-append patch_of pieces (p ∷ [])

  pub pushed_lies : length old ≡ length new → All (LiesIn (length old)) (patches_of pieces) → All (LiesIn (length old)) (patches_of more)
  pushed_lies long inside =
      let P : Patch → Type 0 = LiesIn (length old) in
      let size : length p.bytes.now ≡ end - p.offset = ap length is ∙ length-take-le (end - p.offset) (drop p.offset new) (omega (arith, length-drop p.offset new)) in
      let lies : LiesIn (length old) (patch_of p) = omega arith in
      All-same P (patches_of more) (patches_of pieces ++ patch_of p ∷ []) patch_pushed (All-push P (patches_of pieces) (patch_of p) inside lies)

  pub pushed_makes : laid (patches_of pieces) old ≡ take p.offset new ++ drop p.offset old → laid (patches_of more) old ≡ take end new ++ drop end old
  pushed_makes makes =
      let at : ℕ = p.offset in
      let sum : at + (end - at) ≡ end = omega arith in
      ap (λ (ps : List Patch). laid ps old) patch_pushed
      ∙ laid-append (patches_of pieces) (patch_of p ∷ []) old
      ∙ ap (put_at at p.bytes.now) makes
      ∙ ap (λ (xs : List ℕ). put_at at xs (take at new ++ drop at old)) is
      ∙ next_over at (end - at) old new (omega arith)
      ∙ ap (λ (k : ℕ). take k new ++ drop k old) sum

  -- the piece stands in the new bytes, and not in the old ones, from which its first block differs
  bytes_long : length p.bytes.now ≡ end - p.offset
  bytes_long = ap length is ∙ length-take-le (end - p.offset) (drop p.offset new) (omega (arith, length-drop p.offset new))

  pub pushed_stands : All (Stands new) (patches_of pieces) → All (Stands new) (patches_of more)
  pushed_stands stand =
      let P : Patch → Type 0 = Stands new in
      let size : p.offset + length p.bytes.now - p.offset ≡ end - p.offset = omega (arith, bytes_long) in
      let here : Stands new (patch_of p) = ap (λ (n : ℕ). take n (drop p.offset new)) size ∙ sym is in
      All-same P (patches_of more) (patches_of pieces ++ patch_of p ∷ []) patch_pushed (All-push P (patches_of pieces) (patch_of p) stand here)

  pub pushed_changes : (next : ℕ) → next ≤ end → (take (next - p.offset) (drop p.offset old) ≡ take (next - p.offset) (drop p.offset new) → ⊥) → All (IsChange old) (patches_of pieces) → All (IsChange old) (patches_of more)
  pushed_changes next within_run differs changes =
      let P : Patch → Type 0 = IsChange old in
      let at : ℕ = p.offset in
      let n : ℕ = next - at in
      let size : at + length p.bytes.now - at ≡ end - at = omega (arith, bytes_long) in
      let here : IsChange old (patch_of p) = λ stands.
      differs
      (sym (take-take n (at + length p.bytes.now - at) (drop at old) (omega arith))
      ∙ ap (take n) stands
      ∙ ap (take n) is
      ∙ take-take n (end - at) (drop at new) (omega arith)) in
      All-same P (patches_of more) (patches_of pieces ++ patch_of p ∷ []) patch_pushed (All-push P (patches_of pieces) (patch_of p) changes here)

-- pieces over the bytes that both have in common, what lies behind these, and a cut
module _ (common : ℕ) (old new : List ℕ) (is : common ≡ min (length old) (length new)) where
  same_behind : drop common new ≡ drop (length old) new
  same_behind =
      elim (cases_lt common (length old)) [
        | inl less ↦ drop_all common new (omega arith) ∙ sym (drop_all (length old) new (omega arith))
        | inr all ↦ ap (λ (k : ℕ). drop k new) (let same : common ≡ length old = omega arith in same)
      ]

  cut_back : take (length new) (take common new ++ (drop common old ++ drop common new)) ≡ new
  cut_back =
      elim (cases_lt common (length old)) [
        | inl less ↦
            let rest : List ℕ = drop common old ++ drop common new in
            ap (λ (xs : List ℕ). take (length new) (xs ++ rest)) (take_all common new (omega arith))
            ∙ take_at new rest (length new) refl
        | inr all ↦
            ap (λ (xs : List ℕ). take (length new) (take common new ++ (xs ++ drop common new))) (drop_all common old all)
            ∙ ap (take (length new)) (take-append-drop common new)
            ∙ take_all (length new) new (omega arith)
      ]

  turned_common : (patches : List Patch) → All (LiesIn (length (take common old))) patches → laid patches (take common old) ≡ take common new → changed (drop common new) patches (length new) old ≡ new
  turned_common patches inside makes =
      let growth : List ℕ = drop common new in
      let rest : List ℕ = drop common old ++ growth in
      let split : old ++ growth ≡ take common old ++ rest =
      ap (λ (xs : List ℕ). xs ++ growth) (sym (take-append-drop common old)) ∙ append_assoc (take common old) (drop common old) growth in
      ap (λ (xs : List ℕ). take (length new) (laid patches xs)) split
      ∙ ap (take (length new)) (laid-before patches (take common old) rest inside)
      ∙ ap (λ (xs : List ℕ). take (length new) (xs ++ rest)) makes
      ∙ cut_back

  -- what stands in the new bytes that both have in common stands in all of them
  stand_whole : (patches : List Patch) → All (LiesIn (length (take common old))) patches → All (Stands (take common new)) patches → All (Stands new) patches
  stand_whole patches inside stand i d below =
      let P : List ℕ → Type 0 = λ xs. Stands xs (get_or patches i d) in
      let lies : LiesIn (length (take common old)) (get_or patches i d) = inside i d below in
      let here : length (take common old) ≡ common = length-take-le common old (omega arith) in
      let there : length (take common new) ≡ common = length-take-le common new (omega arith) in
      subst P (take-append-drop common new)
      (stands_append (take common new) (drop common new) (get_or patches i d) (omega arith) (stand i d below))

  -- the growth is the rest of the new bytes, and the pieces are lent
  pub turned : (growth : List ℕ) (pieces lent : List Piece) → growth ≡ drop common new → lent ≡ pieces → All (LiesIn (length (take common old))) (patches_of pieces) → laid (patches_of pieces) (take common old) ≡ take common new → All (Stands (take common new)) (patches_of pieces) → Turns old new growth (patches_of lent)
  turned growth pieces lent rest same inside makes stand = record {
    behind = rest ∙ same_behind;
    makes =
        ap (λ (xs : List ℕ). changed xs (patches_of lent) (length new) old) rest
        ∙ ap (λ (ps : List Piece). changed (drop common new) (patches_of ps) (length new) old) same
        ∙ turned_common (patches_of pieces) inside makes;
    stand =
        let P : Patch → Type 0 = Stands new in
        All-same P (patches_of lent) (patches_of pieces) (ap patches_of same) (stand_whole (patches_of pieces) inside stand);
  }

-- a run that turns bytes into others
pub replaced : (old new growth : List ℕ) (patches : List Patch) (before after : Option (List ℕ)) → Turns old new growth patches → IsAll before old → Becomes (changed growth patches (length new)) before after → Becomes (λ _. new) before after
replaced old new growth patches before after turns is becomes bytes known =
    becomes bytes known
    ∙ ap (λ (xs : List ℕ). Some (changed growth patches (length new) xs)) (sym (is bytes known))
    ∙ ap Some turns.makes

-- Patches that are what others change of bytes.
use Rattle.std.proofs.Common.{◌≡◌, ◌≤◌, ◌<◌, ◌+◌, ◌-◌, ℕ, inl, inr, List, [], ◌∷◌, ◌++◌, length, take, drop, map, min, get_or, sym, ap, ◌∙◌, subst, arith, All, true, false, leb, ltb, replicate}
use Rattle.std.proofs.lemmas.List.{append-nil, append_assoc, length-drop, get_or-replicate, get_or-take, length-replicate, length-take-le, map_more}
use Rattle.std.proofs.lemmas.List.Elements.{All-append, All-cons, All-head, All-map, All-nil, All-same, All-weaker}
use Rattle.std.proofs.lemmas.List.Folds.{list_any-append}
use Rattle.std.proofs.lemmas.Bool.{and_from, cases_lt, le-leb, lt-ltb, or_cases, or_left, or_parts, or_right}
use Rattle.byte_store.specs.Laid.{LiesIn, Patch, laid}
use Rattle.byte_store.specs.Laws.{IsOutside}
use Rattle.byte_store.specs.Composed.{IsChange, Stands, is_patched, is_patched_at, owned_patches}
use Rattle.byte_store.specs.Shown.{Adds, IsZero, Shows, patch_at, shifted, zero_patch}
use Rattle.byte_store.specs.declared.composed.OwnedPiece.{OwnedPiece}
use Rattle.byte_store.proofs.LaidLaws.{get_or-laid}
use Rattle.byte_store.proofs.StandLaws.{all_back, all_front, all_unmapped, outside_from, patched_in, shifted_stands, stands_at, stands_from, stands_lies, stands_shifted}

-- ---- more and more changes

pub shows_none : (front : List ℕ) → Shows front [] []
shows_none front = record {
  inside = All-nil (LiesIn (length front));
  changes = All-nil (IsChange front);
  stand = λ target all. All-nil (Stands target);
  cover = λ target all k below is free. absurd (cc is);
}

pub adds_none : (front : List ℕ) (xs : List OwnedPiece) → Adds front [] xs xs
unfolding Adds
adds_none front xs done shown = let P : List Patch → Type 0 = λ ps. Shows front ps (owned_patches xs) in subst P (sym (append-nil done)) shown

pub adds_more : (front : List ℕ) (ps qs : List Patch) (a b c : List OwnedPiece) → Adds front ps a b → Adds front qs b c → Adds front (ps ++ qs) a c
unfolding Adds
adds_more front ps qs a b c first second done shown =
    let P : List Patch → Type 0 = λ rs. Shows front rs (owned_patches c) in
    subst P (append_assoc done ps qs) (second (done ++ ps) (first done shown))

pub adds_shown : (front : List ℕ) (ps : List Patch) (a : List OwnedPiece) → Adds front ps [] a → Shows front ps (owned_patches a)
unfolding Adds
adds_shown front ps a adds = adds [] (shows_none front)

pub adds_next : {X : Type 0} (f : X → Patch) (front : List ℕ) (xs : List X) (i : ℕ) (d : X) (a b c : List OwnedPiece) → i < length xs → Adds front (map f (take i xs)) a b → Adds front (f (get_or xs i d) ∷ []) b c → Adds front (map f (take (i + 1) xs)) a c
adds_next f front xs i d a b c below first second =
    let P : List Patch → Type 0 = λ rs. Adds front rs a c in
    subst P (sym (map_more f xs i d below)) (adds_more front (map f (take i xs)) (f (get_or xs i d) ∷ []) a b c first second)

-- patches that stand where others do, and have their positions
pub adds_as : (front : List ℕ) (ps qs : List Patch) (a b : List OwnedPiece) → ((target : List ℕ) → All (Stands target) qs → All (Stands target) ps) → ((k : ℕ) → k < length front → is_patched qs k ≡ true → is_patched ps k ≡ true) → Adds front ps a b → Adds front qs a b
unfolding Adds
adds_as front ps qs a b stand has adds done shown =
    let is : Shows front (done ++ ps) (owned_patches b) = adds done shown in
    let S : List ℕ → Patch → Type 0 = Stands in
    let both = λ (target : List ℕ) (all : All (S target) (done ++ qs)). All-append (S target) done ps (all_front (S target) done qs all) (stand target (all_back (S target) done qs all)) in record {
      inside = is.inside;
      changes = is.changes;
      stand = λ target all. is.stand target (both target all);
      cover = λ target all k below patched free.
          let here : is_patched (done ++ ps) k ≡ true =
          list_any-append (is_patched_at k) done ps
          ∙ elim (or_cases (is_patched done k) (is_patched qs k) (sym (list_any-append (is_patched_at k) done qs) ∙ patched)) [
            | inl old ↦ or_left (is_patched done k) (is_patched ps k) old
            | inr new ↦ or_right (is_patched done k) (is_patched ps k) (has k below new)
          ] in
          is.cover target (both target all) k below here free;
    }

one_patched : (k : ℕ) (patch : Patch) → is_patched (patch ∷ []) k ≡ true → (patch.offset ≤ k) × (k < patch.offset + length patch.bytes)
one_patched k patch is =
    elim (or_cases (is_patched_at k patch) false is) [
      | inl has ↦ patched_in k patch has
      | inr none ↦ absurd (cc none)
    ]

one_from : (k : ℕ) (patch : Patch) → patch.offset ≤ k → k < patch.offset + length patch.bytes → is_patched (patch ∷ []) k ≡ true
one_from k patch behind before =
    or_left (is_patched_at k patch) false (and_from (leb patch.offset k) (ltb k (patch.offset + length patch.bytes)) (le-leb patch.offset k behind) (lt-ltb k (patch.offset + length patch.bytes) before))

-- a patch, as far as the bytes reach
pub adds_cut : (front bytes : List ℕ) (offset len : ℕ) (a b : List OwnedPiece) → offset < length front → len ≡ min (length bytes) (length front - offset) → Adds front (patch_at offset (take len bytes) ∷ []) a b → Adds front (patch_at offset bytes ∷ []) a b
adds_cut front bytes offset len a b inside is adds =
    let whole : Patch = patch_at offset bytes in
    let part : Patch = patch_at offset (take len bytes) in
    let long : length (take len bytes) ≡ len = length-take-le len bytes (omega arith) in
    let S : List ℕ → Patch → Type 0 = Stands in
    adds_as front (part ∷ []) (whole ∷ []) a b
    (λ target all.
    let stands : Stands target whole = All-head (S target) whole [] all in
    let lies : LiesIn (length bytes) (patch_at 0 (take len bytes)) = omega arith in
    let first : Stands bytes (patch_at 0 (take len bytes)) = ap (λ (n : ℕ). take n bytes) (let sum : 0 + length (take len bytes) - 0 ≡ len = omega arith in sum) in
    let moved : Stands target (shifted offset (patch_at 0 (take len bytes))) = stands_shifted offset bytes target (patch_at 0 (take len bytes)) lies stands first in
    let none : offset + 0 ≡ offset = omega arith in
    let P : ℕ → Type 0 = λ o. Stands target (patch_at o (take len bytes)) in
    All-cons (S target) part [] (subst P none moved) (All-nil (S target)))
    (λ k below has.
    let within = one_patched k whole has in
    one_from k part within.0 (omega (arith, within.0, within.1)))
    adds

pub adds_past : (front bytes : List ℕ) (offset : ℕ) (a : List OwnedPiece) → length front ≤ offset → Adds front (patch_at offset bytes ∷ []) a a
adds_past front bytes offset a past =
    let S : List ℕ → Patch → Type 0 = Stands in
    adds_as front [] (patch_at offset bytes ∷ []) a a
    (λ target all. All-nil (S target))
    (λ k below has. let within = one_patched k (patch_at offset bytes) has in absurd (omega (arith, within.0)))
    (adds_none front a)

-- zeros from a position on
abbrev pub zeros_to : ℕ → ℕ → Patch
zeros_to start end = zero_patch (record { start = start; end = end })

zero_block : (block : List ℕ) (len j : ℕ) → All IsZero block → len ≤ length block → j < len → get_or (take len block) j 0 ≡ 0
zero_block block len j zero inside below = get_or-take len block j 0 below ∙ zero j 0 (omega arith)

pub adds_no_zeros : (front : List ℕ) (start : ℕ) (a : List OwnedPiece) → Adds front (zeros_to start start ∷ []) a a
adds_no_zeros front start a =
    let S : List ℕ → Patch → Type 0 = Stands in
    adds_as front [] (zeros_to start start ∷ []) a a
    (λ target all. All-nil (S target))
    (λ k below has.
    let within = one_patched k (zeros_to start start) has in
    absurd (omega (arith, within.0, within.1, length-replicate {A = ℕ} (start - start) 0)))
    (adds_none front a)

pub adds_zeros : (front block : List ℕ) (start at len : ℕ) (a b c : List OwnedPiece) → start ≤ at → 0 < len → len ≤ length block → All IsZero block → Adds front (zeros_to start at ∷ []) a b → Adds front (patch_at at (take len block) ∷ []) b c → Adds front (zeros_to start (at + len) ∷ []) a c
adds_zeros front block start at len a b c order some inside zero first second =
    let S : List ℕ → Patch → Type 0 = Stands in
    let whole : Patch = zeros_to start (at + len) in
    let before : Patch = zeros_to start at in
    let next : Patch = patch_at at (take len block) in
    let long : length {A = ℕ} (replicate (at + len - start) 0) ≡ at + len - start = length-replicate (at + len - start) 0 in
    let long_before : length {A = ℕ} (replicate (at - start) 0) ≡ at - start = length-replicate (at - start) 0 in
    let long_next : length (take len block) ≡ len = length-take-le len block inside in
    adds_as front (before ∷ (next ∷ [])) (whole ∷ []) a c
    (λ target all.
    let stands : Stands target whole = All-head (S target) whole [] all in
    let lies : start + length {A = ℕ} (replicate (at + len - start) 0) ≤ length target = stands_lies target whole stands (omega arith) in
    let zero_at = λ (j : ℕ) (below : j < at + len - start).
    let same : get_or target (start + j) 0 ≡ 0 =
    stands_at target whole j stands (omega arith) ∙ get_or-replicate (at + len - start) j 0 0 below in same in
    let here : Stands target before =
    stands_from target before (omega arith)
    (λ j below. zero_at j (omega arith) ∙ sym (get_or-replicate (at - start) j 0 0 (omega arith))) in
    let there : Stands target next =
    stands_from target next (omega arith)
    (λ j below.
    let sum : at + j ≡ start + (at - start + j) = omega arith in
    ap (λ (n : ℕ). get_or target n 0) sum
    ∙ zero_at (at - start + j) (omega arith)
    ∙ sym (zero_block block len j zero inside (omega arith))) in
    All-cons (S target) before (next ∷ []) here (All-cons (S target) next [] there (All-nil (S target))))
    (λ k below has.
    let within : (start ≤ k) × (k < start + length {A = ℕ} (replicate (at + len - start) 0)) = one_patched k whole has in
    elim (cases_lt k at) [
      | inl less ↦
          let short : k < start + length {A = ℕ} (replicate (at - start) 0) = omega (arith, within.0, long_before) in
          or_left (is_patched_at k before) (is_patched (next ∷ []) k)
          (and_from (leb start k) (ltb k (start + length {A = ℕ} (replicate (at - start) 0))) (le-leb start k within.0) (lt-ltb k (start + length {A = ℕ} (replicate (at - start) 0)) short))
      | inr more ↦ or_right (is_patched_at k before) (is_patched (next ∷ []) k) (one_from k next more (omega (arith, within.1, long, long_next)))
    ])
    (adds_more front (before ∷ []) (next ∷ []) a b c first second)

-- ---- runs of blocks that differ

module _ (front part old : List ℕ) (o : ℕ) (ps : List Patch) (inside : o + length part ≤ length front) (is : old ≡ take (o + length part - o) (drop o front)) (lie : All (LiesIn (length old)) ps) (makes : laid ps old ≡ part) (stand : All (Stands part) ps) (changes : All (IsChange old) ps) where
  old_long : length old ≡ length part
  old_long = ap length is ∙ length-take-le (o + length part - o) (drop o front) (omega (arith, length-drop o front)) ∙ (let same : o + length part - o ≡ length part = omega arith in same)

  old_stands : Stands front (patch_at o old)
  old_stands = ap (λ (n : ℕ). take (o + n - o) (drop o front)) old_long ∙ sym is

  moved_outside : (k : ℕ) → o ≤ k → (patch : Patch) → IsOutside k (shifted o patch) → IsOutside (k - o) patch
  moved_outside k behind patch (inl before) = inl (omega arith)
  moved_outside k behind patch (inr past) = inr (omega arith)

  same_there : (target : List ℕ) (k : ℕ) → Stands target (patch_at o part) → o ≤ k → k < o + length part → is_patched (map (shifted o) ps) k ≡ false → get_or front k 0 ≡ get_or target k 0
  same_there target k stands behind before free =
      let j : ℕ = k - o in
      let sum : o + j ≡ k = omega arith in
      let long : length old ≡ length part = old_long in
      let out : All (IsOutside j) ps = All-weaker (λ patch. IsOutside k (shifted o patch)) (IsOutside j) (moved_outside k behind) ps (all_unmapped (IsOutside k) (shifted o) ps (outside_from (map (shifted o) ps) k free)) in
      let P : ℕ → Type 0 = λ n. get_or front n 0 ≡ get_or target n 0 in
      subst P sum
      (stands_at front (patch_at o old) j old_stands (omega arith)
      ∙ sym (get_or-laid ps old j 0 lie out)
      ∙ ap (λ (xs : List ℕ). get_or xs j 0) makes
      ∙ sym (stands_at target (patch_at o part) j stands (omega arith)))

  -- the copies of the patches, behind the offset
  moved_lie : All (LiesIn (length front)) (map (shifted o) ps)
  moved_lie =
      let long : length old ≡ length part = old_long in
      All-map (LiesIn (length front)) (shifted o) ps
      (All-weaker (LiesIn (length old)) (λ patch. LiesIn (length front) (shifted o patch)) (λ patch lies. omega arith) ps lie)

  moved_change : All (IsChange front) (map (shifted o) ps)
  moved_change =
      All-map (IsChange front) (shifted o) ps
      (λ i d below stands. changes i d below (shifted_stands o old front (get_or ps i d) (lie i d below) old_stands stands))

  moved_stand : (target : List ℕ) → Stands target (patch_at o part) → All (Stands target) (map (shifted o) ps)
  moved_stand target whole =
      All-map (Stands target) (shifted o) ps
      (λ i d below.
      let long : length old ≡ length part = old_long in
      let lies : LiesIn (length old) (get_or ps i d) = lie i d below in
      stands_shifted o part target (get_or ps i d) (omega arith) whole (stand i d below))

  pub adds_moved : (before after : List OwnedPiece) → owned_patches after ≡ owned_patches before ++ map (shifted o) ps → Adds front (patch_at o part ∷ []) before after
  unfolding Adds
  adds_moved before after pushed done shown =
      let moved : List Patch = map (shifted o) ps in
      let new : Patch = patch_at o part in
      let S : List ℕ → Patch → Type 0 = Stands in record {
        inside = All-same (LiesIn (length front)) (owned_patches after) (owned_patches before ++ moved) pushed (All-append (LiesIn (length front)) (owned_patches before) moved shown.inside moved_lie);
        changes = All-same (IsChange front) (owned_patches after) (owned_patches before ++ moved) pushed (All-append (IsChange front) (owned_patches before) moved shown.changes moved_change);
        stand = λ target all.
            All-same (S target) (owned_patches after) (owned_patches before ++ moved) pushed
            (All-append (S target) (owned_patches before) moved (shown.stand target (all_front (S target) done (new ∷ []) all))
            (moved_stand target (All-head (S target) new [] (all_back (S target) done (new ∷ []) all))));
        cover = λ target all k below patched free.
            let parts = or_parts (is_patched (owned_patches before) k) (is_patched moved k) (sym (list_any-append (is_patched_at k) (owned_patches before) moved) ∙ sym (ap (λ (rs : List Patch). is_patched rs k) pushed) ∙ free) in
            elim (or_cases (is_patched done k) (is_patched (new ∷ []) k) (sym (list_any-append (is_patched_at k) done (new ∷ [])) ∙ patched)) [
              | inl old_one ↦ shown.cover target (all_front (S target) done (new ∷ []) all) k below old_one parts.0
              | inr new_one ↦
                  let within = one_patched k new new_one in
                  same_there target k (All-head (S target) new [] (all_back (S target) done (new ∷ []) all)) within.0 within.1 parts.1
            ];
      }

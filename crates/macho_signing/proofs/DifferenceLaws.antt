-- The places at which bytes differ, and the pages that they touch.
use Rattle.std.proofs.Common.{◌≡◌, ◌≢◌, ◌≤◌, ◌<◌, ◌+◌, ◌-◌, ◌&&◌, ℕ, zero, suc, Bool, true, false, not, nat_eq, nat_lt, nat_le, min, max, List, [], ◌∷◌, length, map, filter, take, drop, get_or, sym, ap, ◌∙◌, subst, inl, inr, arith}
use Rattle.std.specs.List.{All, Any, list_any, range_with_len}
use Rattle.std.specs.Str.{bytes_eq}
use Rattle.std.proofs.lemmas.Bool.{and_from, and_parts, both_ways, cases_Bool, cases_lt, eq-eqb, eqb-true, le-leb, leb-true, lt-ltb, ltb-true, not-false, not-true, or_left, or_right}
use Rattle.std.proofs.lemmas.List.{get_or-drop, get_or-take, get_or_past}
use Rattle.std.proofs.lemmas.List.Elements.{All-filter, All-map, filter_passes}
use Rattle.std.proofs.lemmas.List.Folds.{Any-from_list_any, list_any_none}
use Rattle.std.proofs.lemmas.List.FromFn.{get_or-range_with_len, length-range_with_len}
use Rattle.std.proofs.lemmas.Slice.Eq.{bytes_eq-Decides}
use Rattle.macho_signatures.specs.declared.directory.Directory.{Directory}
use Rattle.macho_signatures.specs.declared.renewal.ByteRange.{ByteRange}
use Rattle.macho_signatures.specs.Pages.{page_end, page_of, page_start}
use Rattle.macho_signatures.specs.Renewed.{DiffersWithin, EndBefore, is_touched, meets_page}
use Rattle.macho_signatures.proofs.LaidLaws.{same_field}
use Rattle.macho_signing.specs.Thin.{differences, one_byte}

abbrev differs : List ℕ → List ℕ → ℕ → Bool
differs old new i = not (nat_eq (get_or old i 0) (get_or new i 0))

-- ## Members

any_kept : (p : ByteRange → Bool) (q : ℕ → Bool) (ns : List ℕ) (k e : ℕ) → k < length ns → q (get_or ns k e) ≡ true → p (one_byte (get_or ns k e)) ≡ true → list_any p (map one_byte (filter q ns)) ≡ true
any_kept p q [] k e here passes is = absurd (omega (arith, here))
any_kept p q (n ∷ ns) zero e here passes is = rw passes (or_left (p (one_byte n)) (list_any p (map one_byte (filter q ns))) is)
any_kept p q (n ∷ ns) (suc k) e here passes is =
    let later : list_any p (map one_byte (filter q ns)) ≡ true = any_kept p q ns k e (omega (arith, here)) passes is in
    elim (cases_Bool (q n)) [
      | inl met ↦ rw met (or_right (p (one_byte n)) (list_any p (map one_byte (filter q ns))) later)
      | inr unmet ↦ rw unmet later
    ]

-- a test that passes at a place at which bytes differ passes somewhere
pub any_difference : (p : ByteRange → Bool) (old new : List ℕ) (i : ℕ) → i < length new → differs old new i ≡ true → p (one_byte i) ≡ true → list_any p (differences old new) ≡ true
unfolding differences
any_difference p old new i inside differs_here passes =
    let count = length-range_with_len 0 (length new) in
    let told = get_or-range_with_len 0 (length new) i 0 inside in
    let is : get_or (range_with_len 0 (length new)) i 0 ≡ i = omega (arith, told) in
    let here : i < length (range_with_len 0 (length new)) = omega (arith, count, inside) in
    let P : ℕ → Type 0 = λ n. differs old new n ≡ true in
    let Q : ℕ → Type 0 = λ n. p (one_byte n) ≡ true in
    any_kept p (differs old new) (range_with_len 0 (length new)) i 0 here (subst P (sym is) differs_here) (subst Q (sym is) passes)

-- what holds of each place at which bytes differ holds of all
pub all_differences : (P : ByteRange → Type 0) (old new : List ℕ) → ((i : ℕ) → i < length new → differs old new i ≡ true → P (one_byte i)) → All P (differences old new)
unfolding differences
all_differences P old new each =
    let ns : List ℕ = range_with_len 0 (length new) in
    let count = length-range_with_len 0 (length new) in
    let below : All (λ i. i < length new) ns = λ k e here.
    let inside : k < length new = omega (arith, here, count) in
    let is = get_or-range_with_len 0 (length new) k e inside in
    omega (arith, is, inside) in
    let kept = All-filter (differs old new) (λ i. i < length new) ns below in
    let passes = filter_passes (differs old new) ns in
    All-map P one_byte (filter (differs old new) ns) (λ k e here. each (get_or (filter (differs old new) ns) k e) (kept k e here) (passes k e here))

-- bytes that don't differ are the same
same_from : (old new : List ℕ) (i : ℕ) → differs old new i ≡ false → get_or new i 0 ≡ get_or old i 0
same_from old new i isnt = sym (eqb-true (get_or old i 0) (get_or new i 0) (not-false (nat_eq (get_or old i 0) (get_or new i 0)) isnt))

not_same : (old new : List ℕ) (i : ℕ) → differs old new i ≡ true → get_or new i 0 ≢ get_or old i 0
not_same old new i is same =
    both_ways (nat_eq (get_or old i 0) (get_or new i 0)) (not-true (nat_eq (get_or old i 0) (get_or new i 0)) is) (eq-eqb (get_or old i 0) (get_or new i 0) (sym same))

-- ## What they say of an edit

abbrev has : ℕ → ByteRange → Bool
has i range = nat_le range.begin i && nat_lt i range.end

pub differs_within : (old new : List ℕ) → length old ≡ length new → DiffersWithin (differences old new) old new
differs_within old new long = (
  sym long,
  λ i none.
      elim (cases_lt i (length new)) [
        | inr past ↦ get_or_past new i 0 past ∙ sym (get_or_past old i 0 (omega (arith, past, long)))
        | inl inside ↦
            elim (cases_Bool (differs old new i)) [
              | inr same ↦ same_from old new i same
              | inl other ↦ absurd (none (in_range i (differences old new) (Any-from_list_any (has i) (differences old new) (any_difference (has i) old new i inside other (has_itself i)))))
            ]
      ],
)
  where
    has_itself : (i : ℕ) → has i (one_byte i) ≡ true
    has_itself i = and_from (nat_le i i) (nat_lt i (i + 1)) (le-leb i i (omega arith)) (lt-ltb i (i + 1) (omega arith))

    in_range : (i : ℕ) (l : List ByteRange) → Any (λ range. has i range ≡ true) l → Any (λ range. (range.begin ≤ i) × (i < range.end)) l
    in_range i l h =
        let both = and_parts (nat_le h.1.begin i) (nat_lt i h.1.end) h.4 in
        (h.0, h.1, h.2, h.3, (leb-true h.1.begin i both.0, ltb-true i h.1.end both.1))

-- where all from a place on is the same, they all lie before it
pub end_before : (old new : List ℕ) (start : ℕ) → drop start old ≡ drop start new → EndBefore start (differences old new)
end_before old new start same =
    all_differences (λ range. range.end ≤ start) old new (λ i inside other.
    elim (cases_lt i start) [
      | inl before ↦ omega (arith, before)
      | inr behind ↦ absurd (not_same old new i other (equal i behind))
    ])
  where
    equal : (i : ℕ) → start ≤ i → get_or new i 0 ≡ get_or old i 0
    equal i behind =
        let at : start + (i - start) ≡ i = omega (arith, behind) in
        let P : ℕ → Type 0 = λ n. get_or new n 0 ≡ get_or old n 0 in
        subst P at (sym (get_or-drop start new (i - start) 0) ∙ ap (λ (l : List ℕ). get_or l (i - start) 0) (sym same) ∙ get_or-drop start old (i - start) 0)

-- ## Touched pages

-- a page is touched where its bytes differ
pub touched_differs : (d : Directory) (old new : List ℕ) (page : ℕ) → length old ≡ length new → not (bytes_eq (page_of d page old) (page_of d page new)) ≡ is_touched d (differences old new) page
unfolding is_touched
touched_differs d old new page long =
    elim (cases_Bool (bytes_eq (page_of d page old) (page_of d page new))) [
      | inl same ↦ rw same (sym (list_any_none (meets_page d page) (differences old new) (all_differences (λ range. meets_page d page range ≡ false) old new (untouched same))))
      | inr other ↦ rw other (sym (touches other))
    ]
  where
    untouched : bytes_eq (page_of d page old) (page_of d page new) ≡ true → (i : ℕ) → i < length new → differs old new i ≡ true → meets_page d page (one_byte i) ≡ false
    untouched same i inside differ =
        let start : ℕ = page_start d page in
        let n : ℕ = page_end d page - start in
        elim (cases_Bool (meets_page d page (one_byte i))) [
          | inr unmet ↦ unmet
          | inl met ↦
              let meets = ltb-true (max i start) (min (i + 1) (page_end d page)) met in
              let k : i - start < n = omega (arith, meets) in
              let at : start + (i - start) ≡ i = omega (arith, meets) in
              let pages : take n (drop start old) ≡ take n (drop start new) = (bytes_eq-Decides (page_of d page old) (page_of d page new)).0 same in
              let byte : (xs : List ℕ) → get_or (take n (drop start xs)) (i - start) 0 ≡ get_or xs i 0 = λ xs.
              get_or-take n (drop start xs) (i - start) 0 k ∙ get_or-drop start xs (i - start) 0 ∙ ap (λ (j : ℕ). get_or xs j 0) at in
              absurd (not_same old new i differ (sym (byte new) ∙ ap (λ (l : List ℕ). get_or l (i - start) 0) (sym pages) ∙ byte old))
        ]

    touches : bytes_eq (page_of d page old) (page_of d page new) ≡ false → list_any (meets_page d page) (differences old new) ≡ true
    touches other =
        let start : ℕ = page_start d page in
        let n : ℕ = page_end d page - start in
        let ranges : List ByteRange = differences old new in
        elim (cases_Bool (list_any (meets_page d page) ranges)) [
          | inl met ↦ met
          | inr unmet ↦
              let same : take n (drop start old) ≡ take n (drop start new) = same_field n start old new long (λ i from to.
              elim (cases_lt i (length new)) [
                | inr past ↦ get_or_past old i 0 (omega (arith, past, long)) ∙ sym (get_or_past new i 0 past)
                | inl inside ↦
                    elim (cases_Bool (differs old new i)) [
                      | inr equal ↦ sym (same_from old new i equal)
                      | inl differ ↦
                          let meets : meets_page d page (one_byte i) ≡ true = lt-ltb (max i start) (min (i + 1) (page_end d page)) (omega (arith, from, to)) in
                          absurd (both_ways (list_any (meets_page d page) ranges) unmet (any_difference (meets_page d page) old new i inside differ meets))
                    ]
              ]) in
              absurd (both_ways (bytes_eq (page_of d page old) (page_of d page new)) other ((bytes_eq-Decides (page_of d page old) (page_of d page new)).1 same))
        ]

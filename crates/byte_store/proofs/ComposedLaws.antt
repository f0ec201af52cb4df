-- Composed bytes, and the difference that makes them of their source.
use Rattle.std.proofs.Common.{◌≡◌, ◌≤◌, ◌<◌, ◌+◌, ◌-◌, ℕ, inl, inr, List, [], ◌∷◌, ◌++◌, length, take, drop, map, min, get_or, refl, sym, ap, ◌∙◌, subst, arith, All, Bool, true, false, not, ◌&&◌, ◌||◌, ltb, leb, replicate, Vec, Global}
use Rattle.std.proofs.lemmas.List.{get_or-append_right, get_or-drop, get_or-replicate, get_or-take, get_or_append_left, length-append, length-drop, length-replicate, length-take-le, take-append-drop, take_at}
use Rattle.std.proofs.lemmas.List.Elements.{All-append, All-head, All-map, All-tail, All-weaker}
use Rattle.std.proofs.lemmas.List.Folds.{list_any-append, list_any_at}
use Rattle.std.proofs.lemmas.Bool.{and_from, and_left, and_right, both_ways, cases_Bool, cases_lt, cond-false, cond-true, le-leb, le-ltb, lt-ltb, not-false, not-true, or_cases, or_parts}
use Rattle.byte_store.specs.Laid.{LiesIn, Patch, changed, laid}
use Rattle.byte_store.specs.Laws.{IsOutside}
use Rattle.byte_store.specs.Composed.{IsChange, IsComposed, IsMadeInParts, IsMakeable, Stands, has_position, is_in_spans, is_patched, is_patched_at, kept_byte, owned_patches}
use Rattle.byte_store.specs.Gaps.{IsSpanIn, is_held}
use Rattle.byte_store.specs.Shown.{ShowsAll, behind, zero_patch, zero_patches}
use Rattle.byte_store.specs.declared.composed.Span.{Span}
use Rattle.byte_store.specs.declared.composed.Difference.{Difference}
use Rattle.byte_store.specs.declared.composed.OwnedPiece.{OwnedPiece}
use Rattle.byte_store.proofs.LaidLaws.{length-laid}
use Rattle.byte_store.proofs.StandLaws.{all_unmapped, append_stands, free_from, laid_is, outside_from, stands_at, stands_append, stands_from}

behind_lies : (n size : ℕ) (patch : Patch) → LiesIn size patch → LiesIn (size - n) (behind n patch)
behind_lies n size patch lies = omega (arith, length-drop (n - patch.offset) patch.bytes)

-- what comes behind the source is as long as it is to be
grown_long : (n size : ℕ) (patches : List Patch) → All (LiesIn size) patches → length (laid (map (behind n) patches) (replicate (size - n) 0)) ≡ size - n
grown_long n size patches inside =
    let zeros : List ℕ = replicate (size - n) 0 in
    let moved : List Patch = map (behind n) patches in
    let long : length zeros ≡ size - n = length-replicate (size - n) 0 in
    let lie : All (LiesIn (size - n)) moved = All-map (LiesIn (size - n)) (behind n) patches (All-weaker (LiesIn size) (λ patch. LiesIn (size - n) (behind n patch)) (behind_lies n size) patches inside) in
    let P : ℕ → Type 0 = λ m. All (LiesIn m) moved in
    length-laid moved zeros (subst P (sym long) lie) ∙ long

-- what changes the first bytes of a source is a difference of it
pub changes_source : (source front : List ℕ) (patches : List Patch) (size : ℕ) (growth : Vec ℕ Global) (pieces : Vec OwnedPiece Global) → All (LiesIn size) patches → front ≡ take (min (length source) size) source → All (LiesIn (length front)) (owned_patches pieces.items) → All (IsChange front) (owned_patches pieces.items) → growth.items ≡ laid (map (behind (length source)) patches) (replicate (size - length source) 0) → IsMakeable source (record { growth = growth; pieces = pieces; new_length = size })
changes_source source front patches size growth pieces lie first inside changes grown =
    let more : List Patch = owned_patches pieces.items in
    let m : ℕ = min (length source) size in
    let long : length front ≡ m = ap length first ∙ length-take-le m source (omega arith) in
    let count : length growth.items ≡ size - length source = ap length grown ∙ grown_long (length source) size patches lie in
    let whole : front ++ drop m source ≡ source = ap (λ (xs : List ℕ). xs ++ drop m source) first ∙ take-append-drop m source in record {
      inside = All-weaker (LiesIn (length front)) (LiesIn (length source + length growth.items)) (λ patch lies. omega arith) more inside;
      end = omega arith;
      changes = λ i d below stands.
          let P : List ℕ → Type 0 = λ xs. Stands xs (get_or more i d) in
          changes i d below (append_stands front (drop m source) (get_or more i d) (inside i d below) (subst P (sym whole) stands));
    }

module _ (source bytes : List ℕ) (kept cleared : List Span) (patches : List Patch) (size : ℕ) (inside : All (LiesIn size) patches) (is : IsComposed source kept cleared patches size bytes) where
  -- ---- behind the source

  behind_stands : (patch : Patch) → LiesIn size patch → Stands bytes patch → Stands (drop (length source) bytes) (behind (length source) patch)
  behind_stands patch lies stands =
      let n : ℕ = length source in
      let long : length (drop (n - patch.offset) patch.bytes) ≡ length patch.bytes - (n - patch.offset) = length-drop (n - patch.offset) patch.bytes in
      let rest : length (drop n bytes) ≡ length bytes - n = length-drop n bytes in
      let sized : length bytes ≡ size = is.sized in
      stands_from (drop n bytes) (behind n patch) (omega arith)
      (λ j below.
      let sum : n + (patch.offset - n + j) ≡ patch.offset + (n - patch.offset + j) = omega arith in
      get_or-drop n bytes (patch.offset - n + j) 0
      ∙ ap (λ (k : ℕ). get_or bytes k 0) sum
      ∙ stands_at bytes patch (n - patch.offset + j) stands (omega arith)
      ∙ sym (get_or-drop (n - patch.offset) patch.bytes j 0))

  behind_outside : (k : ℕ) (patch : Patch) → IsOutside k (behind (length source) patch) → IsOutside (length source + k) patch
  behind_outside k patch (inl before) = inl (omega arith)
  behind_outside k patch (inr past) =
      let long : length (drop (length source - patch.offset) patch.bytes) ≡ length patch.bytes - (length source - patch.offset) = length-drop (length source - patch.offset) patch.bytes in
      inr (omega arith)

  none_kept : (k : ℕ) → length source ≤ k → kept_byte source kept cleared k ≡ 0
  none_kept k past =
      let no : ltb k (length source) ≡ false = le-ltb k (length source) past in
      cond-false (is_in_spans kept k && not (is_in_spans cleared k) && ltb k (length source)) (get_or source k 0) 0
      (and_right (is_in_spans kept k && not (is_in_spans cleared k)) (ltb k (length source)) no)

  pub grows : laid (map (behind (length source)) patches) (replicate (size - length source) 0) ≡ drop (length source) bytes
  grows =
      let n : ℕ = length source in
      let zeros : List ℕ = replicate (size - n) 0 in
      let moved : List Patch = map (behind n) patches in
      let sized : length bytes ≡ size = is.sized in
      let long : length zeros ≡ size - n = length-replicate (size - n) 0 in
      let lie : All (LiesIn (size - n)) moved = All-map (LiesIn (size - n)) (behind n) patches (All-weaker (LiesIn size) (λ patch. LiesIn (size - n) (behind n patch)) (behind_lies n size) patches inside) in
      let P : ℕ → Type 0 = λ m. All (LiesIn m) moved in
      let S : List ℕ → Patch → Type 0 = Stands in
      laid_is moved zeros (drop n bytes) (omega (arith, length-drop n bytes)) (subst P (sym long) lie)
      (All-map (S (drop n bytes)) (behind n) patches (λ i d below. behind_stands (get_or patches i d) (inside i d below) (is.stand i d below)))
      (λ k below free.
      let outside : All (IsOutside (n + k)) patches = All-weaker (λ patch. IsOutside k (behind n patch)) (IsOutside (n + k)) (behind_outside k) patches (all_unmapped (IsOutside k) (behind n) patches (outside_from moved k free)) in
      get_or-replicate (size - n) k 0 0 (omega arith)
      ∙ sym (none_kept (n + k) (omega arith))
      ∙ sym (is.stay (n + k) (omega arith) (free_from patches (n + k) outside))
      ∙ sym (get_or-drop n bytes k 0))

  -- ---- as far as the source and the bytes reach

  module _ (front : List ℕ) (more : List Patch) (first : front ≡ take (min (length source) size) source) (shown : ShowsAll front kept cleared patches more) where
    front_long : length front ≡ min (length source) size
    front_long = ap length first ∙ length-take-le (min (length source) size) source (omega arith)

    front_at : (k : ℕ) → k < length front → get_or front k 0 ≡ get_or source k 0
    front_at k below =
        let long : length front ≡ min (length source) size = front_long in
        ap (λ (xs : List ℕ). get_or xs k 0) first ∙ get_or-take (min (length source) size) source k 0 (omega arith)

    -- a zero that is put
    zero_at : (k : ℕ) → k < length front → is_in_spans shown.zeros k ≡ true → get_or bytes k 0 ≡ 0
    zero_at k below in_zeros =
        let long : length front ≡ min (length source) size = front_long in
        let held : is_held kept cleared patches k ≡ false = not-true (is_held kept cleared patches k) (sym (shown.are k below) ∙ in_zeros) in
        let parts = or_parts (is_in_spans kept k && not (is_in_spans cleared k)) (is_patched patches k) held in
        is.stay k (omega arith) parts.1
        ∙ cond-false (is_in_spans kept k && not (is_in_spans cleared k) && ltb k (length source)) (get_or source k 0) 0
        (and_left (is_in_spans kept k && not (is_in_spans cleared k)) (ltb k (length source)) parts.0)

    zeros_stand : All (Stands bytes) (zero_patches shown.zeros)
    zeros_stand =
        let long : length front ≡ min (length source) size = front_long in
        let sized : length bytes ≡ size = is.sized in
        let S : List ℕ → Patch → Type 0 = Stands in
        All-map (S bytes) zero_patch shown.zeros
        (λ i d below.
        let span : Span = get_or shown.zeros i d in
        let within : IsSpanIn (length front) span = shown.within i d below in
        let order : span.start ≤ span.end = within.0 in
        let end : span.end ≤ length front = within.1 in
        let count : length {A = ℕ} (replicate (span.end - span.start) 0) ≡ span.end - span.start = length-replicate (span.end - span.start) 0 in
        let fits : span.start + length {A = ℕ} (replicate (span.end - span.start) 0) ≤ length bytes = omega (arith, count, order, end) in
        stands_from bytes (zero_patch span) fits
        (λ j inside_it.
        let short : j < length {A = ℕ} (replicate (span.end - span.start) 0) = inside_it in
        let has : is_in_spans shown.zeros (span.start + j) ≡ true =
        list_any_at (has_position (span.start + j)) shown.zeros i d below
        (and_from (leb span.start (span.start + j)) (ltb (span.start + j) span.end) (le-leb span.start (span.start + j) (omega arith)) (lt-ltb (span.start + j) span.end (omega (arith, count, short)))) in
        zero_at (span.start + j) (omega (arith, count, short, end)) has ∙ sym (get_or-replicate (span.end - span.start) j 0 0 (omega (arith, count, short)))))

    all_stand : All (Stands bytes) (patches ++ zero_patches shown.zeros)
    all_stand = let S : List ℕ → Patch → Type 0 = Stands in All-append (S bytes) patches (zero_patches shown.zeros) is.stand zeros_stand

    -- a position that no patch has, and no zeros
    kept_at : (k : ℕ) → k < length front → is_patched patches k ≡ false → is_in_spans shown.zeros k ≡ false → get_or source k 0 ≡ get_or bytes k 0
    kept_at k below free no_zero =
        let long : length front ≡ min (length source) size = front_long in
        let held : is_held kept cleared patches k ≡ true = not-false (is_held kept cleared patches k) (sym (shown.are k below) ∙ no_zero) in
        elim (or_cases (is_in_spans kept k && not (is_in_spans cleared k)) (is_patched patches k) held) [
          | inl keeps ↦
              let all : (is_in_spans kept k && not (is_in_spans cleared k) && ltb k (length source)) ≡ true =
              and_from (is_in_spans kept k && not (is_in_spans cleared k)) (ltb k (length source)) keeps (lt-ltb k (length source) (omega arith)) in
              sym (is.stay k (omega arith) free ∙ cond-true (is_in_spans kept k && not (is_in_spans cleared k) && ltb k (length source)) (get_or source k 0) 0 all)
          | inr has ↦ absurd (both_ways (is_patched patches k) free has)
        ]

    zero_patched : (spans : List Span) (k : ℕ) → All (IsSpanIn (length front)) spans → is_patched (zero_patches spans) k ≡ is_in_spans spans k
    zero_patched [] k within = refl
    zero_patched (span ∷ spans) k within =
        let this : IsSpanIn (length front) span = All-head (IsSpanIn (length front)) span spans within in
        let order : span.start ≤ span.end = this.0 in
        let sum : span.start + length {A = ℕ} (replicate (span.end - span.start) 0) ≡ span.end = omega (arith, length-replicate {A = ℕ} (span.end - span.start) 0) in
        ap (λ (n : ℕ). leb span.start k && ltb k n || is_patched (zero_patches spans) k) sum
        ∙ ap (λ (b : Bool). has_position k span || b) (zero_patched spans k (All-tail (IsSpanIn (length front)) span spans within))

    same_front : (k : ℕ) → k < length front → is_patched more k ≡ false → get_or source k 0 ≡ get_or bytes k 0
    same_front k below free =
        let all : List Patch = patches ++ zero_patches shown.zeros in
        let split : is_patched all k ≡ (is_patched patches k || is_in_spans shown.zeros k) =
        list_any-append (is_patched_at k) patches (zero_patches shown.zeros)
        ∙ ap (λ (b : Bool). is_patched patches k || b) (zero_patched shown.zeros k shown.within) in
        elim (cases_Bool (is_patched all k)) [
          | inl has ↦ sym (front_at k below) ∙ shown.shows.cover bytes all_stand k below has free
          | inr none ↦
              let parts = or_parts (is_patched patches k) (is_in_spans shown.zeros k) (sym split ∙ none) in
              kept_at k below parts.0 parts.1
        ]

    module _ (growth : List ℕ) (grown : growth ≡ drop (length source) bytes) where
      growth_long : length growth ≡ size - length source
      growth_long = let sized : length bytes ≡ size = is.sized in ap length grown ∙ length-drop (length source) bytes ∙ ap (λ (n : ℕ). n - length source) sized

      more_lies : All (LiesIn (length (source ++ growth))) more
      more_lies =
          let long : length front ≡ min (length source) size = front_long in
          let sum : length (source ++ growth) ≡ length source + length growth = length-append source growth in
          All-weaker (LiesIn (length front)) (LiesIn (length (source ++ growth))) (λ patch lies. omega arith) more shown.shows.inside

      more_stands : All (Stands (bytes ++ drop size source)) more
      more_stands =
          let long : length front ≡ min (length source) size = front_long in
          let sized : length bytes ≡ size = is.sized in
          let stands : All (Stands bytes) more = shown.shows.stand bytes all_stand in
          λ i d below.
          let lies : LiesIn (length front) (get_or more i d) = shown.shows.inside i d below in
          stands_append bytes (drop size source) (get_or more i d) (omega arith) (stands i d below)

      same_at : (k : ℕ) → k < length (source ++ growth) → is_patched more k ≡ false → get_or (source ++ growth) k 0 ≡ get_or (bytes ++ drop size source) k 0
      same_at k below free =
          let long : length front ≡ min (length source) size = front_long in
          let sized : length bytes ≡ size = is.sized in
          let sum : length (source ++ growth) ≡ length source + length growth = length-append source growth in
          let count : length growth ≡ size - length source = growth_long in
          elim (cases_lt k (length source)) [
            | inl old ↦
                get_or_append_left source growth 0 k old
                ∙ elim (cases_lt k size) [
                  | inl common ↦ same_front k (omega arith) free ∙ sym (get_or_append_left bytes (drop size source) 0 k (omega arith))
                  | inr past ↦
                      let there : size + (k - size) ≡ k = omega arith in
                      sym (get_or-append_right bytes (drop size source) size k 0 sized past
                      ∙ get_or-drop size source (k - size) 0
                      ∙ ap (λ (n : ℕ). get_or source n 0) there)
                ]
            | inr new ↦
                let there : length source + (k - length source) ≡ k = omega arith in
                get_or-append_right source growth (length source) k 0 refl new
                ∙ ap (λ (xs : List ℕ). get_or xs (k - length source) 0) grown
                ∙ get_or-drop (length source) bytes (k - length source) 0
                ∙ ap (λ (n : ℕ). get_or bytes n 0) there
                ∙ sym (get_or_append_left bytes (drop size source) 0 k (omega arith))
          ]

      makes : changed growth more size source ≡ bytes
      makes =
          let sized : length bytes ≡ size = is.sized in
          let count : length growth ≡ size - length source = growth_long in
          ap (take size) (laid_is more (source ++ growth) (bytes ++ drop size source) (omega (arith, length-append source growth, length-append bytes (drop size source), length-drop size source)) more_lies more_stands same_at)
          ∙ take_at bytes (drop size source) size sized

-- the difference that has these parts
pub made_in_parts : (source bytes : List ℕ) (kept cleared : List Span) (patches : List Patch) (size : ℕ) → All (LiesIn size) patches → IsComposed source kept cleared patches size bytes → (front : List ℕ) → front ≡ take (min (length source) size) source → (d : Difference) → d.new_length ≡ size → ShowsAll front kept cleared patches (owned_patches d.pieces.items) → d.growth.items ≡ drop (length source) bytes → IsMadeInParts source d bytes
made_in_parts source bytes kept cleared patches size inside is front first d end shown grown = record {
  made =
      ap (λ (n : ℕ). changed d.growth.items (owned_patches d.pieces.items) n source) end
      ∙ makes source bytes kept cleared patches size inside is front (owned_patches d.pieces.items) first shown d.growth.items grown;
  grown = grown;
  stand = shown.shows.stand bytes (all_stand source bytes kept cleared patches size inside is front (owned_patches d.pieces.items) first shown);
}

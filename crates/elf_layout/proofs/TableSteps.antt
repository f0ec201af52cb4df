-- A walk over segments for one that has all of a range, and over sections that aren't loaded.
use Rattle.std.proofs.Common.{◌≡◌, ℕ, ◌+◌, ◌≤◌, List, [], ◌∷◌, ◌++◌, Bool, true, false, ◌&&◌, cond, Option, Some, length, map, drop, refl, sym, ap, ◌∙◌, arith, append_assoc}
use Rattle.std.specs.Prelude.{find, is_some, slice_get}
use Rattle.std.proofs.lemmas.List.{append-nil, drop_all, drop_more}
use Rattle.std.proofs.lemmas.Option.{get_or_from_slice_get, slice_get_within}
use Rattle.elf_format.specs.File.{is_loaded, loads_of}
use Rattle.elf_format.specs.Placement.{file_part}
use Rattle.elf_format.specs.Places.{Place}
use Rattle.elf_format.specs.Ranges.{lies_in}
use Rattle.elf_format.specs.declared.range.Range.{Range}
use Rattle.elf_format.specs.declared.records.SegmentHeader.{SegmentHeader}
use Rattle.std.specs.Int.{next_multiple_of}
use Rattle.elf_layout_plan.specs.Added.{alignment_of}
use Rattle.elf_layout_plan.specs.Memory.{SizedSection, loaded_over}
use Rattle.elf_layout_plan.specs.Standing.{is_unloaded}
use Rattle.elf_layout.specs.Unloaded.{has_all, unloaded_end, unloaded_next, unloaded_offset, unloaded_offsets}

pub drop_there : {X : Type 0} (xs : List X) (i : ℕ) (x : X) → slice_get xs i ≡ Some x → drop i xs ≡ x ∷ drop (i + 1) xs
drop_there {X} xs i x there =
    drop_more xs i x (slice_get_within xs i x there) ∙ ap (λ (y : X). y ∷ drop (i + 1) xs) (get_or_from_slice_get xs i x x there)

-- ## A segment that has all of a range

some_over : (part : Range) (p : SegmentHeader) (ps : List SegmentHeader) (b c : Bool) → (b && c) ≡ true → lies_in part (file_part p) ≡ c
    → is_some (find (λ q. lies_in part (file_part q)) (cond b (p ∷ loads_of ps) (loads_of ps))) ≡ true
some_over part p ps true true has is = rw is refl
some_over part p ps true false has is = let no : ⊥ = cc has in absurd no
some_over part p ps false c has is = let no : ⊥ = cc has in absurd no

none_over : (part : Range) (p : SegmentHeader) (ps : List SegmentHeader) (b c : Bool) → (b && c) ≡ false → lies_in part (file_part p) ≡ c
    → is_some (find (λ q. lies_in part (file_part q)) (cond b (p ∷ loads_of ps) (loads_of ps)))
    ≡ is_some (find (λ q. lies_in part (file_part q)) (loads_of ps))
none_over part p ps true true has is = let no : ⊥ = cc has in absurd no
none_over part p ps true false has is = rw is refl
none_over part p ps false c has is = refl

pub found_over : (part : Range) (all : List SegmentHeader) (i : ℕ) (p : SegmentHeader) → slice_get all i ≡ Some p → has_all part p ≡ true
    → is_some (loaded_over part (drop i all)) ≡ is_some (loaded_over part all) → true ≡ is_some (loaded_over part all)
found_over part all i p there has so_far =
    sym (some_over part p (drop (i + 1) all) (is_loaded p) (lies_in part (file_part p)) has refl)
    ∙ ap (λ (l : List SegmentHeader). is_some (loaded_over part l)) (sym (drop_there all i p there)) ∙ so_far

pub more_over : (part : Range) (all : List SegmentHeader) (i : ℕ) (p : SegmentHeader) → slice_get all i ≡ Some p → has_all part p ≡ false
    → is_some (loaded_over part (drop i all)) ≡ is_some (loaded_over part all)
    → is_some (loaded_over part (drop (i + 1) all)) ≡ is_some (loaded_over part all)
more_over part all i p there has so_far =
    sym (none_over part p (drop (i + 1) all) (is_loaded p) (lies_in part (file_part p)) has refl)
    ∙ ap (λ (l : List SegmentHeader). is_some (loaded_over part l)) (sym (drop_there all i p there)) ∙ so_far

pub end_over : (part : Range) (all : List SegmentHeader) (i : ℕ) → length all ≤ i
    → is_some (loaded_over part (drop i all)) ≡ is_some (loaded_over part all) → false ≡ is_some (loaded_over part all)
end_over part all i past so_far = ap (λ (l : List SegmentHeader). is_some (loaded_over part l)) (sym (drop_all i all past)) ∙ so_far

-- ## Sections that aren't loaded

-- the sections before a place are placed
pub record ArePlacedUnloaded (start : ℕ) (all : List SizedSection) (made : List (Option ℕ)) (end i : ℕ) : Type 0 where
  pub offsets : made ++ unloaded_offsets end (drop i all) ≡ unloaded_offsets start all
  pub ends : unloaded_end end (drop i all) ≡ unloaded_end start all

pub unloaded_more : (start : ℕ) (all : List SizedSection) (made : List (Option ℕ)) (end i : ℕ) (s : SizedSection) (o : Option ℕ)
    (more : List (Option ℕ)) (next : ℕ)
    → slice_get all i ≡ Some s → ArePlacedUnloaded start all made end i → o ≡ unloaded_offset end s → more ≡ made ++ o ∷ []
    → next ≡ unloaded_next end s
    → ArePlacedUnloaded start all more next (i + 1)
unfolding unloaded_offsets unloaded_end
unloaded_more start all made end i s o more next there placed is is_more is_next =
    let left : drop i all ≡ s ∷ drop (i + 1) all = drop_there all i s there in
    record {
      offsets =
          ap (λ (l : List (Option ℕ)). l ++ unloaded_offsets next (drop (i + 1) all)) is_more
          ∙ append_assoc made (o ∷ []) (unloaded_offsets next (drop (i + 1) all))
          ∙ ap (λ (x : Option ℕ). made ++ x ∷ unloaded_offsets next (drop (i + 1) all)) is
          ∙ ap (λ (n : ℕ). made ++ unloaded_offset end s ∷ unloaded_offsets n (drop (i + 1) all)) is_next
          ∙ ap (λ (l : List SizedSection). made ++ unloaded_offsets end l) (sym left) ∙ placed.offsets;
      ends = ap (λ (n : ℕ). unloaded_end n (drop (i + 1) all)) is_next ∙ ap (λ (l : List SizedSection). unloaded_end end l) (sym left)
          ∙ placed.ends;
    }

next_grows : (end : ℕ) (s : SizedSection) → end ≤ unloaded_next end s
next_grows end s = by_test (is_unloaded s)
  where
    by_test : (b : Bool) → end ≤ cond b (next_multiple_of end (alignment_of s) + s.size) end
    by_test true = omega arith
    by_test false = omega arith

pub unloaded_grows : (end : ℕ) (ss : List SizedSection) → end ≤ unloaded_end end ss
unfolding unloaded_end
unloaded_grows end [] = omega arith
unloaded_grows end (s ∷ ss) =
    let more : unloaded_next end s ≤ unloaded_end (unloaded_next end s) ss = unloaded_grows (unloaded_next end s) ss in
    let here : end ≤ unloaded_next end s = next_grows end s in
    omega arith

pub unloaded_far : (start : ℕ) (all : List SizedSection) (made : List (Option ℕ)) (end i : ℕ) (s : SizedSection) (far : ℕ)
    → slice_get all i ≡ Some s → ArePlacedUnloaded start all made end i → far ≤ unloaded_next end s → far ≤ unloaded_end start all
unfolding unloaded_end
unloaded_far start all made end i s far there placed past =
    let whole : unloaded_end (unloaded_next end s) (drop (i + 1) all) ≡ unloaded_end start all =
    ap (λ (l : List SizedSection). unloaded_end end l) (sym (drop_there all i s there)) ∙ placed.ends in
    omega (arith, unloaded_grows (unloaded_next end s) (drop (i + 1) all))

pub unloaded_all : (start : ℕ) (all : List SizedSection) (made : List (Option ℕ)) (end i : ℕ) → length all ≤ i
    → ArePlacedUnloaded start all made end i
    → (made ≡ unloaded_offsets start all) × (end ≡ unloaded_end start all)
unfolding unloaded_offsets unloaded_end
unloaded_all start all made end i past placed =
    let none : drop i all ≡ [] = drop_all i all past in (
      sym (append-nil made) ∙ ap (λ (l : List SizedSection). made ++ unloaded_offsets end l) (sym none) ∙ placed.offsets,
      ap (λ (l : List SizedSection). unloaded_end end l) (sym none) ∙ placed.ends,
    )

-- ## The place of each section

-- the sections before a place are placed
abbrev pub ArePlacedAll : (SizedSection → Place) → List SizedSection → List Place → ℕ → Type 0
ArePlacedAll by all made i = made ++ map by (drop i all) ≡ map by all

pub places_more : (by : SizedSection → Place) (all : List SizedSection) (made : List Place) (i : ℕ) (s : SizedSection) (place : Place)
    (more : List Place)
    → slice_get all i ≡ Some s → ArePlacedAll by all made i → place ≡ by s → more ≡ made ++ place ∷ [] → ArePlacedAll by all more (i + 1)
places_more by all made i s place more there placed is is_more =
    ap (λ (l : List Place). l ++ map by (drop (i + 1) all)) is_more ∙ append_assoc made (place ∷ []) (map by (drop (i + 1) all))
    ∙ ap (λ (x : Place). made ++ x ∷ map by (drop (i + 1) all)) is
    ∙ ap (λ (l : List SizedSection). made ++ map by l) (sym (drop_there all i s there)) ∙ placed

pub places_all : (by : SizedSection → Place) (all : List SizedSection) (made : List Place) (i : ℕ) → length all ≤ i
    → ArePlacedAll by all made i → made ≡ map by all
places_all by all made i past placed =
    sym (append-nil made) ∙ ap (λ (l : List SizedSection). made ++ map by l) (sym (drop_all i all past)) ∙ placed

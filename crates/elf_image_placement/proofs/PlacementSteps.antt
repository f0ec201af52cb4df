-- What the steps of the placement rules show: a sort by starts, and ranges as the reader keeps them. The rules speak of places,
-- the reader goes over headers: a test of the places of headers is a test of the headers.
use Rattle.std.proofs.Common.{◌≡◌, ℕ, Bool, true, false, cond, List, [], ◌∷◌, map, refl, ap, ◌∙◌}
use Rattle.std.specs.Prelude.{◌&&◌, ◌||◌, not, filter}
use Rattle.std.specs.List.{list_all, list_any}
use Rattle.std.specs.List.Sorted.{IsNonDecreasingBy, IsPermutation}
use Rattle.std.proofs.Math.Bool.{and-true}
use Rattle.std.proofs.lemmas.List.Folds.{list_all-map}
use Rattle.elf_image_placement.specs.PlacementSteps.{follows_end, sections_end_by, stored_of}
use Rattle.elf_image_rules.specs.File.{is_allocated, is_loaded, loads_of}
use Rattle.elf_image_rules.specs.Placement.{ends_by, file_part, is_stored, ranges_in_file, something_loaded, stored_clear_of, stored_ranges}
use Rattle.elf_image_rules.specs.Places.{file_range, occupies_file, occupies_memory, place_of, places_of}
use Rattle.elf_image_rules.specs.Range.{Range}
use Rattle.elf_image_rules.specs.Ranges.{all_apart, apart}
use Rattle.elf_image_rules.specs.SectionHeader.{SectionHeader}
use Rattle.elf_image_rules.specs.SegmentHeader.{SegmentHeader}
use Rattle.elf_image_placement.proofs.PlacementApart.{all_apart-IsPermutation, follows_end-all_apart}

-- after a sort by starts, neighbours tell whether all are apart
pub sorted_apart : (before after : List Range) → IsPermutation before after → IsNonDecreasingBy (λ r. r.start) after → follows_end 0 after ≡ all_apart before
sorted_apart before after moved up = follows_end-all_apart after up ∙ all_apart-IsPermutation before after moved

-- ## Places of headers

filter-map : {X Y : Type 0} → (pick : Y → Bool) (f : X → Y) (xs : List X) → filter pick (map f xs) ≡ map f (filter (λ x. pick (f x)) xs)
filter-map pick f [] = refl
filter-map pick f (x ∷ xs) = ap (λ l. cond (pick (f x)) (f x ∷ l) l) (filter-map pick f xs) ∙ by_pick (pick (f x))
  where
    by_pick : (b : Bool) → cond b (f x ∷ map f (filter (λ y. pick (f y)) xs)) (map f (filter (λ y. pick (f y)) xs)) ≡ map f (cond b (x ∷ filter (λ y. pick (f y)) xs) (filter (λ y. pick (f y)) xs))
    by_pick true = refl
    by_pick false = refl

map-map : {X Y Z : Type 0} → (g : Y → Z) (f : X → Y) (xs : List X) → map g (map f xs) ≡ map (λ x. g (f x)) xs
map-map g f [] = refl
map-map g f (x ∷ xs) = ap (λ l. g (f x) ∷ l) (map-map g f xs)

any-map : {X Y : Type 0} → (test : Y → Bool) (f : X → Y) (xs : List X) → list_any test (map f xs) ≡ list_any (λ x. test (f x)) xs
any-map test f [] = refl
any-map test f (x ∷ xs) = ap (λ b. test (f x) || b) (any-map test f xs)

pub ranges_in_file_is : (size : ℕ) (ps : List SegmentHeader) (ss : List SectionHeader)
    → ranges_in_file size ps (places_of ss) ≡ (sections_end_by size ss && list_all (λ p. ends_by size (file_part p)) (loads_of ps))
ranges_in_file_is size ps ss =
    ap (λ b. b && list_all (λ p. ends_by size (file_part p)) (loads_of ps))
    (ap (list_all (λ s. ends_by size (file_range s))) (filter-map occupies_file place_of ss)
    ∙ list_all-map (λ s. ends_by size (file_range s)) place_of (filter (λ s. occupies_file (place_of s)) ss))

pub something_loaded_is : (ps : List SegmentHeader) (ss : List SectionHeader) → something_loaded ps (places_of ss) ≡ (not (list_any is_allocated ss) || list_any is_loaded ps)
something_loaded_is ps ss = ap (λ b. not b || list_any is_loaded ps) (any-map occupies_memory place_of ss)

pub stored_ranges_is : (ss : List SectionHeader) → stored_ranges (places_of ss) ≡ map (λ s. file_range (place_of s)) (stored_of ss)
stored_ranges_is ss = ap (map file_range) (filter-map is_stored place_of ss) ∙ map-map file_range place_of (stored_of ss)

-- sections against two ranges, one after the other
pub clear_of_each : (h t : Range) (ss : List SectionHeader)
    → stored_clear_of (h ∷ t ∷ []) (places_of ss) ≡ (list_all (λ s. apart h (file_range (place_of s))) (stored_of ss) && list_all (λ s. apart t (file_range (place_of s))) (stored_of ss))
clear_of_each h t ss =
    let range_of : SectionHeader → Range = λ s. file_range (place_of s) in
    let ranges : List Range = map range_of (stored_of ss) in
    ap (λ rs. list_all (λ r. list_all (λ q. apart r q) rs) (h ∷ t ∷ [])) (stored_ranges_is ss)
    ∙ ap (λ b. b && (list_all (λ q. apart t q) ranges && true)) (list_all-map (λ q. apart h q) range_of (stored_of ss))
    ∙ ap (λ b. list_all (λ s. apart h (range_of s)) (stored_of ss) && (b && true)) (list_all-map (λ q. apart t q) range_of (stored_of ss))
    ∙ ap (λ b. list_all (λ s. apart h (range_of s)) (stored_of ss) && b) (and-true (list_all (λ s. apart t (range_of s)) (stored_of ss)))

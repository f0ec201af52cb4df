-- The order that a GNU hash table asks for (GNU hash section).
use Rattle.std.specs.Prelude.{ℕ, ◌+◌, ◌%◌, ◌≡◌, ◌≢◌, List, [], ◌∷◌, ◌++◌, length, filter, Bool, ◌&&◌, ◌==◌, if◌then◌else◌}
use Rattle.std.specs.List.{flat_map}
use Rattle.std.specs.List.Sorted.{IsPermutation}
use Rattle.elf_format.specs.Hashes.{gnu_hash}
use Rattle.elf_format.specs.Image.{counted}
use Rattle.elf_format.specs.Views.{NamedSymbol}
use Rattle.elf_hashes.specs.Buckets.{AreBucketed, hashes_of, in_buckets}
use Rattle.elf_hashes.specs.Found.{ArePlaces, hashed_names, in_order, is_found, is_local, is_sought}

-- the symbol is found through a bucket of so many
abbrev pub is_found_in : ℕ → ℕ → NamedSymbol → Bool
is_found_in buckets bucket y = is_found y && gnu_hash y.name % buckets == bucket

-- the first symbol stays first; then those that are local, those that are sought, and bucket by bucket those that are found
unfoldable pub by_bucket : ℕ → List NamedSymbol → List NamedSymbol
by_bucket buckets [] = []
by_bucket buckets (first ∷ rest) =
    first ∷ (filter is_local rest ++ filter is_sought rest ++ flat_map (λ bucket. filter (is_found_in buckets bucket) rest) (counted buckets))

-- where the elements of a list stand for which a test holds, the list's first one being at a position
abbrev pub places_where : {A : Type 0} → (A → Bool) → ℕ → List A → List ℕ
places_where test i [] = []
places_where test i (x ∷ xs) = if test x then i ∷ places_where test (i + 1) xs else places_where test (i + 1) xs

-- where each symbol of that order stands
unfoldable pub places_by_bucket : ℕ → List NamedSymbol → List ℕ
places_by_bucket buckets [] = []
places_by_bucket buckets (first ∷ rest) =
    0 ∷ (places_where is_local 1 rest ++ places_where is_sought 1 rest
    ++ flat_map (λ bucket. places_where (is_found_in buckets bucket) 1 rest) (counted buckets))

-- The positions by buckets are those of the symbols ordered by buckets, each symbol's once; and in that order symbols stand by rising
-- buckets.
pub record OrdersByBucket : Type 0 where
  pub ordered : (buckets : ℕ) (ys : List NamedSymbol) → in_order ys (places_by_bucket buckets ys) ≡ by_bucket buckets ys
  pub are_places : (buckets : ℕ) (ys : List NamedSymbol) → ArePlaces ys (places_by_bucket buckets ys)
  pub once : (buckets : ℕ) (ys : List NamedSymbol) → buckets ≢ 0 → IsPermutation (counted (length ys)) (places_by_bucket buckets ys)
  pub bucketed : (buckets : ℕ) (ys : List NamedSymbol) → buckets ≢ 0 → AreBucketed (in_buckets buckets (hashes_of gnu_hash (hashed_names (by_bucket buckets ys))))

-- Buckets and chains. A hash table is made of the buckets in which symbols stand, symbol by symbol: that of its hash, or none.
use Rattle.std.specs.Prelude.{ℕ, ◌+◌, ◌%◌, ◌<◌, ◌≤◌, ◌≡◌, List, [], ◌∷◌, length, map, Option, Some, None, option_map, ◌==◌, if◌then◌else◌, slice_get}
use Rattle.elf_format.specs.Image.{counted}

-- the hash of each name that is there
abbrev pub hashes_of : (List ℕ → ℕ) → List (Option (List ℕ)) → List (Option ℕ)
hashes_of hash names = map (option_map hash) names

-- the bucket of each hash, where there are so many buckets
abbrev pub in_buckets : ℕ → List (Option ℕ) → List (Option ℕ)
in_buckets buckets hashes = map (option_map (λ hash. hash % buckets)) hashes

-- the number of the first symbol that stands in a bucket, where the list's first symbol has a number; 0 where none stands there
unfoldable pub next_in : ℕ → ℕ → List (Option ℕ) → ℕ
next_in bucket i [] = 0
next_in bucket i (None ∷ xs) = next_in bucket (i + 1) xs
next_in bucket i (Some b ∷ xs) = if b == bucket then i else next_in bucket (i + 1) xs

-- the first symbol of each bucket
abbrev pub heads : ℕ → List (Option ℕ) → List ℕ
heads buckets xs = map (λ bucket. next_in bucket 0 xs) (counted buckets)

-- the next symbol of its bucket behind each symbol, 0 for one that stands in none
unfoldable pub chains : ℕ → List (Option ℕ) → List ℕ
chains i [] = []
chains i (None ∷ xs) = 0 ∷ chains (i + 1) xs
chains i (Some b ∷ xs) = next_in b (i + 1) xs ∷ chains (i + 1) xs

-- the symbols that stand in buckets are the last ones, and stand by rising buckets
abbrev pub AreBucketed : List (Option ℕ) → Type 0
AreBucketed xs = (i j b : ℕ) → i < j → j < length xs → slice_get xs i ≡ Some (Some b) → (c : ℕ) × (slice_get xs j ≡ Some (Some c)) × (b ≤ c)

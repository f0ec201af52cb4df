-- String tables (gABI, String Table): texts that each end with a NUL, told by where they begin.
use Rattle.std.specs.Prelude.{ℕ, ◌+◌, ◌<◌, ◌≡◌, ◌≢◌, List, [], ◌∷◌, ◌++◌, length, Bool, ◌&&◌, ◌||◌, not, Option, Some, IsSome, Contains, All, false, nat_eq, ◌==◌, filter, map, sum_by, slice_get, if◌then◌else◌}
use Rattle.std.specs.Map.{lookup}
use Rattle.std.specs.List.{ends_with, list_all, list_any}
use Rattle.std.specs.Str.{bytes_eq}
pub use Rattle.elf_image.specs.DynamicList.{holds_nul}
use Rattle.patch_bytes.specs.Memory.{memory_of, text_at}
use Rattle.patch_bytes.specs.Number.{field}

-- no text has a NUL in it
abbrev pub HoldNoNul : List (List ℕ) → Type 0
HoldNoNul texts = All (λ text. holds_nul text ≡ false) texts

-- a text stands at a place of a table, a NUL behind it
pub record StandsAt (table : List ℕ) (place : ℕ) (text : List ℕ) : Type 0 where
  pub bytes : field (length text + 1) place table ≡ text ++ 0 ∷ []
  -- a text that stands at a place is what a reader finds there
  pub read : (room : ℕ) → length text < room → text_at room (memory_of table) place ≡ Some text

-- the texts, each once
abbrev pub distinct : List (List ℕ) → List (List ℕ)
distinct [] = []
distinct (t ∷ ts) = if list_any (bytes_eq t) ts then distinct ts else t ∷ distinct ts

-- a text needs bytes of its own: it isn't empty, and no other text ends with it
abbrev pub stands_alone : List (List ℕ) → List ℕ → Bool
stands_alone texts t = not (bytes_eq t []) && list_all (λ u. bytes_eq u t || not (ends_with nat_eq u t)) texts

-- how many bytes a text takes, with its NUL
abbrev pub size_of_text : List ℕ → ℕ
size_of_text text = length text + 1

-- how long a table of texts is in which they share their ends: one NUL, and once each text that needs bytes of
-- its own, with its NUL
unfoldable pub table_length : List (List ℕ) → ℕ
table_length texts = 1 + sum_by size_of_text (filter (stands_alone texts) (distinct texts))

-- A finished table: its bytes, its texts with where each stands, and where those stand that were added, one by one in the order in
-- which they were.
pub record Strings : Type 0 where
  pub bytes : List ℕ
  pub places : List (List ℕ × ℕ)
  pub in_order : List ℕ

-- where a text stands in a table, as the table tells it
abbrev pub place_of : Strings → List ℕ → Option ℕ
place_of table text = lookup (bytes_eq text) table.places

-- each text of which the table tells a place stands there
abbrev pub PlacesStand : Strings → Type 0
PlacesStand table = (text : List ℕ) (place : ℕ) → place_of table text ≡ Some place → StandsAt table.bytes place text

-- the table once a text is placed in it: its bytes stay, and so do the places of other texts
pub record IsPlaced (old new : Strings) (text : List ℕ) (place : ℕ) : Type 0 where
  pub bytes : new.bytes ≡ old.bytes
  pub here : place_of new text ≡ Some place
  pub others : (other : List ℕ) → other ≢ text → place_of new other ≡ place_of old other
  -- each text that had a place has one
  pub had : (other : List ℕ) → IsSome (place_of old other) → IsSome (place_of new other)
  pub in_order : new.in_order ≡ old.in_order

-- the table holds these texts, no others, and no byte more than they need
pub record IsTableOf (texts : List (List ℕ)) (table : Strings) : Type 0 where
  pub added : (text : List ℕ) → Contains texts text → IsSome (place_of table text)
  pub others : (text : List ℕ) → IsSome (place_of table text) → Contains texts text
  pub long : length table.bytes ≡ table_length texts
  -- the text at 0 is empty
  pub first : slice_get table.bytes 0 ≡ Some 0
  -- the places of the texts, one by one
  pub in_order : map Some table.in_order ≡ map (place_of table) texts

-- How a table is put together from texts in an order in which each stands behind those that end with it.
use Rattle.std.specs.Prelude.{ℕ, ◌+◌, ◌≤◌, ◌<◌, ◌^◌, ◌≡◌, List, [], ◌∷◌, ◌++◌, length, Some, nat_eq, sum_by, slice_get, slice_index, slice_index_or, is_some, map, reverse, Bool, All, if◌then◌else◌}
use Rattle.std.specs.List.{ends_with, list_any}
use Rattle.std.specs.Borrow.{Bor}
use Rattle.std.specs.Str.{bytes_eq}
use Rattle.std.specs.Cmp.Lexicographic.{slice_cmp}
use Rattle.std.specs.Map.{lookup}
use Rattle.std.specs.Ordering.{is_lt, nat_cmp}
use Rattle.patch_bytes.specs.Number.{field}
use Rattle.elf_tables.specs.Strings.{PlacesStand, StandsAt, Strings, place_of, size_of_text}

-- a text, and how many others were added before it
pub record Numbered : Type 0 where
  pub text : List ℕ
  pub nth : ℕ

abbrev pub texts_in : List Numbered → List (List ℕ)
texts_in ks = map (λ k. k.text) ks

-- as many texts were added before each of these as stand before it
abbrev pub AreInOrder : List Numbered → Type 0
AreInOrder ks = (i : ℕ) (d : Numbered) → i < length ks → (slice_index_or ks i d).nth ≡ i

-- the text at a position
abbrev pub text_numbered : List Numbered → ℕ → Numbered
text_numbered ks i = slice_index_or ks i (record { text = []; nth = 0 })

-- the texts that don't end the text before them
abbrev pub appended : List ℕ → List (List ℕ) → List (List ℕ)
appended last [] = []
appended last (t ∷ ts) = if ends_with nat_eq last t then appended t ts else t ∷ appended t ts

-- how long the table is that these make
abbrev pub laid_length : List (List ℕ) → ℕ
laid_length texts = 1 + sum_by size_of_text (appended [] texts)

-- the bytes of each key, with its value
abbrev pub by_bytes : List (Bor (List ℕ) × ℕ) → List (List ℕ × ℕ)
by_bytes entries = map (λ entry. (entry.0.now, entry.1)) entries

-- each text with its place
abbrev pub with_places : List Numbered → List ℕ → List (List ℕ × ℕ)
with_places [] places = []
with_places (k ∷ ks) [] = []
with_places (k ∷ ks) (place ∷ places) = (k.text, place) ∷ with_places ks places

-- each of these pairs of a text and a place tells of its text what the first of them with this text tells
abbrev pub AreTold : List (List ℕ × ℕ) → Type 0
AreTold pairs = All (λ pair. lookup (bytes_eq pair.0) pairs ≡ Some pair.1) pairs

-- the order in which texts are laid, those that end others behind them
abbrev pub is_before : List ℕ → List ℕ → Bool
is_before text other = is_lt (slice_cmp nat_cmp (reverse other) (reverse text))

-- the bytes that these make, and where each of them stands there
pub record AreLaid (ks : List Numbered) (bytes places : List ℕ) : Type 0 where
  pub known : (text : List ℕ) → is_some (lookup (bytes_eq text) (with_places ks places)) ≡ list_any (bytes_eq text) (texts_in ks)
  pub long : length bytes ≡ laid_length (texts_in ks)
  pub fits : laid_length (texts_in ks) ≤ 2 ^ 32
  pub first : slice_get bytes 0 ≡ Some 0
  pub stand : (text : List ℕ) (place : ℕ) → lookup (bytes_eq text) (with_places ks places) ≡ Some place → StandsAt bytes place text
  pub told : AreTold (with_places ks places)
  pub many : length places ≡ length ks

-- the place of a text with this number is told by this number too; it is one of so many texts
pub record IsOrdered (ks : List Numbered) (places order : List ℕ) (count nth : ℕ) : Type 0 where
  pub at : ℕ
  pub within : at < count
  pub numbered : (text_numbered ks at).nth ≡ nth
  pub place : slice_index order nth ≡ slice_index places at

-- the places by the numbers of the texts, as far as so many of these were looked at
pub record AreOrdered (ks : List Numbered) (places order : List ℕ) (count : ℕ) : Type 0 where
  pub many : length order ≡ length ks
  pub each : (k : ℕ) → k < count → IsOrdered ks places order count (text_numbered ks k).nth

-- the place with this number is that of a text with this number
pub record StandsInOrder (ks : List Numbered) (table : Strings) (nth : ℕ) : Type 0 where
  pub at : ℕ
  pub within : at < length ks
  pub numbered : (text_numbered ks at).nth ≡ nth
  pub place : place_of table (text_numbered ks at).text ≡ Some (slice_index table.in_order nth)

-- the table that these make
pub record IsLaid (ks : List Numbered) (table : Strings) : Type 0 where
  pub known : (text : List ℕ) → is_some (place_of table text) ≡ list_any (bytes_eq text) (texts_in ks)
  pub long : length table.bytes ≡ laid_length (texts_in ks)
  pub fits : laid_length (texts_in ks) ≤ 2 ^ 32
  pub first : slice_get table.bytes 0 ≡ Some 0
  pub stand : PlacesStand table
  pub many : length table.in_order ≡ length ks
  pub ordered : (k : ℕ) → k < length ks → StandsInOrder ks table (text_numbered ks k).nth

-- a text with its NUL is there, from a place of a table on
unfoldable pub StandsWith : List ℕ → ℕ → List ℕ → Type 0
StandsWith table place text = field (length text + 1) place table ≡ text ++ 0 ∷ []

-- the table after one more text: it stands within the text before it, where it ends that, else behind the table
pub record PutsText (old new last text : List ℕ) (place : ℕ) : Type 0 where
  pub more : List ℕ
  pub grown : new ≡ old ++ more
  pub stands : StandsWith new place text
  pub size : length more ≡ (if ends_with nat_eq last text then 0 else length text + 1)
  pub fits : length new ≤ 2 ^ 32

-- The GNU hash table of symbols (GNU hash section), and what look-ups in it find.
use Rattle.std.specs.Prelude.{ℕ, ◌+◌, ◌-◌, ◌/◌, ◌%◌, ◌^◌, ◌≡◌, ◌≢◌, ◌≤◌, ◌<◌, ◌↔◌, List, [], ◌∷◌, ◌++◌, length, map, Bool, true, not, Option, Some, None, bit_or, ◌==◌, if◌then◌else◌}
use Rattle.patch_bytes.specs.Memory.{Keeps, Memory, memory_of}
use Rattle.elf_format.specs.declared.form.Form.{Form}
use Rattle.elf_format.specs.Hashes.{GnuHeader, IsFoundByGnuHash, PassesFilter, filter_bits, gnu_bucket, gnu_hash, gnu_header, gnu_word}
use Rattle.elf_format.specs.Image.{counted}
use Rattle.elf_format.specs.Views.{NamedSymbol}
use Rattle.elf_tables.specs.Fields.{fields, words}
use Rattle.elf_tables.specs.Spelled.{class_word}
use Rattle.elf_hashes.specs.declared.gnu.GnuSizes.{GnuSizes}
use Rattle.elf_hashes.specs.Buckets.{AreBucketed, hashes_of, heads, in_buckets}
use Rattle.elf_hashes.specs.Found.{AreNamesOf, IsFoundAt, hashed_names}

-- ## The header

-- how many symbols stand before the first that has a hash
unfoldable pub first_hashed : List (Option ℕ) → ℕ
first_hashed [] = 0
first_hashed (None ∷ hashes) = 1 + first_hashed hashes
first_hashed (Some hash ∷ hashes) = 0

-- the header of a table of these hashes: its sizes, and the first symbol that has a hash, or their number where none has
abbrev pub header_of : GnuSizes → List (Option ℕ) → GnuHeader
header_of sizes hashes =
    record { buckets = sizes.buckets; first_symbol = first_hashed hashes; filter_words = sizes.filter_words; filter_shift = sizes.filter_shift }

abbrev pub header_words : GnuHeader → List ℕ
header_words h = h.buckets ∷ h.first_symbol ∷ h.filter_words ∷ h.filter_shift ∷ []

-- ## The filter

-- the two bits that a hash names
abbrev pub bits_of : Form → ℕ → ℕ → ℕ
bits_of form shift hash = bit_or (2 ^ (hash % filter_bits form)) (2 ^ (hash / 2 ^ shift % filter_bits form))

-- a word of the filter: the bits of all hashes that name the word
unfoldable pub filter_word_of : Form → GnuSizes → ℕ → List (Option ℕ) → ℕ
filter_word_of form sizes k [] = 0
filter_word_of form sizes k (None ∷ hashes) = filter_word_of form sizes k hashes
filter_word_of form sizes k (Some hash ∷ hashes) =
    let others = filter_word_of form sizes k hashes in
    if hash / filter_bits form % sizes.filter_words == k then bit_or others (bits_of form sizes.filter_shift hash) else others

abbrev pub filter_words_of : Form → GnuSizes → List (Option ℕ) → List ℕ
filter_words_of form sizes hashes = map (λ k. filter_word_of form sizes k hashes) (counted sizes.filter_words)

-- ## The words of hashed symbols

-- no symbol of the bucket stands next
abbrev pub ends : ℕ → List (Option ℕ) → Bool
ends bucket [] = true
ends bucket (None ∷ xs) = true
ends bucket (Some b ∷ xs) = not (b == bucket)

-- a symbol's word: its hash, but for the lowest bit, which is 1 at a bucket's last symbol
abbrev pub word_of : ℕ → ℕ → List (Option ℕ) → ℕ
word_of buckets hash behind = hash - hash % 2 + (if ends (hash % buckets) (in_buckets buckets behind) then 1 else 0)

-- the words of all symbols that have a hash
unfoldable pub gnu_words : ℕ → List (Option ℕ) → List ℕ
gnu_words buckets [] = []
gnu_words buckets (None ∷ hashes) = gnu_words buckets hashes
gnu_words buckets (Some hash ∷ hashes) = word_of buckets hash hashes ∷ gnu_words buckets hashes

-- ## The table

-- the bytes of a GNU hash table: header, filter, the first symbol of each bucket, and the words of the symbols
abbrev pub gnu_table : Form → GnuSizes → List (Option ℕ) → List ℕ
gnu_table form sizes hashes =
    fields form.order (words (header_words (header_of sizes hashes)))
    ++ fields form.order (map (class_word form) (filter_words_of form sizes hashes))
    ++ fields form.order (words (heads sizes.buckets (in_buckets sizes.buckets hashes)))
    ++ fields form.order (words (gnu_words sizes.buckets hashes))

-- the bytes are the table of these names, of these sizes
abbrev pub IsGnuTable : Form → GnuSizes → List (Option (List ℕ)) → List ℕ → Type 0
IsGnuTable form sizes names table = table ≡ gnu_table form sizes (hashes_of gnu_hash names)

-- There are buckets and words of a filter, all numbers fit, and a shift leaves some bit of a hash.
pub record AreSizes (sizes : GnuSizes) : Type 0 where
  pub buckets : 0 < sizes.buckets
  pub buckets_fit : sizes.buckets < 2 ^ 32
  pub filter_words : 0 < sizes.filter_words
  pub filter_words_fit : sizes.filter_words < 2 ^ 32
  pub filter_shift : sizes.filter_shift < 32

-- ## What is promised of look-ups

-- A memory that holds a table of symbols, whatever else it holds, with who tells the symbols' names. The symbols stand by rising
-- buckets.
pub record HoldsGnuTable (form : Form) (sizes : GnuSizes) (ys : List NamedSymbol) (m : Memory) (name_of : ℕ → Option (List ℕ)) : Type 0 where
  pub sized : AreSizes sizes
  pub symbols_fit : length ys < 2 ^ 32
  pub bucketed : AreBucketed (in_buckets sizes.buckets (hashes_of gnu_hash (hashed_names ys)))
  pub table : List ℕ
  pub is_table : IsGnuTable form sizes (hashed_names ys) table
  pub held : Keeps (memory_of table) m
  pub names : AreNamesOf ys name_of

-- from a symbol on the words go on to one below n that is the last of a bucket
abbrev pub RunEnds : Form → Memory → GnuHeader → ℕ → ℕ → Type 0
RunEnds form m h n first = (last word : ℕ) × (first ≤ last) × (last < n) × (gnu_word form m h last ≡ Some word) × (word % 2 ≡ 1)

-- A look-up finds a name at a symbol just where the symbol has it, is defined, isn't local and isn't the first; the filter lets
-- each such name pass; and the run of each bucket that isn't empty ends at a symbol that is there.
pub record GnuTablesFind : Type 0 where
  pub finds : (form : Form) (sizes : GnuSizes) (ys : List NamedSymbol) (m : Memory) (name_of : ℕ → Option (List ℕ)) → HoldsGnuTable form sizes ys m name_of
      → (name : List ℕ) (i : ℕ) → IsFoundByGnuHash form m name_of name i ↔ IsFoundAt ys name i
  pub passes : (form : Form) (sizes : GnuSizes) (ys : List NamedSymbol) (m : Memory) (name_of : ℕ → Option (List ℕ)) → HoldsGnuTable form sizes ys m name_of
      → (h : GnuHeader) → gnu_header form m ≡ Some h → (name : List ℕ) (i : ℕ) → IsFoundAt ys name i → PassesFilter form m h (gnu_hash name)
  pub ends : (form : Form) (sizes : GnuSizes) (ys : List NamedSymbol) (m : Memory) (name_of : ℕ → Option (List ℕ)) → HoldsGnuTable form sizes ys m name_of
      → (h : GnuHeader) → gnu_header form m ≡ Some h → (bucket first : ℕ) → bucket < h.buckets → gnu_bucket form m h bucket ≡ Some first → first ≢ 0
      → RunEnds form m h (length ys) first

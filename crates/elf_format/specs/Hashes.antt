-- The hashes of names and the look-ups in hash tables, each table read from its first byte on.
use Rattle.std.specs.Prelude.{ℕ, zero, suc, ◌+◌, ◌-◌, ◌*◌, ◌/◌, ◌%◌, ◌^◌, ◌≤◌, ◌<◌, ◌≡◌, ◌≢◌, List, Option, Some, None, ◌==◌, if◌then◌else◌, bit_xor, fold}
use Rattle.patch_bytes.specs.Number.{word_size}
use Rattle.patch_bytes.specs.Memory.{◌>>=◌, Memory, number_in}
use Rattle.elf_format.specs.Form.{Form, by_class}

-- the gABI's hash of a name, in 32 bits: the upper four bits come back at the low end (gABI, Hash Table)
abbrev pub gabi_step : ℕ → ℕ → ℕ
gabi_step hash byte =
    let shifted = (hash * 16 + byte) % 2 ^ 32 in
    bit_xor (shifted % 2 ^ 28) (16 * (shifted / 2 ^ 28))

unfoldable pub gabi_hash : List ℕ → ℕ
gabi_hash name = fold gabi_step 0 name

-- the GNU hash of a name, in 32 bits (GNU hash section)
unfoldable pub gnu_hash : List ℕ → ℕ
gnu_hash name = fold (λ hash byte. (hash * 33 + byte) % 2 ^ 32) 5381 name

-- ## The gABI's table: the number of buckets, the number of chain entries, the buckets, the chain entries

-- the i-th word of a table
abbrev pub word_of_table : Form → Memory → ℕ → Option ℕ
word_of_table form table i = number_in form.order 4 table (4 * i)

-- the k-th symbol that a look-up comes to, from 0: a bucket's symbol, then each symbol's chain entry, while
-- that isn't 0 (gABI, Hash Table)
unfoldable pub gabi_visited : Form → Memory → ℕ → ℕ → Option ℕ
gabi_visited form table hash zero = do
  buckets ← word_of_table form table 0
  if buckets == 0 then None else word_of_table form table (2 + hash % buckets)
gabi_visited form table hash (suc k) = do
  buckets ← word_of_table form table 0
  i ← gabi_visited form table hash k
  if i == 0 then None else word_of_table form table (2 + buckets + i)

-- the look-up of a name comes to symbol i, which has that name
pub record IsFoundByGabiHash (form : Form) (table : Memory) (name_of : ℕ → Option (List ℕ)) (name : List ℕ) (i : ℕ) : Type 0 where
  pub steps : ℕ
  pub visited : gabi_visited form table (gabi_hash name) steps ≡ Some i
  pub is_symbol : i ≢ 0
  pub named : name_of i ≡ Some name

-- ## The GNU table: four numbers, the words of a Bloom filter, the buckets, a word for each hashed symbol

pub record GnuHeader : Type 0 where
  pub buckets : ℕ
  pub first_symbol : ℕ
  pub filter_words : ℕ
  pub filter_shift : ℕ

unfoldable pub gnu_header : Form → Memory → Option GnuHeader
gnu_header form table = do
  buckets ← word_of_table form table 0
  first_symbol ← word_of_table form table 1
  filter_words ← word_of_table form table 2
  filter_shift ← word_of_table form table 3
  Some (record { buckets = buckets; first_symbol = first_symbol; filter_words = filter_words; filter_shift = filter_shift })

-- how many bits a word of the filter has
abbrev pub filter_bits : Form → ℕ
filter_bits form = by_class form.wide 32 64

abbrev pub filter_word : Form → Memory → ℕ → Option ℕ
filter_word form table k = number_in form.order (word_size form.wide) table (16 + k * word_size form.wide)

-- the first symbol of a bucket
abbrev pub gnu_bucket : Form → Memory → GnuHeader → ℕ → Option ℕ
gnu_bucket form table header k = number_in form.order 4 table (16 + header.filter_words * word_size form.wide + 4 * k)

-- the word of a hashed symbol: its hash, but for the lowest bit, which is 1 at a bucket's last symbol
abbrev pub gnu_word : Form → Memory → GnuHeader → ℕ → Option ℕ
gnu_word form table header i =
    number_in form.order 4 table (16 + header.filter_words * word_size form.wide + 4 * header.buckets + 4 * (i - header.first_symbol))

-- the filter lets a hash pass: the two bits that the hash names are set in the word that it names
pub record PassesFilter (form : Form) (table : Memory) (header : GnuHeader) (hash : ℕ) : Type 0 where
  pub words : 0 < header.filter_words
  pub word : ℕ
  pub is_word : filter_word form table ((hash / filter_bits form) % header.filter_words) ≡ Some word
  pub first_bit : (word / 2 ^ (hash % filter_bits form)) % 2 ≡ 1
  pub second_bit : (word / 2 ^ ((hash / 2 ^ header.filter_shift) % filter_bits form)) % 2 ≡ 1

-- the look-up of a name comes to symbol i, which has that name (GNU hash section)
pub record IsFoundByGnuHash (form : Form) (table : Memory) (name_of : ℕ → Option (List ℕ)) (name : List ℕ) (i : ℕ) : Type 0 where
  pub header : GnuHeader
  pub is_header : gnu_header form table ≡ Some header
  pub passes : PassesFilter form table header (gnu_hash name)
  pub buckets : 0 < header.buckets
  pub first : ℕ
  pub is_first : gnu_bucket form table header (gnu_hash name % header.buckets) ≡ Some first
  pub is_symbol : first ≢ 0
  pub hashed : header.first_symbol ≤ first
  pub from_first : first ≤ i
  -- no symbol before i is the last of the bucket
  pub goes_on : (j : ℕ) → first ≤ j → j < i → (word : ℕ) × (gnu_word form table header j ≡ Some word) × (word % 2 ≡ 0)
  pub word : ℕ
  pub is_word : gnu_word form table header i ≡ Some word
  pub same_hash : word / 2 ≡ gnu_hash name / 2
  pub named : name_of i ≡ Some name

-- The numbers at the front of hash tables.
use Rattle.std.proofs.Common.{◌≡◌, ◌≢◌, ℕ, ◌+◌, ◌*◌, ◌<◌, ◌≤◌, List, Bool, true, false, Option, Some, None, length, not, refl, sym, ap, ◌∙◌, subst, inl, inr, ◌⊎◌, arith}
use Rattle.std.specs.Prelude.{◌&&◌, ◌==◌, nat_le, unwrap_or}
use Rattle.std.proofs.lemmas.Bool.{and_parts, cases_lt, false≢true, leb-true}
use Rattle.patch_bytes.specs.declared.number.ByteOrder2.{ByteOrder2}
use Rattle.patch_bytes.specs.declared.number.Wide.{Wide}
use Rattle.patch_bytes.specs.declared.number.Wide.TheVariants.{W32, W64}
use Rattle.patch_bytes.specs.Memory.{◌>>=◌, memory_of, number_in}
use Rattle.patch_bytes.specs.Number.{number_at, value_of, word_size}
use Rattle.patch_bytes.proofs.MemoryLaws.{bytes_at-memory_of}
use Rattle.elf_format.specs.declared.form.Form.{Form}
use Rattle.elf_format.specs.Form.{by_class, field_of}
use Rattle.elf_format.specs.Hashes.{GnuHeader, gnu_header, word_of_table}
use Rattle.elf_format.specs.Image.{ImageSection}
use Rattle.elf_format.specs.Options.{is_some_and}
use Rattle.elf_format.proofs.ForCallers.TableSteps.{bytes_at-past}
use Rattle.elf_image.specs.Renumbering.{can_make_gabi, is_gabi_front, is_gnu_front}

-- a number at one place in files of both classes
pub at_one_place : (form : Form) (a : ℕ) (bytes : List ℕ) → field_of form (a, 4) (a, 4) bytes ≡ number_at form.order 4 a bytes
at_one_place form a bytes = by_wide form.wide
  where
    by_wide : (wide : Wide) → (let here : ℕ × ℕ = (a, 4) in let place : ℕ × ℕ = by_class wide here here in number_at form.order place.1 place.0 bytes) ≡ number_at form.order 4 a bytes
    by_wide W32 = refl
    by_wide W64 = refl

-- a word that lies in the table
word_there : (order : ByteOrder2) (a : ℕ) (bytes : List ℕ) → a + 4 ≤ length bytes → number_in order 4 (memory_of bytes) a ≡ Some (number_at order 4 a bytes)
unfolding number_in number_at
word_there order a bytes within = ap (λ (o : Option (List ℕ)). o >>= λ b. Some (value_of order b)) (bytes_at-memory_of 4 a bytes within)

-- one that doesn't
word_past : (order : ByteOrder2) (a : ℕ) (bytes : List ℕ) → length bytes < a + 4 → number_in order 4 (memory_of bytes) a ≡ None
unfolding number_in
word_past order a bytes past = ap (λ (o : Option (List ℕ)). o >>= λ b. Some (value_of order b)) (bytes_at-past 4 a bytes (omega arith) past)

-- ## The GNU table

-- the four numbers of a GNU table
pub header_there : (form : Form) (bytes : List ℕ) → 16 ≤ length bytes
    → gnu_header form (memory_of bytes)
    ≡ Some (record {
      buckets = number_at form.order 4 0 bytes;
      first_symbol = number_at form.order 4 4 bytes;
      filter_words = number_at form.order 4 8 bytes;
      filter_shift = number_at form.order 4 12 bytes;
    })
unfolding gnu_header
header_there form bytes within =
    rw (word_there form.order 0 bytes (omega (arith, within)), word_there form.order 4 bytes (omega (arith, within)), word_there form.order 8 bytes (omega (arith, within)), word_there form.order 12 bytes (omega (arith, within))) refl

-- the front of a table has them
pub front_long : (form : Form) (size : ℕ) (h : GnuHeader) → is_gnu_front form size h ≡ true → 16 ≤ size
front_long form size h front =
    let fits : 16 + h.filter_words * word_size form.wide + 4 * h.buckets ≤ size = leb-true (16 + h.filter_words * word_size form.wide + 4 * h.buckets) size (and_parts _ _ front).1 in
    omega (arith, fits)

-- ## The gABI's table

-- the front of a table by the first of its numbers
abbrev tells : Form → List ℕ → Option ℕ → Bool
tells form content word =
    is_some_and (λ buckets. is_some_and (is_gabi_front (length content) buckets) (word_of_table form (memory_of content) 1)) word

-- how many buckets it tells
pub record BucketsRead (form : Form) (content : List ℕ) : Type 0 where
  pub there : number_at form.order 4 0 content ≡ unwrap_or (word_of_table form (memory_of content) 0) 0
  pub some : number_at form.order 4 0 content ≢ 0
  pub long : 4 ≤ length content

pub buckets_read : (form : Form) (s : ImageSection) → can_make_gabi form s ≡ true → BucketsRead form s.content
buckets_read form s can = by_length (cases_lt (length s.content) 4)
  where
    told : tells form s.content (word_of_table form (memory_of s.content) 0) ≡ true
    told = (and_parts (not (s.sh_entsize == 8)) (tells form s.content (word_of_table form (memory_of s.content) 0)) can).1

    front_some : (buckets : ℕ) (chains : Option ℕ) → is_some_and (is_gabi_front (length s.content) buckets) chains ≡ true → not (buckets == 0) ≡ true
    front_some buckets None h = absurd (false≢true h)
    front_some buckets (Some chains) h =
        (and_parts (not (buckets == 0)) (nat_le (4 * (2 + buckets + chains)) (length s.content)) h).0

    by_length : (length s.content < 4) ⊎ (4 ≤ length s.content) → BucketsRead form s.content
    by_length (inl short) =
        absurd (false≢true (sym (ap (tells form s.content) (word_past form.order 0 s.content (omega (arith, short)))) ∙ told))
    by_length (inr within) =
        let word : word_of_table form (memory_of s.content) 0 ≡ Some (number_at form.order 4 0 s.content) =
        word_there form.order 0 s.content (omega (arith, within)) in
        let some : not (number_at form.order 4 0 s.content == 0) ≡ true =
        front_some (number_at form.order 4 0 s.content) (word_of_table form (memory_of s.content) 1) (sym (ap (tells form s.content) word) ∙ told) in
        record {
          there = sym (ap (λ (o : Option ℕ). unwrap_or o 0) word);
          some = λ e. false≢true (sym (ap (λ n. not (n == 0)) e) ∙ some);
          long = within;
        }

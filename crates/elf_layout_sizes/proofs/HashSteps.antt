-- The numbers at the front of hash tables.
use Rattle.std.proofs.Common.{◌≡◌, ℕ, ◌+◌, ◌<◌, ◌≤◌, List, Option, Some, None, length, refl, sym, ap, arith}
use Rattle.std.specs.Prelude.{unwrap_or}
use Rattle.patch_bytes.specs.declared.number.ByteOrder2.{ByteOrder2}
use Rattle.patch_bytes.specs.declared.number.Wide.{Wide}
use Rattle.patch_bytes.specs.declared.number.Wide.TheVariants.{W32, W64}
use Rattle.patch_bytes.specs.Memory.{◌>>=◌, memory_of, number_in}
use Rattle.patch_bytes.specs.Number.{number_at, value_of}
use Rattle.patch_bytes.proofs.MemoryLaws.{bytes_at-memory_of}
use Rattle.elf_format.specs.declared.form.Form.{Form}
use Rattle.elf_format.specs.Form.{by_class, field_of}
use Rattle.elf_format.specs.Hashes.{gnu_header, word_of_table}
use Rattle.elf_format.proofs.ForCallers.TableSteps.{bytes_at-past}

-- a number at one place in files of both classes
pub at_one_place : (form : Form) (a : ℕ) (bytes : List ℕ) → field_of form (a, 4) (a, 4) bytes ≡ number_at form.order 4 a bytes
at_one_place form a bytes = by_wide form.wide
  where
    by_wide : (wide : Wide) → (let here : ℕ × ℕ = (a, 4) in let place : ℕ × ℕ = by_class wide here here in number_at form.order place.1 place.0 bytes) ≡ number_at form.order 4 a bytes
    by_wide W32 = refl
    by_wide W64 = refl

-- a word that lies in the table
pub word_there : (order : ByteOrder2) (a : ℕ) (bytes : List ℕ) → a + 4 ≤ length bytes → number_in order 4 (memory_of bytes) a ≡ Some (number_at order 4 a bytes)
unfolding number_in number_at
word_there order a bytes within = ap (λ (o : Option (List ℕ)). o >>= λ b. Some (value_of order b)) (bytes_at-memory_of 4 a bytes within)

-- one that doesn't
pub word_past : (order : ByteOrder2) (a : ℕ) (bytes : List ℕ) → length bytes < a + 4 → number_in order 4 (memory_of bytes) a ≡ None
unfolding number_in
word_past order a bytes past = ap (λ (o : Option (List ℕ)). o >>= λ b. Some (value_of order b)) (bytes_at-past 4 a bytes (omega arith) past)

-- the four numbers of a GNU table
pub header_there : (form : Form) (bytes : List ℕ) → 16 ≤ length bytes
    → gnu_header form (memory_of bytes)
    ≡ Some (record {
      buckets = number_at form.order 4 0 bytes;
      first_symbol = number_at form.order 4 4 bytes;
      filter_words = number_at form.order 4 8 bytes;
      filter_shift = number_at form.order 4 12 bytes;
    })
unfolding gnu_header
header_there form bytes within =
    rw (word_there form.order 0 bytes (omega arith), word_there form.order 4 bytes (omega arith), word_there form.order 8 bytes (omega arith), word_there form.order 12 bytes (omega arith)) refl

nothing : {A B : Type 0} (o : Option A) (f : A → Option B) → ((x : A) → f x ≡ None) → (o >>= f) ≡ None
nothing None f none = refl
nothing (Some x) f none = none x

pub header_past : (form : Form) (bytes : List ℕ) → length bytes < 16 → gnu_header form (memory_of bytes) ≡ None
unfolding gnu_header
header_past form bytes past =
    nothing (number_in form.order 4 (memory_of bytes) 0) _ (λ buckets.
    nothing (number_in form.order 4 (memory_of bytes) 4) _ (λ first_symbol.
    nothing (number_in form.order 4 (memory_of bytes) 8) _ (λ filter_words. rw (word_past form.order 12 bytes past) refl)))

-- the number of buckets of a gABI table
pub buckets_there : (form : Form) (bytes : List ℕ) → 4 ≤ length bytes → number_at form.order 4 0 bytes ≡ unwrap_or (word_of_table form (memory_of bytes) 0) 0
buckets_there form bytes within = ap (λ (o : Option ℕ). unwrap_or o 0) (sym (word_there form.order 0 bytes within))

pub buckets_past : (form : Form) (bytes : List ℕ) → length bytes < 4 → 0 ≡ unwrap_or (word_of_table form (memory_of bytes) 0) 0
buckets_past form bytes past = ap (λ (o : Option ℕ). unwrap_or o 0) (sym (word_past form.order 0 bytes past))

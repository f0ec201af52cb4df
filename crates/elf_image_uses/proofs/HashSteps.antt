-- The numbers at the front of hash tables.
use Rattle.std.proofs.Common.{◌≡◌, ℕ, ◌+◌, ◌<◌, ◌≤◌, List, Bool, true, false, Option, Some, None, length, refl, sym, ap, ◌∙◌, arith}
use Rattle.std.specs.Prelude.{◌&&◌, ◌==◌, not}
use Rattle.std.proofs.lemmas.Bool.{ne_eqb}
use Rattle.patch_bytes.specs.declared.number.ByteOrder2.{ByteOrder2}
use Rattle.patch_bytes.specs.declared.number.Wide.{Wide}
use Rattle.patch_bytes.specs.declared.number.Wide.TheVariants.{W32, W64}
use Rattle.patch_bytes.specs.Memory.{◌>>=◌, memory_of, number_in}
use Rattle.patch_bytes.specs.Number.{number_at, value_of}
use Rattle.patch_bytes.proofs.MemoryLaws.{bytes_at-memory_of}
use Rattle.elf_format.specs.declared.form.Form.{Form}
use Rattle.elf_format.specs.Form.{by_class, field_of}
use Rattle.elf_format.specs.Hashes.{GnuHeader, gnu_header, word_of_table}
use Rattle.elf_format.specs.Image.{ImageSection}
use Rattle.elf_format.specs.Options.{is_some_and}
use Rattle.elf_format.proofs.ForCallers.TableSteps.{bytes_at-past}
use Rattle.elf_image_uses.specs.Renumbering.{can_make_gabi, can_make_gnu, is_gabi_front, is_gnu_front}

-- a number at one place in files of both classes
pub at_one_place : (form : Form) (a : ℕ) (bytes : List ℕ) → field_of form (a, 4) (a, 4) bytes ≡ number_at form.order 4 a bytes
at_one_place form a bytes = by_wide form.wide
  where
    by_wide : (wide : Wide) → (let here : ℕ × ℕ = (a, 4) in let place : ℕ × ℕ = by_class wide here here in number_at form.order place.1 place.0 bytes) ≡ number_at form.order 4 a bytes
    by_wide W32 = refl
    by_wide W64 = refl

-- four bytes that lie in the table
word_there : (order : ByteOrder2) (a : ℕ) (bytes : List ℕ) → a + 4 ≤ length bytes → number_in order 4 (memory_of bytes) a ≡ Some (number_at order 4 a bytes)
unfolding number_in number_at
word_there order a bytes within = ap (λ (o : Option (List ℕ)). o >>= λ b. Some (value_of order b)) (bytes_at-memory_of 4 a bytes within)

-- four that don't
word_past : (order : ByteOrder2) (a : ℕ) (bytes : List ℕ) → length bytes < a + 4 → number_in order 4 (memory_of bytes) a ≡ None
unfolding number_in
word_past order a bytes past = ap (λ (o : Option (List ℕ)). o >>= λ b. Some (value_of order b)) (bytes_at-past 4 a bytes (omega arith) past)

-- ## The gABI's table

none_passes : (o : Option ℕ) → false ≡ is_some_and (λ _. false) o
none_passes None = refl
none_passes (Some x) = refl

and_false : (b : Bool) → false ≡ (b && false)
and_false true = refl
and_false false = refl

module _ (form : Form) (s : ImageSection) where
  pub gabi_long : s.sh_entsize ≡ 8 → false ≡ can_make_gabi form s
  gabi_long e =
      sym (ap (λ n. not (n == 8)
      && is_some_and (λ buckets. is_some_and (is_gabi_front (length s.content) buckets) (word_of_table form (memory_of s.content) 1)) (word_of_table form (memory_of s.content) 0)) e)

  pub gabi_past : length s.content < 8 → false ≡ can_make_gabi form s
  gabi_past short =
      and_false (not (s.sh_entsize == 8))
      ∙ ap (λ b. not (s.sh_entsize == 8) && b) (none_passes (word_of_table form (memory_of s.content) 0)
      ∙ sym (ap (λ (o : Option ℕ). is_some_and (λ buckets. is_some_and (is_gabi_front (length s.content) buckets) o) (word_of_table form (memory_of s.content) 0))
      (word_past form.order 4 s.content short)))

  pub gabi_there : (s.sh_entsize ≡ 8 → ⊥) → 8 ≤ length s.content
      → is_gabi_front (length s.content) (number_at form.order 4 0 s.content) (number_at form.order 4 4 s.content) ≡ can_make_gabi form s
  gabi_there other within =
      sym (ap (λ b. not b && is_some_and (λ buckets. is_some_and (is_gabi_front (length s.content) buckets) (word_of_table form (memory_of s.content) 1)) (word_of_table form (memory_of s.content) 0))
      (ne_eqb s.sh_entsize 8 other)
      ∙ ap (λ (o : Option ℕ). is_some_and (λ buckets. is_some_and (is_gabi_front (length s.content) buckets) (word_of_table form (memory_of s.content) 1)) o)
      (word_there form.order 0 s.content (omega arith))
      ∙ ap (λ (o : Option ℕ). is_some_and (is_gabi_front (length s.content) (number_at form.order 4 0 s.content)) o) (word_there form.order 4 s.content within))

-- ## The GNU table

-- the four numbers of a GNU table
abbrev pub header_at : Form → List ℕ → GnuHeader
header_at form bytes = record {
  buckets = number_at form.order 4 0 bytes;
  first_symbol = number_at form.order 4 4 bytes;
  filter_words = number_at form.order 4 8 bytes;
  filter_shift = number_at form.order 4 12 bytes;
}

header_there : (form : Form) (bytes : List ℕ) → 16 ≤ length bytes → gnu_header form (memory_of bytes) ≡ Some (header_at form bytes)
unfolding gnu_header
header_there form bytes within =
    rw (word_there form.order 0 bytes (omega arith), word_there form.order 4 bytes (omega arith), word_there form.order 8 bytes (omega arith), word_there form.order 12 bytes (omega arith)) refl

nothing : {A B : Type 0} (o : Option A) (f : A → Option B) → ((x : A) → f x ≡ None) → (o >>= f) ≡ None
nothing None f none = refl
nothing (Some x) f none = none x

header_past : (form : Form) (bytes : List ℕ) → length bytes < 16 → gnu_header form (memory_of bytes) ≡ None
unfolding gnu_header
header_past form bytes past =
    nothing (number_in form.order 4 (memory_of bytes) 0) _ (λ buckets.
    nothing (number_in form.order 4 (memory_of bytes) 4) _ (λ first_symbol.
    nothing (number_in form.order 4 (memory_of bytes) 8) _ (λ filter_words. rw (word_past form.order 12 bytes past) refl)))

module _ (form : Form) (s : ImageSection) where
  pub gnu_past : length s.content < 16 → false ≡ can_make_gnu form s
  gnu_past short = sym (ap (is_some_and (is_gnu_front form (length s.content))) (header_past form s.content short))

  pub gnu_there : 16 ≤ length s.content → is_gnu_front form (length s.content) (header_at form s.content) ≡ can_make_gnu form s
  gnu_there within = sym (ap (is_some_and (is_gnu_front form (length s.content))) (header_there form s.content within))

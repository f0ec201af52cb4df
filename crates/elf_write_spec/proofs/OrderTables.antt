-- Hash tables that can be made anew: what their fronts tell.
use Rattle.std.proofs.Common.{◌≡◌, ◌≢◌, ℕ, ◌+◌, ◌*◌, ◌≤◌, Bool, true, not, refl, sym, ap, ◌∙◌, Option, Some, None}
use Rattle.std.specs.Prelude.{◌&&◌, ◌==◌, length, nat_le}
use Rattle.std.specs.Int.{is_power_of_two}
use Rattle.std.proofs.lemmas.Bool.{and_parts, both_ways, eq-eqb, false≢true, leb-true, not-true}
use Rattle.patch_bytes.specs.Memory.{◌>>=◌, memory_of}
use Rattle.patch_bytes.specs.Number.{word_size}
use Rattle.patch_bytes.proofs.MemoryLaws.{some_bind}
use Rattle.elf_format.specs.declared.constants.TheConstants.{SHT_DYNSYM, SHT_GNU_HASH, SHT_HASH}
use Rattle.elf_format.specs.Hashes.{GnuHeader, gnu_header, word_of_table}
use Rattle.elf_format.specs.Image.{Image}
use Rattle.elf_format.specs.Options.{is_none_or, is_some_and}
use Rattle.elf_image.specs.Kept.{KeptSection, kept_of_type, kept_sections}
use Rattle.elf_image.specs.Renumbering.{can_make_gabi, can_make_gnu, can_renumber, has_opaque_user, is_gabi_front, is_gnu_front}
use Rattle.elf_image.specs.Staying.{table_number}
use Rattle.elf_write_spec.specs.Final.{buckets_of}

-- what passes a test is there
some_passes : {A : Type 0} (test : A → Bool) (o : Option A) → is_some_and test o ≡ true → (x : A) × (o ≡ Some x) × (test x ≡ true)
some_passes test None h = absurd (false≢true h)
some_passes test (Some x) h = (x, refl, h)

-- a number that isn't 0 by its test
not_zero : (n : ℕ) → not (n == 0) ≡ true → n ≢ 0
not_zero n h e = both_ways (n == 0) (not-true (n == 0) h) (eq-eqb n 0 e)

-- ## The gABI's table

-- the table tells how many buckets it has, and there is one
pub record HasGabiBuckets (image : Image) (s : KeptSection) : Type 0 where
  pub buckets : ℕ
  pub is_there : word_of_table image.form (memory_of s.section.content) 0 ≡ Some buckets
  pub some : buckets ≢ 0

-- ## The GNU table

-- The table has a header, which tells of a bucket, of as many words in the filter as a power of two, and of a shift that leaves a bit.
pub record HasGnuSizes (image : Image) (s : KeptSection) : Type 0 where
  pub header : GnuHeader
  pub is_there : gnu_header image.form (memory_of s.section.content) ≡ Some header
  pub buckets : header.buckets ≢ 0
  pub filter_words : is_power_of_two header.filter_words ≡ true
  pub filter_shift : header.filter_shift ≤ 31

-- the buckets that decide on the order are those of the header
pub buckets_are : (image : Image) (s : KeptSection) (header : GnuHeader) → kept_of_type SHT_GNU_HASH image ≡ Some s
    → gnu_header image.form (memory_of s.section.content) ≡ Some header → buckets_of image ≡ Some header.buckets
buckets_are image s header there is =
    some_bind (kept_of_type SHT_GNU_HASH image) (λ k. gnu_header image.form (memory_of k.section.content) >>= λ h. Some h.buckets) s there
    ∙ ap (λ (o : Option GnuHeader). o >>= λ h. Some h.buckets) is

-- ## Both

module _ (image : Image) (can : can_renumber image ≡ true) (s : KeptSection) where
  each_made : (is_none_or (λ k. can_make_gabi image.form k.section) (kept_of_type SHT_HASH image) ≡ true)
      × (is_none_or (λ k. can_make_gnu image.form k.section) (kept_of_type SHT_GNU_HASH image) ≡ true)
  each_made =
      let gabi : Bool = is_none_or (λ k. can_make_gabi image.form k.section) (kept_of_type SHT_HASH image) in
      let gnu : Bool = is_none_or (λ k. can_make_gnu image.form k.section) (kept_of_type SHT_GNU_HASH image) in
      and_parts gabi gnu (and_parts (gabi && gnu) (not (has_opaque_user (table_number SHT_DYNSYM image) (kept_sections image))) can).0

  pub gabi_buckets_told : kept_of_type SHT_HASH image ≡ Some s → HasGabiBuckets image s
  gabi_buckets_told there =
      let made : can_make_gabi image.form s.section ≡ true = ap (is_none_or (λ k. can_make_gabi image.form k.section)) (sym there) ∙ each_made.0 in
      let size : ℕ = length s.section.content in
      let chains : Option ℕ = word_of_table image.form (memory_of s.section.content) 1 in
      let words : is_some_and (λ buckets. is_some_and (is_gabi_front size buckets) chains) (word_of_table image.form (memory_of s.section.content) 0) ≡ true =
      (and_parts (not (s.section.sh_entsize == 8))
      (is_some_and (λ buckets. is_some_and (is_gabi_front size buckets) chains) (word_of_table image.form (memory_of s.section.content) 0)) made).1 in
      let (buckets, is_buckets, front) =
      some_passes (λ buckets. is_some_and (is_gabi_front size buckets) chains) (word_of_table image.form (memory_of s.section.content) 0) words in
      let (count, is_count, passes) = some_passes (is_gabi_front size buckets) chains front in
      record {
        buckets = buckets;
        is_there = is_buckets;
        some = not_zero buckets (and_parts (not (buckets == 0)) (nat_le (4 * (2 + buckets + count)) size) passes).0;
      }

  pub gnu_sizes_told : kept_of_type SHT_GNU_HASH image ≡ Some s → HasGnuSizes image s
  gnu_sizes_told there =
      let made : can_make_gnu image.form s.section ≡ true = ap (is_none_or (λ k. can_make_gnu image.form k.section)) (sym there) ∙ each_made.1 in
      let size : ℕ = length s.section.content in
      let (h, is_header, front) = some_passes (is_gnu_front image.form size) (gnu_header image.form (memory_of s.section.content)) made in
      let some : Bool = not (h.buckets == 0) in
      let power : Bool = is_power_of_two h.filter_words in
      let shift : Bool = nat_le h.filter_shift 31 in
      let three = and_parts (some && power && shift) (nat_le (16 + h.filter_words * word_size image.form.wide + 4 * h.buckets) size) front in
      let two = and_parts (some && power) shift three.0 in
      let one = and_parts some power two.0 in
      record {
        header = h;
        is_there = is_header;
        buckets = not_zero h.buckets one.0;
        filter_words = one.1;
        filter_shift = leb-true h.filter_shift 31 two.1;
      }

-- Hash tables that were made anew, where they stand in a memory: look-ups in them find the symbols of the written file.
use Rattle.std.proofs.Common.{◌≡◌, ◌≢◌, ℕ, zero, suc, ◌+◌, ◌*◌, ◌^◌, ◌<◌, List, [], ◌∷◌, length, Bool, true, sym, ap, ◌∙◌, subst, Option, Some, arith}
use Rattle.std.specs.Prelude.{slice_index, unwrap_or}
use Rattle.std.specs.Int.{is_power_of_two}
use Rattle.std.specs.Int.RustNames.{count_ones}
use Rattle.std.proofs.lemmas.Bool.{eqb-true}
use Rattle.std.proofs.lemmas.Nat.{ones_le_self}
use Rattle.std.proofs.lemmas.Option.{get_or_from_slice_get, same_Some}
use Rattle.patch_bytes.specs.Bytes.{AreBytes}
use Rattle.patch_bytes.specs.Memory.{◌>>=◌, Keeps, Memory, bytes_at, from, memory_of, number_in}
use Rattle.patch_bytes.specs.Number.{value_of}
use Rattle.patch_bytes.proofs.MemoryLaws.{bind_some}
use Rattle.patch_bytes.proofs.NumberLaws.{value_of-lt}
use Rattle.elf_format.specs.declared.constants.TheConstants.{SHT_GNU_HASH, SHT_HASH}
use Rattle.elf_format.specs.declared.form.Form.{Form}
use Rattle.elf_format.specs.declared.records.SegmentHeader.{SegmentHeader}
use Rattle.elf_format.specs.Hashes.{GnuHeader, gnu_hash, gnu_header, word_of_table}
use Rattle.elf_format.specs.Image.{Image}
use Rattle.elf_format.specs.Views.{NamedSymbol, byte_at}
use Rattle.elf_hashes.specs.Buckets.{AreBucketed, hashes_of, in_buckets}
use Rattle.elf_hashes.specs.Found.{AreNamesOf, hashed_names}
use Rattle.elf_hashes.specs.Gabi.{HoldsGabiTable, IsGabiTable}
use Rattle.elf_hashes.specs.Gnu.{AreSizes, HoldsGnuTable, IsGnuTable}
use Rattle.elf_hashes.proofs.GabiLaws.{gabi_tables_find}
use Rattle.elf_hashes.proofs.GnuLaws.{gnu_tables_find}
use Rattle.elf_image.specs.Kept.{KeptSection, image_at_read, kept_of_type}
use Rattle.elf_image.specs.Names.{are_names_changed}
use Rattle.elf_image.specs.Renumbering.{can_renumber}
use Rattle.elf_layout_plan.specs.Plan.{resized}
use Rattle.elf_write_spec.specs.Contents.{IsGabiContent, IsGnuContent, gabi_buckets, sizes_in}
use Rattle.elf_write_spec.specs.Final.{final}
use Rattle.elf_write_spec.specs.Look.{FindsByGabiHash, FindsByGnuHash, loaded_from, loader_name}
use Rattle.elf_write_spec.specs.Output.{DoNumbersFit, Output, written_bytes}
use Rattle.elf_write_spec.specs.ReadBack.{IsRewrittenImage}
use Rattle.elf_write_spec.proofs.OrderFacts.{HasSymbols, KeepsFirst, final_bucketed, length-final}
use Rattle.elf_write_spec.proofs.OrderTables.{HasGnuSizes, buckets_are, gabi_buckets_told, gnu_sizes_told}

-- ## Words of bytes fit in 32 bits

cons_bytes : (x : ℕ) (xs : List ℕ) → x < 256 → AreBytes xs → (i : ℕ) → slice_index (x ∷ xs) i < 256
cons_bytes x xs small all zero = small
cons_bytes x xs small all (suc i) = all.each i

no_bytes : (i : ℕ) → slice_index [] i < 256
no_bytes i = omega arith

-- bytes that are read of bytes
bytes_there : (n : ℕ) (xs : List ℕ) (a : ℕ) (bytes : List ℕ) → AreBytes xs → bytes_at n (memory_of xs) a ≡ Some bytes
    → (length bytes ≡ n) × AreBytes bytes
unfolding bytes_at
bytes_there zero xs a bytes all at =
    let none : [] ≡ bytes = same_Some [] bytes at in
    (ap length (sym none), subst AreBytes none (record { each = no_bytes }))
bytes_there (suc n) xs a bytes all at =
    let (byte, here, more) = bind_some (memory_of xs a) (λ b. bytes_at n (memory_of xs) (a + 1) >>= λ rest. Some (b ∷ rest)) bytes at in
    let (rest, there, made) = bind_some (bytes_at n (memory_of xs) (a + 1)) (λ r. Some (byte ∷ r)) bytes more in
    let same : byte ∷ rest ≡ bytes = same_Some (byte ∷ rest) bytes made in
    let (long, are) = bytes_there n xs (a + 1) rest all there in
    let small : byte < 256 = subst (λ (b : ℕ). b < 256) (get_or_from_slice_get xs a byte 0 here) (all.each a) in
    (ap length (sym same) ∙ ap suc long, subst AreBytes same (record { each = cons_bytes byte rest small are }))

word_fits : (form : Form) (xs : List ℕ) (i n : ℕ) → AreBytes xs → word_of_table form (memory_of xs) i ≡ Some n → n < 2 ^ 32
unfolding number_in
word_fits form xs i n all at =
    let (bytes, there, made) = bind_some (bytes_at 4 (memory_of xs) (4 * i)) (λ b. Some (value_of form.order b)) n at in
    let (long, are) = bytes_there 4 xs (4 * i) bytes all there in
    let below : value_of form.order bytes < 256 ^ 4 = subst (λ (k : ℕ). value_of form.order bytes < 256 ^ k) long (value_of-lt form.order bytes are) in
    subst (λ (k : ℕ). k < 2 ^ 32) (same_Some (value_of form.order bytes) n made) below

-- the numbers of a header
abbrev header_from : ℕ → ℕ → ℕ → ℕ → GnuHeader
header_from a b c d = record { buckets = a; first_symbol = b; filter_words = c; filter_shift = d }

header_words : (form : Form) (m : Memory) (h : GnuHeader) → gnu_header form m ≡ Some h
    → (word_of_table form m 0 ≡ Some h.buckets) × (word_of_table form m 2 ≡ Some h.filter_words)
unfolding gnu_header
header_words form m h at =
    let word : ℕ → Option ℕ = word_of_table form m in
    let (a, at_a, more) =
    bind_some (word 0) (λ a. word 1 >>= λ b. word 2 >>= λ c. word 3 >>= λ d. Some (header_from a b c d)) h at in
    let (b, at_b, more) = bind_some (word 1) (λ b. word 2 >>= λ c. word 3 >>= λ d. Some (header_from a b c d)) h more in
    let (c, at_c, more) = bind_some (word 2) (λ c. word 3 >>= λ d. Some (header_from a b c d)) h more in
    let (d, at_d, made) = bind_some (word 3) (λ d. Some (header_from a b c d)) h more in
    let same : header_from a b c d ≡ h = same_Some (header_from a b c d) h made in (
      at_a ∙ ap (λ (x : GnuHeader). Some x.buckets) {x = header_from a b c d} same,
      at_c ∙ ap (λ (x : GnuHeader). Some x.filter_words) {x = header_from a b c d} same,
    )

-- no power of two is 0
power_some : (n : ℕ) → is_power_of_two n ≡ true → n ≢ 0
power_some n h e = omega (arith, ones_le_self n, eqb-true (count_ones n) 1 h, e)

sizes_fit : (image : Image) (s : KeptSection) → AreBytes s.section.content → (told : HasGnuSizes image s) → AreSizes (sizes_in told.header)
sizes_fit image s all told =
    let (buckets, words) = header_words image.form (memory_of s.section.content) told.header told.is_there in
    record {
      buckets = omega (arith, told.buckets);
      buckets_fit = word_fits image.form s.section.content 0 told.header.buckets all buckets;
      filter_words = omega (arith, power_some told.header.filter_words told.filter_words);
      filter_words_fit = word_fits image.form s.section.content 2 told.header.filter_words all words;
      filter_shift = omega (arith, told.filter_shift);
    }

-- ## Look-ups

module _ (w : Output) (again : Image) (same : IsRewrittenImage w again) (all : HasSymbols (image_at_read w.image) w.image)
    (first : KeepsFirst w.image) (changed : are_names_changed (image_at_read w.image) w.image ≡ true) (fit : DoNumbersFit w)
    (names : AreNamesOf again.dynamic_symbols (loader_name (written_bytes w))) where
  can : can_renumber w.image ≡ true
  can = all.complete.tables changed

  symbols_fit : length again.dynamic_symbols < 2 ^ 32
  symbols_fit =
      subst (λ (n : ℕ). n < 2 ^ 32) (sym (ap length same.dynamic_symbols ∙ length-final (image_at_read w.image) w.image all)) (fit.symbols changed)

  -- bytes that stand at an address of the plan stand there in the written file
  loaded : (bytes : List ℕ) (address : ℕ) → Keeps (memory_of bytes) (from (byte_at w.plan.segments (written_bytes w)) address)
      → Keeps (memory_of bytes) (loaded_from again (written_bytes w) address)
  loaded bytes address seen =
      subst (λ (ps : List SegmentHeader). Keeps (memory_of bytes) (from (byte_at ps (written_bytes w)) address)) (sym same.segments) seen

  -- ## The gABI's table

  gabi_made : (s : KeptSection) (bytes : List ℕ) → IsGabiContent (resized w.image) s.section bytes
      → IsGabiTable w.image.form (gabi_buckets w.image.form s.section.content) (hashed_names (final (image_at_read w.image) w.image).dynamic_symbols) bytes
  gabi_made s bytes content =
      subst (λ (b : Bool). elim b as (λ _. Type 0) [
        | true ↦ IsGabiTable w.image.form (gabi_buckets w.image.form s.section.content)
            (hashed_names (final (image_at_read w.image) w.image).dynamic_symbols) bytes
        | _ ↦ bytes ≡ s.section.content
      ]) changed content

  pub gabi_found : (s : KeptSection) (address : ℕ) (bytes : List ℕ) → kept_of_type SHT_HASH w.image ≡ Some s → AreBytes s.section.content
      → IsGabiContent (resized w.image) s.section bytes → Keeps (memory_of bytes) (from (byte_at w.plan.segments (written_bytes w)) address)
      → FindsByGabiHash again (written_bytes w) (loaded_from again (written_bytes w) address)
  gabi_found s address bytes there are content seen =
      let told = gabi_buckets_told w.image can s there in
      let ys : List NamedSymbol = again.dynamic_symbols in
      let m : Memory = loaded_from again (written_bytes w) address in
      let is : gabi_buckets w.image.form s.section.content ≡ told.buckets = ap (λ (o : Option ℕ). unwrap_or o 0) told.is_there in
      let made : IsGabiTable w.image.form told.buckets (hashed_names ys) bytes =
      subst (λ (l : List NamedSymbol). IsGabiTable w.image.form told.buckets (hashed_names l) bytes) (sym same.dynamic_symbols)
      (subst (λ (n : ℕ). IsGabiTable w.image.form n (hashed_names (final (image_at_read w.image) w.image).dynamic_symbols) bytes) is
      (gabi_made s bytes content)) in
      let holds : HoldsGabiTable again.form told.buckets ys m (loader_name (written_bytes w)) = record {
        some = told.some;
        buckets_fit = word_fits w.image.form s.section.content 0 told.buckets are told.is_there;
        symbols_fit = symbols_fit;
        table = bytes;
        is_table = subst (λ (f : Form). IsGabiTable f told.buckets (hashed_names ys) bytes) (sym same.form) made;
        held = loaded bytes address seen;
        names = names;
      } in
      record {
        finds = gabi_tables_find.finds again.form told.buckets ys m (loader_name (written_bytes w)) holds;
        ends = gabi_tables_find.ends again.form told.buckets ys m (loader_name (written_bytes w)) holds;
        counts = (gabi_tables_find.counts again.form told.buckets ys m (loader_name (written_bytes w)) holds).1;
      }

  -- ## The GNU table

  gnu_made : (s : KeptSection) (bytes : List ℕ) → IsGnuContent (resized w.image) s.section bytes
      → (header : GnuHeader) → gnu_header w.image.form (memory_of s.section.content) ≡ Some header
      → IsGnuTable w.image.form (sizes_in header) (hashed_names (final (image_at_read w.image) w.image).dynamic_symbols) bytes
  gnu_made s bytes content =
      subst (λ (b : Bool). elim b as (λ _. Type 0) [
        | true ↦ (header : GnuHeader) → gnu_header w.image.form (memory_of s.section.content) ≡ Some header
            → IsGnuTable w.image.form (sizes_in header) (hashed_names (final (image_at_read w.image) w.image).dynamic_symbols) bytes
        | _ ↦ bytes ≡ s.section.content
      ]) changed content

  pub gnu_found : (s : KeptSection) (address : ℕ) (bytes : List ℕ) → kept_of_type SHT_GNU_HASH w.image ≡ Some s → AreBytes s.section.content
      → IsGnuContent (resized w.image) s.section bytes → Keeps (memory_of bytes) (from (byte_at w.plan.segments (written_bytes w)) address)
      → FindsByGnuHash again (written_bytes w) (loaded_from again (written_bytes w) address)
  gnu_found s address bytes there are content seen =
      let told = gnu_sizes_told w.image can s there in
      let ys : List NamedSymbol = again.dynamic_symbols in
      let m : Memory = loaded_from again (written_bytes w) address in
      let made : IsGnuTable w.image.form (sizes_in told.header) (hashed_names ys) bytes =
      subst (λ (l : List NamedSymbol). IsGnuTable w.image.form (sizes_in told.header) (hashed_names l) bytes) (sym same.dynamic_symbols)
      (gnu_made s bytes content told.header told.is_there) in
      let holds : HoldsGnuTable again.form (sizes_in told.header) ys m (loader_name (written_bytes w)) = record {
        sized = sizes_fit w.image s are told;
        symbols_fit = symbols_fit;
        bucketed = subst (λ (l : List NamedSymbol). AreBucketed (in_buckets told.header.buckets (hashes_of gnu_hash (hashed_names l))))
            (sym same.dynamic_symbols)
            (final_bucketed (image_at_read w.image) w.image all first told.header.buckets changed
            (buckets_are w.image s told.header there told.is_there));
        table = bytes;
        is_table = subst (λ (f : Form). IsGnuTable f (sizes_in told.header) (hashed_names ys) bytes) (sym same.form) made;
        held = loaded bytes address seen;
        names = names;
      } in
      record {
        finds = gnu_tables_find.finds again.form (sizes_in told.header) ys m (loader_name (written_bytes w)) holds;
        ends = gnu_tables_find.ends again.form (sizes_in told.header) ys m (loader_name (written_bytes w)) holds;
      }

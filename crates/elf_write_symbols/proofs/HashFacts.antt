-- How long hash tables are that are made anew.
use Rattle.std.proofs.Common.{◌≡◌, ◌<◌, ℕ, ◌+◌, ◌*◌, List, [], ◌∷◌, ◌++◌, length, drop, Bool, true, false, not, refl, sym, ap, ◌∙◌, subst, Option, Some, None, arith}
use Rattle.std.specs.Prelude.{◌==◌, count_by, if◌then◌else◌, unwrap_or}
use Rattle.std.specs.List.{slice_get}
use Rattle.std.specs.List.Sorted.{IsPermutation}
use Rattle.std.proofs.lemmas.Option.{same_Some}
use Rattle.patch_bytes.specs.Memory.{memory_of}
use Rattle.patch_bytes.specs.Number.{word_size}
use Rattle.elf_format.specs.declared.constants.TheConstants.{SHT_GNU_HASH, SHT_HASH}
use Rattle.elf_format.specs.Hashes.{GnuHeader, gnu_header, word_of_table}
use Rattle.elf_format.specs.Image.{Image, ImageSection, counted}
use Rattle.elf_format.specs.Views.{NamedSymbol}
use Rattle.elf_hashes.specs.Found.{hashed_names, in_order, is_found}
use Rattle.elf_hashes.specs.Gabi.{IsGabiTable}
use Rattle.elf_hashes.specs.Gnu.{IsGnuTable}
use Rattle.elf_hashes.proofs.SizeLaws.{hash_tables_are_sized}
use Rattle.elf_image.specs.Names.{are_names_changed}
use Rattle.elf_write_spec.specs.Sizes.{gnu_size, hash_size}
use Rattle.elf_write_spec.specs.Contents.{gabi_buckets, sizes_in}
use Rattle.elf_write_spec.specs.Final.{dynamic_order, final, ordered}
use Rattle.elf_write_spec.specs.Ready.{IsEditedReady, IsSectionOfType}
use Rattle.elf_write_spec.proofs.ForCallers.NumberedSections.{kept_as}
use Rattle.elf_write_spec.proofs.ForCallers.OrderFacts as orders
use Rattle.elf_write_spec.proofs.ForCallers.WholeEdits.{ReadFacts}
use Rattle.elf_write_symbols.proofs.FinalOrder.{HeaderRead, all, gabi_made, gnu_made, header_read}
use Rattle.elf_write_symbols.proofs.HashSteps.{BucketsRead, buckets_read}
use Rattle.elf_write_symbols.proofs.ListSteps.{count-behind}
use Rattle.elf_write_symbols.proofs.ReadyFacts.{one_kept, section_here}

-- behind the first symbol, which stays, as many are found in another order
behind_first : (ys : List NamedSymbol) (order : List ℕ) → IsPermutation (counted (length ys)) order → length order ≡ length ys
    → (0 < length ys → slice_get order 0 ≡ Some 0) → count_by is_found (drop 1 (in_order ys order)) ≡ count_by is_found (drop 1 ys)
behind_first [] [] each long first = refl
behind_first [] (k ∷ order) each long first = absurd (omega (arith, long))
behind_first (y ∷ ys) [] each long first = absurd (omega (arith, long))
behind_first (y ∷ ys) (k ∷ order) each long first =
    let start : k ≡ 0 = same_Some k 0 (first (omega arith)) in
    ap (λ (n : ℕ). count_by is_found (drop 1 (in_order (y ∷ ys) (n ∷ order)))) start
    ∙ count-behind is_found y ys order (subst (λ (n : ℕ). IsPermutation (counted (length (y ∷ ys))) (n ∷ order)) start each)

module _ (read image : Image) (is : IsEditedReady read image) (f : ReadFacts read image) where
  abbrev ys : List NamedSymbol
  ys = (final read image).dynamic_symbols

  pub length-final : length ys ≡ length image.dynamic_symbols
  length-final = orders.length-final read image (all read image is f)

  -- look-ups see of the final symbols what they see of those of the image, in their order
  seen : hashed_names ys ≡ hashed_names (ordered read image)
  seen = orders.final_names read image (all read image is f) (orders.keeps_first read image f)

  length-seen : length (ordered read image) ≡ length image.dynamic_symbols
  length-seen = orders.length-ordered read image (all read image is f)

  found_same : count_by is_found (drop 1 (ordered read image)) ≡ count_by is_found (drop 1 image.dynamic_symbols)
  found_same =
      behind_first image.dynamic_symbols (dynamic_order read image) (orders.order_once read image (all read image is f))
      (orders.length-order read image (all read image is f)) (orders.order_first read image (all read image is f))

  -- the size of a table that stays
  pub size_stays : (s : ImageSection) → are_names_changed read image ≡ false → hash_size read image s ≡ s.sh_size
  size_stays s same =
      ap (λ (b : Bool). if not b then s.sh_size else if s.sh_type == SHT_HASH then 4 * (2 + gabi_buckets image.form s.content + length image.dynamic_symbols) else gnu_size image s) same

  pub gabi_sized : (s : ImageSection) (table : List ℕ) → are_names_changed read image ≡ true → s.sh_type ≡ SHT_HASH
      → IsGabiTable image.form (gabi_buckets image.form s.content) (hashed_names ys) table → length table ≡ hash_size read image s
  gabi_sized s table changed typed made =
      let was : ℕ = gabi_buckets image.form s.content in
      hash_tables_are_sized.gabi image.form was (ordered read image) table
      (subst (λ (l : List (Option (List ℕ))). IsGabiTable image.form was l table) seen made)
      ∙ ap (λ n. 4 * (2 + was + n)) length-seen
      ∙ sym (ap (λ (b : Bool). if not b then s.sh_size else if s.sh_type == SHT_HASH then 4 * (2 + was + length image.dynamic_symbols) else gnu_size image s) changed
      ∙ ap (λ n. if n == SHT_HASH then 4 * (2 + was + length image.dynamic_symbols) else gnu_size image s) typed)

  pub gnu_sized : (s : ImageSection) (table : List ℕ) (header : GnuHeader) → are_names_changed read image ≡ true → s.sh_type ≡ SHT_GNU_HASH
      → gnu_header image.form (memory_of s.content) ≡ Some header
      → IsGnuTable image.form (sizes_in header) (hashed_names ys) table → length table ≡ hash_size read image s
  gnu_sized s table header changed typed is_header made =
      let front : ℕ = 16 + header.filter_words * word_size image.form.wide + 4 * header.buckets in
      let was : ℕ = gabi_buckets image.form s.content in
      hash_tables_are_sized.gnu image.form (sizes_in header) (ordered read image) table
      (subst (λ (l : List (Option (List ℕ))). IsGnuTable image.form (sizes_in header) l table) seen made)
      ∙ ap (λ n. front + 4 * n) found_same
      ∙ sym (ap (λ (b : Bool). if not b then s.sh_size else if s.sh_type == SHT_HASH then 4 * (2 + was + length image.dynamic_symbols) else gnu_size image s) changed
      ∙ ap (λ n. if n == SHT_HASH then 4 * (2 + was + length image.dynamic_symbols) else gnu_size image s) typed
      ∙ ap (λ (o : Option GnuHeader). elim o as (λ _. ℕ) [
        | Some h ↦ 16 + h.filter_words * word_size image.form.wide + 4 * h.buckets + 4 * count_by is_found (drop 1 image.dynamic_symbols)
        | None ↦ s.sh_size
      ]) is_header)

  -- ## What tables tell that are made anew

  pub gabi_read : are_names_changed read image ≡ true → (s : ImageSection) → IsSectionOfType SHT_HASH image s → BucketsRead image.form s.content
  gabi_read changed s at =
      let r = section_here read image f SHT_HASH s at in
      buckets_read image.form s (gabi_made read image is f changed (kept_as r.position r.at.number s) (one_kept read image f SHT_HASH s r refl))

  pub gnu_read : are_names_changed read image ≡ true → (s : ImageSection) → IsSectionOfType SHT_GNU_HASH image s → HeaderRead image s
  gnu_read changed s at =
      let r = section_here read image f SHT_GNU_HASH s at in
      header_read image s (gnu_made read image is f changed (kept_as r.position r.at.number s) (one_kept read image f SHT_GNU_HASH s r refl))

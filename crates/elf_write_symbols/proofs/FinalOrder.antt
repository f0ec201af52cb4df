-- The final order of the dynamic symbols: it has each once, and the final symbols are those of the image in that order.
use Rattle.std.proofs.Common.{◌≡◌, ◌≢◌, ℕ, ◌*◌, ◌<◌, ◌≤◌, List, [], ◌∷◌, length, map, Bool, true, false, not, refl, sym, ap, ◌∙◌, subst, Option, Some, None, arith}
use Rattle.std.specs.Prelude.{◌&&◌, ◌==◌, count_ones}
use Rattle.std.specs.Int.{is_power_of_two}
use Rattle.std.specs.List.{slice_get}
use Rattle.std.specs.Option.{option_map}
use Rattle.std.proofs.lemmas.Bool.{and_parts, eqb-true, false≢true, leb-true}
use Rattle.std.proofs.lemmas.List.{length-map}
use Rattle.std.proofs.lemmas.Nat.{ones_le_self}
use Rattle.std.proofs.lemmas.Option.{get_or_from_slice_get, none-some, same_Some, slice_get_within}
use Rattle.patch_bytes.specs.Memory.{◌>>=◌, memory_of}
use Rattle.patch_bytes.specs.Number.{number_at}
use Rattle.elf_format.specs.declared.constants.TheConstants.{SHT_GNU_HASH, SHT_HASH}
use Rattle.elf_format.specs.declared.version_id.VersionId.{VersionId}
use Rattle.elf_format.specs.Form.{records}
use Rattle.elf_format.specs.Hashes.{GnuHeader, gnu_header}
use Rattle.elf_format.specs.Image.{Image, ImageSection}
use Rattle.elf_format.specs.Options.{is_none_or, is_some_and}
use Rattle.elf_format.specs.Versions.{version_id}
use Rattle.elf_format.specs.Views.{NamedSymbol}
use Rattle.elf_hashes.specs.Found.{ArePlaces, hashed_names, in_order}
use Rattle.elf_hashes.specs.Versions.{AreVersionsOf}
use Rattle.elf_image.specs.Kept.{KeptSection, kept_of_type}
use Rattle.elf_image.specs.Names.{are_names_changed}
use Rattle.elf_image.specs.Renumbering.{can_make_gabi, can_make_gnu, can_renumber, is_gnu_front}
use Rattle.elf_write_spec.specs.Final.{buckets_of, dynamic_order, final, final_symbol, ordered}
use Rattle.elf_write_spec.specs.Ready.{IsEditedReady}
use Rattle.elf_write_spec.proofs.ForCallers.FinalSymbols.{all_symbols, final_ordered}
use Rattle.elf_write_spec.proofs.ForCallers.OrderFacts.{HasSymbols, final_names, keeps_first, order_are_places, ordered-same}
use Rattle.elf_write_spec.proofs.ForCallers.WholeEdits.{ReadFacts}
use Rattle.elf_write_spec.proofs.ForCallers.SameTexts.{names_same}
use Rattle.elf_write_symbols.proofs.HashSteps.{front_long, header_there}

-- ## Hash tables that can be made anew

module _ (read image : Image) (is : IsEditedReady read image) (f : ReadFacts read image) (changed : are_names_changed read image ≡ true) where
  both : (is_none_or (λ s. can_make_gabi image.form s.section) (kept_of_type SHT_HASH image)
      && is_none_or (λ s. can_make_gnu image.form s.section) (kept_of_type SHT_GNU_HASH image)) ≡ true
  both = (and_parts _ _ (f.edit.complete.tables changed)).0

  pub gabi_made : (k : KeptSection) → kept_of_type SHT_HASH image ≡ Some k → can_make_gabi image.form k.section ≡ true
  gabi_made k at = sym (ap (is_none_or (λ s. can_make_gabi image.form s.section)) at) ∙ (and_parts _ _ both).0

  pub gnu_made : (k : KeptSection) → kept_of_type SHT_GNU_HASH image ≡ Some k → can_make_gnu image.form k.section ≡ true
  gnu_made k at = sym (ap (is_none_or (λ s. can_make_gnu image.form s.section)) at) ∙ (and_parts _ _ both).1

-- the header of a GNU table that can be made anew
pub record HeaderRead (image : Image) (s : ImageSection) : Type 0 where
  pub header : GnuHeader
  pub is_header : gnu_header image.form (memory_of s.content) ≡ Some header
  pub front : is_gnu_front image.form (length s.content) header ≡ true

pub header_read : (image : Image) (s : ImageSection) → can_make_gnu image.form s ≡ true → HeaderRead image s
header_read image s can = by_header (gnu_header image.form (memory_of s.content)) refl
  where
    by_header : (o : Option GnuHeader) → gnu_header image.form (memory_of s.content) ≡ o → HeaderRead image s
    by_header None none = absurd (false≢true (sym (ap (is_some_and (is_gnu_front image.form (length s.content))) none) ∙ can))
    by_header (Some header) at = record {
      header = header;
      is_header = at;
      front = sym (ap (is_some_and (is_gnu_front image.form (length s.content))) at) ∙ can;
    }

nonzero : (n : ℕ) → not (n == 0) ≡ true → n ≢ 0
nonzero n is e = false≢true (sym (ap (λ m. not (m == 0)) e) ∙ is)

-- the numbers of the header serve for a table
pub some_buckets : (image : Image) (s : ImageSection) → (h : HeaderRead image s) → h.header.buckets ≢ 0
some_buckets image s h =
    nonzero h.header.buckets (and_parts _ _ (and_parts _ _ (and_parts _ _ h.front).0).0).0

pub some_words : (image : Image) (s : ImageSection) → (h : HeaderRead image s) → h.header.filter_words ≢ 0
some_words image s h e =
    let one : is_power_of_two h.header.filter_words ≡ true = (and_parts _ _ (and_parts _ _ (and_parts _ _ h.front).0).0).1 in
    omega (arith, eqb-true (count_ones h.header.filter_words) 1 one, ones_le_self h.header.filter_words, e)

pub small_shift : (image : Image) (s : ImageSection) → (h : HeaderRead image s) → h.header.filter_shift < 32
small_shift image s h =
    let below : h.header.filter_shift ≤ 31 = leb-true h.header.filter_shift 31 (and_parts _ _ (and_parts _ _ h.front).0).1 in
    omega (arith, below)

-- ## The order

module _ (read image : Image) (is : IsEditedReady read image) (f : ReadFacts read image) where
  -- each symbol that is there has a number at read
  pub all : HasSymbols read image
  all = all_symbols read image f

  abbrev places : ArePlaces image.dynamic_symbols (dynamic_order read image)
  places = order_are_places read image all

  -- of symbols that are lent
  pub lent_places : (ys : List NamedSymbol) (order : List ℕ) → ys ≡ image.dynamic_symbols → order ≡ dynamic_order read image → ArePlaces ys order
  lent_places ys order same is_order =
      subst (λ (l : List NamedSymbol). ArePlaces l order) (sym same)
      (subst (λ (l : List ℕ). ArePlaces image.dynamic_symbols l) (sym is_order) places)

  -- the symbol at a place of it
  pub place_inside : (i k : ℕ) → slice_get (dynamic_order read image) i ≡ Some k → k < length image.dynamic_symbols
  place_inside i k at =
      subst (λ n. n < length image.dynamic_symbols) (get_or_from_slice_get (dynamic_order read image) i k k at)
      (places i k (slice_get_within (dynamic_order read image) i k at))

  -- ## The final symbols

  abbrev finals : List NamedSymbol
  finals = (final read image).dynamic_symbols

  lent_ordered : (ys : List NamedSymbol) (order : List ℕ) → ys ≡ image.dynamic_symbols → order ≡ dynamic_order read image
      → in_order ys order ≡ ordered read image
  lent_ordered ys order same is_order =
      ap (λ (l : List NamedSymbol). in_order l order) same ∙ ap (in_order image.dynamic_symbols) is_order

  -- the symbols that are lent have the names of the final ones in hash tables
  pub lent_names : (ys : List NamedSymbol) (order : List ℕ) → ys ≡ image.dynamic_symbols → order ≡ dynamic_order read image
      → hashed_names (in_order ys order) ≡ hashed_names finals
  lent_names ys order same is_order =
      ap hashed_names (lent_ordered ys order same is_order) ∙ sym (final_names read image all (keeps_first read image f))

  -- no symbol's version depends on where its section stands
  same_versions : (ys : List NamedSymbol) → map (λ (y : NamedSymbol). y.version) (map (final_symbol image) ys) ≡ map (λ (y : NamedSymbol). y.version) ys
  same_versions [] = refl
  same_versions (y ∷ ys) = ap (λ (l : List (Option VersionId)). y.version ∷ l) (same_versions ys)

  -- bytes that hold the versions of symbols hold those of the final ones
  pub versions_final : (ys : List NamedSymbol) (bytes : List ℕ) → ys ≡ ordered read image → AreVersionsOf image.form ys bytes
      → AreVersionsOf image.form finals bytes
  versions_final ys bytes same are =
      let long : length finals ≡ length ys =
      ap length (final_ordered read image f) ∙ length-map (ordered read image) (final_symbol image) ∙ ap length (sym same) in
      let told : map (λ (y : NamedSymbol). y.version) finals ≡ map (λ (y : NamedSymbol). y.version) ys =
      ap (map (λ (y : NamedSymbol). y.version)) (final_ordered read image f) ∙ same_versions (ordered read image)
      ∙ ap (map (λ (y : NamedSymbol). y.version)) (sym same) in
      record {
        sized = are.sized ∙ ap (λ n. 2 * n) (sym long);
        versions = ap (λ (n : ℕ). records (λ b. Some (version_id image.form b)) 2 n bytes) long ∙ are.versions ∙ sym told;
      }

  pub lent_versions : (ys : List NamedSymbol) (order : List ℕ) (bytes : List ℕ) → ys ≡ image.dynamic_symbols → order ≡ dynamic_order read image
      → AreVersionsOf image.form (in_order ys order) bytes → AreVersionsOf image.form finals bytes
  lent_versions ys order bytes same is_order = versions_final (in_order ys order) bytes (lent_ordered ys order same is_order)

  -- where the symbols are those that were read
  pub read_versions : (bytes : List ℕ) → image.dynamic_symbols ≡ read.dynamic_symbols → AreVersionsOf image.form read.dynamic_symbols bytes
      → AreVersionsOf image.form finals bytes
  read_versions bytes same =
      versions_final read.dynamic_symbols bytes (sym (ordered-same read image (names_same read image same) ∙ same))

  -- the first number of a GNU table that is made anew
  pub buckets_told : are_names_changed read image ≡ true → (s : ImageSection)
      → Some s ≡ option_map (λ (k : KeptSection). k.section) (kept_of_type SHT_GNU_HASH image)
      → (buckets_of image ≡ Some (number_at image.form.order 4 0 s.content)) × (0 < number_at image.form.order 4 0 s.content)
  buckets_told changed s told = by_kept (kept_of_type SHT_GNU_HASH image) refl
    where
      by_kept : (o : Option KeptSection) → kept_of_type SHT_GNU_HASH image ≡ o
          → (buckets_of image ≡ Some (number_at image.form.order 4 0 s.content)) × (0 < number_at image.form.order 4 0 s.content)
      by_kept None none =
          absurd (none-some s (sym (told ∙ ap (option_map (λ (k : KeptSection). k.section)) none)))
      by_kept (Some k) at =
          let own : s ≡ k.section = same_Some s k.section (told ∙ ap (option_map (λ (m : KeptSection). m.section)) at) in
          let h = header_read image k.section (gnu_made read image is f changed k at) in
          let long : 16 ≤ length k.section.content = front_long image.form (length k.section.content) h.header h.front in
          let number : number_at image.form.order 4 0 k.section.content ≡ h.header.buckets =
          ap (λ (x : GnuHeader). x.buckets) (same_Some _ h.header (sym (header_there image.form k.section.content long) ∙ h.is_header)) in
          let mine : number_at image.form.order 4 0 s.content ≡ h.header.buckets =
          ap (λ (x : ImageSection). number_at image.form.order 4 0 x.content) own ∙ number in (
            ap (λ (o : Option KeptSection). o >>= λ x. gnu_header image.form (memory_of x.section.content) >>= λ header. Some header.buckets) at
                ∙ ap (λ (o : Option GnuHeader). o >>= λ header. Some header.buckets) h.is_header ∙ ap (λ n. Some n) (sym mine),
            omega (arith, mine, some_buckets image k.section h),
          )

-- The order in which the dynamic symbols are written, and the new number of each.
use Rattle.std.proofs.Common.{◌≡◌, ◌≢◌, ◌↔◌, ℕ, ◌<◌, ◌≤◌, List, [], ◌∷◌, length, get_or, map, Bool, true, false, not, refl, sym, ap, ◌∙◌, subst, inl, inr, Option, Some, None, arith}
use Rattle.std.specs.Prelude.{if◌then◌else◌, ◌||◌, ◌==◌, is_some, nat_le, option_map, position, slice_index, unwrap_or}
use Rattle.std.specs.List.{slice_get}
use Rattle.std.specs.List.Sorted.{IsPermutation}
use Rattle.std.proofs.lemmas.Bool.{cases_eq, cond-false, cond-true, eq-eqb, false≢true, ne_eqb}
use Rattle.std.proofs.lemmas.List.{get_or-map, length-map}
use Rattle.std.proofs.lemmas.Option.{get_or_from_slice_get, same_Some, slice_get-get_or, slice_get-map, slice_get_within}
use Rattle.patch_bytes.specs.Memory.{◌>>=◌, memory_of}
use Rattle.patch_bytes.proofs.MemoryLaws.{bind_some}
use Rattle.elf_format.specs.declared.constants.TheConstants.{SHN_LORESERVE, SHT_GNU_HASH}
use Rattle.elf_format.specs.Hashes.{gnu_hash, gnu_header}
use Rattle.elf_format.specs.Image.{Image, counted}
use Rattle.elf_format.specs.Views.{NamedSymbol}
use Rattle.elf_format.proofs.ForCallers.Lengths.{length-counted, slice_get-counted, slice_index-counted}
use Rattle.elf_hashes.specs.Buckets.{AreBucketed, hashes_of, in_buckets}
use Rattle.elf_hashes.specs.Found.{ArePlaces, hashed_names, in_order}
use Rattle.elf_hashes.specs.Order.{by_bucket, places_by_bucket}
use Rattle.elf_hashes.proofs.ForCallers.{IsSeenAlike, counted-once, hashed_names-alike, in_order-counted}
use Rattle.elf_hashes.proofs.OrderLaws.{orders_by_bucket}
use Rattle.elf_image.specs.Complete.{IsComplete, has_section}
use Rattle.elf_image.specs.Kept.{KeptSection, kept_at_number, kept_of_type}
use Rattle.elf_image.specs.Names.{are_names_changed, are_same_texts, texts_of_symbols}
use Rattle.elf_image.proofs.ForCallers.SymbolLists.{same_texts-means}
use Rattle.elf_write_spec.specs.Final.{buckets_of, dynamic_order, final, final_symbol, new_dynamic_symbol, new_dynamic_symbols, new_symbol_section, ordered}
use Rattle.elf_write_spec.proofs.NumberedSections.{AreRising, each_there, one_position}
use Rattle.elf_write_spec.proofs.OrderLists as orders
use Rattle.elf_write_spec.proofs.WholeEdits.{ReadFacts, SectionRead, lasting_there, length-read, number_below, number_past, read_number}
use Rattle.elf_write_spec.proofs.WholeLists.{there_at}
use Rattle.elf_write_spec.proofs.OrderLists.{in_order-at, length-in_order, position-at, position-none}
use Rattle.elf_write_spec.proofs.OrderTables.{buckets_are, gnu_sizes_told}

-- Each dynamic symbol that is there has a number at read, these rise, and what leans on them can follow another order.
pub record HasSymbols (read image : Image) : Type 0 where
  pub complete : IsComplete read image
  pub as_many : length image.dynamic_symbols ≡ length image.dynamic_symbol_numbers
  pub rising : AreRising image.dynamic_symbol_numbers
  pub below : (i n : ℕ) → slice_get image.dynamic_symbol_numbers i ≡ Some n → n < length read.dynamic_symbols

-- ## Sections of symbols

-- of the sections that are there the one that was read first, and no other, is the first
abbrev pub KeepsFirst : Image → Type 0
KeepsFirst image = (n : ℕ) (s : KeptSection) → kept_at_number n image ≡ Some s → (s.position ≡ 0) ↔ (n ≡ 0)

-- the first section keeps its place, as none stands before its number
pub keeps_first : (read image : Image) → ReadFacts read image → KeepsFirst image
keeps_first read image f n s at =
    let (here, _, own) = read_number read image f n s at in
    let behind : s.position ≤ n = omega (arith, number_past read image f s.position here, own) in
    (λ e. first_number e here own, λ e. omega (arith, behind, e))
  where
    first_number : s.position ≡ 0 → (here : SectionRead read image f.parts s.position) → here.number ≡ n → n ≡ 0
    first_number e here own =
        let some : 0 < length f.parts.sections = omega (arith, number_below read image f s.position here) in
        let (was, was_at) = there_at read.sections 0 (omega (arith, some, length-read read image f)) in
        let (i, first, zero_is) = lasting_there read image f 0 was was_at refl in
        let index : i ≡ 0 = omega (arith, number_past read image f i first, zero_is) in
        let same : first.number ≡ here.number =
        same_Some first.number here.number (sym first.is_number ∙ ap (slice_get image.section_numbers) (index ∙ sym e) ∙ here.is_number) in
        sym own ∙ sym same ∙ zero_is

first_of_or : (a : Bool) → (a || false || false) ≡ true → a ≡ true
first_of_or true h = refl
first_of_or false h = h

same_tests : (a b : ℕ) → (a ≡ 0) ↔ (b ≡ 0) → (a == 0) ≡ (b == 0)
same_tests a b both = elim (cases_eq b 0) [
  | inl e ↦ eq-eqb a 0 (both.1 e) ∙ sym (eq-eqb b 0 e)
  | inr other ↦ ne_eqb a 0 (λ e. other (both.0 e)) ∙ sym (ne_eqb b 0 other)
]

-- a symbol is defined where it was
section-zero : (image : Image) → KeepsFirst image → (n : ℕ)
    → (n == 0 || nat_le SHN_LORESERVE n || is_some (kept_at_number n image)) ≡ true → (new_symbol_section image n == 0) ≡ (n == 0)
section-zero image first n there = by_tests (nat_le SHN_LORESERVE n) (kept_at_number n image) refl there
  where
    by_tests : (high : Bool) (o : Option KeptSection) → kept_at_number n image ≡ o → (n == 0 || high || is_some o) ≡ true
        → ((if high then n else elim o as (λ _. ℕ) [ Some s ↦ s.position | None ↦ 0 ]) == 0) ≡ (n == 0)
    by_tests true o is h = refl
    by_tests false None is h = sym (first_of_or (n == 0) h)
    by_tests false (Some s) is h = same_tests s.position n (first n s is)

final_symbol-alike : (image : Image) → KeepsFirst image → (y : NamedSymbol) → has_section image y ≡ true → IsSeenAlike (final_symbol image y) y
final_symbol-alike image first y there = record { named = refl; bound = refl; defined = section-zero image first y.st_shndx there }

-- ## Names that are those that were read

-- there are as many symbols as were read
pub names_count : (read image : Image) → are_names_changed read image ≡ false → length image.dynamic_symbols ≡ length read.dynamic_symbols
names_count read image same =
    let texts : texts_of_symbols image.dynamic_symbols ≡ texts_of_symbols read.dynamic_symbols =
    same_texts-means (texts_of_symbols read.dynamic_symbols) (texts_of_symbols image.dynamic_symbols)
    (not-false (are_same_texts (texts_of_symbols read.dynamic_symbols) (texts_of_symbols image.dynamic_symbols)) same) in
    sym (length-map image.dynamic_symbols (λ (y : NamedSymbol). y.name)) ∙ ap length texts ∙ length-map read.dynamic_symbols (λ (y : NamedSymbol). y.name)
  where
    not-false : (b : Bool) → not b ≡ false → b ≡ true
    not-false true h = refl
    not-false false h = absurd (false≢true (sym h))

-- the symbols stay in their order
pub order-same : (read image : Image) → are_names_changed read image ≡ false → dynamic_order read image ≡ counted (length image.dynamic_symbols)
unfolding dynamic_order
order-same read image same =
    cond-false (are_names_changed read image)
    (elim (buckets_of image) as (λ _. List ℕ) [
      | Some buckets ↦ places_by_bucket buckets image.dynamic_symbols
      | None ↦ counted (length image.dynamic_symbols)
    ])
    (counted (length image.dynamic_symbols)) same

pub ordered-same : (read image : Image) → are_names_changed read image ≡ false → ordered read image ≡ image.dynamic_symbols
ordered-same read image same = ap (in_order image.dynamic_symbols) (order-same read image same) ∙ in_order-counted image.dynamic_symbols

-- ## Other names

order-by_table : (read image : Image) (o : Option ℕ) → are_names_changed read image ≡ true → buckets_of image ≡ o
    → dynamic_order read image
    ≡ (elim o as (λ _. List ℕ) [ Some buckets ↦ places_by_bucket buckets image.dynamic_symbols | None ↦ counted (length image.dynamic_symbols) ])
unfolding dynamic_order
order-by_table read image o changed is =
    let by_table : Option ℕ → List ℕ = λ t. elim t as (λ _. List ℕ) [
      | Some buckets ↦ places_by_bucket buckets image.dynamic_symbols
      | None ↦ counted (length image.dynamic_symbols)
    ] in
    cond-true (are_names_changed read image) (by_table (buckets_of image)) (counted (length image.dynamic_symbols)) changed ∙ ap by_table is

-- a GNU hash table decides on the order
pub order-by_bucket : (read image : Image) (buckets : ℕ) → are_names_changed read image ≡ true → buckets_of image ≡ Some buckets
    → dynamic_order read image ≡ places_by_bucket buckets image.dynamic_symbols
order-by_bucket read image buckets changed some = order-by_table read image (Some buckets) changed some

-- without a GNU hash table symbols stay in their order
pub order-unbucketed : (read image : Image) → buckets_of image ≡ None → dynamic_order read image ≡ counted (length image.dynamic_symbols)
order-unbucketed read image none = by_names (are_names_changed read image) refl
  where
    by_names : (b : Bool) → are_names_changed read image ≡ b → dynamic_order read image ≡ counted (length image.dynamic_symbols)
    by_names true is = order-by_table read image None is none
    by_names false is = order-same read image is

-- the first stays the first
first_place : (buckets : ℕ) (ys : List NamedSymbol) → 0 < length ys → slice_get (places_by_bucket buckets ys) 0 ≡ Some 0
unfolding places_by_bucket
first_place buckets [] some = absurd (omega (arith, some))
first_place buckets (y ∷ ys) some = refl

module _ (read image : Image) (all : HasSymbols read image) where
  -- the table has a bucket
  pub some_buckets : (buckets : ℕ) → are_names_changed read image ≡ true → buckets_of image ≡ Some buckets → buckets ≢ 0
  some_buckets buckets changed is none =
      let (s, there, _) = bind_some (kept_of_type SHT_GNU_HASH image)
      (λ k. gnu_header image.form (memory_of k.section.content) >>= λ h. Some h.buckets) buckets is in
      let told = gnu_sizes_told image (all.complete.tables changed) s there in
      let same : told.header.buckets ≡ buckets =
      same_Some told.header.buckets buckets (sym (buckets_are image s told.header there told.is_there) ∙ is) in
      told.buckets (same ∙ none)

  -- ## The order

  -- what holds of both orders
  order_cases : (P : List ℕ → Type 0) → P (counted (length image.dynamic_symbols))
      → ((buckets : ℕ) → buckets ≢ 0 → P (places_by_bucket buckets image.dynamic_symbols)) → P (dynamic_order read image)
  order_cases P same bucketed = by_names (are_names_changed read image) refl
    where
      by_table : (o : Option ℕ) → are_names_changed read image ≡ true → buckets_of image ≡ o → P (dynamic_order read image)
      by_table None changed is = subst P (sym (order-unbucketed read image is)) same
      by_table (Some buckets) changed is =
          subst P (sym (order-by_bucket read image buckets changed is)) (bucketed buckets (some_buckets buckets changed is))

      by_names : (b : Bool) → are_names_changed read image ≡ b → P (dynamic_order read image)
      by_names true is = by_table (buckets_of image) is refl
      by_names false is = subst P (sym (order-same read image is)) same

  -- each symbol stands in it once
  pub order_once : IsPermutation (counted (length image.dynamic_symbols)) (dynamic_order read image)
  order_once =
      order_cases (IsPermutation (counted (length image.dynamic_symbols))) (counted-once image.dynamic_symbols)
      (λ buckets some. orders_by_bucket.once buckets image.dynamic_symbols some)

  pub order_are_places : ArePlaces image.dynamic_symbols (dynamic_order read image)
  order_are_places = orders.all_below (length image.dynamic_symbols) (dynamic_order read image) order_once

  pub length-order : length (dynamic_order read image) ≡ length image.dynamic_symbols
  length-order = orders.as_many (length image.dynamic_symbols) (dynamic_order read image) order_once

  -- the first symbol stays the first
  pub order_first : 0 < length image.dynamic_symbols → slice_get (dynamic_order read image) 0 ≡ Some 0
  order_first some =
      let Starts : List ℕ → Type 0 = λ l. slice_get l 0 ≡ Some 0 in
      order_cases Starts (slice_get-counted (length image.dynamic_symbols) 0 some) (λ buckets _. first_place buckets image.dynamic_symbols some)

  pub length-ordered : length (ordered read image) ≡ length image.dynamic_symbols
  length-ordered = length-in_order image.dynamic_symbols (dynamic_order read image) order_are_places ∙ length-order

  -- what stands at a position of the order stands there in the ordered list
  pub ordered-at : (i n : ℕ) → slice_get (dynamic_order read image) i ≡ Some n → slice_get (ordered read image) i ≡ slice_get image.dynamic_symbols n
  ordered-at i n at = in_order-at image.dynamic_symbols (dynamic_order read image) order_are_places i n at

  -- ## New numbers

  is_below : (i n : ℕ) → slice_get (dynamic_order read image) i ≡ Some n → n < length image.dynamic_symbols
  is_below i n at = orders.is_below (length image.dynamic_symbols) (dynamic_order read image) order_once i n at

  stands : (n : ℕ) → n < length image.dynamic_symbols → (i : ℕ) × (slice_get (dynamic_order read image) i ≡ Some n)
  stands n below = orders.stands (length image.dynamic_symbols) (dynamic_order read image) order_once n below

  -- the number at read of the symbol at a position
  number-at : (m : ℕ) → m < length image.dynamic_symbols → slice_get image.dynamic_symbol_numbers m ≡ Some (slice_index image.dynamic_symbol_numbers m)
  number-at m below = slice_get-get_or image.dynamic_symbol_numbers m 0 (omega (arith, below, all.as_many))

  position_below : (m n : ℕ) → slice_get image.dynamic_symbol_numbers m ≡ Some n → m < length image.dynamic_symbols
  position_below m n at = omega (arith, slice_get_within image.dynamic_symbol_numbers m n at, all.as_many)

  -- another symbol has another number
  other_number : (n i m : ℕ) → slice_get (dynamic_order read image) i ≡ Some m → ((k : ℕ) → slice_get image.dynamic_symbol_numbers k ≡ Some n → m ≢ k)
      → (slice_index image.dynamic_symbol_numbers m == n) ≡ false
  other_number n i m at other =
      ne_eqb (slice_index image.dynamic_symbol_numbers m) n (λ e.
      other m (number-at m (is_below i m at) ∙ ap (λ (k : ℕ). Some k) e) refl)

  -- where the order has a symbol, that is its new number
  pub new-order : (i m n : ℕ) → slice_get (dynamic_order read image) i ≡ Some m → slice_get image.dynamic_symbol_numbers m ≡ Some n
      → new_dynamic_symbol read image n ≡ i
  new-order i m n at number =
      let test : ℕ → Bool = λ j. slice_index image.dynamic_symbol_numbers j == n in
      let here : test m ≡ true =
      eq-eqb (slice_index image.dynamic_symbol_numbers m) n (get_or_from_slice_get image.dynamic_symbol_numbers m n 0 number) in
      let found : position test (dynamic_order read image) ≡ Some i =
      position-at test (dynamic_order read image) i m at here (λ j k less there. other_number n j k there (λ l at_l same.
      let own : k ≡ m = same ∙ one_position image.dynamic_symbol_numbers all.rising l m n at_l number in
      let one : j ≡ i = orders.one_place (length image.dynamic_symbols) (dynamic_order read image) order_once j i m
      (there ∙ ap (λ (x : ℕ). Some x) own) at in
      omega (arith, one, less))) in
      ap (λ (o : Option ℕ). unwrap_or o 0) found

  -- at the new number of a symbol the order has that symbol
  pub order-new : (m n : ℕ) → slice_get image.dynamic_symbol_numbers m ≡ Some n
      → slice_get (dynamic_order read image) (new_dynamic_symbol read image n) ≡ Some m
  order-new m n number =
      let (i, at) = stands m (position_below m n number) in
      ap (slice_get (dynamic_order read image)) (new-order i m n at number) ∙ at

  pub new_below : (m n : ℕ) → slice_get image.dynamic_symbol_numbers m ≡ Some n → new_dynamic_symbol read image n < length image.dynamic_symbols
  new_below m n number =
      omega (arith, slice_get_within (dynamic_order read image) (new_dynamic_symbol read image n) m (order-new m n number), length-order)

  -- one that isn't there has none
  pub new_gone : (n : ℕ) → ((m : ℕ) → slice_get image.dynamic_symbol_numbers m ≡ Some n → ⊥) → new_dynamic_symbol read image n ≡ 0
  new_gone n gone =
      let none : position (λ j. slice_index image.dynamic_symbol_numbers j == n) (dynamic_order read image) ≡ None =
      position-none (λ j. slice_index image.dynamic_symbol_numbers j == n) (dynamic_order read image)
      (λ j m there. other_number n j m there (λ k at_k same. gone k at_k)) in
      ap (λ (o : Option ℕ). unwrap_or o 0) none

  -- the first symbol that was read is the first that is there
  first_number : 0 < length image.dynamic_symbols → slice_get image.dynamic_symbol_numbers 0 ≡ Some 0
  first_number some =
      all.complete.first_dynamic (omega (arith, all.below 0 (slice_index image.dynamic_symbol_numbers 0) (number-at 0 some)))

  -- with the names that were read each symbol is there
  pub all_there : are_names_changed read image ≡ false → (n : ℕ) → n < length read.dynamic_symbols
      → slice_get image.dynamic_symbol_numbers n ≡ Some n
  all_there same n below =
      each_there image.dynamic_symbol_numbers (length read.dynamic_symbols) all.rising all.below
      (sym all.as_many ∙ names_count read image same) n below

  -- a symbol keeps its number, with the names that were read
  pub new-same : are_names_changed read image ≡ false → (n : ℕ) → n < length read.dynamic_symbols → new_dynamic_symbol read image n ≡ n
  new-same same n below =
      let inside : n < length image.dynamic_symbols = position_below n n (all_there same n below) in
      new-order n n n
      (ap (λ (l : List ℕ). slice_get l n) (order-same read image same) ∙ slice_get-counted (length image.dynamic_symbols) n inside)
      (all_there same n below)

  -- each symbol stands at its new number
  pub ordered-new : (m n : ℕ) → slice_get image.dynamic_symbol_numbers m ≡ Some n
      → slice_get (ordered read image) (new_dynamic_symbol read image n) ≡ slice_get image.dynamic_symbols m
  ordered-new m n number = ordered-at (new_dynamic_symbol read image n) m (order-new m n number)

  -- the new numbers, one by one
  pub new-at : (n : ℕ) → n < length read.dynamic_symbols → slice_index (new_dynamic_symbols read image) n ≡ new_dynamic_symbol read image n
  new-at n below =
      let count : ℕ = length read.dynamic_symbols in
      get_or-map (new_dynamic_symbol read image) (counted count) n 0 0 (omega (arith, below, length-counted count))
      ∙ ap (new_dynamic_symbol read image) (slice_index-counted count n below)

  pub length-new : length (new_dynamic_symbols read image) ≡ length read.dynamic_symbols
  length-new =
      let count : ℕ = length read.dynamic_symbols in
      length-map (counted count) (new_dynamic_symbol read image) ∙ length-counted count

  -- ## The final symbols

  pub final_list : (final read image).dynamic_symbols ≡ map (final_symbol image) (ordered read image)
  unfolding final
  final_list = refl

  pub length-final : length (final read image).dynamic_symbols ≡ length image.dynamic_symbols
  length-final = ap length final_list ∙ length-map (ordered read image) (final_symbol image) ∙ length-ordered

  -- each stands at its new number
  pub final-new : (m n : ℕ) (y : NamedSymbol) → slice_get image.dynamic_symbol_numbers m ≡ Some n → slice_get image.dynamic_symbols m ≡ Some y
      → slice_get (final read image).dynamic_symbols (new_dynamic_symbol read image n) ≡ Some (final_symbol image y)
  final-new m n y number at =
      let new : ℕ = new_dynamic_symbol read image n in
      ap (λ (l : List NamedSymbol). slice_get l new) final_list ∙ slice_get-map (final_symbol image) (ordered read image) new
      ∙ ap (option_map (final_symbol image)) (ordered-new m n number ∙ at)

  -- the section of each of them is there
  ordered_there : (i : ℕ) (y : NamedSymbol) → slice_get (ordered read image) i ≡ Some y → has_section image y ≡ true
  ordered_there i y at =
      let order : List ℕ = dynamic_order read image in
      let Placed : NamedSymbol → Type 0 = λ z. has_section image z ≡ true in
      let inside : i < length order = omega (arith, slice_get_within (ordered read image) i y at, length-ordered, length-order) in
      let n : ℕ = get_or order i 0 in
      let here : slice_get order i ≡ Some n = slice_get-get_or order i 0 inside in
      let there : slice_get image.dynamic_symbols n ≡ Some y = sym (ordered-at i n here) ∙ at in
      subst Placed (get_or_from_slice_get image.dynamic_symbols n y y there)
      (all.complete.dynamic_sections n y (slice_get_within image.dynamic_symbols n y there))

  -- hash tables are made of the names of the symbols in their order
  pub final_names : KeepsFirst image → hashed_names (final read image).dynamic_symbols ≡ hashed_names (ordered read image)
  final_names first =
      let f : NamedSymbol → NamedSymbol = final_symbol image in
      let ys : List NamedSymbol = ordered read image in
      ap hashed_names final_list
      ∙ hashed_names-alike (map f ys) ys (length-map ys f) (λ i y z at_y at_z.
      let is : f z ≡ y = same_Some (f z) y (sym (slice_get-map f ys i ∙ ap (option_map f) at_z) ∙ at_y) in
      subst (λ v. IsSeenAlike v z) is (final_symbol-alike image first z (ordered_there i z at_z)))

  -- with other names they stand by rising buckets of the GNU hash table
  pub final_bucketed : KeepsFirst image → (buckets : ℕ) → are_names_changed read image ≡ true → buckets_of image ≡ Some buckets
      → AreBucketed (in_buckets buckets (hashes_of gnu_hash (hashed_names (final read image).dynamic_symbols)))
  final_bucketed first buckets changed is =
      let ys : List NamedSymbol = image.dynamic_symbols in
      let Bucketed : List (Option (List ℕ)) → Type 0 = λ l. AreBucketed (in_buckets buckets (hashes_of gnu_hash l)) in
      let in_that : ordered read image ≡ by_bucket buckets ys =
      ap (in_order ys) (order-by_bucket read image buckets changed is) ∙ orders_by_bucket.ordered buckets ys in
      subst Bucketed (sym (final_names first ∙ ap hashed_names in_that))
      (orders_by_bucket.bucketed buckets ys (some_buckets buckets changed is))

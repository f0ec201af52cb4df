-- The new numbers of symbols, written one by one at the numbers that these had at read.
use Rattle.std.proofs.Common.{◌≡◌, ◌≢◌, ℕ, ◌+◌, ◌<◌, ◌≤◌, List, length, map, get_or, set, refl, sym, ap, ◌∙◌, inl, inr, Option, Some, arith}
use Rattle.std.specs.Prelude.{◌==◌, slice_index, unwrap_or}
use Rattle.std.specs.List.{slice_get}
use Rattle.std.proofs.lemmas.Bool.{both_ways, cases_lt, eq-eqb, eqb-true}
use Rattle.std.proofs.lemmas.List.{ext_get_or, get_or-set_other, get_or-set_same, length-map}
use Rattle.std.proofs.lemmas.Option.{get_or_from_slice_get, same_Some, slice_get-get_or, slice_get-map, slice_get_within}
use Rattle.std.specs.Option.{option_map}
use Rattle.elf_format.specs.Image.{Image, counted}
use Rattle.elf_format.proofs.ForCallers.Lengths.{length-counted}
use Rattle.elf_write_spec.proofs.ForCallers.ApartLists.{map-at}
use Rattle.elf_write_spec.specs.Final.{dynamic_order, new_dynamic_symbol, new_dynamic_symbols, new_static_symbol, new_static_symbols}
use Rattle.elf_write_spec.proofs.ForCallers.FinalSymbols.{all_symbols}
use Rattle.elf_write_spec.proofs.ForCallers.NumberedSections.{one_position}
use Rattle.elf_write_spec.proofs.ForCallers.OrderFacts.{HasSymbols, length-new, length-order, new-at, new_gone, order-new, order_once}
use Rattle.elf_write_spec.proofs.ForCallers.OrderLists as orders
use Rattle.elf_write_spec.proofs.ForCallers.OrderLists.{position-none}
use Rattle.elf_write_spec.proofs.ForCallers.StaticSymbols.{static_at, static_new}
use Rattle.elf_write_spec.proofs.ForCallers.WholeEdits.{ReadFacts}
use Rattle.elf_write_spec.proofs.ForCallers.WholeLists.{FoundAt, NonePasses, first_at}

-- ## So many of them

-- the first of these symbols have their places for their new numbers, and no other number has such a place
pub record AreNumberedTo (olds : List ℕ) (i : ℕ) (numbers : List ℕ) : Type 0 where
  pub there : (j n : ℕ) → j < i → slice_get olds j ≡ Some n → slice_index numbers n ≡ j
  pub gone : (n : ℕ) → ((j : ℕ) → j < i → slice_get olds j ≡ Some n → ⊥) → slice_index numbers n ≡ 0

-- no number stands twice
abbrev pub AreApart : List ℕ → Type 0
AreApart olds = (i j n : ℕ) → slice_get olds i ≡ Some n → slice_get olds j ≡ Some n → i ≡ j

-- one symbol more has its new number
pub numbered_more : (olds : List ℕ) (i n : ℕ) (numbers new : List ℕ) → AreApart olds → slice_get olds i ≡ Some n → n < length numbers
    → AreNumberedTo olds i numbers → new ≡ set numbers n i → AreNumberedTo olds (i + 1) new
numbered_more olds i n numbers new apart at within before is = record {
  there = λ j m less at_m. elim (cases_lt j i) [
    | inl earlier ↦
        let other : m ≢ n = λ same.
        let one : j ≡ i = apart j i n (at_m ∙ ap (λ (k : ℕ). Some k) same) at in
        omega (arith, one, earlier) in
        ap (λ (l : List ℕ). get_or l m 0) is ∙ get_or-set_other numbers n m i 0 other ∙ before.there j m earlier at_m
    | inr last ↦
        let here : j ≡ i = omega (arith, last, less) in
        let same : m ≡ n = same_Some m n (sym at_m ∙ ap (slice_get olds) here ∙ at) in
        ap (λ (l : List ℕ). get_or l m 0) is ∙ ap (λ (k : ℕ). get_or (set numbers n i) k 0) same
        ∙ get_or-set_same numbers n i 0 within ∙ sym here
  ];
  gone = λ m none.
      let other : m ≢ n = λ same. none i (omega arith) (at ∙ ap (λ (k : ℕ). Some k) (sym same)) in
      ap (λ (l : List ℕ). get_or l m 0) is ∙ get_or-set_other numbers n m i 0 other
      ∙ before.gone m (λ j less. none j (omega (arith, less)));
}

-- a number is that of a symbol that is there, or of none
pub there_is : (ns : List ℕ) (n : ℕ) → (found : FoundAt (λ k. k == n) ns) → slice_get ns found.index ≡ Some n
there_is ns n found = found.there ∙ ap (λ (k : ℕ). Some k) (eqb-true found.element n found.passes)

pub there_is_none : (ns : List ℕ) (n : ℕ) → NonePasses (λ k. k == n) ns → (m : ℕ) → slice_get ns m ≡ Some n → ⊥
there_is_none ns n none m at = both_ways (n == n) (none m n at) (eq-eqb n n refl)

-- ## The dynamic symbols

-- the numbers at read of the symbols, in their new order
abbrev pub dynamic_olds : Image → Image → List ℕ
dynamic_olds read image = map (slice_index image.dynamic_symbol_numbers) (dynamic_order read image)

module _ (read image : Image) (f : ReadFacts read image) where
  abbrev order : List ℕ
  order = dynamic_order read image

  abbrev all : HasSymbols read image
  all = all_symbols read image f

  -- which symbol a number at read in the new order is of
  old-at : (j n : ℕ) → slice_get (dynamic_olds read image) j ≡ Some n
      → (m : ℕ) × (slice_get order j ≡ Some m) × (slice_get image.dynamic_symbol_numbers m ≡ Some n)
  old-at j n at =
      let (m, m_at, told) = map-at (slice_index image.dynamic_symbol_numbers) order j n at in
      let below : m < length image.dynamic_symbols = orders.is_below (length image.dynamic_symbols) order (order_once read image all) j m m_at in
      (m, m_at, slice_get-get_or image.dynamic_symbol_numbers m 0 (omega (arith, below, all.as_many)) ∙ ap (λ (k : ℕ). Some k) told)

  pub dynamic_old : (j m n : ℕ) → slice_get order j ≡ Some m → slice_get image.dynamic_symbol_numbers m ≡ Some n → slice_get (dynamic_olds read image) j ≡ Some n
  dynamic_old j m n at number =
      slice_get-map (slice_index image.dynamic_symbol_numbers) order j ∙ ap (option_map (slice_index image.dynamic_symbol_numbers)) at
      ∙ ap (λ (k : ℕ). Some k) (get_or_from_slice_get image.dynamic_symbol_numbers m n 0 number)

  pub dynamic_apart : AreApart (dynamic_olds read image)
  dynamic_apart i j n at_i at_j =
      let (m, m_at, m_number) = old-at i n at_i in
      let (k, k_at, k_number) = old-at j n at_j in
      let same : k ≡ m = one_position image.dynamic_symbol_numbers all.rising k m n k_number m_number in
      orders.one_place (length image.dynamic_symbols) order (order_once read image all) i j m m_at (k_at ∙ ap (λ (x : ℕ). Some x) same)

  dynamic_number : (numbers : List ℕ) (i : ℕ) → length order ≤ i → AreNumberedTo (dynamic_olds read image) i numbers → (n : ℕ)
      → slice_index numbers n ≡ new_dynamic_symbol read image n
  dynamic_number numbers i past are n = elim (first_at (λ (k : ℕ). k == n) image.dynamic_symbol_numbers) [
    | inl found ↦
        let number = there_is image.dynamic_symbol_numbers n found in
        let new : ℕ = new_dynamic_symbol read image n in
        let at : slice_get order new ≡ Some found.index = order-new read image all found.index n number in
        are.there new n (omega (arith, slice_get_within order new found.index at, past)) (dynamic_old new found.index n at number)
    | inr none ↦
        let gone = there_is_none image.dynamic_symbol_numbers n none in
        are.gone n (λ j less at. let (m, _, number) = old-at j n at in gone m number)
        ∙ sym (new_gone read image all n gone)
  ]

  -- which symbol stands at a place of the order that is lent
  pub place_there : (lent : List ℕ) → lent ≡ order → (i : ℕ) → i < length lent → slice_get order i ≡ Some (get_or lent i 0)
  place_there lent same i less = ap (λ (l : List ℕ). slice_get l i) (sym same) ∙ slice_get-get_or lent i 0 less

  pub place_below : (lent : List ℕ) → lent ≡ order → (i : ℕ) → i < length lent → get_or lent i 0 < length image.dynamic_symbols
  place_below lent same i less =
      orders.is_below (length image.dynamic_symbols) order (order_once read image all) i (get_or lent i 0) (place_there lent same i less)

  pub places_few : (lent : List ℕ) → lent ≡ order → length lent ≡ length image.dynamic_symbols
  places_few lent same = ap length same ∙ length-order read image all

  -- the number at read of the symbol at a place
  pub old_below : (m n : ℕ) → slice_get image.dynamic_symbol_numbers m ≡ Some n → n < length read.dynamic_symbols
  old_below = all.below

  -- the numbers that are made are the new ones of all dynamic symbols
  pub dynamic_told : (numbers : List ℕ) (i : ℕ) → length numbers ≡ length read.dynamic_symbols → length order ≤ i
      → AreNumberedTo (dynamic_olds read image) i numbers → numbers ≡ new_dynamic_symbols read image
  dynamic_told numbers i long past are =
      ext_get_or 0 numbers (new_dynamic_symbols read image) (long ∙ sym (length-new read image all)) (λ n below.
      dynamic_number numbers i past are n ∙ sym (new-at read image all n (omega (arith, below, long))))

-- ## The static symbols

module _ (read image : Image) (f : ReadFacts read image) where
  pub static_apart : AreApart image.symbol_numbers
  static_apart = one_position image.symbol_numbers f.edit.symbols.rising

  static_number : (numbers : List ℕ) (i : ℕ) → length image.symbols ≤ i → AreNumberedTo image.symbol_numbers i numbers → (n : ℕ)
      → slice_index numbers n ≡ new_static_symbol image n
  static_number numbers i past are n = elim (first_at (λ (k : ℕ). k == n) image.symbol_numbers) [
    | inl found ↦
        let number = there_is image.symbol_numbers n found in
        let within : found.index < i =
        omega (arith, slice_get_within image.symbol_numbers found.index n number, f.edit.symbols.numbered, past) in
        are.there found.index n within number ∙ sym (static_new read image f found.index n number)
    | inr none ↦
        are.gone n (λ j less. there_is_none image.symbol_numbers n none j)
        ∙ sym (ap (λ (o : Option ℕ). unwrap_or o 0) (position-none (λ (k : ℕ). k == n) image.symbol_numbers none))
  ]

  length-static : length (new_static_symbols read image) ≡ length read.symbols
  length-static =
      let count : ℕ = length read.symbols in
      length-map (counted count) (new_static_symbol image) ∙ length-counted count

  pub static_told : (numbers : List ℕ) (i : ℕ) → length numbers ≡ length read.symbols → length image.symbols ≤ i
      → AreNumberedTo image.symbol_numbers i numbers → numbers ≡ new_static_symbols read image
  static_told numbers i long past are =
      ext_get_or 0 numbers (new_static_symbols read image) (long ∙ sym length-static) (λ n below.
      static_number numbers i past are n ∙ sym (static_at read image f n (omega (arith, below, long))))

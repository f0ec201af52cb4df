-- The static symbols in their final form: each is one of the image, with the new number of its section, and the new number of each.
use Rattle.std.proofs.Common.{◌≡◌, ◌<◌, ◌⊎◌, ℕ, List, length, Bool, true, false, not, refl, sym, ap, ◌∙◌, inl, inr, Option, Some, None, arith}
use Rattle.std.specs.Prelude.{if◌then◌else◌, ◌==◌, nat_le, position, slice_index, unwrap_or}
use Rattle.std.specs.List.{slice_get}
use Rattle.std.proofs.lemmas.Bool.{eq-eqb, eqb-true, false≢true, ne_eqb}
use Rattle.std.proofs.lemmas.List.{get_or-map}
use Rattle.std.proofs.lemmas.Option.{get_or_from_slice_get, slice_get_within}
use Rattle.elf_format.specs.declared.constants.TheConstants.{SHN_LORESERVE}
use Rattle.elf_format.specs.Image.{Image, counted}
use Rattle.elf_format.specs.Views.{NamedSymbol}
use Rattle.elf_format.proofs.ForCallers.Lengths.{length-counted, slice_index-counted}
use Rattle.elf_image.specs.Edited.{IsSameSymbol}
use Rattle.elf_image.specs.Kept.{KeptSection, kept_at_number}
use Rattle.elf_layout_plan.proofs.ForCallers.ApartLists.{map-at}
use Rattle.elf_write_spec.specs.Final.{final, final_symbol, is_static_renumbered, new_static_symbol, new_static_symbols, new_symbol_section}
use Rattle.elf_write_spec.proofs.NumberedSections.{each_there, one_position}
use Rattle.elf_write_spec.proofs.OrderLists.{position-at}
use Rattle.elf_write_spec.proofs.WholeEdits.{ReadFacts, lasting_there, length-read, read_number, symbols_written}
use Rattle.elf_write_spec.proofs.WholeLists.{there_at}

-- a static symbol of the image, and what was read of it
pub record StaticRead (read image : Image) (y : NamedSymbol) : Type 0 where
  pub position : ℕ
  pub is_there : slice_get image.symbols position ≡ Some y
  pub number : ℕ
  pub old : NamedSymbol
  pub is_old : slice_get read.symbols number ≡ Some old
  pub same : IsSameSymbol old y
  pub section : y.st_shndx ≡ old.st_shndx

module _ (read image : Image) (f : ReadFacts read image) where
  pub static_read : (i : ℕ) (y : NamedSymbol) → slice_get image.symbols i ≡ Some y → StaticRead read image y
  static_read i y at =
      let (old, old_at, same) = f.edit.symbols.same i y at in
      record {
        position = i;
        is_there = at;
        number = slice_index image.symbol_numbers i;
        old = old;
        is_old = old_at;
        same = same;
        section = ap (λ (z : NamedSymbol). z.st_shndx) same.1;
      }

  pub final_static : (i : ℕ) (y : NamedSymbol) → slice_get (final read image).symbols i ≡ Some y
      → (x : NamedSymbol) × (slice_get image.symbols i ≡ Some x) × (y ≡ final_symbol image x)
  final_static i y at =
      let (x, x_at, made) = map-at (final_symbol image) image.symbols i y
      (ap (λ (l : List NamedSymbol). slice_get l i) (sym (symbols_written read image)) ∙ at) in
      (x, x_at, sym made)

  -- ## Numbers

  -- the symbol with a number
  pub static_there : (i n : ℕ) → slice_get image.symbol_numbers i ≡ Some n → (y : NamedSymbol) × (slice_get image.symbols i ≡ Some y)
  static_there i n at = there_at image.symbols i (omega (arith, slice_get_within image.symbol_numbers i n at, f.edit.symbols.numbered))

  pub static_below : (i n : ℕ) → slice_get image.symbol_numbers i ≡ Some n → n < length read.symbols
  static_below i n at =
      let (y, y_at) = static_there i n at in
      let (old, old_at, _) = f.edit.symbols.same i y y_at in
      omega (
        arith,
        slice_get_within read.symbols (slice_index image.symbol_numbers i) old old_at,
        get_or_from_slice_get image.symbol_numbers i n 0 at,
      )

  -- the new number of a symbol is its position
  pub static_new : (i n : ℕ) → slice_get image.symbol_numbers i ≡ Some n → new_static_symbol image n ≡ i
  static_new i n at =
      let found : position (λ k. k == n) image.symbol_numbers ≡ Some i =
      position-at (λ k. k == n) image.symbol_numbers i n at (eq-eqb n n refl) (λ j k less k_at.
      ne_eqb k n (λ same.
      let one : j ≡ i = one_position image.symbol_numbers f.edit.symbols.rising j i n (k_at ∙ ap (λ (m : ℕ). Some m) same) at in
      omega (arith, one, less))) in
      ap (λ (o : Option ℕ). unwrap_or o 0) found

  -- the new numbers, one by one
  pub static_at : (n : ℕ) → n < length read.symbols → slice_index (new_static_symbols read image) n ≡ new_static_symbol image n
  static_at n below =
      let count : ℕ = length read.symbols in
      get_or-map (new_static_symbol image) (counted count) n 0 0 (omega (arith, below, length-counted count))
      ∙ ap (new_static_symbol image) (slice_index-counted count n below)

  -- ## Where none went

  -- there are as many static symbols as were read
  pub static_count : is_static_renumbered read image ≡ false → length image.symbols ≡ length read.symbols
  static_count none =
      sym f.edit.symbols.numbered ∙ eqb-true (length image.symbol_numbers) (length read.symbols)
      (not-false (length image.symbol_numbers == length read.symbols) none)
    where
      not-false : (b : Bool) → not b ≡ false → b ≡ true
      not-false true h = refl
      not-false false h = absurd (false≢true (sym h))

  -- each static symbol keeps its number
  pub static_all : is_static_renumbered read image ≡ false → (n : ℕ) → n < length read.symbols → slice_get image.symbol_numbers n ≡ Some n
  static_all none n below =
      each_there image.symbol_numbers (length read.symbols) f.edit.symbols.rising static_below (f.edit.symbols.numbered ∙ static_count none) n below

  pub static_same : is_static_renumbered read image ≡ false → (n : ℕ) → n < length read.symbols → new_static_symbol image n ≡ n
  static_same none n below = static_new n n (static_all none n below)

  -- ## Sections of symbols

  -- the null section is there
  pub some_section : 0 < length f.parts.sections → 0 < length image.sections
  some_section some =
      let (was, was_at) = there_at read.sections 0 (omega (arith, some, length-read read image f)) in
      let (i, at, _) = lasting_there read image f 0 was was_at refl in
      omega (arith, slice_get_within image.sections i at.section at.is_section)

  -- the new number of a symbol's section is that of one that is there, or a special one
  pub section_moves : 0 < length f.parts.sections → (n : ℕ)
      → ((nat_le SHN_LORESERVE n ≡ true) × (new_symbol_section image n ≡ n)) ⊎ (new_symbol_section image n < length image.sections)
  section_moves some n = by_test (nat_le SHN_LORESERVE n) (kept_at_number n image) refl refl
    where
      is_by : (b : Bool) → nat_le SHN_LORESERVE n ≡ b
          → new_symbol_section image n ≡ (if b then n else elim (kept_at_number n image) as (λ _. ℕ) [ Some s ↦ s.position | None ↦ 0 ])
      is_by b e = ap (λ (c : Bool). if c then n else elim (kept_at_number n image) as (λ _. ℕ) [ Some s ↦ s.position | None ↦ 0 ]) e

      at_kept : (o : Option KeptSection) → kept_at_number n image ≡ o
          → (elim (kept_at_number n image) as (λ _. ℕ) [ Some s ↦ s.position | None ↦ 0 ])
          ≡ (elim o as (λ _. ℕ) [ Some s ↦ s.position | None ↦ 0 ])
      at_kept o e = ap (λ (k : Option KeptSection). elim k as (λ _. ℕ) [ Some s ↦ s.position | None ↦ 0 ]) e

      by_test : (b : Bool) (o : Option KeptSection) → nat_le SHN_LORESERVE n ≡ b → kept_at_number n image ≡ o
          → ((nat_le SHN_LORESERVE n ≡ true) × (new_symbol_section image n ≡ n)) ⊎ (new_symbol_section image n < length image.sections)
      by_test true o special there = inl (special, is_by true special)
      by_test false None plain there =
          let zero_now : new_symbol_section image n ≡ 0 = is_by false plain ∙ at_kept None there in
          inr (omega (arith, zero_now, some_section some))
      by_test false (Some k) plain there =
          let now : new_symbol_section image n ≡ k.position = is_by false plain ∙ at_kept (Some k) there in
          let (at, _, _) = read_number read image f n k there in
          inr (omega (arith, now, slice_get_within image.sections k.position at.section at.is_section))

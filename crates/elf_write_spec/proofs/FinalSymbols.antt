-- The dynamic symbols in their final form: each is one of the image, there are as many, and each was read with its section and, but for
-- a version that was cleared, its version.
use Rattle.std.proofs.Common.{◌≡◌, ◌<◌, ◌≤◌, ℕ, zero, suc, map, List, [], ◌∷◌, length, refl, sym, ap, ◌∙◌, Option, Some, None, arith}
use Rattle.std.specs.Prelude.{slice_index}
use Rattle.std.specs.List.{cons_option, slice_get}
use Rattle.std.proofs.lemmas.Option.{get_or_from_slice_get, none-some, slice_get-get_or, slice_get_within}
use Rattle.elf_format.specs.Image.{Image}
use Rattle.elf_format.specs.Views.{NamedSymbol}
use Rattle.elf_hashes.specs.Found.{in_order}
use Rattle.elf_image.specs.Edited.{IsSameDynamicSymbol}
use Rattle.elf_write_spec.specs.Final.{dynamic_order, final, final_symbol, ordered}
use Rattle.elf_write_spec.proofs.OrderFacts.{HasSymbols, length-final}
use Rattle.elf_write_spec.proofs.WholeEdits.{ReadFacts}
use Rattle.elf_write_spec.proofs.NumberedSections.{number_behind}
use Rattle.elf_layout_plan.proofs.ForCallers.ApartLists.{map-at}
use Rattle.elf_write_spec.proofs.WholeLists.{there_at}

-- ## Symbols in an order

-- one of the symbols in an order is one of all
pub in_order-from : (ys : List NamedSymbol) (order : List ℕ) (i : ℕ) (y : NamedSymbol) → slice_get (in_order ys order) i ≡ Some y
    → (j : ℕ) × (slice_get ys j ≡ Some y)
in_order-from ys [] i y at = absurd (none-some y at)
in_order-from ys (k ∷ order) i y at = by_symbol (slice_get ys k) refl i at (λ n. in_order-from ys order n y)
  where
    by_symbol : (o : Option NamedSymbol) → slice_get ys k ≡ o → (i : ℕ) → slice_get (cons_option o (in_order ys order)) i ≡ Some y
        → ((n : ℕ) → slice_get (in_order ys order) n ≡ Some y → (j : ℕ) × (slice_get ys j ≡ Some y))
        → (j : ℕ) × (slice_get ys j ≡ Some y)
    by_symbol None there i at behind = behind i at
    by_symbol (Some x) there zero at behind = (k, there ∙ at)
    by_symbol (Some x) there (suc i) at behind = behind i at

no_items : {A : Type 0} (xs : List A) → length xs ≡ 0 → xs ≡ []
no_items [] none = refl
no_items (x ∷ xs) none = absurd (omega (arith, none))

-- ## Each symbol

-- a dynamic symbol of the image, and what was read of it
pub record SymbolRead (read image : Image) (y : NamedSymbol) : Type 0 where
  pub position : ℕ
  pub is_there : slice_get image.dynamic_symbols position ≡ Some y
  pub number : ℕ
  pub old : NamedSymbol
  pub is_old : slice_get read.dynamic_symbols number ≡ Some old
  pub same : IsSameDynamicSymbol old y
  pub section : y.st_shndx ≡ old.st_shndx

module _ (read image : Image) (f : ReadFacts read image) where
  pub symbol_read : (i : ℕ) (y : NamedSymbol) → slice_get image.dynamic_symbols i ≡ Some y → SymbolRead read image y
  symbol_read i y at =
      let (old, old_at, same) = f.edit.dynamic_symbols.same i y at in
      record {
        position = i;
        is_there = at;
        number = slice_index image.dynamic_symbol_numbers i;
        old = old;
        is_old = old_at;
        same = same;
        section = ap (λ (z : NamedSymbol). z.st_shndx) same.2;
      }

  -- the final symbols are those of the image, in their order, each with the new number of its section
  pub final_ordered : (final read image).dynamic_symbols ≡ map (final_symbol image) (ordered read image)
  unfolding final
  final_ordered = refl

  pub final_at : (i : ℕ) (y : NamedSymbol) → slice_get (final read image).dynamic_symbols i ≡ Some y
      → (x : NamedSymbol) × SymbolRead read image x × (y ≡ final_symbol image x)
  final_at i y at =
      let (x, x_at, made) = map-at (final_symbol image) (ordered read image) i y
      (ap (λ (l : List NamedSymbol). slice_get l i) (sym final_ordered) ∙ at) in
      let (j, there) = in_order-from image.dynamic_symbols (dynamic_order read image) i x x_at in
      (x, symbol_read j x there, sym made)

  -- ## How many

  number_below : (i n : ℕ) → slice_get image.dynamic_symbol_numbers i ≡ Some n → n < length read.dynamic_symbols
  number_below i n at =
      let within : i < length image.dynamic_symbols =
      omega (arith, slice_get_within image.dynamic_symbol_numbers i n at, f.edit.dynamic_symbols.numbered) in
      let (y, y_at) = there_at image.dynamic_symbols i within in
      let (old, old_at, _) = f.edit.dynamic_symbols.same i y y_at in
      omega (
        arith,
        slice_get_within read.dynamic_symbols (slice_index image.dynamic_symbol_numbers i) old old_at,
        get_or_from_slice_get image.dynamic_symbol_numbers i n 0 at,
      )

  -- no more than were read
  pub count_read : length image.dynamic_symbols ≤ length read.dynamic_symbols
  count_read = no_more (length image.dynamic_symbols) refl
    where
      numbers : List ℕ
      numbers = image.dynamic_symbol_numbers

      no_more : (n : ℕ) → length image.dynamic_symbols ≡ n → length image.dynamic_symbols ≤ length read.dynamic_symbols
      no_more zero e = omega (arith, e)
      no_more (suc n) e =
          let within : n < length numbers = omega (arith, e, f.edit.dynamic_symbols.numbered) in
          omega (
            arith,
            e,
            number_behind numbers f.edit.dynamic_symbols.rising n within,
            number_below n (slice_index numbers n) (slice_get-get_or numbers n 0 within),
          )

  pub all_symbols : HasSymbols read image
  all_symbols = record {
    complete = f.edit.complete;
    as_many = sym f.edit.dynamic_symbols.numbered;
    rising = f.edit.dynamic_symbols.rising;
    below = number_below;
  }

  pub final_count : length (final read image).dynamic_symbols ≡ length image.dynamic_symbols
  final_count = length-final read image all_symbols

  -- where no dynamic symbols were read there are none
  pub final_none : read.dynamic_symbols ≡ [] → (final read image).dynamic_symbols ≡ []
  final_none none =
      no_items (final read image).dynamic_symbols
      (omega (arith, final_count, count_read, ap (λ (l : List NamedSymbol). length l) none))

-- Whether the sections of symbols keep their numbers, symbol by symbol.
use Rattle.std.proofs.Common.{◌≡◌, ◌≤◌, ◌+◌, ℕ, Bool, true, false, List, drop, length, sym, ap, ◌∙◌, Some}
use Rattle.std.specs.Prelude.{◌&&◌, ◌==◌, option_map}
use Rattle.std.specs.List.{list_all, slice_get}
use Rattle.std.proofs.lemmas.List.{drop_all}
use Rattle.elf_format.specs.declared.records.SymbolNumbers.{SymbolNumbers}
use Rattle.elf_format.specs.Image.{Image}
use Rattle.elf_format.specs.Views.{NamedSymbol}
use Rattle.elf_image_symbols.specs.TableSymbols.{symbol_with}
use Rattle.elf_write_strings.proofs.ForCallers.SymbolSteps.{rest_at, with_part}
use Rattle.elf_write_symbols.specs.Final.{new_symbol_section}
use Rattle.elf_write_symbol_tables.specs.SymbolSteps.{is_section_kept}

module _ (image : Image) (i : ℕ) where
  abbrev ys : List NamedSymbol
  ys = image.symbols

  abbrev left : ℕ → Bool
  left k = list_all (is_section_kept image) (drop k ys)

  -- by the record's number
  pub kept_here : (lent : List NamedSymbol) (numbers : SymbolNumbers) (new : ℕ) → lent ≡ ys
      → option_map (symbol_with 0) (slice_get lent i) ≡ Some numbers → new ≡ new_symbol_section image numbers.st_shndx
      → option_map (is_section_kept image) (slice_get ys i) ≡ Some (numbers.st_shndx == new)
  kept_here lent numbers new same told is =
      let (y, y_at, own) = with_part (symbol_with 0) (slice_get lent i) numbers told in
      let at : slice_get ys i ≡ Some y = ap (λ (l : List NamedSymbol). slice_get l i) (sym same) ∙ y_at in
      ap (option_map (is_section_kept image)) at
      ∙ ap (λ (n : SymbolNumbers). Some (n.st_shndx == new_symbol_section image n.st_shndx)) own
      ∙ ap (λ (k : ℕ). Some (numbers.st_shndx == k)) (sym is)

  next_left : (b : Bool) → option_map (is_section_kept image) (slice_get ys i) ≡ Some b → left i ≡ (b && left (i + 1))
  next_left b told =
      let (y, at, is) = with_part (is_section_kept image) (slice_get ys i) b told in
      ap (list_all (is_section_kept image)) (rest_at ys i y at) ∙ ap (λ (c : Bool). c && left (i + 1)) is

  pub kept_on : (b all : Bool) → option_map (is_section_kept image) (slice_get ys i) ≡ Some b → b ≡ true → left i ≡ all → left (i + 1) ≡ all
  kept_on b all told passes so_far = sym (ap (λ (c : Bool). c && left (i + 1)) passes) ∙ sym (next_left b told) ∙ so_far

  pub kept_not : (b all : Bool) → option_map (is_section_kept image) (slice_get ys i) ≡ Some b → b ≡ false → left i ≡ all → false ≡ all
  kept_not b all told fails so_far = sym (ap (λ (c : Bool). c && left (i + 1)) fails) ∙ sym (next_left b told) ∙ so_far

  pub kept_all : (all : Bool) → length ys ≤ i → left i ≡ all → true ≡ all
  kept_all all past so_far = sym (ap (list_all (is_section_kept image)) (drop_all i ys past)) ∙ so_far

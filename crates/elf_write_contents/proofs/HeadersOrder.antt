-- The dynamic symbols in their new order, one by one, and which of the final symbols are local.
use Rattle.std.proofs.Common.{◌≡◌, ◌≤◌, ℕ, ◌+◌, List, [], ◌∷◌, length, map, take, sym, refl, ap, ◌∙◌, Some, arith}
use Rattle.std.specs.Prelude.{if◌then◌else◌, not, ◌==◌}
use Rattle.std.specs.List.{slice_get}
use Rattle.std.specs.Option.{option_map}
use Rattle.std.proofs.lemmas.List.{take_all}
use Rattle.std.proofs.lemmas.Option.{slice_get-map}
use Rattle.elf_format.specs.Image.{Image}
use Rattle.elf_format.specs.Views.{NamedSymbol}
use Rattle.elf_write_symbol_tables.specs.Found.{is_local}
use Rattle.elf_write_spec.specs.Final.{dynamic_order, final, final_symbol, ordered}
use Rattle.elf_write_spec.specs.Headers.{behind_locals}
use Rattle.elf_write_spec.specs.Ready.{IsEditedReady}
use Rattle.elf_write_spec.proofs.ForCallers.FinalSymbols.{all_symbols, final_count, final_ordered}
use Rattle.elf_write_spec.proofs.ForCallers.OrderFacts.{ordered-at}
use Rattle.elf_write_spec.proofs.ForCallers.WholeEdits.{symbols_written}
use Rattle.elf_write_symbol_tables.proofs.ForCallers.ReadyFacts.{facts}

module _ (read image : Image) (is : IsEditedReady read image) where
  -- what stands at a place
  pub placed : (i n : ℕ) (y : NamedSymbol) → slice_get (dynamic_order read image) i ≡ Some n → slice_get image.dynamic_symbols n ≡ Some y
      → slice_get (final read image).dynamic_symbols i ≡ Some (final_symbol image y)
  placed i n y at there =
      let f = facts read image is in
      ap (λ (l : List NamedSymbol). slice_get l i) (final_ordered read image f)
      ∙ slice_get-map (final_symbol image) (ordered read image) i
      ∙ ap (option_map (final_symbol image)) (ordered-at read image (all_symbols read image f) i n at ∙ there)

  -- as many dynamic symbols as there were
  pub count : length (final read image).dynamic_symbols ≡ length image.dynamic_symbols
  count = final_count read image (facts read image is)

  -- the symbols up to the end are all of them
  pub behind_end : (i : ℕ) → length image.dynamic_symbols ≤ i
      → behind_locals (take i (final read image).dynamic_symbols) ≡ behind_locals (final read image).dynamic_symbols
  behind_end i past = ap behind_locals (take_all i (final read image).dynamic_symbols (omega (arith, past, count)))

-- a symbol is local wherever its section stands
behind_final : (image : Image) (ys : List NamedSymbol) → behind_locals (map (final_symbol image) ys) ≡ behind_locals ys
unfolding behind_locals
behind_final image [] = refl
behind_final image (y ∷ ys) =
    ap (λ (n : ℕ). if not (n == 0) then n + 1 else if is_local y then 1 else 0) (behind_final image ys)

-- the static symbols of the image tell as many local ones as the final ones
pub behind_static : (read image : Image) → behind_locals image.symbols ≡ behind_locals (final read image).symbols
behind_static read image = sym (ap behind_locals (symbols_written read image) ∙ behind_final image image.symbols)

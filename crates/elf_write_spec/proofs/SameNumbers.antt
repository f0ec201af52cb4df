-- Relocations whose symbols keep their numbers.
use Rattle.std.proofs.Common.{◌≡◌, ℕ, Bool, true, false, List, [], ◌∷◌, map, refl, sym, ap, ◌∙◌}
use Rattle.std.specs.Prelude.{◌||◌, ◌==◌, if◌then◌else◌, nat_lt, slice_index}
use Rattle.std.specs.List.{list_all}
use Rattle.std.proofs.lemmas.Bool.{and_parts, eqb-true, ltb-true}
use Rattle.elf_format.specs.declared.form.Form.{Form}
use Rattle.elf_format.specs.Image.{counted}
use Rattle.elf_format.specs.Records.{Relocation, relocations_in}
use Rattle.elf_format.proofs.ForCallers.Lengths.{slice_index-counted}
use Rattle.elf_write_spec.specs.Renumbered.{AreRenumbered, are_symbols_below, is_symbol_below, new_symbol, renumbered}

-- each symbol's number is its own, and 0 stays
new_symbol-same : (n symbol : ℕ) → is_symbol_below n symbol ≡ true → new_symbol (counted n) symbol ≡ symbol
new_symbol-same n symbol below = by_test (symbol == 0) refl below
  where
    by_test : (t : Bool) → (symbol == 0) ≡ t → (t || nat_lt symbol n) ≡ true → (if t then 0 else slice_index (counted n) symbol) ≡ symbol
    by_test true is below = sym (eqb-true symbol 0 is)
    by_test false is below = slice_index-counted n symbol (ltb-true symbol n below)

all_same : (n : ℕ) (xs : List Relocation) → list_all (λ x. is_symbol_below n x.r_symbol) xs ≡ true → map (renumbered (new_symbol (counted n))) xs ≡ xs
all_same n [] below = refl
all_same n (x ∷ xs) below =
    let (here, behind) = and_parts (is_symbol_below n x.r_symbol) (list_all (λ y. is_symbol_below n y.r_symbol) xs) below in
    ap (λ (k : ℕ). record x { r_symbol = k } ∷ map (renumbered (new_symbol (counted n))) xs) (new_symbol-same n x.r_symbol here)
    ∙ ap (λ (l : List Relocation). x ∷ l) (all_same n xs behind)

-- Where each symbol keeps its number, the relocations are those that were.
pub renumbered_same : (form : Form) (kind n : ℕ) (old bytes : List ℕ) → are_symbols_below form kind n old ≡ true → AreRenumbered form kind (counted n) old bytes
    → relocations_in form kind bytes ≡ relocations_in form kind old
renumbered_same form kind n old bytes below are = are.relocations ∙ all_same n (relocations_in form kind old) below

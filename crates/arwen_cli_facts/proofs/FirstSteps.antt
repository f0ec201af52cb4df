-- Steps of looking for the first entry that tells something.
use Rattle.std.proofs.Common.{◌≡◌, ◌<◌, ◌≤◌, ◌+◌, ℕ, List, ◌∷◌, length, drop, get_or, map, sym, ap, ◌∙◌, Option, Some, None, add-one, drop-cons}
use Rattle.std.proofs.lemmas.List.{drop_all}
use Rattle.elf_image.specs.Dynamic.{Entry}
use Rattle.elf_image.specs.ImageModel.{entry_model}
use Rattle.elf_image.specs.Options.{first_there}
use Rattle.elf_image.specs.declared.dynamic.Dynamic.{Dynamic}
use Rattle.arwen_cli_facts.specs.ElfFacts.{first_told}

module _ {A : Type 0} (tells : Entry → Option A) (xs : List Dynamic) (i : ℕ) where
  -- what the entries tell from one on
  from_here : ℕ → Option A
  from_here k = first_told tells (map entry_model (drop k xs))

  at_entry : (x : Dynamic) → i < length xs → x ≡ get_or xs i x → from_here i ≡ first_there (tells (entry_model x)) (from_here (i + 1))
  unfolding first_told from_here
  at_entry x here e =
      ap (λ ys. first_told tells (map entry_model ys)) (drop_here ∙ ap (λ y. y ∷ drop (i + 1) xs) (sym e))
    where
      drop_here : drop i xs ≡ get_or xs i x ∷ drop (i + 1) xs
      drop_here = rw (add-one, drop-cons xs i x)

  pub goes_past : (x : Dynamic) → i < length xs → x ≡ get_or xs i x → tells (entry_model x) ≡ None → (all : Option A) → first_told tells (map entry_model (drop i xs)) ≡ all → first_told tells (map entry_model (drop (i + 1) xs)) ≡ all
  unfolding from_here
  goes_past x here e none all h = sym (at_entry x here e ∙ ap (λ o. first_there o (from_here (i + 1))) none) ∙ h

  pub first_found : (x : Dynamic) → i < length xs → x ≡ get_or xs i x → (told : A) → tells (entry_model x) ≡ Some told → (all : Option A) → first_told tells (map entry_model (drop i xs)) ≡ all → Some told ≡ all
  unfolding from_here
  first_found x here e told found all h = sym (at_entry x here e ∙ ap (λ o. first_there o (from_here (i + 1))) found) ∙ h

  pub none_found : length xs ≤ i → (all : Option A) → first_told tells (map entry_model (drop i xs)) ≡ all → None ≡ all
  unfolding first_told
  none_found end all h = sym (ap (λ ys. first_told tells (map entry_model ys)) (drop_all i xs end)) ∙ h

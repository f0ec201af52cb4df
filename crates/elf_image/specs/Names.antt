-- The names of dynamic symbols, and whether they are those that were read.
use Rattle.std.specs.Prelude.{ℕ, List, [], ◌∷◌, map, Bool, true, false, not}
use Rattle.std.specs.Str.{bytes_eq}
use Rattle.elf_format.specs.Image.{Image}
use Rattle.elf_format.specs.Views.{NamedSymbol}

abbrev pub texts_of_symbols : List NamedSymbol → List (List ℕ)
texts_of_symbols symbols = map (λ y. y.name) symbols

-- the texts are the same, one by one
abbrev pub are_same_texts : List (List ℕ) → List (List ℕ) → Bool
are_same_texts [] [] = true
are_same_texts [] (u ∷ us) = false
are_same_texts (t ∷ ts) [] = false
are_same_texts (t ∷ ts) (u ∷ us) = elim (bytes_eq t u) [ true ↦ are_same_texts ts us | _ ↦ false ]

-- The names of the dynamic symbols, one by one, aren't those that were read: then hash tables are made anew.
abbrev pub are_names_changed : Image → Image → Bool
are_names_changed read image = not (are_same_texts (texts_of_symbols read.dynamic_symbols) (texts_of_symbols image.dynamic_symbols))

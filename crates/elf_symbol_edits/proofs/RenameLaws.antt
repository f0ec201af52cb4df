-- Names are given all at once: two that are swapped twice are as they were.
use Rattle.std.proofs.Common.{◌≡◌, ℕ, Bool, true, false, List, [], ◌∷◌, map, refl, sym, ap, ◌∙◌, Some, None}
use Rattle.std.specs.Prelude.{◌||◌, drop, if◌then◌else◌, unwrap_or}
use Rattle.std.specs.List.{list_any}
use Rattle.std.specs.Str.{bytes_eq}
use Rattle.std.proofs.lemmas.Slice.Eq.{bytes_eq-Decides}
use Rattle.elf_format.specs.Image.{Image, ImageSection}
use Rattle.elf_format.specs.Options.{first_there}
use Rattle.elf_format.specs.Views.{NamedSymbol}
use Rattle.elf_edits.specs.Edit.{RenameDynamicSymbols}
use Rattle.elf_edits.specs.Laws.{swap_of}
use Rattle.elf_edits.specs.Symbols.{behind_first, has_new_name, name_of_symbol, names_behind_first, new_name, renamed}
use Rattle.elf_edits.proofs.ForCallers.{symbols_untouched}
use Rattle.elf_image.specs.SectionEdits.{with_section_name}
use Rattle.elf_symbol_edits.specs.Laws.{RenamesAreAtOnce}
use Rattle.elf_symbol_edits.specs.Named.{is_section_renamed, renamed_section}
use Rattle.elf_symbol_edits.specs.SymbolEdit.{RenameAllSymbols, RenameSections, RenameSymbols, edited, touches, written}
use Rattle.elf_symbol_edits.proofs.RenameSteps.{none_at_all}

-- ## One name

module _ (f g : List ℕ) where
  -- the other name, by whether a name is the second or the first of the two
  abbrev other : Bool → Bool → List ℕ → List ℕ
  other second first n = unwrap_or (first_there (if second then Some f else None) (if first then Some g else None)) n

  second_by : (a b : Bool) (n : List ℕ) → (a ≡ true → n ≡ g) → (b ≡ true → n ≡ f) → (a ≡ false → b ≡ false → other (bytes_eq n g) (bytes_eq n f) n ≡ n)
      → other (bytes_eq (other a b n) g) (bytes_eq (other a b n) f) (other a b n) ≡ n
  second_by true b n is_second is_first neither = of_f (bytes_eq f g) refl
    where
      of_f : (c : Bool) → bytes_eq f g ≡ c → other c (bytes_eq f f) f ≡ n
      of_f true e = (bytes_eq-Decides f g).0 e ∙ sym (is_second refl)
      of_f false e = ap (λ d. other false d f) ((bytes_eq-Decides f f).1 refl) ∙ sym (is_second refl)
  second_by false true n is_second is_first neither = ap (λ c. other c (bytes_eq g f) g) ((bytes_eq-Decides g g).1 refl) ∙ sym (is_first refl)
  second_by false false n is_second is_first neither = neither refl refl

  swapped : (n : List ℕ) → new_name (swap_of f g) (new_name (swap_of f g) n) ≡ n
  swapped n =
      second_by (bytes_eq n g) (bytes_eq n f) n (λ e. (bytes_eq-Decides n g).0 e) (λ e. (bytes_eq-Decides n f).0 e)
      (λ e d. ap (λ c. other c (bytes_eq n f) n) e ∙ ap (λ c. other false c n) d)

-- ## Lists

behind_twice : {A : Type 0} (r : A → A) → ((x : A) → r (r x) ≡ x) → (xs : List A) → behind_first r (behind_first r xs) ≡ xs
behind_twice r same [] = refl
behind_twice {A} r same (x ∷ xs) = ap (λ l. x ∷ l) (each xs)
  where
    each : (ys : List A) → map r (map r ys) ≡ ys
    each [] = refl
    each (y ∷ ys) = ap (λ z. z ∷ map r (map r ys)) (same y) ∙ ap (λ l. y ∷ l) (each ys)

module _ (pairs : List (List ℕ × List ℕ)) where
  each_name : (ys : List NamedSymbol) → map name_of_symbol (map (renamed pairs) ys) ≡ map (new_name pairs) (map name_of_symbol ys)
  each_name [] = refl
  each_name (y ∷ ys) = ap (λ l. new_name pairs y.name ∷ l) (each_name ys)

  names_after : (ys : List NamedSymbol) → names_behind_first (behind_first (renamed pairs) ys) ≡ map (new_name pairs) (names_behind_first ys)
  names_after [] = refl
  names_after (y ∷ ys) = each_name ys

  pub symbols_after : (image : Image) → (edited (RenameSymbols pairs) image).symbols ≡ behind_first (renamed pairs) image.symbols
  symbols_after image = by_test (touches (RenameSymbols pairs) image) refl
    where
      by_test : (b : Bool) → touches (RenameSymbols pairs) image ≡ b → (if b then written (RenameSymbols pairs) image else image).symbols ≡ behind_first (renamed pairs) image.symbols
      by_test true e = refl
      by_test false e = sym (symbols_untouched (RenameDynamicSymbols pairs) image.symbols e)

  dynamic_after : (image : Image) → (edited (RenameSymbols pairs) image).dynamic_symbols ≡ image.dynamic_symbols
  dynamic_after image = by_test (touches (RenameSymbols pairs) image)
    where
      by_test : (b : Bool) → (if b then written (RenameSymbols pairs) image else image).dynamic_symbols ≡ image.dynamic_symbols
      by_test true = refl
      by_test false = refl

  -- both lists of symbols, of which perhaps only one has a symbol with a new name
  pub all_after : (image : Image) → ((edited (RenameAllSymbols pairs) image).symbols ≡ behind_first (renamed pairs) image.symbols) × ((edited (RenameAllSymbols pairs) image).dynamic_symbols ≡ behind_first (renamed pairs) image.dynamic_symbols)
  all_after image = by_test (list_any (λ y. has_new_name pairs y.name) (drop 1 image.symbols)) (list_any (λ y. has_new_name pairs y.name) (drop 1 image.dynamic_symbols)) refl refl
    where
      by_test : (a b : Bool) → list_any (λ y. has_new_name pairs y.name) (drop 1 image.symbols) ≡ a → list_any (λ y. has_new_name pairs y.name) (drop 1 image.dynamic_symbols) ≡ b
          → ((if a || b then written (RenameAllSymbols pairs) image else image).symbols ≡ behind_first (renamed pairs) image.symbols)
          × ((if a || b then written (RenameAllSymbols pairs) image else image).dynamic_symbols ≡ behind_first (renamed pairs) image.dynamic_symbols)
      by_test true b e f = (refl, refl)
      by_test false true e f = (refl, refl)
      by_test false false e f = (sym (symbols_untouched (RenameDynamicSymbols pairs) image.symbols e), sym (symbols_untouched (RenameDynamicSymbols pairs) image.dynamic_symbols f))

  pub sections_after : (image : Image) → (edited (RenameSections pairs) image).sections ≡ behind_first (renamed_section pairs) image.sections
  sections_after image = by_test (is_section_renamed pairs image.sections) refl
    where
      by_test : (b : Bool) → is_section_renamed pairs image.sections ≡ b → (if b then written (RenameSections pairs) image else image).sections ≡ behind_first (renamed_section pairs) image.sections
      by_test true e = refl
      by_test false e = sym (none_at_all pairs image.sections e)

module _ (f g : List ℕ) where
  symbol_swapped : (y : NamedSymbol) → renamed (swap_of f g) (renamed (swap_of f g) y) ≡ y
  symbol_swapped y = ap (λ (n : List ℕ). record y { name = n }) (swapped f g y.name)

  section_swapped : (s : ImageSection) → renamed_section (swap_of f g) (renamed_section (swap_of f g) s) ≡ s
  section_swapped s = ap (λ (n : List ℕ). with_section_name n s) (swapped f g s.name)

  symbols_twice : (image : Image) → (edited (RenameSymbols (swap_of f g)) (edited (RenameSymbols (swap_of f g)) image)).symbols ≡ image.symbols
  symbols_twice image =
      symbols_after (swap_of f g) (edited (RenameSymbols (swap_of f g)) image) ∙ ap (behind_first (renamed (swap_of f g))) (symbols_after (swap_of f g) image)
      ∙ behind_twice (renamed (swap_of f g)) symbol_swapped image.symbols

  all_twice : (image : Image) → let swap = edited (RenameAllSymbols (swap_of f g)) in ((swap (swap image)).symbols ≡ image.symbols) × ((swap (swap image)).dynamic_symbols ≡ image.dynamic_symbols)
  all_twice image =
      let once = all_after (swap_of f g) image in
      let twice = all_after (swap_of f g) (edited (RenameAllSymbols (swap_of f g)) image) in (
        twice.0 ∙ ap (behind_first (renamed (swap_of f g))) once.0 ∙ behind_twice (renamed (swap_of f g)) symbol_swapped image.symbols,
        twice.1 ∙ ap (behind_first (renamed (swap_of f g))) once.1 ∙ behind_twice (renamed (swap_of f g)) symbol_swapped image.dynamic_symbols,
      )

  sections_twice : (image : Image) → (edited (RenameSections (swap_of f g)) (edited (RenameSections (swap_of f g)) image)).sections ≡ image.sections
  sections_twice image =
      sections_after (swap_of f g) (edited (RenameSections (swap_of f g)) image) ∙ ap (behind_first (renamed_section (swap_of f g))) (sections_after (swap_of f g) image)
      ∙ behind_twice (renamed_section (swap_of f g)) section_swapped image.sections

pub renames_are_at_once : RenamesAreAtOnce
renames_are_at_once = record {
  symbols = λ pairs image. ap names_behind_first (symbols_after pairs image) ∙ names_after pairs image.symbols;
  symbols_swapped = λ f g image. symbols_twice f g image;
  dynamic_left = λ pairs image. dynamic_after pairs image;
  all_symbols = λ pairs image. ap names_behind_first (all_after pairs image).0 ∙ names_after pairs image.symbols;
  all_dynamic = λ pairs image. ap names_behind_first (all_after pairs image).1 ∙ names_after pairs image.dynamic_symbols;
  all_swapped = λ f g image. all_twice f g image;
  sections = λ pairs image. sections_after pairs image;
  sections_swapped = λ f g image. sections_twice f g image;
}

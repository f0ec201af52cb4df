-- What is left where exactly those go that have one of some names.
use Rattle.std.proofs.Common.{◌≡◌, ℕ, suc, ◌+◌, ◌<◌, ◌≤◌, Bool, true, false, cond, List, [], ◌∷◌, length, map, filter, refl, sym, ap, ◌∙◌, Some, arith}
use Rattle.std.specs.Prelude.{◌==◌, ◌&&◌, ◌||◌, if◌then◌else◌, not, slice_index}
use Rattle.std.specs.List.{items_where_true, slice_get, zip}
use Rattle.std.proofs.lemmas.Bool.{eq-eqb, ne_eqb}
use Rattle.elf_format.specs.Image.{Image}
use Rattle.elf_format.specs.Options.{is_one_of}
use Rattle.elf_image.specs.Deleted.{is_left, parts_left}
use Rattle.elf_edits.specs.Texts.{has_some, is_among}
use Rattle.std.proofs.lemmas.Option.{same_Some}
use Rattle.elf_image.specs.Edited.{IsEdited}
use Rattle.elf_image.proofs.ForCallers.SymbolsKept.{dynamic_first, static_first}
use Rattle.elf_symbol_edits.specs.Laws.{SymbolsGoByName, kept_behind_first, without_named}
use Rattle.elf_symbol_edits.specs.Named.{named_dynamic_symbols, named_symbols, numbers_passing, symbol_name}
use Rattle.elf_symbol_edits.specs.SymbolEdit.{DeleteAllSymbols, DeleteDynamicSymbols, DeleteSymbols, edited, without_dynamic_symbols, without_symbols}

module _ {A : Type 0} (test : A → Bool) where
  -- the numbers rise from a bound on
  Rises : ℕ → List (ℕ × A) → Type 0
  Rises low [] = Unit {0}
  Rises low (z ∷ zs) = (low ≤ z.0) × Rises (z.0 + 1) zs

  abbrev passes : ℕ × A → Bool
  passes z = not (z.0 == 0) && test z.1

  abbrev gone_of : List (ℕ × A) → List ℕ
  gone_of zs = map (λ z. z.0) (filter passes zs)

  below : (low n : ℕ) (zs : List (ℕ × A)) → Rises low zs → n < low → is_one_of (gone_of zs) n ≡ false
  unfolding Rises
  below low n [] rises less = refl
  below low n (z ∷ zs) rises less = by_test (passes z) (below (z.0 + 1) n zs rises.1 (omega (arith, rises.0, less)))
    where
      by_test : (b : Bool) → is_one_of (gone_of zs) n ≡ false → is_one_of (map (λ w. w.0) (cond b (z ∷ filter passes zs) (filter passes zs))) n ≡ false
      by_test true rest = ap (λ c. c || is_one_of (gone_of zs) n) (ne_eqb z.0 n (λ e. omega (arith, e, rises.0, less))) ∙ rest
      by_test false rest = rest

  -- of elements beside numbers that rise, those are left that don't pass
  kept : (low : ℕ) (zs : List (ℕ × A)) (gone : List ℕ) → Rises low zs → ((n : ℕ) → low ≤ n → is_one_of gone n ≡ is_one_of (gone_of zs) n)
      → items_where_true (map (λ z. is_left gone z.0) zs) (map (λ z. z.1) zs) ≡ map (λ z. z.1) (filter (λ z. not (passes z)) zs)
  unfolding Rises
  kept low [] gone rises same = refl
  kept low (z ∷ zs) gone rises same = by_test (passes z) (λ n le. same n le) (λ alike. kept (z.0 + 1) zs gone rises.1 alike)
    where
      first : (b : Bool) → is_left gone z.0 ≡ b → items_where_true (is_left gone z.0 ∷ map (λ w. is_left gone w.0) zs) (z.1 ∷ map (λ w. w.1) zs)
          ≡ items_where_true (b ∷ map (λ w. is_left gone w.0) zs) (z.1 ∷ map (λ w. w.1) zs)
      first b is = ap (λ c. items_where_true (c ∷ map (λ w. is_left gone w.0) zs) (z.1 ∷ map (λ w. w.1) zs)) is

      by_test : (b : Bool) → ((n : ℕ) → low ≤ n → is_one_of gone n ≡ is_one_of (map (λ w. w.0) (cond b (z ∷ filter passes zs) (filter passes zs))) n)
          → (((n : ℕ) → z.0 + 1 ≤ n → is_one_of gone n ≡ is_one_of (gone_of zs) n)
          → items_where_true (map (λ w. is_left gone w.0) zs) (map (λ w. w.1) zs) ≡ map (λ w. w.1) (filter (λ w. not (passes w)) zs))
          → items_where_true (is_left gone z.0 ∷ map (λ w. is_left gone w.0) zs) (z.1 ∷ map (λ w. w.1) zs)
          ≡ map (λ w. w.1) (cond (not b) (z ∷ filter (λ w. not (passes w)) zs) (filter (λ w. not (passes w)) zs))
      by_test true alike more =
          first false (ap not (alike z.0 rises.0 ∙ ap (λ c. c || is_one_of (gone_of zs) z.0) (eq-eqb z.0 z.0 refl)))
          ∙ more (λ n le. alike n (omega (arith, rises.0, le)) ∙ ap (λ c. c || is_one_of (gone_of zs) n) (ne_eqb z.0 n (λ e. omega (arith, e, le))))
      by_test false alike more =
          first true (ap not (alike z.0 rises.0 ∙ below (z.0 + 1) z.0 zs rises.1 (omega arith)))
          ∙ ap (λ l. z.1 ∷ l) (more (λ n le. alike n (omega (arith, rises.0, le))))

  rises_from : (low : ℕ) (ns : List ℕ) (xs : List A) → ((i j : ℕ) → i < j → j < length ns → slice_index ns i < slice_index ns j) → (0 < length ns → low ≤ slice_index ns 0) → Rises low (zip ns xs)
  unfolding Rises
  rises_from low [] xs rising start = tt
  rises_from low (n ∷ ns) [] rising start = tt
  rises_from low (n ∷ ns) (x ∷ xs) rising start = (
    start (omega arith),
    rises_from (n + 1) ns xs (λ i j less within. rising (suc i) (suc j) (omega (arith, less)) (omega (arith, within))) (λ some. let more = rising 0 1 (omega arith) (omega (arith, some)) in omega (arith, more)),
  )

  firsts : (f : ℕ → Bool) (ns : List ℕ) (xs : List A) → length ns ≡ length xs → map (λ z. f z.0) (zip ns xs) ≡ map f ns
  firsts f [] xs long = refl
  firsts f (n ∷ ns) [] long = absurd (omega (arith, long))
  firsts f (n ∷ ns) (x ∷ xs) long = ap (λ l. f n ∷ l) (firsts f ns xs (omega (arith, long)))

  seconds : (ns : List ℕ) (xs : List A) → length ns ≡ length xs → map (λ z. z.1) (zip ns xs) ≡ xs
  seconds [] [] long = refl
  seconds [] (x ∷ xs) long = absurd (omega (arith, long))
  seconds (n ∷ ns) [] long = absurd (omega (arith, long))
  seconds (n ∷ ns) (x ∷ xs) long = ap (λ l. x ∷ l) (seconds ns xs (omega (arith, long)))

  -- none of the elements has number 0
  others : (low : ℕ) (zs : List (ℕ × A)) → Rises low zs → 0 < low → map (λ z. z.1) (filter (λ z. not (passes z)) zs) ≡ filter (λ x. not (test x)) (map (λ z. z.1) zs)
  unfolding Rises
  others low [] rises some = refl
  others low (z ∷ zs) rises some =
      ap (λ b. map (λ w. w.1) (cond (not (not b && test z.1)) (z ∷ filter (λ w. not (passes w)) zs) (filter (λ w. not (passes w)) zs))) (ne_eqb z.0 0 (λ e. omega (arith, e, rises.0, some)))
      ∙ by_test (test z.1) (others (z.0 + 1) zs rises.1 (omega arith))
    where
      by_test : (b : Bool) → map (λ w. w.1) (filter (λ w. not (passes w)) zs) ≡ filter (λ x. not (test x)) (map (λ w. w.1) zs) → map (λ w. w.1) (cond (not b) (z ∷ filter (λ w. not (passes w)) zs) (filter (λ w. not (passes w)) zs))
          ≡ cond (not b) (z.1 ∷ filter (λ x. not (test x)) (map (λ w. w.1) zs)) (filter (λ x. not (test x)) (map (λ w. w.1) zs))
      by_test true rest = rest
      by_test false rest = ap (λ l. z.1 ∷ l) rest

  behind_all : (ns : List ℕ) (xs : List A) → length ns ≡ length xs → ((i j : ℕ) → i < j → j < length ns → slice_index ns i < slice_index ns j) → (0 < length xs → slice_get ns 0 ≡ Some 0)
      → map (λ z. z.1) (filter (λ z. not (passes z)) (zip ns xs)) ≡ kept_behind_first (λ x. not (test x)) xs
  behind_all [] [] long rising first = refl
  behind_all [] (x ∷ xs) long rising first = absurd (omega (arith, long))
  behind_all (n ∷ ns) [] long rising first = absurd (omega (arith, long))
  behind_all (n ∷ ns) (x ∷ xs) long rising first =
      let none : n ≡ 0 = same_Some n 0 (first (omega arith)) in
      let rises : Rises 1 (zip ns xs) =
      rises_from 1 ns xs (λ i j less within. rising (suc i) (suc j) (omega (arith, less)) (omega (arith, within))) (λ some. let more = rising 0 1 (omega arith) (omega (arith, some)) in omega (arith, more)) in
      ap (λ b. map (λ w. w.1) (cond (not (not b && test x)) ((n, x) ∷ filter (λ w. not (passes w)) (zip ns xs)) (filter (λ w. not (passes w)) (zip ns xs)))) (eq-eqb n 0 none)
      ∙ ap (λ l. x ∷ l) (others 1 (zip ns xs) rises (omega arith) ∙ ap (filter (λ y. not (test y))) (seconds ns xs (omega (arith, long))))

  -- where exactly those go that pass, but the first
  pub left_by_test : (ns : List ℕ) (xs : List A) → length ns ≡ length xs → ((i j : ℕ) → i < j → j < length ns → slice_index ns i < slice_index ns j) → (0 < length xs → slice_get ns 0 ≡ Some 0)
      → parts_left (numbers_passing test ns xs) ns xs ≡ kept_behind_first (λ x. not (test x)) xs
  left_by_test ns xs long rising first =
      ap (λ (l : List Bool). items_where_true l xs) (sym (firsts (is_left (numbers_passing test ns xs)) ns xs long))
      ∙ ap (λ (l : List A). items_where_true (map (λ z. is_left (numbers_passing test ns xs) z.0) (zip ns xs)) l) (sym (seconds ns xs long))
      ∙ kept 0 (zip ns xs) (numbers_passing test ns xs) (rises_from 0 ns xs rising (λ some. omega arith)) (λ n le. refl)
      ∙ behind_all ns xs long rising first

-- where no number goes all elements are left
pub none_left_out : {A : Type 0} (ns : List ℕ) (xs : List A) → length ns ≡ length xs → parts_left [] ns xs ≡ xs
none_left_out [] [] long = refl
none_left_out [] (x ∷ xs) long = absurd (omega (arith, long))
none_left_out (n ∷ ns) [] long = absurd (omega (arith, long))
none_left_out (n ∷ ns) (x ∷ xs) long = ap (λ l. x ∷ l) (none_left_out ns xs (omega (arith, long)))

module _ (names : List (List ℕ)) (image : Image) (h : IsEdited image) where
  static_there : (gone : List ℕ) → (if has_some gone then without_symbols gone image else image).symbols ≡ parts_left gone image.symbol_numbers image.symbols
  static_there [] = sym (none_left_out image.symbol_numbers image.symbols h.is_edit.symbols.numbered)
  static_there (n ∷ ns) = refl

  static_left_by_name : parts_left (named_symbols names image) image.symbol_numbers image.symbols ≡ without_named names image.symbols
  static_left_by_name = left_by_test (λ y. is_among names (symbol_name y)) image.symbol_numbers image.symbols h.is_edit.symbols.numbered h.is_edit.symbols.rising (static_first image h)

  static_by_name : (edited (DeleteSymbols names) image).symbols ≡ without_named names image.symbols
  static_by_name = static_there (named_symbols names image) ∙ static_left_by_name

  dynamic_there : (gone : List ℕ) → (if has_some gone then without_dynamic_symbols gone image else image).dynamic_symbols ≡ parts_left gone image.dynamic_symbol_numbers image.dynamic_symbols
  dynamic_there [] = sym (none_left_out image.dynamic_symbol_numbers image.dynamic_symbols h.is_edit.dynamic_symbols.numbered)
  dynamic_there (n ∷ ns) = refl

  pub dynamic_left_by_name : parts_left (named_dynamic_symbols names image) image.dynamic_symbol_numbers image.dynamic_symbols ≡ without_named names image.dynamic_symbols
  dynamic_left_by_name = left_by_test (λ y. is_among names (symbol_name y)) image.dynamic_symbol_numbers image.dynamic_symbols h.is_edit.dynamic_symbols.numbered h.is_edit.dynamic_symbols.rising (dynamic_first image h)

  dynamic_by_name : (edited (DeleteDynamicSymbols names) image).dynamic_symbols ≡ without_named names image.dynamic_symbols
  dynamic_by_name = dynamic_there (named_dynamic_symbols names image) ∙ dynamic_left_by_name

  -- both lists of symbols, of which perhaps only one has a symbol that goes
  abbrev all_there : List ℕ → List ℕ → Image
  all_there gone dynamic_gone = if has_some gone || has_some dynamic_gone then without_dynamic_symbols dynamic_gone (without_symbols gone image) else image

  all_static_there : (gone dynamic_gone : List ℕ) → (all_there gone dynamic_gone).symbols ≡ parts_left gone image.symbol_numbers image.symbols
  all_static_there [] [] = sym (none_left_out image.symbol_numbers image.symbols h.is_edit.symbols.numbered)
  all_static_there [] (m ∷ ms) = refl
  all_static_there (n ∷ ns) ms = refl

  all_dynamic_there : (gone dynamic_gone : List ℕ) → (all_there gone dynamic_gone).dynamic_symbols ≡ parts_left dynamic_gone image.dynamic_symbol_numbers image.dynamic_symbols
  all_dynamic_there [] [] = sym (none_left_out image.dynamic_symbol_numbers image.dynamic_symbols h.is_edit.dynamic_symbols.numbered)
  all_dynamic_there [] (m ∷ ms) = refl
  all_dynamic_there (n ∷ ns) ms = refl

  all_by_name : ((edited (DeleteAllSymbols names) image).symbols ≡ without_named names image.symbols) × ((edited (DeleteAllSymbols names) image).dynamic_symbols ≡ without_named names image.dynamic_symbols)
  all_by_name = (
    all_static_there (named_symbols names image) (named_dynamic_symbols names image) ∙ static_left_by_name,
    all_dynamic_there (named_symbols names image) (named_dynamic_symbols names image) ∙ dynamic_left_by_name,
  )

pub symbols_go_by_name : SymbolsGoByName
symbols_go_by_name = record {
  symbols = λ names image h. static_by_name names image h;
  dynamic_symbols = λ names image h. dynamic_by_name names image h;
  all = λ names image h. all_by_name names image h;
}

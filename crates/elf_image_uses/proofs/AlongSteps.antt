-- What goes along with sections, step by step.
use Rattle.std.proofs.Common.{◌≡◌, ℕ, ◌+◌, ◌-◌, ◌<◌, ◌≤◌, List, [], ◌∷◌, ◌++◌, Bool, true, false, Option, Some, None, cond, length, drop, get_or, map, min, refl, sym, ap, ◌∙◌, inl, inr, arith}
use Rattle.std.specs.Prelude.{◌&&◌, ◌||◌, filter, if◌then◌else◌, nat_le, nat_lt, slice_index}
use Rattle.std.specs.List.{list_any, slice_get, zip}
use Rattle.std.specs.List.Sorted.{IsNonDecreasing, IsNonDecreasingBy, IsPartitionPoint, IsPermutation}
use Rattle.std.specs.Option.{option_map}
use Rattle.std.proofs.lemmas.Bool.{cases_lt, le-leb, le-ltb, lt-leb, lt-ltb, ltb-false, ltb-true}
use Rattle.std.proofs.lemmas.List.{append-nil, append_assoc, drop_all, get_or-map, get_or_default, length-map}
use Rattle.std.proofs.lemmas.List.Elements.{All-from_get_or}
use Rattle.std.proofs.lemmas.List.Folds.{list_any_at, list_any_none}
use Rattle.std.proofs.lemmas.List.Kept.{IsNonDecreasingBy-filter}
use Rattle.std.proofs.lemmas.List.Sorted.{list_any-IsPermutation}
use Rattle.std.proofs.lemmas.Option.{get_or_from_slice_get, none-some, same_Some, slice_get-get_or, slice_get_within}
use Rattle.std.proofs.lemmas.Slice.Zip.{get_or-zip, length-zip}
use Rattle.elf_format.specs.declared.records.SegmentHeader.{SegmentHeader}
use Rattle.elf_format.specs.declared.records.SymbolNumbers.{SymbolNumbers}
use Rattle.elf_format.specs.Image.{Image}
use Rattle.elf_format.specs.Options.{is_one_of, is_some_and}
use Rattle.elf_format.specs.Views.{NamedSymbol}
use Rattle.elf_image.specs.Edited.{IsEdited}
use Rattle.elf_image.specs.Kept.{KeptSection, interpreter_number, kept_sections}
use Rattle.elf_image.specs.TableSymbols.{symbol_with}
use Rattle.elf_image_uses.specs.Along.{begins_in, is_deserted, is_in_memory, is_within}
use Rattle.elf_image_uses.specs.Staying.{goes, going, staying, stays}
use Rattle.elf_image_uses.specs.Steps.{begins_of, deserted_by, is_begin}
use Rattle.elf_image_uses.proofs.ListSteps.{drop_here}

-- ## A list that is made of what a filter keeps

module _ {X Y : Type 0} (f : X → Y) (p : X → Bool) where
  -- what is kept of a list from a place on
  abbrev pub kept_from : List X → ℕ → List Y
  kept_from xs i = map f (filter p (drop i xs))

  head_kept : (b : Bool) (x : X) (ys : List X) → map f (cond b (x ∷ ys) ys) ≡ (if b then f x ∷ map f ys else map f ys)
  head_kept true x ys = refl
  head_kept false x ys = refl

  kept_here : (xs : List X) (i : ℕ) (x : X) (answer : Bool) → slice_get xs i ≡ Some x → answer ≡ p x
      → kept_from xs i ≡ (if answer then f x ∷ kept_from xs (i + 1) else kept_from xs (i + 1))
  kept_here xs i x answer at is =
      ap (λ ys. map f (filter p ys)) (drop_here xs i x at) ∙ head_kept (p x) x (filter p (drop (i + 1) xs))
      ∙ ap (λ (b : Bool). if b then f x ∷ kept_from xs (i + 1) else kept_from xs (i + 1)) (sym is)

  pub keeps_one : (made now whole : List Y) (xs : List X) (i : ℕ) (x : X) (answer : Bool) → slice_get xs i ≡ Some x → answer ≡ p x → answer ≡ true
      → now ≡ made ++ f x ∷ [] → made ++ kept_from xs i ≡ whole → now ++ kept_from xs (i + 1) ≡ whole
  keeps_one made now whole xs i x answer at is holds more so_far =
      ap (λ ys. ys ++ kept_from xs (i + 1)) more ∙ append_assoc made (f x ∷ []) (kept_from xs (i + 1))
      ∙ sym (ap (λ (b : Bool). made ++ (if b then f x ∷ kept_from xs (i + 1) else kept_from xs (i + 1))) holds)
      ∙ sym (ap (λ ys. made ++ ys) (kept_here xs i x answer at is)) ∙ so_far

  pub keeps_none : (made now whole : List Y) (xs : List X) (i : ℕ) (x : X) (answer : Bool) → slice_get xs i ≡ Some x → answer ≡ p x → answer ≡ false
      → now ≡ made → made ++ kept_from xs i ≡ whole → now ++ kept_from xs (i + 1) ≡ whole
  keeps_none made now whole xs i x answer at is fails same so_far =
      ap (λ ys. ys ++ kept_from xs (i + 1)) same
      ∙ sym (ap (λ (b : Bool). made ++ (if b then f x ∷ kept_from xs (i + 1) else kept_from xs (i + 1))) fails)
      ∙ sym (ap (λ ys. made ++ ys) (kept_here xs i x answer at is)) ∙ so_far

  pub keeps_all : (made whole : List Y) (xs : List X) (i : ℕ) → length xs ≤ i → made ++ kept_from xs i ≡ whole → made ≡ whole
  keeps_all made whole xs i past so_far = sym (append-nil made) ∙ sym (ap (λ ys. made ++ map f (filter p ys)) (drop_all i xs past)) ∙ so_far

-- ## Numbers that rise, each beside something

module _ {A : Type 0} (ns : List ℕ) (own : List A) (long : length ns ≡ length own) (rising : (i j : ℕ) → i < j → j < length ns → slice_index ns i < slice_index ns j) where
  firsts_rise : (xs : List (ℕ × A)) (d : A) → IsNonDecreasingBy (λ x. x.0) xs → IsNonDecreasing (map (λ x. x.0) xs)
  firsts_rise xs other rise i j d le within =
      let inside : j < length xs = omega (arith, length-map xs (λ (x : ℕ × A). x.0)) in
      omega (arith, rise i j (0, other) le inside, get_or-map (λ (x : ℕ × A). x.0) xs i (0, other) d (omega arith), get_or-map (λ (x : ℕ × A). x.0) xs j (0, other) d inside)

  pairs_rise : IsNonDecreasingBy (λ x. x.0) (zip ns own)
  pairs_rise i j d le within =
      let least : min (length ns) (length own) ≡ length own = omega (arith, long) in
      let inside : j < length own = omega (arith, length-zip ns own, least) in
      let at_i : (get_or (zip ns own) i d).0 ≡ get_or ns i d.0 = ap (λ (x : ℕ × A). x.0) (get_or-zip ns own i d (omega (arith, long)) (omega arith)) in
      let at_j : (get_or (zip ns own) j d).0 ≡ get_or ns j d.0 = ap (λ (x : ℕ × A). x.0) (get_or-zip ns own j d (omega (arith, long)) inside) in
      let here_i : get_or ns i d.0 ≡ slice_index ns i = get_or_default ns i d.0 0 (omega (arith, long)) in
      let here_j : get_or ns j d.0 ≡ slice_index ns j = get_or_default ns j d.0 0 (omega (arith, long)) in
      elim (cases_lt i j) [
        | inl less ↦ omega (arith, rising i j less (omega (arith, long)))
        | inr same ↦ (let e : i ≡ j = omega arith in omega (arith, ap (λ k. slice_index ns k) e))
      ]

  -- the numbers of those that a filter keeps rise
  pub kept_firsts_rise : (p : ℕ × A → Bool) → IsNonDecreasing (map (λ x. x.0) (filter p (zip ns own)))
  kept_firsts_rise p = by_list (filter p (zip ns own)) (IsNonDecreasingBy-filter (λ x. x.0) p (zip ns own) pairs_rise)
    where
      by_list : (xs : List (ℕ × A)) → IsNonDecreasingBy (λ x. x.0) xs → IsNonDecreasing (map (λ x. x.0) xs)
      by_list [] rise = λ i j d le within. absurd (omega (arith, within))
      by_list (x ∷ xs) rise = firsts_rise (x ∷ xs) x.1 rise

-- ## Symbols

-- the symbol whose numbers are told, and its section
pub told_symbol : (ys : List NamedSymbol) (i place : ℕ) (r : SymbolNumbers) → option_map (symbol_with place) (slice_get ys i) ≡ Some r
    → (y : NamedSymbol) × (slice_get ys i ≡ Some y) × (r.st_shndx ≡ y.st_shndx)
told_symbol ys i place r = by_option (slice_get ys i)
  where
    by_option : (o : Option NamedSymbol) → option_map (symbol_with place) o ≡ Some r → (y : NamedSymbol) × (o ≡ Some y) × (r.st_shndx ≡ y.st_shndx)
    by_option None e = absurd (none-some r e)
    by_option (Some y) e = (y, refl, sym (ap (λ (z : SymbolNumbers). z.st_shndx) (same_Some (symbol_with place y) r e)))

module _ (image : Image) (edited : IsEdited image) where
  as_many_symbols : length image.symbol_numbers ≡ length image.symbols
  as_many_symbols = edited.is_edit.symbols.numbered

  pub numbered_long : length (zip image.symbol_numbers image.symbols) ≡ length image.symbols
  numbered_long =
      let least : min (length image.symbol_numbers) (length image.symbols) ≡ length image.symbols = omega (arith, as_many_symbols) in
      length-zip image.symbol_numbers image.symbols ∙ least

  -- a symbol beside its number
  pub numbered_there : (i : ℕ) (y : NamedSymbol) → slice_get image.symbols i ≡ Some y
      → slice_get (zip image.symbol_numbers image.symbols) i ≡ Some (slice_index image.symbol_numbers i, y)
  numbered_there i y at =
      let within : i < length image.symbols = slice_get_within image.symbols i y at in
      slice_get-get_or (zip image.symbol_numbers image.symbols) i (0, y) (omega (arith, numbered_long))
      ∙ ap Some (get_or-zip image.symbol_numbers image.symbols i (0, y) (omega (arith, as_many_symbols)) within
      ∙ ap (λ (z : NamedSymbol). (slice_index image.symbol_numbers i, z)) (get_or_from_slice_get image.symbols i y y at))

  -- the numbers of those that a filter keeps rise
  pub kept_numbers_rise : (p : ℕ × NamedSymbol → Bool) → IsNonDecreasing (map (λ x. x.0) (filter p (zip image.symbol_numbers image.symbols)))
  kept_numbers_rise p = kept_firsts_rise image.symbol_numbers image.symbols as_many_symbols edited.is_edit.symbols.rising p

-- ## Program headers

never : (b : Bool) → (b && false) ≡ false
never true = refl
never false = refl

-- one of some addresses lies in a program header's memory, where as many addresses come before it
module _ (p : SegmentHeader) (xs : List ℕ) (rise : IsNonDecreasing xs) (before : ℕ) (bound : before ≤ length xs)
    (point : IsPartitionPoint (λ x. nat_lt x p.p_vaddr ≡ true) (λ x. nat_lt x p.p_vaddr ≡ false) xs before) where
  not_before : (k : ℕ) → k < before → is_within p (get_or xs k 0) ≡ false
  not_before k less =
      ap (λ b. b && nat_lt (get_or xs k 0) (p.p_vaddr + p.p_memsz)) (lt-leb p.p_vaddr (get_or xs k 0) (ltb-true (get_or xs k 0) p.p_vaddr (point.0 k 0 (omega arith) less)))

  pub none_within : length xs ≤ before → false ≡ list_any (is_within p) xs
  none_within past = sym (list_any_none (is_within p) xs (All-from_get_or (λ x. is_within p x ≡ false) xs 0 (λ k within. not_before k (omega arith))))

  pub first_within : before < length xs → p.p_vaddr ≤ get_or xs before 0
  first_within some = ltb-false (get_or xs before 0) p.p_vaddr (point.1 before 0 (omega arith) some)

  past_end : before < length xs → p.p_vaddr + p.p_memsz ≤ get_or xs before 0 → (k : ℕ) → k < length xs → is_within p (get_or xs k 0) ≡ false
  past_end some high k within = elim (cases_lt k before) [
    | inl less ↦ not_before k less
    | inr behind ↦
        (let up : get_or xs before 0 ≤ get_or xs k 0 = rise before k 0 behind within in
        ap (λ b. nat_le p.p_vaddr (get_or xs k 0) && b) (le-ltb (get_or xs k 0) (p.p_vaddr + p.p_memsz) (omega arith)) ∙ never (nat_le p.p_vaddr (get_or xs k 0)))
  ]

  pub by_first : before < length xs → nat_lt (get_or xs before 0 - p.p_vaddr) p.p_memsz ≡ list_any (is_within p) xs
  by_first some =
      let low : p.p_vaddr ≤ get_or xs before 0 = first_within some in
      elim (cases_lt (get_or xs before 0 - p.p_vaddr) p.p_memsz) [
        | inl less ↦
            lt-ltb (get_or xs before 0 - p.p_vaddr) p.p_memsz less
            ∙ sym (list_any_at (is_within p) xs before 0 some
            (ap (λ b. b && nat_lt (get_or xs before 0) (p.p_vaddr + p.p_memsz)) (le-leb p.p_vaddr (get_or xs before 0) low)
            ∙ lt-ltb (get_or xs before 0) (p.p_vaddr + p.p_memsz) (omega arith)))
        | inr high ↦
            le-ltb (get_or xs before 0 - p.p_vaddr) p.p_memsz high
            ∙ sym (list_any_none (is_within p) xs (All-from_get_or (λ x. is_within p x ≡ false) xs 0 (past_end some (omega arith))))
      ]

-- sections that begin in a program header's memory, by where they begin
module _ (p : SegmentHeader) (go : Bool) (gone : List ℕ) where
  abbrev meant : KeptSection → Bool
  meant s = if go then goes gone s else stays gone s

  one_begin : (a m : Bool) (s : KeptSection) (l : List KeptSection) (r : List ℕ) → is_in_memory s.section ≡ m
      → list_any (λ t. begins_in p t.section) l ≡ list_any (is_within p) r
      → list_any (λ t. begins_in p t.section) (cond a (s ∷ l) l) ≡ list_any (is_within p) (cond (a && m) (s.section.sh_addr ∷ r) r)
  one_begin true true s l r is same = ap (λ b. (b && is_within p s.section.sh_addr) || list_any (λ t. begins_in p t.section) l) is ∙ ap (λ b. is_within p s.section.sh_addr || b) same
  one_begin true false s l r is same = ap (λ b. (b && is_within p s.section.sh_addr) || list_any (λ t. begins_in p t.section) l) is ∙ same
  one_begin false m s l r is same = same

  map_cond : (b : Bool) (s : KeptSection) (l : List KeptSection) → map (λ t. t.section.sh_addr) (cond b (s ∷ l) l) ≡ cond b (s.section.sh_addr ∷ map (λ t. t.section.sh_addr) l) (map (λ t. t.section.sh_addr) l)
  map_cond true s l = refl
  map_cond false s l = refl

  by_begins : (ss : List KeptSection) → list_any (λ t. begins_in p t.section) (filter meant ss) ≡ list_any (is_within p) (map (λ t. t.section.sh_addr) (filter (is_begin go gone) ss))
  by_begins [] = refl
  by_begins (s ∷ ss) =
      one_begin (meant s) (is_in_memory s.section) s (filter meant ss) (map (λ t. t.section.sh_addr) (filter (is_begin go gone) ss)) refl (by_begins ss)
      ∙ sym (ap (list_any (is_within p)) (map_cond (is_begin go gone s) s (filter (is_begin go gone) ss)))

-- a program header is deserted, by where sections begin
pub deserted_same : (image : Image) (gone going_at staying_at : List ℕ) (interpreter : Bool) → IsPermutation (begins_of true gone image) going_at → IsPermutation (begins_of false gone image) staying_at
    → interpreter ≡ is_some_and (is_one_of gone) (interpreter_number image) → (p : SegmentHeader) → deserted_by going_at staying_at interpreter p ≡ is_deserted image gone p
deserted_same image gone going_at staying_at interpreter go stay with p =
    let begins_go : list_any (is_within p) going_at ≡ list_any (λ s. begins_in p s.section) (going gone image) =
    sym (list_any-IsPermutation (is_within p) (begins_of true gone image) going_at go) ∙ sym (by_begins p true gone (kept_sections image)) in
    let begins_stay : list_any (is_within p) staying_at ≡ list_any (λ s. begins_in p s.section) (staying gone image) =
    sym (list_any-IsPermutation (is_within p) (begins_of false gone image) staying_at stay) ∙ sym (by_begins p false gone (kept_sections image)) in
    rw (begins_go, begins_stay, with) refl

pub map_same : {X Y Z : Type 0} (v : X → Y) (f g : Y → Z) → ((y : Y) → f y ≡ g y) → (xs : List X) → map (λ x. f (v x)) xs ≡ map g (map v xs)
map_same v f g same [] = refl
map_same v f g same (x ∷ xs) = ap (λ z. z ∷ map (λ y. f (v y)) xs) (same (v x)) ∙ ap (λ zs. g (v x) ∷ zs) (map_same v f g same xs)

-- what a filter leaves of a list that is seen element by element
pub filter_seen : {X Y : Type 0} (v : X → Y) (f : X → Bool) (g : Y → Bool) → ((x : X) → f x ≡ g (v x)) → (xs : List X) → map v (filter f xs) ≡ filter g (map v xs)
filter_seen v f g same [] = refl
filter_seen {X} v f g same (x ∷ xs) =
    by_test (f x) (filter_seen v f g same xs) ∙ ap (λ (b : Bool). cond b (v x ∷ filter g (map v xs)) (filter g (map v xs))) (same x)
  where
    by_test : (b : Bool) → map v (filter f xs) ≡ filter g (map v xs) → map v (cond b (x ∷ filter f xs) (filter f xs)) ≡ cond b (v x ∷ filter g (map v xs)) (filter g (map v xs))
    by_test true rest = ap (λ l. v x ∷ l) rest
    by_test false rest = rest

pub filter_same_test : {X : Type 0} (f g : X → Bool) → ((x : X) → f x ≡ g x) → (xs : List X) → filter f xs ≡ filter g xs
filter_same_test f g same [] = refl
filter_same_test f g same (x ∷ xs) =
    ap (λ (b : Bool). cond b (x ∷ filter f xs) (filter f xs)) (same x) ∙ ap (λ l. cond (g x) (x ∷ l) l) (filter_same_test f g same xs)

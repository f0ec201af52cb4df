-- A change of each symbol: what is left at each, and that nothing is made of symbols.
use Rattle.std.proofs.Common.{◌≡◌, ◌≢◌, ℕ, ◌+◌, ◌<◌, ◌≤◌, true, false, List, [], ◌∷◌, ◌++◌, length, map, get_or, refl, sym, ap, ◌∙◌, subst, inl, inr, Option, Some, None, arith}
use Rattle.std.specs.Prelude.{◌==◌, unwrap_or}
use Rattle.std.specs.List.{All}
use Rattle.std.proofs.lemmas.Bool.{cases_lt, cond-false, ne_eqb}
use Rattle.std.proofs.lemmas.List.{get_or-map, length-map, map-append}
use Rattle.std.proofs.lemmas.List.Elements.{All-cons, All-nil}
use Rattle.elf_format.specs.Image.{counted}
use Rattle.elf_format.specs.Views.{NamedSymbol}
use Rattle.elf_image_symbols.proofs.ForCallers.Lengths.{length-counted, slice_index-counted}
use Rattle.elf_image_symbols.specs.declared.change.Change.{Change}
use Rattle.elf_image_symbols.specs.declared.edited_symbols.EditedSymbols.TheInside.{Inside}
use Rattle.elf_image_symbols.specs.Changes.{AreChanges, HasName, change_at, change_of, changed, changed_by, idle_change, number_of, read_at, starts_at, symbol_now}
use Rattle.elf_image_symbols.specs.EditedList.{EditedList}
use Rattle.elf_image_symbols.specs.EditedModel.{AreInOrder, edited_list, numbers_of}
use Rattle.elf_image_symbols.specs.Rising.{AreRising, numbers_there}
use Rattle.elf_image_symbols.proofs.ChangeLaws.{change_of-none, change_of-place, change_of-some, changes_below}
use Rattle.elf_image_symbols.proofs.RisingLaws.{counted-more, rising_counted}
use Rattle.elf_image_symbols.proofs.SymbolLaws.{makes-nothing, now-none, now-some}
use Rattle.elf_image_symbols.proofs.EditedLaws.{list_of}

-- ## The first of those that are left

pub none_first : (n : ℕ) (cs : List Change) → length cs ≡ 0 → false ≡ starts_at n cs
none_first n [] none = refl
none_first n (c ∷ cs) none = absurd (omega (arith, none))

pub first_is : (n : ℕ) (cs : List Change) (c : Change) → length cs ≢ 0 → c ≡ get_or cs 0 c → (c.number == n) ≡ starts_at n cs
first_is n [] c some is = absurd (some refl)
first_is n (b ∷ cs) c some is = ap (λ (a : Change). a.number == n) is

pub some_first : (n : ℕ) (cs : List Change) → starts_at n cs ≡ true → 0 < length cs
some_first n [] starts = absurd (cc)
some_first n (c ∷ cs) starts = omega arith

-- a change with a number below a bound isn't among those from there on
none_below : (low high n : ℕ) (cs : List Change) → AreRising low high (map number_of cs) → n < low → change_of cs n ≡ None
none_below low high n [] rising below = refl
none_below low high n (c ∷ cs) rising below =
    cond-false (c.number == n) (Some c) (change_of cs n) (ne_eqb c.number n (λ (e : c.number ≡ n). omega (arith, rising.0, below, e)))
    ∙ none_below (c.number + 1) high n cs rising.2 (omega (arith, rising.0, below))

pub change_at-idle : (read : List NamedSymbol) (n high : ℕ) (cs : List Change) → AreRising n high (map number_of cs) → starts_at n cs ≡ false → idle_change read n ≡ change_at read cs n
change_at-idle read n high [] rising other = refl
change_at-idle read n high (c ∷ cs) rising other =
    ap (λ (o : Option Change). unwrap_or o (idle_change read n))
    (sym (cond-false (c.number == n) (Some c) (change_of cs n) other ∙ none_below (c.number + 1) high n cs rising.2 (omega (arith, rising.0))))

-- ## Those behind a symbol

-- what is told of a symbol by those that are left
pub change_at-same : (read : List NamedSymbol) (cs ds : List Change) (n : ℕ) → change_of ds n ≡ change_of cs n → change_at read ds n ≡ change_at read cs n
change_at-same read cs ds n same = ap (λ (o : Option Change). unwrap_or o (idle_change read n)) same

-- one symbol more
pub map-counted-more : {X : Type 0} (f : ℕ → X) (n : ℕ) → map f (counted (n + 1)) ≡ map f (counted n) ++ f n ∷ []
map-counted-more f n = ap (map f) (counted-more n) ∙ map-append f (counted n) (n ∷ [])

-- ## What is made of symbols

module _ (read : List NamedSymbol) (cs : List Change) (are : AreChanges read cs) where
  -- the changes of all
  abbrev all_told : List Change
  all_told = map (change_at read cs) (counted (length read))

  number_told : (m : ℕ) → number_of (change_at read cs m) ≡ m
  number_told m = by_change (change_of cs m) refl
    where
      by_change : (o : Option Change) → change_of cs m ≡ o → number_of (unwrap_or o (idle_change read m)) ≡ m
      by_change None is = refl
      by_change (Some c) is = (change_of-some (HasName read) cs m c are.named is).1

  told_at : (j : ℕ) (d : Change) → j < length read → get_or all_told j d ≡ change_at read cs j
  told_at j d less =
      get_or-map (change_at read cs) (counted (length read)) j 0 d (omega (arith, less, length-counted (length read)))
      ∙ ap (change_at read cs) (slice_index-counted (length read) j less)

  length_told : length all_told ≡ length read
  length_told = length-map (counted (length read)) (change_at read cs) ∙ length-counted (length read)

  told_number_at : (j : ℕ) (d : Change) → j < length read → number_of (get_or all_told j d) ≡ j
  told_number_at j d less = ap number_of (told_at j d less) ∙ number_told j

  change_of-told : (m : ℕ) → m < length read → change_of all_told m ≡ Some (change_at read cs m)
  change_of-told m less =
      let d : Change = idle_change read m in
      change_of-place all_told m m d (omega (arith, less, length_told))
      (λ j e before. omega (arith, told_number_at j e (omega (arith, before, less)), before)) (λ e. told_number_at m e less)
      ∙ ap (λ (c : Change). Some c) (told_at m d less)

  -- what is told of a symbol makes of it what was made
  makes_same : (m : ℕ) → changed_by (change_at read cs m) (read_at read m) ≡ symbol_now read cs m
  unfolding symbol_now
  makes_same m = by_change (change_of cs m)
    where
      by_change : (o : Option Change) → changed_by (unwrap_or o (idle_change read m)) (read_at read m) ≡ changed o (read_at read m)
      by_change None = makes-nothing (idle_change read m) (read_at read m) refl refl
      by_change (Some c) = refl

  none_past : (m : ℕ) → length read ≤ m → change_of cs m ≡ None
  none_past m past = by_change (change_of cs m) refl
    where
      by_change : (o : Option Change) → change_of cs m ≡ o → o ≡ None
      by_change None is = refl
      by_change (Some c) is =
          let (below, at) = change_of-some (λ (b : Change). number_of b < length read) cs m c (changes_below (length read) cs are.rising) is in
          absurd (omega (arith, below, at, past))

  pub now_told : (m : ℕ) → symbol_now read all_told m ≡ symbol_now read cs m
  now_told m = elim (cases_lt m (length read)) [
    | inl less ↦ now-some read all_told m (change_at read cs m) (change_of-told m less) ∙ makes_same m
    | inr past ↦
        now-none read all_told m
        (change_of-none all_told m (λ j d less. λ (e : number_of (get_or all_told j d) ≡ m). omega (arith, told_number_at j d (omega (arith, less, length_told)), less, length_told, past, e)))
        ∙ sym (now-none read cs m (none_past m past))
  ]

  -- a change tells the name of its symbol
  name_told : (m : ℕ) → HasName read (change_at read cs m)
  name_told m = by_change (change_of cs m) refl
    where
      by_change : (o : Option Change) → change_of cs m ≡ o → HasName read (unwrap_or o (idle_change read m))
      by_change None is = inl refl
      by_change (Some c) is = (change_of-some (HasName read) cs m c are.named is).0

  all_named : (ns : List ℕ) → All (HasName read) (map (change_at read cs) ns)
  all_named [] = All-nil (HasName read)
  all_named (n ∷ ns) = All-cons (HasName read) (change_at read cs n) (map (change_at read cs) ns) (name_told n) (all_named ns)

  numbers_told : (ns : List ℕ) → map number_of (map (change_at read cs) ns) ≡ ns
  numbers_told [] = refl
  numbers_told (n ∷ ns) = ap (λ (k : ℕ). k ∷ map number_of (map (change_at read cs) ns)) (number_told n) ∙ ap (λ l. n ∷ l) (numbers_told ns)

  pub are_told : AreChanges read all_told
  are_told = record {
    rising = subst (AreRising 0 (length read)) (sym (numbers_told (counted (length read)))) (rising_counted (length read));
    named = all_named (counted (length read));
  }

-- the symbols that are there are the same
pub shown_same : (was now : ℕ → NamedSymbol) → ((m : ℕ) → now m ≡ was m) → (ns : List ℕ) → map now ns ≡ map was ns
shown_same was now same [] = refl
shown_same was now same (n ∷ ns) = ap (λ y. y ∷ map now ns) (same n) ∙ ap (λ l. was n ∷ l) (shown_same was now same ns)

-- ## What is held where each symbol has a change

pub told_changes : (read : List NamedSymbol) (cs : List Change) → AreChanges read cs → (table : List NamedSymbol) (changes : List Change)
    → table ≡ read → changes ≡ map (change_at read cs) (counted (length read)) → AreChanges table changes
told_changes read cs are table changes same told =
    subst (λ (t : List NamedSymbol). AreChanges t changes) (sym same) (subst (AreChanges read) (sym told) (are_told read cs are))

pub told_kept : (read : List NamedSymbol) (was : List ℕ) → AreRising 0 (length read) was → (table : List NamedSymbol) (kept : List ℕ) → table ≡ read → kept ≡ was → AreRising 0 (length table) kept
told_kept read was rising table kept same is =
    subst (λ (t : List NamedSymbol). AreRising 0 (length t) kept) (sym same) (subst (AreRising 0 (length read)) (sym is) rising)

pub told_shown : (s : Inside) → AreInOrder s → (e : EditedList) → edited_list s ≡ e → (table : List NamedSymbol) (changes : List Change) (kept : List ℕ)
    → table ≡ s.table → changes ≡ map (change_at s.table s.changes.items) (counted (length s.table)) → kept ≡ s.kept.items
    → list_of table (numbers_there s.are_all (length table) kept) (map (symbol_now table changes) (numbers_there s.are_all (length table) kept)) ≡ e
told_shown s ok e seen table changes kept same told is =
    let shown : List NamedSymbol → List Change → List ℕ → EditedList =
    λ t cs ks. list_of t (numbers_there s.are_all (length t) ks) (map (symbol_now t cs) (numbers_there s.are_all (length t) ks)) in
    let now : ℕ → NamedSymbol = symbol_now s.table (map (change_at s.table s.changes.items) (counted (length s.table))) in
    ap (λ (t : List NamedSymbol). shown t changes kept) same
    ∙ ap (λ (ks : List ℕ). shown s.table changes ks) is
    ∙ ap (λ (cs : List Change). shown s.table cs s.kept.items) told
    ∙ ap (list_of s.table (numbers_of s)) (shown_same (symbol_now s.table s.changes.items) now (now_told s.table s.changes.items ok.changes) (numbers_of s))
    ∙ seen

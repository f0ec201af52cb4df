-- Steps of looking through dynamic symbols, and of changing one after another.
use Rattle.std.proofs.Common.{◌≡◌, ℕ, zero, suc, ◌+◌, ◌<◌, ◌≤◌, Bool, true, false, ◌||◌, List, [], ◌∷◌, ◌++◌, length, map, take, drop, get_or, refl, sym, ap, ◌∙◌, Option, Some, None, is_some, option_map, Bor, arith}
use Rattle.std.specs.Prelude.{◌&&◌, MatchOption, if◌then◌else◌, not, slice_get, unwrap_or}
use Rattle.std.specs.List.{flat_map, list_any}
use Rattle.std.specs.Map.{lookup}
use Rattle.std.specs.Str.{bytes_eq}
use Rattle.std.proofs.lemmas.Bool.{cond-true, or_parts}
use Rattle.std.proofs.lemmas.List.{drop_more}
use Rattle.std.proofs.lemmas.Option.{get_or_from_slice_get, none-some, same_Some, slice_get_within}
use Rattle.elf_image.specs.Options.{first_there}
use Rattle.elf_image.specs.Views.{NamedSymbol}
use Rattle.elf_image_symbols.specs.EditedList.{EditedList, IsName, changed_at, with_global_version, with_name}
use Rattle.elf_edits.specs.declared.symbols.SymbolChange.{SymbolChange}
use Rattle.elf_edits.specs.declared.symbols.SymbolChange.TheVariants as changes
use Rattle.elf_edits.specs.Changes.{name_for}
use Rattle.elf_edits.specs.Edit.{RenameDynamicSymbols}
use Rattle.elf_edits.specs.SymbolChanges.{AreSymbolsAfter, BeginsAt, GivesNames, changed_symbol, changed_to, is_changed, renamed_by, renamed_from}
use Rattle.elf_edits.specs.Symbols.{behind_first, cleared, has_new_name, has_version_to_clear, name_of_symbol, names_behind_first, renamed}
use Rattle.elf_edits.specs.TextModel.{Bytes, pairs_model}
use Rattle.elf_edits.specs.Texts.{holds_nul, is_among, value_of}
use Rattle.elf_edits.proofs.LookupSteps.{other_way}
use Rattle.elf_edits.proofs.SymbolLaws.{any_name_behind_first, not_cleared}

-- ## Some symbol is sought

module _ {A : Type 0} (test : A → Bool) (xs : List A) (i : ℕ) (answer : Bool) where
  there : (x : A) (o : Option A) → o ≡ Some x → option_map test o ≡ Some answer → test x ≡ answer
  there x o is e = same_Some (test x) answer (sym (ap (option_map test) is) ∙ e)

  from_here : (o : Option A) → slice_get xs i ≡ o → option_map test o ≡ Some answer → list_any test (drop i xs) ≡ (answer || list_any test (drop (i + 1) xs))
  from_here None at e = absurd (none-some answer e)
  from_here (Some x) at e =
      ap (list_any test) (drop_more xs i x (slice_get_within xs i x at) ∙ ap (λ y. y ∷ drop (i + 1) xs) (get_or_from_slice_get xs i x x at))
      ∙ ap (λ b. b || list_any test (drop (i + 1) xs)) (same_Some (test x) answer e)

  pub any_ends : (all : Bool) → option_map test (slice_get xs i) ≡ Some answer → answer ≡ true → list_any test (drop i xs) ≡ all → true ≡ all
  any_ends all e holds so_far = sym (ap (λ b. b || list_any test (drop (i + 1) xs)) holds) ∙ sym (from_here (slice_get xs i) refl e) ∙ so_far

  pub any_goes : (all : Bool) → option_map test (slice_get xs i) ≡ Some answer → answer ≡ false → list_any test (drop i xs) ≡ all → list_any test (drop (i + 1) xs) ≡ all
  any_goes all e fails so_far = sym (ap (λ b. b || list_any test (drop (i + 1) xs)) fails) ∙ sym (from_here (slice_get xs i) refl e) ∙ so_far

-- ## One symbol is changed

-- two changes that make the same of the element at a position
pub changed_alike : {A B : Type 0} (part : A → B) (f g : A → A) (xs : List A) (i : ℕ) (b : B) → option_map part (slice_get xs i) ≡ Some b → ((x : A) → part x ≡ b → f x ≡ g x) → changed_at i f xs ≡ changed_at i g xs
changed_alike part f g [] i b at same = refl
changed_alike part f g (x ∷ xs) zero b at same = ap (λ y. y ∷ xs) (same x (same_Some (part x) b at))
changed_alike part f g (x ∷ xs) (suc i) b at same = ap (λ l. x ∷ l) (changed_alike part f g xs i b at same)

pub changed_to_itself : {A : Type 0} (xs : List A) (i : ℕ) → changed_at i (λ x. x) xs ≡ xs
changed_to_itself [] i = refl
changed_to_itself (x ∷ xs) zero = refl
changed_to_itself (x ∷ xs) (suc i) = ap (λ l. x ∷ l) (changed_to_itself xs i)

-- the list with another list of symbols
pub with_symbols : EditedList → List NamedSymbol → EditedList
with_symbols e ys = record e { symbols = ys }

if_both : (b c : Bool) → (b && c) ≡ true → b ≡ true
if_both true c h = refl
if_both false c h = absurd (cc)

-- a version that is there is cleared
pub one_cleared : (name : List ℕ) (old new : EditedList) (seen : List NamedSymbol) (i : ℕ) (found : Bool) → seen ≡ old.symbols → option_map (has_version_to_clear name) (slice_get seen i) ≡ Some found → found ≡ true
    → new ≡ record old { symbols = changed_at i with_global_version old.symbols } → new ≡ record old { symbols = changed_at i (cleared name) old.symbols }
unfolding with_symbols
one_cleared name old new seen i found is at holds made =
    made
    ∙ ap (with_symbols old) (changed_alike (has_version_to_clear name) with_global_version (cleared name) old.symbols i found (ap (λ (ys : List NamedSymbol). option_map (has_version_to_clear name) (slice_get ys i)) (sym is) ∙ at)
    (λ y h. sym (cond-true (bytes_eq y.name name) (with_global_version y) y (if_both (bytes_eq y.name name) (is_some y.version) (h ∙ holds)))))

pub none_cleared : (name : List ℕ) (old : EditedList) (seen : List NamedSymbol) (i : ℕ) (found : Bool) → seen ≡ old.symbols → option_map (has_version_to_clear name) (slice_get seen i) ≡ Some found → found ≡ false
    → old ≡ record old { symbols = changed_at i (cleared name) old.symbols }
unfolding with_symbols
none_cleared name old seen i found is at fails =
    ap (with_symbols old) (sym (changed_alike (has_version_to_clear name) (cleared name) (λ y. y) old.symbols i found (ap (λ (ys : List NamedSymbol). option_map (has_version_to_clear name) (slice_get ys i)) (sym is) ∙ at)
    (λ y h. not_cleared name y (h ∙ fails)) ∙ changed_to_itself old.symbols i))

-- ## One symbol gets a name

module _ (names : List (Bor (List ℕ) × Bor (List ℕ))) (name : List ℕ) where
  asked : Option (Bor (List ℕ))
  asked = lookup (λ (k : Bor (List ℕ)). bytes_eq name k.now) names

  pub named_there : (other : Bor (List ℕ)) → Some other ≡ lookup (λ (k : Bor (List ℕ)). bytes_eq name k.now) names → name_for names name ≡ Some other.now
  unfolding asked
  named_there other e = ap (option_map (λ (t : Bor (List ℕ)). t.now)) (sym e)

  pub one_renamed : (old new : EditedList) (seen : List NamedSymbol) (i : ℕ) (other : Bor (List ℕ)) (given : List ℕ) → seen ≡ old.symbols → option_map (λ (y : NamedSymbol). y.name) (slice_get seen i) ≡ Some name
      → Some other ≡ lookup (λ (k : Bor (List ℕ)). bytes_eq name k.now) names → given ≡ other.now
      → new ≡ record old { symbols = changed_at i (λ y. record y { name = given }) old.symbols } → new ≡ record old { symbols = changed_at i (renamed_by names) old.symbols }
  unfolding with_symbols
  one_renamed old new seen i other given is at found same made =
      made
      ∙ ap (with_symbols old) (changed_alike name_of_symbol (λ y. record y { name = given }) (renamed_by names) old.symbols i name (ap (λ (ys : List NamedSymbol). option_map name_of_symbol (slice_get ys i)) (sym is) ∙ at)
      (λ y h. ap (λ (n : List ℕ). record y { name = n }) (same ∙ sym (ap (λ (o : Option (List ℕ)). unwrap_or o y.name) (ap (name_for names) h ∙ named_there other found)))))

  pub none_renamed : (old : EditedList) (seen : List NamedSymbol) (i : ℕ) → seen ≡ old.symbols → option_map (λ (y : NamedSymbol). y.name) (slice_get seen i) ≡ Some name
      → None ≡ lookup (λ (k : Bor (List ℕ)). bytes_eq name k.now) names → old ≡ record old { symbols = changed_at i (renamed_by names) old.symbols }
  unfolding with_symbols
  none_renamed old seen i is at found =
      ap (with_symbols old) (sym (changed_alike name_of_symbol (renamed_by names) (λ y. y) old.symbols i name (ap (λ (ys : List NamedSymbol). option_map name_of_symbol (slice_get ys i)) (sym is) ∙ at)
      (λ y h. ap (λ (n : List ℕ). record y { name = n }) (ap (λ (o : Option (List ℕ)). unwrap_or o y.name) (ap (name_for names) h ∙ sym (ap (option_map (λ (t : Bor (List ℕ)). t.now)) found)))) ∙ changed_to_itself old.symbols i))

abbrev is_called : List ℕ → NamedSymbol → Bool
is_called name y = bytes_eq y.name name

-- the one name becomes the other
pub the_one_renamed : (from to : List ℕ) (old new : EditedList) (seen : List NamedSymbol) (i : ℕ) (has : Bool) (given : List ℕ) → seen ≡ old.symbols → option_map (is_called from) (slice_get seen i) ≡ Some has
    → has ≡ true → given ≡ to
    → new ≡ record old { symbols = changed_at i (λ y. record y { name = given }) old.symbols } → new ≡ record old { symbols = changed_at i (renamed_from from to) old.symbols }
unfolding with_symbols
the_one_renamed from to old new seen i has given is at holds made new_is =
    new_is
    ∙ ap (with_symbols old) (changed_alike (is_called from) (λ y. record y { name = given }) (renamed_from from to) old.symbols i has (ap (λ (ys : List NamedSymbol). option_map (is_called from) (slice_get ys i)) (sym is) ∙ at)
    (λ y h. ap (λ (n : List ℕ). record y { name = n }) made ∙ sym (cond-true (bytes_eq y.name from) (with_name to y) y (h ∙ holds))))

-- a symbol with another name stays
pub not_renamed : (from to : List ℕ) (y : NamedSymbol) → bytes_eq y.name from ≡ false → renamed_from from to y ≡ y
not_renamed from to y other = rw other refl

pub no_one_renamed : (from to : List ℕ) (old : EditedList) (seen : List NamedSymbol) (i : ℕ) (has : Bool) → seen ≡ old.symbols → option_map (is_called from) (slice_get seen i) ≡ Some has
    → has ≡ false → old ≡ record old { symbols = changed_at i (renamed_from from to) old.symbols }
unfolding with_symbols
no_one_renamed from to old seen i has is at other =
    ap (with_symbols old) (sym (changed_alike (is_called from) (renamed_from from to) (λ y. y) old.symbols i has (ap (λ (ys : List NamedSymbol). option_map (is_called from) (slice_get ys i)) (sym is) ∙ at)
    (λ y h. not_renamed from to y (h ∙ other)) ∙ changed_to_itself old.symbols i))

pub is_name : (name : List ℕ) → holds_nul name ≡ false → IsName name
is_name name h = ap not h

-- ## All behind the first

-- a list up to a place, and another one from there
abbrev pub mixed : {A : Type 0} → ℕ → List A → List A → List A
mixed i new old = take i new ++ drop i old

-- one element more of a list that goes with another
mixed_more : {A : Type 0} (f : A → A) (i : ℕ) (new old : List A) → length new ≡ length old → i < length old → ((x : A) → slice_get old i ≡ Some x → slice_get new i ≡ Some (f x)) → changed_at i f (mixed i new old) ≡ mixed (suc i) new old
mixed_more f i [] [] long here at = absurd (omega (arith, here))
mixed_more f i [] (y ∷ ys) long here at = absurd (omega (arith, long))
mixed_more f i (x ∷ xs) [] long here at = absurd (omega (arith, here))
mixed_more f zero (x ∷ xs) (y ∷ ys) long here at = ap (λ z. z ∷ ys) (same_Some (f y) x (sym (at y refl)))
mixed_more f (suc i) (x ∷ xs) (y ∷ ys) long here at = ap (λ l. x ∷ l) (mixed_more f i xs ys (omega (arith, long)) (omega (arith, here)) at)

behind_first-length : {A : Type 0} (f : A → A) (xs : List A) → length (behind_first f xs) ≡ length xs
behind_first-length f [] = refl
behind_first-length {A} f (x ∷ xs) = ap suc (each xs)
  where
    each : (ys : List A) → length (map f ys) ≡ length ys
    each [] = refl
    each (y ∷ ys) = ap suc (each ys)

map-there : {A : Type 0} (f : A → A) (xs : List A) (i : ℕ) (x : A) → slice_get xs i ≡ Some x → slice_get (map f xs) i ≡ Some (f x)
map-there f [] i x at = absurd (none-some x at)
map-there f (y ∷ ys) zero x at = ap (λ z. Some (f z)) (same_Some y x at)
map-there f (y ∷ ys) (suc i) x at = map-there f ys i x at

behind_first-there : {A : Type 0} (f : A → A) (xs : List A) (i : ℕ) (x : A) → slice_get xs (suc i) ≡ Some x → slice_get (behind_first f xs) (suc i) ≡ Some (f x)
behind_first-there f [] i x at = absurd (none-some x at)
behind_first-there f (y ∷ ys) i x at = map-there f ys i x at

changes_at : {A : Type 0} (f : A → A) (xs : List A) (i : ℕ) → 1 ≤ i → (x : A) → slice_get xs i ≡ Some x → slice_get (behind_first f xs) i ≡ Some (f x)
changes_at f xs zero first x at = absurd (omega (arith, first))
changes_at f xs (suc i) first x at = behind_first-there f xs i x at

module _ (f : NamedSymbol → NamedSymbol) (old : EditedList) where
  -- the symbols up to a place changed
  abbrev pub changed_up_to : ℕ → EditedList
  changed_up_to i = record old { symbols = mixed i (behind_first f old.symbols) old.symbols }

  pub none_changed_yet : (i : ℕ) → mixed i (behind_first f old.symbols) old.symbols ≡ old.symbols → old ≡ changed_up_to i
  unfolding with_symbols
  none_changed_yet i left = ap (with_symbols old) (sym left)

  long : (i : ℕ) (xs ys : List NamedSymbol) → length xs ≡ length ys → length (mixed i xs ys) ≡ length ys
  long i [] [] same = mixed_none i
    where
      mixed_none : (k : ℕ) → length (mixed {A = NamedSymbol} k [] []) ≡ 0
      mixed_none zero = refl
      mixed_none (suc k) = refl
  long i [] (y ∷ ys) same = absurd (omega (arith, same))
  long i (x ∷ xs) [] same = absurd (omega (arith, same))
  long zero (x ∷ xs) (y ∷ ys) same = refl
  long (suc i) (x ∷ xs) (y ∷ ys) same = ap suc (long i xs ys (omega (arith, same)))

  pub still_long : (i : ℕ) (now : EditedList) → now ≡ changed_up_to i → length now.symbols ≡ length old.symbols
  still_long i now is = ap (λ (e : EditedList). length e.symbols) is ∙ long i (behind_first f old.symbols) old.symbols (behind_first-length f old.symbols)

  pub one_more_changed : (i : ℕ) (now new : EditedList) → 1 ≤ i → i < length old.symbols → now ≡ changed_up_to i → new ≡ record now { symbols = changed_at i f now.symbols } → new ≡ changed_up_to (i + 1)
  unfolding with_symbols
  one_more_changed i now new first here so_far made =
      made
      ∙ ap (λ (e : EditedList). record e { symbols = changed_at i f e.symbols }) so_far
      ∙ ap (with_symbols old) (mixed_more f i (behind_first f old.symbols) old.symbols (behind_first-length f old.symbols) here (changes_at f old.symbols i first))
      ∙ ap (λ k. with_symbols old (mixed k (behind_first f old.symbols) old.symbols)) next
    where
      next : suc i ≡ i + 1
      next = omega arith

  -- no symbol is left that changes
  pub all_changed : (i : ℕ) (now : EditedList) → mixed i (behind_first f old.symbols) old.symbols ≡ behind_first f old.symbols → now ≡ changed_up_to i
      → now ≡ record old { symbols = behind_first f old.symbols }
  unfolding with_symbols
  all_changed i now left is = is ∙ ap (with_symbols old) left

-- all of a list up to its end is taken
whole_taken : (k : ℕ) (xs ys : List NamedSymbol) → length xs ≡ length ys → length ys ≤ k → mixed k xs ys ≡ xs
whole_taken zero [] [] same h = refl
whole_taken (suc k) [] [] same h = refl
whole_taken k [] (y ∷ ys) same h = absurd (omega (arith, same))
whole_taken k (x ∷ xs) [] same h = absurd (omega (arith, same))
whole_taken zero (x ∷ xs) (y ∷ ys) same h = absurd (omega (arith, h))
whole_taken (suc k) (x ∷ xs) (y ∷ ys) same h = ap (λ l. x ∷ l) (whole_taken k xs ys (omega (arith, same)) (omega (arith, h)))

-- a symbol that a change isn't about stays as it was
left_as_it_was : (change : SymbolChange) (y : NamedSymbol) → is_changed change y ≡ false → changed_symbol change y ≡ y
left_as_it_was (changes.Name names) y kept = by_name (name_for names.now.entries y.name) kept
  where
    by_name : (o : Option (List ℕ)) → is_some o ≡ false → with_name (unwrap_or o y.name) y ≡ y
    by_name None e = refl
    by_name (Some name) e = absurd (cc)
left_as_it_was (changes.One from to) y kept = not_renamed from.now to.now y kept
left_as_it_was (changes.Version name) y kept = not_cleared name.now y kept

-- ## The symbols that a change leaves

module _ (change : SymbolChange) (ys : List NamedSymbol) where
  none_yet : (xs : List NamedSymbol) → mixed 1 (behind_first (changed_symbol change) xs) xs ≡ xs
  none_yet [] = refl
  none_yet (x ∷ xs) = refl

  -- no symbol is looked at yet
  pub left_first : (i : ℕ) → i ≡ 1 → changed_to change i ys ≡ ys
  left_first i is = ap (λ (k : ℕ). changed_to change k ys) is ∙ none_yet ys

  same_there : (i : ℕ) → 1 ≤ i → (y : NamedSymbol) → slice_get ys i ≡ Some y → is_changed change y ≡ false → slice_get (behind_first (changed_symbol change) ys) i ≡ Some y
  same_there i behind y at kept = changes_at (changed_symbol change) ys i behind y at ∙ ap (λ (z : NamedSymbol). Some z) (left_as_it_was change y kept)

  -- one symbol more is left
  pub left_more : (i : ℕ) (answer : Bool) → 1 ≤ i → i < length ys → option_map (is_changed change) (slice_get ys i) ≡ Some answer → answer ≡ false
      → changed_to change (i + 1) ys ≡ changed_to change i ys
  left_more i answer behind here told kept =
      ap (λ (k : ℕ). changed_to change k ys) next
      ∙ sym (mixed_more (λ y. y) i (behind_first (changed_symbol change) ys) ys (behind_first-length (changed_symbol change) ys) here
      (λ y at. same_there i behind y at (there (is_changed change) ys i answer y (slice_get ys i) at told ∙ kept)))
      ∙ changed_to_itself (changed_to change i ys) i
    where
      next : i + 1 ≡ suc i
      next = omega arith

  -- all symbols were looked at
  pub left_whole : (i : ℕ) → length ys ≤ i → changed_to change i ys ≡ behind_first (changed_symbol change) ys
  left_whole i past = whole_taken i (behind_first (changed_symbol change) ys) ys (behind_first-length (changed_symbol change) ys) past

-- whether a first one is found that a change is about
pub any_found : (change : SymbolChange) (ys : List NamedSymbol) (found : Option ℕ) → MatchOption found (list_any (is_changed change) (drop 1 ys) ≡ false) (BeginsAt change ys)
    → is_some found ≡ list_any (is_changed change) (drop 1 ys)
any_found change ys None none = sym none
any_found change ys (Some i) begins = sym begins.about

-- ## The map of some pairs

-- a value has no NUL where no text of the pairs has one
module _ (old new : List ℕ) where
  value_either : (found : Option (List ℕ)) (b : Bool) (v : List ℕ) → (found ≡ Some new → holds_nul new ≡ false) → holds_nul v ≡ false → first_there found (if b then Some v else None) ≡ Some new → holds_nul new ≡ false
  value_either (Some value) b v later here h = later h
  value_either None true v later here h = ap holds_nul (sym (same_Some v new h)) ∙ here
  value_either None false v later here h = absurd (none-some new h)

  pub value_whole : (ps : List (List ℕ × List ℕ)) → list_any holds_nul (flat_map (λ pair. pair.0 ∷ pair.1 ∷ []) ps) ≡ false → value_of ps old ≡ Some new → holds_nul new ≡ false
  value_whole [] free h = absurd (none-some new h)
  value_whole (p ∷ ps) free h =
      let parts = or_parts (holds_nul p.0) (holds_nul p.1 || list_any holds_nul (flat_map (λ pair. pair.0 ∷ pair.1 ∷ []) ps)) free in
      let more = or_parts (holds_nul p.1) (list_any holds_nul (flat_map (λ pair. pair.0 ∷ pair.1 ∷ []) ps)) parts.1 in
      value_either (value_of ps old) (bytes_eq old p.0) p.1 (λ later. value_whole ps more.1 later) more.0 h

module _ (names : List (Bor (List ℕ) × Bor (List ℕ))) (pairs : List (List ℕ × List ℕ)) (same : (name : List ℕ) → name_for names name ≡ value_of pairs name) where
  same_test : (ys : List NamedSymbol) → list_any (λ y. is_some (name_for names y.name)) ys ≡ list_any (λ y. has_new_name pairs y.name) ys
  same_test [] = refl
  same_test (y ∷ ys) = ap (λ o. is_some o || list_any (λ z. is_some (name_for names z.name)) ys) (same y.name) ∙ ap (λ b. has_new_name pairs y.name || b) (same_test ys)

  pub same_found : (ys : List NamedSymbol) → list_any (λ y. is_some (name_for names y.name)) (drop 1 ys) ≡ list_any (λ y. has_new_name pairs y.name) (drop 1 ys)
  same_found ys = same_test (drop 1 ys)

  pub same_found_names : (ys : List NamedSymbol) → list_any (λ y. is_some (name_for names y.name)) (drop 1 ys) ≡ list_any (has_new_name pairs) (names_behind_first ys)
  same_found_names ys = same_found ys ∙ sym (any_name_behind_first (has_new_name pairs) ys)

  same_renamed : (y : NamedSymbol) → renamed_by names y ≡ renamed pairs y
  same_renamed y = ap (λ (o : Option (List ℕ)). record y { name = unwrap_or o y.name }) (same y.name)

  each_renamed : (ys : List NamedSymbol) → map (renamed_by names) ys ≡ map (renamed pairs) ys
  each_renamed [] = refl
  each_renamed (y ∷ ys) = ap (λ z. z ∷ map (renamed_by names) ys) (same_renamed y) ∙ ap (λ l. renamed pairs y ∷ l) (each_renamed ys)

  all_renamed : (ys : List NamedSymbol) → behind_first (renamed_by names) ys ≡ behind_first (renamed pairs) ys
  all_renamed [] = refl
  all_renamed (y ∷ ys) = ap (λ l. y ∷ l) (each_renamed ys)

  -- what the map makes of symbols, or that it makes nothing
  abbrev IsRenamedBy : EditedList → Option EditedList → Type 0
  IsRenamedBy old None = list_any (λ y. is_some (name_for names y.name)) (drop 1 old.symbols) ≡ false
  IsRenamedBy old (Some new) = (list_any (λ y. is_some (name_for names y.name)) (drop 1 old.symbols) ≡ true) × (new ≡ record old { symbols = behind_first (renamed_by names) old.symbols })

  pub after_renames : (old : EditedList) (made : Option EditedList) → IsRenamedBy old made → AreSymbolsAfter (RenameDynamicSymbols pairs) old made
  unfolding with_symbols
  after_renames old None h = sym (same_found old.symbols) ∙ h
  after_renames old (Some new) h = (sym (same_found old.symbols) ∙ h.0, h.1 ∙ ap (with_symbols old) (all_renamed old.symbols))

  -- a name that is given is among the new ones
  pub given_names : list_any holds_nul (flat_map (λ pair. pair.0 ∷ pair.1 ∷ []) pairs) ≡ false → GivesNames names
  given_names none old new is = is_name new (value_whole old new pairs none (sym (same old) ∙ is))

-- ## One pair alone

module _ (from to : List ℕ) where
  -- what one pair makes of a name
  by_test : (b : Bool) → is_some (if b then Some to else None) ≡ b
  by_test true = refl
  by_test false = refl

  pair_test : (ys : List NamedSymbol) → list_any (λ y. bytes_eq y.name from) ys ≡ list_any (λ y. has_new_name ((from, to) ∷ []) y.name) ys
  pair_test [] = refl
  pair_test (y ∷ ys) =
      ap (λ (b : Bool). b || list_any (λ z. bytes_eq z.name from) ys) (sym (by_test (bytes_eq y.name from)))
      ∙ ap (λ (b : Bool). has_new_name ((from, to) ∷ []) y.name || b) (pair_test ys)

  pair_renames : (y : NamedSymbol) → renamed_from from to y ≡ renamed ((from, to) ∷ []) y
  pair_renames y = by_name (bytes_eq y.name from)
    where
      by_name : (b : Bool) → (if b then with_name to y else y) ≡ with_name (unwrap_or (if b then Some to else None) y.name) y
      by_name true = refl
      by_name false = refl

  pair_renames_each : (ys : List NamedSymbol) → map (renamed_from from to) ys ≡ map (renamed ((from, to) ∷ [])) ys
  pair_renames_each [] = refl
  pair_renames_each (y ∷ ys) = ap (λ z. z ∷ map (renamed_from from to) ys) (pair_renames y) ∙ ap (λ l. renamed ((from, to) ∷ []) y ∷ l) (pair_renames_each ys)

  pair_renames_all : (ys : List NamedSymbol) → behind_first (renamed_from from to) ys ≡ behind_first (renamed ((from, to) ∷ [])) ys
  pair_renames_all [] = refl
  pair_renames_all (y ∷ ys) = ap (λ l. y ∷ l) (pair_renames_each ys)

  pub pair_found_names : (ys : List NamedSymbol) → list_any (λ y. bytes_eq y.name from) (drop 1 ys) ≡ list_any (has_new_name ((from, to) ∷ [])) (names_behind_first ys)
  pair_found_names ys = pair_test (drop 1 ys) ∙ sym (any_name_behind_first (has_new_name ((from, to) ∷ [])) ys)

  abbrev IsRenamedFrom : EditedList → Option EditedList → Type 0
  IsRenamedFrom old None = list_any (λ y. bytes_eq y.name from) (drop 1 old.symbols) ≡ false
  IsRenamedFrom old (Some new) = (list_any (λ y. bytes_eq y.name from) (drop 1 old.symbols) ≡ true) × (new ≡ record old { symbols = behind_first (renamed_from from to) old.symbols })

  pub after_one_rename : (old : EditedList) (made : Option EditedList) → IsRenamedFrom old made → AreSymbolsAfter (RenameDynamicSymbols ((from, to) ∷ [])) old made
  unfolding with_symbols
  after_one_rename old None h = sym (pair_test (drop 1 old.symbols)) ∙ h
  after_one_rename old (Some new) h = (sym (pair_test (drop 1 old.symbols)) ∙ h.0, h.1 ∙ ap (with_symbols old) (pair_renames_all old.symbols))

  -- the name that is given is the new one
  pub given_one : list_any holds_nul (from ∷ to ∷ []) ≡ false → IsName to
  given_one none =
      let parts = or_parts (holds_nul from) (holds_nul to || false) none in
      is_name to (or_parts (holds_nul to) false parts.1).0

-- a name that a symbol behind the first has is among theirs
pub named_among : (name : List ℕ) (ys : List NamedSymbol) → list_any (λ y. bytes_eq y.name name) (drop 1 ys) ≡ is_among (names_behind_first ys) name
named_among name ys = turned (drop 1 ys) ∙ sym (any_name_behind_first (bytes_eq name) ys)
  where
    turned : (zs : List NamedSymbol) → list_any (λ y. bytes_eq y.name name) zs ≡ list_any (λ y. bytes_eq name y.name) zs
    turned [] = refl
    turned (z ∷ zs) = ap (λ (b : Bool). b || list_any (λ y. bytes_eq y.name name) zs) (other_way z.name name) ∙ ap (λ (b : Bool). bytes_eq name z.name || b) (turned zs)

-- a list of one pair, by what is read of it
pub one_pair : (ps : List (Bytes × Bytes)) (p : Bytes × Bytes) (from to : List ℕ) → length ps ≡ 1 → p ≡ get_or ps 0 p → from ≡ p.0.items → to ≡ p.1.items → (from, to) ∷ [] ≡ pairs_model ps
one_pair [] p from to one is first second = absurd (omega (arith, one))
one_pair (x ∷ []) p from to one is first second =
    ap (λ (f : List ℕ). (f, to) ∷ []) (first ∙ ap (λ (q : Bytes × Bytes). q.0.items) is)
    ∙ ap (λ (g : List ℕ). (x.0.items, g) ∷ []) (second ∙ ap (λ (q : Bytes × Bytes). q.1.items) is)
one_pair (x ∷ y ∷ ps) p from to one is first second = absurd (omega (arith, one))

-- What is left of lists of which some elements go.
use Rattle.std.proofs.Common.{◌≡◌, ℕ, zero, suc, ◌+◌, ◌<◌, ◌≤◌, Bool, true, false, cond, List, [], ◌∷◌, length, map, filter, refl, sym, ap, ◌∙◌, inl, inr, subst, Option, Some, None, arith}
use Rattle.std.specs.Prelude.{◌⊎◌, ◌||◌, Contains, IsSome, find, if◌then◌else◌, is_some, ◌==◌, count_by}
use Rattle.std.specs.List.{items_where_true, list_any, slice_get}
use Rattle.std.proofs.lemmas.Bool.{eq-eqb, eqb-true, false_from_ne_true, false≢true, true_from_ne_false, true≢false, or_parts}
use Rattle.std.proofs.lemmas.List.Elements.{All-contains, All-contains_itself, All-filter, filter_passes}
use Rattle.std.proofs.lemmas.List.Sums.{sum_by-cons}
use Rattle.std.proofs.lemmas.Option.{none-some, same_Some}
use Rattle.elf_format.specs.Options.{is_one_of}

-- ## What a list contains

pub contains_cons : {A : Type 0} (y : A) (xs : List A) (x : A) → Contains xs x → Contains (y ∷ xs) x
contains_cons y xs x has = (suc has.0, omega (arith, has.1), has.2)

pub contains_first : {A : Type 0} (x : A) (xs : List A) → Contains (x ∷ xs) x
contains_first x xs = (0, omega arith, refl)

-- what a list contains is its first element, or one of the others
pub contains_cases : {A : Type 0} (y : A) (xs : List A) (x : A) → Contains (y ∷ xs) x → (y ≡ x) ⊎ Contains xs x
contains_cases y xs x (zero, less, is) = inl is
contains_cases y xs x (suc i, less, is) = inr (i, omega (arith, less), is)

pub contains_map : {A B : Type 0} (f : A → B) (xs : List A) (x : A) → Contains xs x → Contains (map f xs) (f x)
contains_map f [] x has = absurd (omega (arith, has.1))
contains_map f (y ∷ xs) x has = elim (contains_cases y xs x has) [
  | inl same ↦ subst (λ z. Contains (f y ∷ map f xs) (f z)) same (contains_first (f y) (map f xs))
  | inr rest ↦ contains_cons (f y) (map f xs) (f x) (contains_map f xs x rest)
]

-- what a map makes of something
pub contained_by : {A B : Type 0} (f : A → B) (xs : List A) (y : B) → Contains (map f xs) y → (x : A) × Contains xs x × (f x ≡ y)
contained_by f [] y has = absurd (omega (arith, has.1))
contained_by f (x ∷ xs) y has = elim (contains_cases (f x) (map f xs) y has) [
  | inl same ↦ (x, contains_first x xs, same)
  | inr rest ↦ let (z, there, is) = contained_by f xs y rest in (z, contains_cons x xs z there, is)
]

pub contains_at : {A : Type 0} (xs : List A) (i : ℕ) (x : A) → slice_get xs i ≡ Some x → Contains xs x
contains_at [] i x at = absurd (none-some x at)
contains_at (y ∷ xs) zero x at = subst (λ z. Contains (y ∷ xs) z) (same_Some y x at) (contains_first y xs)
contains_at (y ∷ xs) (suc i) x at = contains_cons y xs x (contains_at xs i x at)

-- ## Filters

module _ {A : Type 0} (keep : A → Bool) where
  -- what is left was there, and passes
  pub left_was : (xs : List A) (x : A) → Contains (filter keep xs) x → Contains xs x × (keep x ≡ true)
  left_was xs x has = (
    All-contains (λ y. Contains xs y) (filter keep xs) x (All-filter keep (λ y. Contains xs y) xs (All-contains_itself xs)) has,
    All-contains (λ y. keep y ≡ true) (filter keep xs) x (filter_passes keep xs) has,
  )

  pub passing_stays : (xs : List A) (x : A) → Contains xs x → keep x ≡ true → Contains (filter keep xs) x
  passing_stays [] x has passes = absurd (omega (arith, has.1))
  passing_stays (y ∷ xs) x has passes = elim (contains_cases y xs x has) [
    | inl same ↦ here (keep y) (ap keep same ∙ passes) same
    | inr rest ↦ behind (keep y) (passing_stays xs x rest passes)
  ]
    where
      here : (b : Bool) → b ≡ true → y ≡ x → Contains (cond b (y ∷ filter keep xs) (filter keep xs)) x
      here true h same = subst (λ z. Contains (y ∷ filter keep xs) z) same (contains_first y (filter keep xs))
      here false h same = absurd (false≢true h)

      behind : (b : Bool) → Contains (filter keep xs) x → Contains (cond b (y ∷ filter keep xs) (filter keep xs)) x
      behind true rest = contains_cons y (filter keep xs) x rest
      behind false rest = rest

  -- a search for what stays, where it passes, comes to the same
  pub find_left : (test : A → Bool) (xs : List A) → ((x : A) → Contains xs x → test x ≡ true → keep x ≡ true) → find test (filter keep xs) ≡ find test xs
  find_left test [] stays = refl
  find_left test (x ∷ xs) stays =
      by_keep (keep x) refl (find_left test xs (λ y has. stays y (contains_cons x xs y has)))
    where
      by_keep : (b : Bool) → keep x ≡ b → find test (filter keep xs) ≡ find test xs → find test (cond b (x ∷ filter keep xs) (filter keep xs)) ≡ find test (x ∷ xs)
      by_keep true is rest = ap (λ o. if test x then Some x else o) rest
      by_keep false is rest =
          let fails : test x ≡ false = false_from_ne_true (test x) (λ passes. false≢true (sym is ∙ stays x (contains_first x xs) passes)) in
          rest ∙ ap (λ b. if b then Some x else find test xs) (sym fails)

-- what is found is there, and passes
pub found_there : {A : Type 0} (test : A → Bool) (xs : List A) (x : A) → find test xs ≡ Some x → Contains xs x × (test x ≡ true)
found_there test [] x is = absurd (none-some x is)
found_there {A} test (y ∷ xs) x is = by_test (test y) refl (found_there test xs x) is
  where
    by_test : (b : Bool) → test y ≡ b → (find test xs ≡ Some x → Contains xs x × (test x ≡ true)) → (if b then Some y else find test xs) ≡ Some x → Contains (y ∷ xs) x × (test x ≡ true)
    by_test true passes more e =
        let same : y ≡ x = same_Some y x e in
        (subst (λ z. Contains (y ∷ xs) z) same (contains_first y xs), ap test (sym same) ∙ passes)
    by_test false fails more e =
        let rest = more e in
        (contains_cons y xs x rest.0, rest.1)

some_of : {A : Type 0} (o : Option A) → is_some o ≡ true → (x : A) × (o ≡ Some x)
some_of None h = absurd (false≢true h)
some_of (Some x) h = (x, refl)

-- where something is found, something is there that passes
pub found_some : {A : Type 0} (test : A → Bool) (xs : List A) → IsSome (find test xs) → (x : A) × (find test xs ≡ Some x) × Contains xs x × (test x ≡ true)
found_some test xs h =
    let (x, is) = some_of (find test xs) h in
    let there = found_there test xs x is in
    (x, is, there.0, there.1)

-- the first that passes stands at a place, and none before it passes
pub record IsFirstAt {A : Type 0} (test : A → Bool) (xs : List A) (i : ℕ) (x : A) : Type 0 where
  pub at : slice_get xs i ≡ Some x
  pub passes : test x ≡ true
  pub before : (j : ℕ) (y : A) → j < i → slice_get xs j ≡ Some y → test y ≡ false

pub first_place : {A : Type 0} (test : A → Bool) (xs : List A) (x : A) → find test xs ≡ Some x → (i : ℕ) × IsFirstAt test xs i x
first_place test [] x is = absurd (none-some x is)
first_place {A} test (y ∷ xs) x is = by_test (test y) refl (first_place test xs x) is
  where
    by_test : (b : Bool) → test y ≡ b → (find test xs ≡ Some x → (i : ℕ) × IsFirstAt test xs i x) → (if b then Some y else find test xs) ≡ Some x → (i : ℕ) × IsFirstAt test (y ∷ xs) i x
    by_test true passes more e =
        let same : y ≡ x = same_Some y x e in
        (0, record { at = e; passes = ap test (sym same) ∙ passes; before = λ j z less _. absurd (omega (arith, less)) })
    by_test false fails more e =
        let (i, rest) = more e in
        (suc i, record { at = rest.at; passes = rest.passes; before = λ j z less at. earlier i rest j z less at })
      where
        earlier : (i : ℕ) → IsFirstAt test xs i x → (j : ℕ) (z : A) → j < suc i → slice_get (y ∷ xs) j ≡ Some z → test z ≡ false
        earlier i rest zero z less at = ap test (sym (same_Some y z at)) ∙ fails
        earlier i rest (suc j) z less at = rest.before j z (omega (arith, less)) at

pub find_first : {A : Type 0} (test : A → Bool) (xs : List A) (i : ℕ) (x : A) → IsFirstAt test xs i x → find test xs ≡ Some x
find_first test [] i x is = absurd (none-some x is.at)
find_first test (y ∷ xs) zero x is =
    let same : y ≡ x = same_Some y x is.at in
    ap (λ (b : Bool). if b then Some y else find test xs) (ap test same ∙ is.passes) ∙ is.at
find_first test (y ∷ xs) (suc i) x is =
    ap (λ (b : Bool). if b then Some y else find test xs) (is.before 0 y (omega arith) refl)
    ∙ find_first test xs i x (record { at = is.at; passes = is.passes; before = λ j z less at. is.before (suc j) z (omega (arith, less)) at })

-- ## Some element passes

-- where no element passes, this one doesn't
pub none_passes : {A : Type 0} (test : A → Bool) (xs : List A) (x : A) → list_any test xs ≡ false → Contains xs x → test x ≡ false
none_passes test [] x none has = absurd (omega (arith, has.1))
none_passes test (y ∷ xs) x none has =
    let both = or_parts (test y) (list_any test xs) none in
    elim (contains_cases y xs x has) [
      | inl same ↦ ap test (sym same) ∙ both.0
      | inr rest ↦ none_passes test xs x both.1 rest
    ]

-- where each fails, none passes
pub none_if : {A : Type 0} (test : A → Bool) (xs : List A) → ((x : A) → Contains xs x → test x ≡ false) → list_any test xs ≡ false
none_if test [] fails = refl
none_if test (x ∷ xs) fails =
    ap (λ (b : Bool). b || list_any test xs) (fails x (contains_first x xs)) ∙ none_if test xs (λ y has. fails y (contains_cons x xs y has))

-- a number is one of those that a list contains, and no other
pub number_there : (ns : List ℕ) (n : ℕ) → Contains ns n → is_one_of ns n ≡ true
number_there ns n has = true_from_ne_false (is_one_of ns n) (λ none. true≢false (sym (eq-eqb n n refl) ∙ none_passes (λ x. x == n) ns n none has))

-- ## Elements that are picked

-- where the one stood that is picked at a place
pub picked_place : List Bool → ℕ → ℕ
picked_place [] i = i
picked_place (true ∷ bs) zero = 0
picked_place (true ∷ bs) (suc i) = suc (picked_place bs i)
picked_place (false ∷ bs) i = suc (picked_place bs i)

pub picked_rises : (bs : List Bool) (i j : ℕ) → i < j → picked_place bs i < picked_place bs j
unfolding picked_place
picked_rises [] i j less = less
picked_rises (true ∷ bs) i zero less = absurd (omega (arith, less))
picked_rises (true ∷ bs) zero (suc j) less = omega arith
picked_rises (true ∷ bs) (suc i) (suc j) less = let rest = picked_rises bs i j (omega (arith, less)) in omega (arith, rest)
picked_rises (false ∷ bs) i j less = let rest = picked_rises bs i j less in omega (arith, rest)

pub picked_at : {A : Type 0} (bs : List Bool) (xs : List A) (i : ℕ) (x : A) → slice_get (items_where_true bs xs) i ≡ Some x → slice_get xs (picked_place bs i) ≡ Some x
unfolding picked_place
picked_at [] xs i x at = absurd (none-some x at)
picked_at (b ∷ bs) [] i x at = absurd (none-some x at)
picked_at (true ∷ bs) (y ∷ xs) zero x at = at
picked_at (true ∷ bs) (y ∷ xs) (suc i) x at = picked_at bs xs i x at
picked_at (false ∷ bs) (y ∷ xs) i x at = picked_at bs xs i x at

-- a filter picks by its test
pub filter_picks : {A : Type 0} (keep : A → Bool) (xs : List A) → filter keep xs ≡ items_where_true (map keep xs) xs
filter_picks keep [] = refl
filter_picks {A} keep (x ∷ xs) = by_keep (keep x) (filter_picks keep xs)
  where
    by_keep : (b : Bool) → filter keep xs ≡ items_where_true (map keep xs) xs → cond b (x ∷ filter keep xs) (filter keep xs) ≡ items_where_true (b ∷ map keep xs) (x ∷ xs)
    by_keep true rest = ap (λ l. x ∷ l) rest
    by_keep false rest = rest

-- lists of one length are so when the same is picked
pub picked_long : {A B : Type 0} (bs : List Bool) (xs : List A) (ys : List B) → length xs ≡ length ys → length (items_where_true bs xs) ≡ length (items_where_true bs ys)
picked_long [] xs ys long = refl
picked_long (b ∷ bs) [] [] long = refl
picked_long (b ∷ bs) [] (y ∷ ys) long = absurd (omega (arith, long))
picked_long (b ∷ bs) (x ∷ xs) [] long = absurd (omega (arith, long))
picked_long (true ∷ bs) (x ∷ xs) (y ∷ ys) long = ap suc (picked_long bs xs ys (omega (arith, long)))
picked_long (false ∷ bs) (x ∷ xs) (y ∷ ys) long = picked_long bs xs ys (omega (arith, long))

-- ## At most one passes

pub count_first : {A : Type 0} (test : A → Bool) (x : A) (xs : List A) → count_by test (x ∷ xs) ≡ cond (test x) 1 0 + count_by test xs
count_first test x xs = sum_by-cons (λ y. cond (test y) 1 0) x xs

pub count_some : {A : Type 0} (test : A → Bool) (xs : List A) (i : ℕ) (x : A) → slice_get xs i ≡ Some x → test x ≡ true → 1 ≤ count_by test xs
count_some test [] i x at passes = absurd (none-some x at)
count_some test (y ∷ xs) zero x at passes =
    let one : ◌≡◌ {A = ℕ} (cond (test y) 1 0) 1 = ap (λ (b : Bool). cond b 1 0) (ap test (same_Some y x at) ∙ passes) in
    omega (arith, count_first test y xs, one)
count_some test (y ∷ xs) (suc i) x at passes = omega (arith, count_first test y xs, count_some test xs i x at passes)

-- where at most one passes, two that pass stand at one place
pub only_place : {A : Type 0} (test : A → Bool) (xs : List A) (i j : ℕ) (x y : A) → count_by test xs ≤ 1 → slice_get xs i ≡ Some x → slice_get xs j ≡ Some y
    → test x ≡ true → test y ≡ true → i ≡ j
only_place test [] i j x y few at bt passes other = absurd (none-some x at)
only_place test (z ∷ xs) zero zero x y few at bt passes other = refl
only_place test (z ∷ xs) zero (suc j) x y few at bt passes other =
    let one : ◌≡◌ {A = ℕ} (cond (test z) 1 0) 1 = ap (λ (b : Bool). cond b 1 0) (ap test (same_Some z x at) ∙ passes) in
    absurd (omega (arith, few, count_first test z xs, one, count_some test xs j y bt other))
only_place test (z ∷ xs) (suc i) zero x y few at bt passes other =
    let one : ◌≡◌ {A = ℕ} (cond (test z) 1 0) 1 = ap (λ (b : Bool). cond b 1 0) (ap test (same_Some z y bt) ∙ other) in
    absurd (omega (arith, few, count_first test z xs, one, count_some test xs i x at passes))
only_place test (z ∷ xs) (suc i) (suc j) x y few at bt passes other =
    ap suc (only_place test xs i j x y (omega (arith, few, count_first test z xs)) at bt passes other)

-- a number that is one of some is contained there
pub one_of_there : (ns : List ℕ) (n : ℕ) → is_one_of ns n ≡ true → Contains ns n
one_of_there [] n h = absurd (false≢true h)
one_of_there (m ∷ ns) n h = by_first (m == n) refl (one_of_there ns n) h
  where
    by_first : (b : Bool) → (m == n) ≡ b → (is_one_of ns n ≡ true → Contains ns n) → (b || is_one_of ns n) ≡ true → Contains (m ∷ ns) n
    by_first true same more any = subst (λ (k : ℕ). Contains (m ∷ ns) k) (eqb-true m n same) (contains_first m ns)
    by_first false same more any = contains_cons m ns n (more any)

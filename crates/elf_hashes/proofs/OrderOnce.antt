-- Each position stands once in the order by buckets.
use Rattle.std.proofs.Common.{◌≡◌, ◌≢◌, ℕ, zero, suc, ◌+◌, ◌/◌, ◌%◌, ◌<◌, List, [], ◌∷◌, ◌++◌, length, get_or, Bool, true, false, not, refl, sym, ap, ◌∙◌, subst, inl, inr, arith}
use Rattle.std.specs.Prelude.{◌&&◌, ◌||◌, ◌==◌, if◌then◌else◌, nat_lt}
use Rattle.std.specs.List.{flat_map}
use Rattle.std.specs.List.Sorted.{IsPermutation}
use Rattle.std.proofs.Math.Nat.{mod-lt}
use Rattle.std.proofs.lemmas.Bool.{cases_order, eq-eqb, le-ltb, lt-ltb, ne_eqb}
use Rattle.std.proofs.lemmas.List.{append-nil, append_assoc, ext_get_or}
use Rattle.std.proofs.lemmas.List.Concat.{flat_map-append}
use Rattle.std.proofs.lemmas.List.Sorted.{IsPermutation-append_left, IsPermutation-append_right, IsPermutation-cons, IsPermutation-middle, IsPermutation-refl, IsPermutation-sym, IsPermutation-trans}
use Rattle.std.proofs.lemmas.Option.{get_or_from_slice_get}
use Rattle.elf_format.specs.Hashes.{gnu_hash}
use Rattle.elf_format.specs.Image.{counted}
use Rattle.elf_format.specs.Views.{NamedSymbol}
use Rattle.elf_format.proofs.ForCallers.Lengths.{length-counted, slice_get-counted}
use Rattle.elf_hashes.specs.Found.{is_found, is_local, is_sought}
use Rattle.elf_hashes.specs.Order.{is_found_in, places_by_bucket, places_where}

-- ## A group that two others make up

-- of two tests one at most is passed, and where one is the third is, too
abbrev Splits : {A : Type 0} → (A → Bool) → (A → Bool) → (A → Bool) → Type 0
Splits {A} p q r = (x : A) → (p x ≡ (q x || r x)) × ((q x && r x) ≡ false)

split-one : (i : ℕ) (ps qs rs : List ℕ) (c a b : Bool) → c ≡ (a || b) → (a && b) ≡ false → IsPermutation ps (qs ++ rs)
    → IsPermutation (if c then i ∷ ps else ps) ((if a then i ∷ qs else qs) ++ (if b then i ∷ rs else rs))
split-one i ps qs rs c true true whole none rest = absurd (cc)
split-one i ps qs rs true true false whole none rest = IsPermutation-cons i ps (qs ++ rs) rest
split-one i ps qs rs false true false whole none rest = absurd (cc)
split-one i ps qs rs true false true whole none rest =
    IsPermutation-trans (i ∷ ps) (i ∷ (qs ++ rs)) (qs ++ i ∷ rs) (IsPermutation-cons i ps (qs ++ rs) rest)
    (IsPermutation-sym (qs ++ i ∷ rs) (i ∷ (qs ++ rs)) (IsPermutation-middle qs i rs))
split-one i ps qs rs false false true whole none rest = absurd (cc)
split-one i ps qs rs true false false whole none rest = absurd (cc)
split-one i ps qs rs false false false whole none rest = rest

places-split : {A : Type 0} (p q r : A → Bool) → Splits p q r → (i : ℕ) (xs : List A) → IsPermutation (places_where p i xs) (places_where q i xs ++ places_where r i xs)
places-split p q r splits i [] = IsPermutation-refl []
places-split p q r splits i (x ∷ xs) =
    split-one i (places_where p (i + 1) xs) (places_where q (i + 1) xs) (places_where r (i + 1) xs) (p x) (q x) (r x) (splits x).0 (splits x).1
    (places-split p q r splits (i + 1) xs)

-- ## All buckets

-- found through one of the first buckets, so many of them
abbrev is_below : ℕ → ℕ → NamedSymbol → Bool
is_below buckets n y = is_found y && nat_lt (gnu_hash y.name % buckets) n

one-bucket : (buckets n : ℕ) → Splits (is_below buckets (suc n)) (is_below buckets n) (is_found_in buckets n)
one-bucket buckets n y = by_order (is_found y) (gnu_hash y.name % buckets)
  where
    by_order : (f : Bool) (h : ℕ) → ((f && nat_lt h (suc n)) ≡ ((f && nat_lt h n) || (f && h == n))) × (((f && nat_lt h n) && (f && h == n)) ≡ false)
    by_order false h = (refl, refl)
    by_order true h = elim (cases_order h n) [
      | inl same ↦ rw (lt-ltb h (suc n) (omega (arith, same)), le-ltb h n (omega (arith, same)), eq-eqb h n same) (refl, refl)
      | inr other ↦ elim other [
        | inl below ↦
            rw (lt-ltb h (suc n) (omega (arith, below)), lt-ltb h n below, ne_eqb h n (λ same. omega (arith, below, same))) (refl, refl)
        | inr above ↦
            rw (le-ltb h (suc n) (omega (arith, above)), le-ltb h n (omega (arith, above)), ne_eqb h n (λ same. omega (arith, above, same))) (refl, refl)
      ]
    ]

none-below : (buckets i : ℕ) (ys : List NamedSymbol) → places_where (is_below buckets 0) i ys ≡ []
none-below buckets i [] = refl
none-below buckets i (y ∷ ys) = by_found (is_found y) (none-below buckets (i + 1) ys)
  where
    by_found : (f : Bool) → places_where (is_below buckets 0) (i + 1) ys ≡ []
        → (if (f && nat_lt (gnu_hash y.name % buckets) 0) then i ∷ places_where (is_below buckets 0) (i + 1) ys else places_where (is_below buckets 0) (i + 1) ys) ≡ []
    by_found false rest = rest
    by_found true rest = rw (le-ltb (gnu_hash y.name % buckets) 0 (omega arith)) rest

below-all : (buckets n : ℕ) (ys : List NamedSymbol)
    → IsPermutation (places_where (is_below buckets n) 1 ys) (flat_map (λ bucket. places_where (is_found_in buckets bucket) 1 ys) (counted n))
unfolding counted
below-all buckets zero ys =
    let From : List ℕ → Type 0 = λ l. IsPermutation l [] in
    subst From (sym (none-below buckets 1 ys)) (IsPermutation-refl [])
below-all buckets (suc n) ys =
    let in_bucket : ℕ → List ℕ = λ bucket. places_where (is_found_in buckets bucket) 1 ys in
    let below : List ℕ = places_where (is_below buckets n) 1 ys in
    let before : List ℕ = flat_map in_bucket (counted n) in
    let whole : flat_map in_bucket (counted n ++ n ∷ []) ≡ before ++ in_bucket n =
    flat_map-append in_bucket (counted n) (n ∷ []) ∙ ap (λ l. before ++ l) (append-nil (in_bucket n)) in
    let To : List ℕ → Type 0 = λ l. IsPermutation (places_where (is_below buckets (suc n)) 1 ys) l in
    subst To (sym whole)
    (IsPermutation-trans (places_where (is_below buckets (suc n)) 1 ys) (below ++ in_bucket n) (before ++ in_bucket n)
    (places-split (is_below buckets (suc n)) (is_below buckets n) (is_found_in buckets n) (one-bucket buckets n) 1 ys)
    (IsPermutation-append_left (in_bucket n) below before (below-all buckets n ys)))

-- ## All symbols

abbrev is_any : NamedSymbol → Bool
is_any y = true

abbrev is_global : NamedSymbol → Bool
is_global y = not (is_local y)

local-or-global : Splits is_any is_local is_global
local-or-global y = by_local (is_local y)
  where
    by_local : (l : Bool) → (true ≡ (l || not l)) × ((l && not l) ≡ false)
    by_local true = (refl, refl)
    by_local false = (refl, refl)

sought-or-found : Splits is_global is_sought is_found
sought-or-found y = by_tests (y.st_info / 16 == 0) (y.st_shndx == 0)
  where
    by_tests : (l s : Bool) → (not l ≡ ((not l && s) || (not s && not l))) × (((not l && s) && (not s && not l)) ≡ false)
    by_tests true true = (refl, refl)
    by_tests true false = (refl, refl)
    by_tests false true = (refl, refl)
    by_tests false false = (refl, refl)

-- a bucket's number is below how many there are
found-below : (buckets : ℕ) → buckets ≢ 0 → (i : ℕ) (ys : List NamedSymbol) → places_where is_found i ys ≡ places_where (is_below buckets buckets) i ys
found-below buckets some i [] = refl
found-below buckets some i (y ∷ ys) =
    let rest : List ℕ = places_where is_found (i + 1) ys in
    let below : nat_lt (gnu_hash y.name % buckets) buckets ≡ true = lt-ltb (gnu_hash y.name % buckets) buckets (mod-lt (gnu_hash y.name) (omega (arith, some))) in
    ap (λ (t : Bool). if t then i ∷ rest else rest) (with_true (is_found y) ∙ ap (λ (t : Bool). is_found y && t) (sym below))
    ∙ ap (λ l. if is_below buckets buckets y then i ∷ l else l) (found-below buckets some (i + 1) ys)
  where
    with_true : (f : Bool) → f ≡ (f && true)
    with_true true = refl
    with_true false = refl

length-any : (i : ℕ) (ys : List NamedSymbol) → length (places_where is_any i ys) ≡ length ys
length-any i [] = refl
length-any i (y ∷ ys) = ap suc (length-any (i + 1) ys)

any-at : (i k : ℕ) (ys : List NamedSymbol) → k < length ys → get_or (places_where is_any i ys) k 0 ≡ i + k
any-at i k [] inside = absurd (omega (arith, inside))
any-at i zero (y ∷ ys) inside = omega arith
any-at i (suc k) (y ∷ ys) inside = any-at (i + 1) k ys (omega (arith, inside)) ∙ omega arith

-- all positions in their order
any-counted : (ys : List NamedSymbol) → counted (length ys) ≡ places_where is_any 0 ys
any-counted ys =
    ext_get_or 0 (counted (length ys)) (places_where is_any 0 ys) (length-counted (length ys) ∙ sym (length-any 0 ys))
    (λ k inside.
    let below : k < length ys = omega (arith, inside, length-counted (length ys)) in
    get_or_from_slice_get (counted (length ys)) k k 0 (slice_get-counted (length ys) k below) ∙ sym (any-at 0 k ys below ∙ omega arith))

pub each-once : (buckets : ℕ) (ys : List NamedSymbol) → buckets ≢ 0 → IsPermutation (counted (length ys)) (places_by_bucket buckets ys)
unfolding places_by_bucket counted
each-once buckets [] some = IsPermutation-refl []
each-once buckets (first ∷ rest) some =
    let locals : List ℕ = places_where is_local 1 rest in
    let globals : List ℕ = places_where is_global 1 rest in
    let others : List ℕ = places_where is_sought 1 rest in
    let found : List ℕ = places_where is_found 1 rest in
    let by_bucket : List ℕ = flat_map (λ bucket. places_where (is_found_in buckets bucket) 1 rest) (counted buckets) in
    let From : List ℕ → Type 0 = λ l. IsPermutation l by_bucket in
    let bucketed : IsPermutation found by_bucket = subst From (sym (found-below buckets some 1 rest)) (below-all buckets buckets rest) in
    let last : IsPermutation globals (others ++ by_bucket) =
    IsPermutation-trans globals (others ++ found) (others ++ by_bucket) (places-split is_global is_sought is_found sought-or-found 1 rest)
    (IsPermutation-append_right others found by_bucket bucketed) in
    let all : IsPermutation (places_where is_any 1 rest) (locals ++ (others ++ by_bucket)) =
    IsPermutation-trans (places_where is_any 1 rest) (locals ++ globals) (locals ++ (others ++ by_bucket)) (places-split is_any is_local is_global local-or-global 1 rest)
    (IsPermutation-append_right locals globals (others ++ by_bucket) last) in
    let To : List ℕ → Type 0 = λ l. IsPermutation (0 ∷ places_where is_any 1 rest) (0 ∷ l) in
    let Whole : List ℕ → Type 0 = λ l. IsPermutation l (0 ∷ (locals ++ others ++ by_bucket)) in
    subst Whole (sym (any-counted (first ∷ rest)))
    (subst To (sym (append_assoc locals others by_bucket)) (IsPermutation-cons 0 (places_where is_any 1 rest) (locals ++ (others ++ by_bucket)) all))

-- The order by buckets: where its symbols stand, and that they stand by rising buckets.
use Rattle.std.proofs.Common.{◌≡◌, ◌≢◌, ℕ, zero, suc, ◌+◌, ◌/◌, ◌%◌, ◌<◌, ◌≤◌, List, [], ◌∷◌, ◌++◌, length, drop, map, Bool, true, false, not, refl, sym, ap, ◌∙◌, subst, Option, Some, None, arith}
use Rattle.std.specs.Prelude.{◌&&◌, ◌==◌, filter, if◌then◌else◌, option_map, slice_get}
use Rattle.std.specs.List.{All, cons_option, filter_map, flat_map}
use Rattle.std.proofs.lemmas.Bool.{and_parts, eqb-true}
use Rattle.std.proofs.lemmas.List.{append_assoc, append-nil, drop-drop}
use Rattle.std.proofs.lemmas.List.Concat.{flat_map-append}
use Rattle.std.proofs.lemmas.List.Elements.{All-append, All-cons, All-nil, filter_map-append}
use Rattle.std.proofs.lemmas.Option.{none-some, same_Some}
use Rattle.elf_format.specs.Hashes.{gnu_hash}
use Rattle.elf_format.specs.Image.{counted}
use Rattle.elf_format.specs.Views.{NamedSymbol}
use Rattle.elf_hashes.specs.Buckets.{AreBucketed, hashes_of, in_buckets}
use Rattle.elf_hashes.specs.Found.{ArePlaces, found_name, hashed_names, in_order, is_found, is_local, is_sought}
use Rattle.elf_hashes.specs.Order.{OrdersByBucket, by_bucket, is_found_in, places_by_bucket, places_where}
use Rattle.elf_hashes.proofs.OrderOnce.{each-once}
use Rattle.elf_hashes.proofs.ListLaws.{flat_map-same, slice_get-drop}

-- ## Where the symbols of the order stand

-- what stands at a position, and behind it
pub drop-at : {X : Type 0} (whole xs : List X) (i : ℕ) (x : X) → drop i whole ≡ x ∷ xs → slice_get whole i ≡ Some x
drop-at whole xs i x at =
    let place : i ≡ i + 0 = omega arith in
    ap (slice_get whole) place ∙ sym (slice_get-drop whole i 0) ∙ ap (λ l. slice_get l 0) at

pub drop-next : {X : Type 0} (whole xs : List X) (i : ℕ) (x : X) → drop i whole ≡ x ∷ xs → drop (i + 1) whole ≡ xs
drop-next whole xs i x at = sym (drop-drop 1 i whole) ∙ ap (drop 1) at

places-filtered : (test : NamedSymbol → Bool) (whole xs : List NamedSymbol) (i : ℕ) → drop i whole ≡ xs → in_order whole (places_where test i xs) ≡ filter test xs
places-filtered test whole [] i at = refl
places-filtered test whole (x ∷ xs) i at = by_test (test x) (places-filtered test whole xs (i + 1) (drop-next whole xs i x at))
  where
    by_test : (t : Bool) → in_order whole (places_where test (i + 1) xs) ≡ filter test xs
        → in_order whole (if t then i ∷ places_where test (i + 1) xs else places_where test (i + 1) xs) ≡ (if t then x ∷ filter test xs else filter test xs)
    by_test true rest = ap (λ (o : Option NamedSymbol). cons_option o (in_order whole (places_where test (i + 1) xs))) (drop-at whole xs i x at) ∙ ap (λ l. x ∷ l) rest
    by_test false rest = rest

filter_map-flat_map : {X Y Z : Type 0} (f : Y → Option Z) (g : X → List Y) (xs : List X) → filter_map f (flat_map g xs) ≡ flat_map (λ x. filter_map f (g x)) xs
filter_map-flat_map f g [] = refl
filter_map-flat_map f g (x ∷ xs) =
    filter_map-append f (g x) (flat_map g xs) ∙ ap (λ l. filter_map f (g x) ++ l) (filter_map-flat_map f g xs)

ordered : (buckets : ℕ) (ys : List NamedSymbol) → in_order ys (places_by_bucket buckets ys) ≡ by_bucket buckets ys
unfolding places_by_bucket by_bucket
ordered buckets [] = refl
ordered buckets (first ∷ rest) =
    let ys : List NamedSymbol = first ∷ rest in
    let at : ℕ → Option NamedSymbol = λ i. slice_get ys i in
    let locals : List ℕ = places_where is_local 1 rest in
    let others : List ℕ = places_where is_sought 1 rest in
    let in_bucket : ℕ → List ℕ = λ bucket. places_where (is_found_in buckets bucket) 1 rest in
    let found : filter_map at (flat_map in_bucket (counted buckets)) ≡ flat_map (λ bucket. filter (is_found_in buckets bucket) rest) (counted buckets) =
    filter_map-flat_map at in_bucket (counted buckets)
    ∙ flat_map-same (λ bucket. filter_map at (in_bucket bucket)) (λ bucket. filter (is_found_in buckets bucket) rest) (λ bucket. places-filtered (is_found_in buckets bucket) ys rest 1 refl) (counted buckets) in
    let front : filter_map at (locals ++ others) ≡ filter is_local rest ++ filter is_sought rest =
    filter_map-append at locals others
    ∙ ap (λ l. l ++ filter_map at others) (places-filtered is_local ys rest 1 refl)
    ∙ ap (λ l. filter is_local rest ++ l) (places-filtered is_sought ys rest 1 refl) in
    ap (λ l. first ∷ l)
    (filter_map-append at (locals ++ others) (flat_map in_bucket (counted buckets))
    ∙ ap (λ l. l ++ filter_map at (flat_map in_bucket (counted buckets))) front
    ∙ ap (λ l. filter is_local rest ++ filter is_sought rest ++ l) found)

-- ## Each is the position of a symbol

places-below : (test : NamedSymbol → Bool) (i n : ℕ) (xs : List NamedSymbol) → i + length xs ≤ n → All (λ k. k < n) (places_where test i xs)
places-below test i n [] fits = All-nil (λ k. k < n)
places-below test i n (x ∷ xs) fits = by_test (test x) (places-below test (i + 1) n xs (omega (arith, fits)))
  where
    by_test : (t : Bool) → All (λ k. k < n) (places_where test (i + 1) xs)
        → All (λ k. k < n) (if t then i ∷ places_where test (i + 1) xs else places_where test (i + 1) xs)
    by_test true rest = All-cons (λ k. k < n) i (places_where test (i + 1) xs) (omega (arith, fits)) rest
    by_test false rest = rest

All-flat_map : {X Y : Type 0} (P : Y → Type 0) (g : X → List Y) → ((x : X) → All P (g x)) → (xs : List X) → All P (flat_map g xs)
All-flat_map P g each [] = All-nil P
All-flat_map P g each (x ∷ xs) = All-append P (g x) (flat_map g xs) (each x) (All-flat_map P g each xs)

are-places : (buckets : ℕ) (ys : List NamedSymbol) → ArePlaces ys (places_by_bucket buckets ys)
unfolding places_by_bucket
are-places buckets [] = All-nil (λ k. k < 0)
are-places buckets (first ∷ rest) =
    let n : ℕ = length (first ∷ rest) in
    let Below : ℕ → Type 0 = λ k. k < n in
    let locals : List ℕ = places_where is_local 1 rest in
    let others : List ℕ = places_where is_sought 1 rest in
    let in_bucket : ℕ → List ℕ = λ bucket. places_where (is_found_in buckets bucket) 1 rest in
    let fits : 1 + length rest ≤ n = omega arith in
    let found = All-flat_map Below in_bucket (λ bucket. places-below (is_found_in buckets bucket) 1 n rest fits) (counted buckets) in
    let front = All-append Below locals others (places-below is_local 1 n rest fits) (places-below is_sought 1 n rest fits) in
    All-cons Below 0 (locals ++ others ++ flat_map in_bucket (counted buckets)) (omega arith) (All-append Below (locals ++ others) (flat_map in_bucket (counted buckets)) front found)

-- ## By rising buckets

-- the bucket of each symbol behind the first
unfoldable pub bucket_of : ℕ → NamedSymbol → Option ℕ
bucket_of buckets y = option_map (λ (h : ℕ). h % buckets) (option_map gnu_hash (found_name y))

abbrev pub buckets_behind : ℕ → List NamedSymbol → List (Option ℕ)
buckets_behind buckets ys = in_buckets buckets (hashes_of gnu_hash (map found_name ys))

buckets-cons : (buckets : ℕ) (y : NamedSymbol) (ys : List NamedSymbol) → buckets_behind buckets (y ∷ ys) ≡ bucket_of buckets y ∷ buckets_behind buckets ys
unfolding bucket_of
buckets-cons buckets y ys = refl

buckets-append : (buckets : ℕ) (xs ys : List NamedSymbol) → buckets_behind buckets (xs ++ ys) ≡ buckets_behind buckets xs ++ buckets_behind buckets ys
buckets-append buckets [] ys = refl
buckets-append buckets (x ∷ xs) ys =
    ap (λ l. option_map (λ (h : ℕ). h % buckets) (option_map gnu_hash (found_name x)) ∷ l) (buckets-append buckets xs ys)

-- in buckets from one on and below another, rising
RiseIn : ℕ → ℕ → List (Option ℕ) → Type 0
RiseIn low high [] = Unit {0}
RiseIn low high (None ∷ xs) = ⊥
RiseIn low high (Some c ∷ xs) = (low ≤ c) × (c < high) × RiseIn c high xs

rise-lower : (low mid high : ℕ) (xs : List (Option ℕ)) → low ≤ mid → RiseIn mid high xs → RiseIn low high xs
unfolding RiseIn
rise-lower low mid high [] le rise = tt
rise-lower low mid high (None ∷ xs) le rise = rise
rise-lower low mid high (Some c ∷ xs) le rise = (omega (arith, le, rise.0), rise.1, rise.2)

rise-append : (low mid high : ℕ) (xs ys : List (Option ℕ)) → low ≤ mid → mid ≤ high → RiseIn low mid xs → RiseIn mid high ys → RiseIn low high (xs ++ ys)
unfolding RiseIn
rise-append low mid high [] ys le le' rise more = rise-lower low mid high ys le more
rise-append low mid high (None ∷ xs) ys le le' rise more = absurd rise
rise-append low mid high (Some c ∷ xs) ys le le' rise more =
    (rise.0, omega (arith, rise.1, le'), rise-append c mid high xs ys (omega (arith, rise.1)) le' rise.2 more)

rise-at : (low high : ℕ) (xs : List (Option ℕ)) (j : ℕ) → RiseIn low high xs → j < length xs → (c : ℕ) × (slice_get xs j ≡ Some (Some c)) × (low ≤ c)
unfolding RiseIn
rise-at low high [] j rise inside = absurd (omega (arith, inside))
rise-at low high (None ∷ xs) j rise inside = absurd rise
rise-at low high (Some c ∷ xs) zero rise inside = (c, refl, rise.0)
rise-at low high (Some c ∷ xs) (suc j) rise inside =
    let (d, at, above) = rise-at c high xs j rise.2 (omega (arith, inside)) in
    (d, at, omega (arith, above, rise.0))

rise-bucketed : (low high : ℕ) (xs : List (Option ℕ)) → RiseIn low high xs → AreBucketed xs
unfolding RiseIn
rise-bucketed low high [] rise i j b less inside at = absurd (none-some (Some b) at)
rise-bucketed low high (None ∷ xs) rise i j b less inside at = absurd rise
rise-bucketed low high (Some c ∷ xs) rise zero zero b less inside at = absurd (omega (arith, less))
rise-bucketed low high (Some c ∷ xs) rise zero (suc j) b less inside at =
    let same : c ≡ b = same_Some c b (same_Some (Some c) (Some b) at) in
    let (d, there, above) = rise-at c high xs j rise.2 (omega (arith, inside)) in
    (d, there, omega (arith, above, same))
rise-bucketed low high (Some c ∷ xs) rise (suc i) zero b less inside at = absurd (omega (arith, less))
rise-bucketed low high (Some c ∷ xs) rise (suc i) (suc j) b less inside at = rise-bucketed c high xs rise.2 i j b (omega (arith, less)) (omega (arith, inside)) at

-- one in no bucket before
bucketed-behind : (xs : List (Option ℕ)) → AreBucketed xs → AreBucketed (None ∷ xs)
bucketed-behind xs h zero j b less inside at = absurd (none-some b (same_Some None (Some b) at))
bucketed-behind xs h (suc i) zero b less inside at = absurd (omega (arith, less))
bucketed-behind xs h (suc i) (suc j) b less inside at = h i j b (omega (arith, less)) (omega (arith, inside)) at

-- ## The three groups

local-in_none : (buckets : ℕ) (y : NamedSymbol) → is_local y ≡ true → bucket_of buckets y ≡ None
unfolding bucket_of
local-in_none buckets y is = by_tests (y.st_shndx == 0) (y.st_info / 16 == 0) is
  where
    by_tests : (s t : Bool) → t ≡ true → option_map (λ (h : ℕ). h % buckets) (option_map gnu_hash (if (not s && not t) then Some y.name else None)) ≡ None
    by_tests true t h = refl
    by_tests false true h = refl
    by_tests false false h = absurd (cc)

sought-in_none : (buckets : ℕ) (y : NamedSymbol) → is_sought y ≡ true → bucket_of buckets y ≡ None
unfolding bucket_of
sought-in_none buckets y is = by_tests (y.st_shndx == 0) (y.st_info / 16 == 0) is
  where
    by_tests : (s t : Bool) → (not t && s) ≡ true → option_map (λ (h : ℕ). h % buckets) (option_map gnu_hash (if (not s && not t) then Some y.name else None)) ≡ None
    by_tests true t h = refl
    by_tests false true h = refl
    by_tests false false h = absurd (cc)

found-in_bucket : (buckets bucket : ℕ) (y : NamedSymbol) → is_found_in buckets bucket y ≡ true → bucket_of buckets y ≡ Some bucket
unfolding bucket_of
found-in_bucket buckets bucket y is =
    let (found, same) = and_parts (is_found y) (gnu_hash y.name % buckets == bucket) is in
    ap (λ (t : Bool). option_map (λ (h : ℕ). h % buckets) (option_map gnu_hash (if t then Some y.name else None))) found
    ∙ ap (λ (n : ℕ). Some n) (eqb-true (gnu_hash y.name % buckets) bucket same)

-- symbols of a group that stands in no bucket, before symbols by buckets
none-before : (buckets : ℕ) (test : NamedSymbol → Bool) → ((y : NamedSymbol) → test y ≡ true → bucket_of buckets y ≡ None) → (ys : List NamedSymbol) (rest : List (Option ℕ))
    → AreBucketed rest → AreBucketed (buckets_behind buckets (filter test ys) ++ rest)
none-before buckets test none [] rest bucketed = bucketed
none-before buckets test none (y ∷ ys) rest bucketed = by_test (test y) refl (none-before buckets test none ys rest bucketed)
  where
    by_test : (t : Bool) → test y ≡ t → AreBucketed (buckets_behind buckets (filter test ys) ++ rest)
        → AreBucketed (buckets_behind buckets (if t then y ∷ filter test ys else filter test ys) ++ rest)
    by_test true is more =
        let all : buckets_behind buckets (y ∷ filter test ys) ++ rest ≡ None ∷ (buckets_behind buckets (filter test ys) ++ rest) =
        ap (λ l. l ++ rest) (buckets-cons buckets y (filter test ys)) ∙ ap (λ (o : Option ℕ). o ∷ (buckets_behind buckets (filter test ys) ++ rest)) (none y is) in
        subst AreBucketed (sym all) (bucketed-behind (buckets_behind buckets (filter test ys) ++ rest) more)
    by_test false is more = more

-- symbols of one bucket, by rising buckets
one-rises : (buckets bucket : ℕ) (ys : List NamedSymbol) → RiseIn bucket (bucket + 1) (buckets_behind buckets (filter (is_found_in buckets bucket) ys))
unfolding RiseIn
one-rises buckets bucket [] = tt
one-rises buckets bucket (y ∷ ys) = by_test (is_found_in buckets bucket y) refl (one-rises buckets bucket ys)
  where
    by_test : (t : Bool) → is_found_in buckets bucket y ≡ t → RiseIn bucket (bucket + 1) (buckets_behind buckets (filter (is_found_in buckets bucket) ys))
        → RiseIn bucket (bucket + 1) (buckets_behind buckets (if t then y ∷ filter (is_found_in buckets bucket) ys else filter (is_found_in buckets bucket) ys))
    by_test true is more =
        let all : buckets_behind buckets (y ∷ filter (is_found_in buckets bucket) ys) ≡ Some bucket ∷ buckets_behind buckets (filter (is_found_in buckets bucket) ys) =
        buckets-cons buckets y (filter (is_found_in buckets bucket) ys)
        ∙ ap (λ (o : Option ℕ). o ∷ buckets_behind buckets (filter (is_found_in buckets bucket) ys)) (found-in_bucket buckets bucket y is) in
        subst (RiseIn bucket (bucket + 1)) (sym all) (omega arith, omega arith, more)
    by_test false is more = more

-- symbols of so many buckets, the first ones, by rising buckets
all-rise : (buckets n : ℕ) (ys : List NamedSymbol) → RiseIn 0 n (buckets_behind buckets (flat_map (λ bucket. filter (is_found_in buckets bucket) ys) (counted n)))
unfolding RiseIn counted
all-rise buckets zero ys = tt
all-rise buckets (suc n) ys =
    let in_bucket : ℕ → List NamedSymbol = λ bucket. filter (is_found_in buckets bucket) ys in
    let before : List NamedSymbol = flat_map in_bucket (counted n) in
    let last : List NamedSymbol = flat_map in_bucket (n ∷ []) in
    let next : n + 1 ≡ suc n = omega arith in
    let single : in_bucket n ≡ last = sym (append-nil (in_bucket n)) in
    let whole : buckets_behind buckets (flat_map in_bucket (counted n ++ n ∷ [])) ≡ buckets_behind buckets before ++ buckets_behind buckets last =
    ap (λ l. buckets_behind buckets l) (flat_map-append in_bucket (counted n) (n ∷ [])) ∙ buckets-append buckets before last in
    let High : ℕ → Type 0 = λ high. RiseIn n high (buckets_behind buckets (in_bucket n)) in
    let Of : List NamedSymbol → Type 0 = λ l. RiseIn n (suc n) (buckets_behind buckets l) in
    let ends : RiseIn n (suc n) (buckets_behind buckets last) = subst Of single (subst High next (one-rises buckets n ys)) in
    subst (RiseIn 0 (suc n)) (sym whole)
    (rise-append 0 n (suc n) (buckets_behind buckets before) (buckets_behind buckets last) (omega arith) (omega arith) (all-rise buckets n ys) ends)

bucketed : (buckets : ℕ) (ys : List NamedSymbol) → buckets ≢ 0 → AreBucketed (in_buckets buckets (hashes_of gnu_hash (hashed_names (by_bucket buckets ys))))
unfolding by_bucket hashed_names
bucketed buckets [] some = λ i j b less inside at. absurd (none-some (Some b) at)
bucketed buckets (first ∷ rest) some =
    let locals : List NamedSymbol = filter is_local rest in
    let others : List NamedSymbol = filter is_sought rest in
    let found : List NamedSymbol = flat_map (λ bucket. filter (is_found_in buckets bucket) rest) (counted buckets) in
    let rise : AreBucketed (buckets_behind buckets found) = rise-bucketed 0 buckets (buckets_behind buckets found) (all-rise buckets buckets rest) in
    let more = none-before buckets is_sought (sought-in_none buckets) rest (buckets_behind buckets found) rise in
    let all = none-before buckets is_local (local-in_none buckets) rest (buckets_behind buckets others ++ buckets_behind buckets found) more in
    let parts : buckets_behind buckets (locals ++ others ++ found) ≡ buckets_behind buckets locals ++ (buckets_behind buckets others ++ buckets_behind buckets found) =
    buckets-append buckets (locals ++ others) found ∙ ap (λ l. l ++ buckets_behind buckets found) (buckets-append buckets locals others)
    ∙ append_assoc (buckets_behind buckets locals) (buckets_behind buckets others) (buckets_behind buckets found) in
    bucketed-behind (buckets_behind buckets (locals ++ others ++ found)) (subst AreBucketed (sym parts) all)

pub orders_by_bucket : OrdersByBucket
orders_by_bucket = record { ordered = ordered; are_places = are-places; once = each-once; bucketed = bucketed }

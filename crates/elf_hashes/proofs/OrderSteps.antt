-- The chains of all buckets, walked one behind the other, list the symbols by bucket.
use Rattle.std.proofs.Common.{◌≡◌, ◌≢◌, ℕ, zero, suc, ◌+◌, ◌%◌, ◌<◌, ◌≤◌, List, [], ◌∷◌, ◌++◌, length, drop, get_or, map, Bool, true, false, refl, sym, ap, ◌∙◌, Option, Some, None, arith}
use Rattle.std.specs.Prelude.{◌&&◌, ◌==◌, if◌then◌else◌, option_map, slice_get, slice_index}
use Rattle.std.specs.List.{All, flat_map}
use Rattle.std.proofs.lemmas.Bool.{eqb-true, ne_eqb}
use Rattle.std.proofs.lemmas.List.{append_assoc, append-nil, drop_more}
use Rattle.std.proofs.lemmas.List.Elements.{All-cons, All-nil, All-same}
use Rattle.std.proofs.lemmas.Option.{get_or_from_slice_get, slice_get-get_or, slice_get_within}
use Rattle.elf_format.specs.Hashes.{gnu_hash}
use Rattle.elf_format.specs.Image.{counted}
use Rattle.elf_format.specs.Views.{NamedSymbol}
use Rattle.elf_hashes.specs.Buckets.{chains, hashes_of, heads, in_buckets, next_in}
use Rattle.elf_hashes.specs.Found.{hashed_names, is_found, is_local, is_sought}
use Rattle.elf_hashes.specs.Order.{is_found_in, places_by_bucket, places_where}
use Rattle.elf_hashes.specs.Steps.{walk}
use Rattle.elf_hashes.proofs.ListLaws.{flat_map-map, flat_map-same}
use Rattle.elf_hashes.proofs.ChainLaws.{chain_at, chains_below, length-chains, next_below}
use Rattle.elf_hashes.proofs.OrderLaws.{bucket_of, buckets_behind, drop-at, drop-next}

-- ## A chain

-- one stands in the bucket
abbrev stands : ℕ → Option ℕ → Bool
stands b None = false
stands b (Some c) = c == b

walk-none : (nexts : List ℕ) (room : ℕ) → walk nexts room 0 ≡ []
unfolding walk
walk-none nexts zero = refl
walk-none nexts (suc room) = refl

walk-one : (nexts : List ℕ) (room i : ℕ) → i ≢ 0 → walk nexts (suc room) i ≡ i ∷ walk nexts room (slice_index nexts i)
unfolding walk
walk-one nexts room i some = ap (λ (t : Bool). if t then [] else i ∷ walk nexts room (slice_index nexts i)) (ne_eqb i 0 some)

-- from a place on, the chain of a bucket goes through all that stand in it
walk-bucket : (whole : List (Option ℕ)) (b p : ℕ) (xs : List (Option ℕ)) (room : ℕ) → drop p whole ≡ xs → p ≢ 0 → length xs ≤ room
    → walk (chains 0 whole) room (next_in b p xs) ≡ places_where (stands b) p xs
unfolding next_in
walk-bucket whole b p [] room at some fits = walk-none (chains 0 whole) room
walk-bucket whole b p (None ∷ xs) room at some fits =
    walk-bucket whole b (p + 1) xs room (drop-next whole xs p None at) (λ z. omega (arith, z)) (omega (arith, fits))
walk-bucket whole b p (Some c ∷ xs) zero at some fits = absurd (omega (arith, fits))
walk-bucket whole b p (Some c ∷ xs) (suc room) at some fits =
    by_test (c == b) refl
    (walk-bucket whole b (p + 1) xs (suc room) (drop-next whole xs p (Some c) at) (λ z. omega (arith, z)) (omega (arith, fits)))
    (walk-bucket whole b (p + 1) xs room (drop-next whole xs p (Some c) at) (λ z. omega (arith, z)) (omega (arith, fits)))
  where
    -- the entry behind p
    entry : c ≡ b → slice_index (chains 0 whole) p ≡ next_in b (p + 1) xs
    entry same =
        let here : slice_get whole p ≡ Some (Some c) = drop-at whole xs p (Some c) at in
        let place : 0 + suc p ≡ p + 1 = omega arith in
        let next : suc p ≡ p + 1 = omega arith in
        get_or_from_slice_get (chains 0 whole) p (next_in c (0 + suc p) (drop (suc p) whole)) 0 (chain_at 0 whole p c here)
        ∙ ap (λ (n : ℕ). next_in c n (drop (suc p) whole)) place
        ∙ ap (λ (n : ℕ). next_in c (p + 1) (drop n whole)) next
        ∙ ap (next_in c (p + 1)) (drop-next whole xs p (Some c) at)
        ∙ ap (λ (n : ℕ). next_in n (p + 1) xs) same

    by_test : (t : Bool) → (c == b) ≡ t
        → walk (chains 0 whole) (suc room) (next_in b (p + 1) xs) ≡ places_where (stands b) (p + 1) xs
        → walk (chains 0 whole) room (next_in b (p + 1) xs) ≡ places_where (stands b) (p + 1) xs
        → walk (chains 0 whole) (suc room) (if t then p else next_in b (p + 1) xs) ≡ (if t then p ∷ places_where (stands b) (p + 1) xs else places_where (stands b) (p + 1) xs)
    by_test true is long short =
        walk-one (chains 0 whole) room p some
        ∙ ap (λ l. p ∷ l) (ap (walk (chains 0 whole) room) (entry (eqb-true c b is)) ∙ short)
    by_test false is long short = long

-- ## All chains

test-same : (buckets b : ℕ) (y : NamedSymbol) → stands b (bucket_of buckets y) ≡ is_found_in buckets b y
unfolding bucket_of
test-same buckets b y = by_found (is_found y)
  where
    by_found : (t : Bool) → stands b (option_map (λ (h : ℕ). h % buckets) (option_map gnu_hash (if t then Some y.name else None))) ≡ (t && gnu_hash y.name % buckets == b)
    by_found true = refl
    by_found false = refl

places-same : (buckets b i : ℕ) (ys : List NamedSymbol) → places_where (stands b) i (buckets_behind buckets ys) ≡ places_where (is_found_in buckets b) i ys
unfolding bucket_of
places-same buckets b i [] = refl
places-same buckets b i (y ∷ ys) =
    let rest : List ℕ = places_where (stands b) (i + 1) (buckets_behind buckets ys) in
    ap (λ (t : Bool). if t then i ∷ rest else rest) (test-same buckets b y)
    ∙ ap (λ l. if is_found_in buckets b y then i ∷ l else l) (places-same buckets b (i + 1) ys)

-- the chains of the buckets of symbols, the first of which stands in none
pub walks-all : (buckets : ℕ) (first : NamedSymbol) (rest : List NamedSymbol)
    → let xs = in_buckets buckets (hashes_of gnu_hash (hashed_names (first ∷ rest))) in
    flat_map (walk (chains 0 xs) (length (chains 0 xs))) (heads buckets xs) ≡ flat_map (λ bucket. places_where (is_found_in buckets bucket) 1 rest) (counted buckets)
unfolding hashed_names next_in
walks-all buckets first rest =
    let behind : List (Option ℕ) = buckets_behind buckets rest in
    let xs : List (Option ℕ) = None ∷ behind in
    let room : length behind ≤ length (chains 0 xs) = omega (arith, length-chains 0 xs) in
    flat_map-map (walk (chains 0 xs) (length (chains 0 xs))) (λ bucket. next_in bucket 0 xs) (counted buckets)
    ∙ flat_map-same (λ bucket. walk (chains 0 xs) (length (chains 0 xs)) (next_in bucket 0 xs)) (λ bucket. places_where (is_found_in buckets bucket) 1 rest)
    (λ bucket. walk-bucket xs bucket 1 behind (length (chains 0 xs)) refl (λ z. omega (arith, z)) room ∙ places-same buckets bucket 1 rest) (counted buckets)

-- the whole order
pub order-whole : (buckets : ℕ) (ys : List NamedSymbol) (firsts nexts order : List ℕ) → 0 < length ys
    → firsts ≡ heads buckets (in_buckets buckets (hashes_of gnu_hash (hashed_names ys)))
    → nexts ≡ chains 0 (in_buckets buckets (hashes_of gnu_hash (hashed_names ys)))
    → order ≡ 0 ∷ (places_where is_local 1 (drop 1 ys) ++ places_where is_sought 1 (drop 1 ys) ++ flat_map (walk nexts (length nexts)) firsts)
    → order ≡ places_by_bucket buckets ys
unfolding places_by_bucket
order-whole buckets [] firsts nexts order some is_firsts is_nexts is = absurd (omega (arith, some))
order-whole buckets (first ∷ rest) firsts nexts order some is_firsts is_nexts is =
    let front : List ℕ = places_where is_local 1 rest ++ places_where is_sought 1 rest in
    is ∙ ap (λ l. 0 ∷ (front ++ flat_map (walk nexts (length nexts)) l)) is_firsts
    ∙ ap (λ l. 0 ∷ (front ++ flat_map (walk l (length l)) (heads buckets (in_buckets buckets (hashes_of gnu_hash (hashed_names (first ∷ rest))))))) is_nexts
    ∙ ap (λ l. 0 ∷ (front ++ l)) (walks-all buckets first rest)

-- ## All numbers in buckets and chains are those of symbols

All-mapped : {X Y : Type 0} (P : Y → Type 0) (f : X → Y) → ((x : X) → P (f x)) → (xs : List X) → All P (map f xs)
All-mapped P f each [] = All-nil P
All-mapped P f each (x ∷ xs) = All-cons P (f x) (map f xs) (each x) (All-mapped P f each xs)

pub heads-below : (buckets : ℕ) (xs : List (Option ℕ)) (n : ℕ) → 0 < n → length xs ≤ n → All (λ v. v < n) (heads buckets xs)
heads-below buckets xs n some fits = All-mapped (λ v. v < n) (λ bucket. next_in bucket 0 xs) (λ bucket. next_below bucket 0 xs n some (omega (arith, fits))) (counted buckets)

pub entries-below : (xs : List (Option ℕ)) (n : ℕ) → 0 < n → length xs ≤ n → All (λ v. v < n) (chains 0 xs)
entries-below xs n some fits k d inside =
    chains_below 0 xs n k (get_or (chains 0 xs) k d) some (omega (arith, fits)) (slice_get-get_or (chains 0 xs) k d inside)

-- the numbers of all buckets, and of all chains
pub firsts-inside : (buckets : ℕ) (xs : List (Option ℕ)) (firsts nexts : List ℕ) → 0 < length xs → firsts ≡ heads buckets xs → nexts ≡ chains 0 xs → All (λ v. v < length nexts) firsts
firsts-inside buckets xs firsts nexts some is_firsts is_nexts =
    let long : length nexts ≡ length xs = ap length is_nexts ∙ length-chains 0 xs in
    All-same (λ v. v < length nexts) firsts (heads buckets xs) is_firsts (heads-below buckets xs (length nexts) (omega (arith, some, long)) (omega (arith, long)))

pub nexts-inside : (xs : List (Option ℕ)) (nexts : List ℕ) → 0 < length xs → nexts ≡ chains 0 xs → All (λ v. v < length nexts) nexts
nexts-inside xs nexts some is =
    let long : length nexts ≡ length xs = ap length is ∙ length-chains 0 xs in
    All-same (λ v. v < length nexts) nexts (chains 0 xs) is (entries-below xs (length nexts) (omega (arith, some, long)) (omega (arith, long)))

-- ## One more symbol of a chain

pub chain-done : (nexts items all : List ℕ) (room symbol : ℕ) → room ≡ 0 → items ++ walk nexts room symbol ≡ all → items ≡ all
unfolding walk
chain-done nexts items all room symbol none before =
    sym (append-nil items) ∙ ap (λ (n : ℕ). items ++ walk nexts n symbol) (sym none) ∙ before

pub chain-none : (nexts items all : List ℕ) (room symbol : ℕ) → symbol ≡ 0 → items ++ walk nexts room symbol ≡ all → items ≡ all
chain-none nexts items all room symbol none before =
    sym (append-nil items) ∙ ap (λ l. items ++ l) (sym (walk-none nexts room) ∙ ap (walk nexts room) (sym none)) ∙ before

pub chain-more : (nexts items now all : List ℕ) (room rest symbol next : ℕ) → room ≡ suc rest → symbol ≢ 0 → next ≡ slice_index nexts symbol → now ≡ items ++ symbol ∷ []
    → items ++ walk nexts room symbol ≡ all → now ++ walk nexts rest next ≡ all
chain-more nexts items now all room rest symbol next one some is step before =
    ap (λ l. l ++ walk nexts rest next) step ∙ append_assoc items (symbol ∷ []) (walk nexts rest next)
    ∙ ap (λ (n : ℕ). items ++ symbol ∷ walk nexts rest n) is
    ∙ ap (λ l. items ++ l) (sym (walk-one nexts rest symbol some) ∙ ap (λ (n : ℕ). walk nexts n symbol) (sym one)) ∙ before

-- ## One more symbol of a group

places-at : (test : NamedSymbol → Bool) (ys : List NamedSymbol) (i : ℕ) (y : NamedSymbol) (t : Bool) → slice_get ys i ≡ Some y → test y ≡ t
    → let more = places_where test (i + 1) (drop (i + 1) ys) in places_where test i (drop i ys) ≡ (if t then i ∷ more else more)
places-at test ys i y t at is =
    let here : drop i ys ≡ y ∷ drop (i + 1) ys =
    drop_more ys i y (slice_get_within ys i y at) ∙ ap (λ v. v ∷ drop (i + 1) ys) (get_or_from_slice_get ys i y y at) in
    let more : List ℕ = places_where test (i + 1) (drop (i + 1) ys) in
    ap (places_where test i) here ∙ ap (λ (b : Bool). if b then i ∷ more else more) is

pub places-yes : (test : NamedSymbol → Bool) (ys : List NamedSymbol) (was now all : List ℕ) (i : ℕ) (y : NamedSymbol) → slice_get ys i ≡ Some y → test y ≡ true → now ≡ was ++ i ∷ []
    → was ++ places_where test i (drop i ys) ≡ all → now ++ places_where test (i + 1) (drop (i + 1) ys) ≡ all
places-yes test ys was now all i y at is step before =
    let more : List ℕ = places_where test (i + 1) (drop (i + 1) ys) in
    ap (λ l. l ++ more) step ∙ append_assoc was (i ∷ []) more ∙ ap (λ l. was ++ l) (sym (places-at test ys i y true at is)) ∙ before

pub places-no : (test : NamedSymbol → Bool) (ys : List NamedSymbol) (was all : List ℕ) (i : ℕ) (y : NamedSymbol) → slice_get ys i ≡ Some y → test y ≡ false
    → was ++ places_where test i (drop i ys) ≡ all → was ++ places_where test (i + 1) (drop (i + 1) ys) ≡ all
places-no test ys was all i y at is before = ap (λ l. was ++ l) (sym (places-at test ys i y false at is)) ∙ before

pub order-none : (buckets : ℕ) (ys : List NamedSymbol) → length ys ≡ 0 → [] ≡ places_by_bucket buckets ys
unfolding places_by_bucket
order-none buckets [] none = refl
order-none buckets (y ∷ ys) none = absurd (omega (arith, none))

-- Look-ups in chains of buckets, apart from the bytes of a table.
use Rattle.std.proofs.Common.{◌≡◌, ◌≢◌, ℕ, zero, suc, ◌+◌, ◌-◌, ◌<◌, ◌≤◌, List, length, drop, Bool, true, false, [], ◌∷◌, refl, sym, ap, ◌∙◌, inl, inr, Option, Some, None, arith}
use Rattle.std.specs.Prelude.{◌==◌, if◌then◌else◌}
use Rattle.std.specs.List.{slice_get}
use Rattle.std.proofs.lemmas.Bool.{eqb-true, eq-eqb, ne_eqb, cases_lt, false≢true}
use Rattle.std.proofs.lemmas.Option.{none-some, same_Some, slice_get_within}
use Rattle.elf_hashes.specs.Buckets.{chains, next_in}
use Rattle.elf_hashes.proofs.ListLaws.{slice_get-drop}

-- ## The next symbol of a bucket

-- one that is told stands in the bucket
pub next_is : (b p : ℕ) (xs : List (Option ℕ)) (j : ℕ) → next_in b p xs ≡ j → j ≢ 0 → (d : ℕ) × (j ≡ p + d) × (slice_get xs d ≡ Some (Some b))
unfolding next_in
next_is b p [] j e some = absurd (some (sym e))
next_is b p (None ∷ xs) j e some =
    let (d, at, there) = next_is b (p + 1) xs j e some in
    (suc d, omega (arith, at), there)
next_is b p (Some c ∷ xs) j e some = by_test (c == b) refl e (λ told. next_is b (p + 1) xs j told some)
  where
    by_test : (t : Bool) → (c == b) ≡ t → (if t then p else next_in b (p + 1) xs) ≡ j
        → (next_in b (p + 1) xs ≡ j → (d : ℕ) × (j ≡ p + 1 + d) × (slice_get xs d ≡ Some (Some b)))
        → (d : ℕ) × (j ≡ p + d) × (slice_get (Some c ∷ xs) d ≡ Some (Some b))
    by_test true is first later = (0, omega (arith, first), ap (λ (n : ℕ). Some (Some n)) (eqb-true c b is))
    by_test false is told later =
        let (d, at, there) = later told in
        (suc d, omega (arith, at), there)

-- where a symbol stands in the bucket, the first one is told
pub next_there : (b p : ℕ) (xs : List (Option ℕ)) (d : ℕ) → slice_get xs d ≡ Some (Some b)
    → (e : ℕ) × (e ≤ d) × (next_in b p xs ≡ p + e) × (slice_get xs e ≡ Some (Some b))
unfolding next_in
next_there b p [] d at = absurd (none-some (Some b) at)
next_there b p (None ∷ xs) zero at = absurd (none-some b (same_Some None (Some b) at))
next_there b p (None ∷ xs) (suc d) at =
    let (e, less, told, there) = next_there b (p + 1) xs d at in
    (suc e, omega (arith, less), told ∙ omega arith, there)
next_there b p (Some c ∷ xs) zero at =
    let same : c ≡ b = same_Some c b (same_Some (Some c) (Some b) at) in
    (0, omega arith, ap (λ (t : Bool). if t then p else next_in b (p + 1) xs) (eq-eqb c b same) ∙ omega arith, at)
next_there b p (Some c ∷ xs) (suc d) at = by_test (c == b) refl (next_there b (p + 1) xs d at)
  where
    by_test : (t : Bool) → (c == b) ≡ t
        → ((e : ℕ) × (e ≤ d) × (next_in b (p + 1) xs ≡ p + 1 + e) × (slice_get xs e ≡ Some (Some b)))
        → (e : ℕ) × (e ≤ suc d) × ((if t then p else next_in b (p + 1) xs) ≡ p + e) × (slice_get (Some c ∷ xs) e ≡ Some (Some b))
    by_test true is later = (0, omega arith, omega arith, ap (λ (n : ℕ). Some (Some n)) (eqb-true c b is))
    by_test false is (e, less, told, there) = (suc e, omega (arith, less), told ∙ omega arith, there)

-- a number that is told is that of a symbol, or 0
pub next_below : (b p : ℕ) (xs : List (Option ℕ)) (n : ℕ) → 0 < n → p + length xs ≤ n → next_in b p xs < n
unfolding next_in
next_below b p [] n some fits = some
next_below b p (None ∷ xs) n some fits = next_below b (p + 1) xs n some (omega (arith, fits))
next_below b p (Some c ∷ xs) n some fits = by_test (c == b) (next_below b (p + 1) xs n some (omega (arith, fits)))
  where
    by_test : (t : Bool) → next_in b (p + 1) xs < n → (if t then p else next_in b (p + 1) xs) < n
    by_test true later = omega (arith, fits)
    by_test false later = later

-- ## The chains

pub length-chains : (p : ℕ) (xs : List (Option ℕ)) → length (chains p xs) ≡ length xs
unfolding chains
length-chains p [] = refl
length-chains p (None ∷ xs) = ap suc (length-chains (p + 1) xs)
length-chains p (Some c ∷ xs) = ap suc (length-chains (p + 1) xs)

-- an entry is the number of a symbol, or 0
pub chains_below : (p : ℕ) (xs : List (Option ℕ)) (n i v : ℕ) → 0 < n → p + length xs ≤ n → slice_get (chains p xs) i ≡ Some v → v < n
unfolding chains
chains_below p [] n i v some fits at = absurd (none-some v at)
chains_below p (None ∷ xs) n zero v some fits at = omega (arith, some, same_Some 0 v at)
chains_below p (Some c ∷ xs) n zero v some fits at =
    let told : next_in c (p + 1) xs ≡ v = same_Some (next_in c (p + 1) xs) v at in
    omega (arith, next_below c (p + 1) xs n some (omega (arith, fits)), told)
chains_below p (None ∷ xs) n (suc i) v some fits at = chains_below (p + 1) xs n i v some (omega (arith, fits)) at
chains_below p (Some c ∷ xs) n (suc i) v some fits at = chains_below (p + 1) xs n i v some (omega (arith, fits)) at

-- the entry of a symbol in a bucket
pub chain_at : (p : ℕ) (xs : List (Option ℕ)) (i c : ℕ) → slice_get xs i ≡ Some (Some c)
    → slice_get (chains p xs) i ≡ Some (next_in c (p + suc i) (drop (suc i) xs))
unfolding chains
chain_at p [] i c at = absurd (none-some (Some c) at)
chain_at p (None ∷ xs) zero c at = absurd (none-some c (same_Some None (Some c) at))
chain_at p (Some d ∷ xs) zero c at =
    let same : d ≡ c = same_Some d c (same_Some (Some d) (Some c) at) in
    let one : p + 1 ≡ p + suc 0 = omega arith in
    ap (λ (n : ℕ). Some (next_in n (p + 1) xs)) same ∙ ap (λ (n : ℕ). Some (next_in c n xs)) one
chain_at p (None ∷ xs) (suc i) c at =
    (let same : p + 1 + suc i ≡ p + suc (suc i) = omega arith in
    chain_at (p + 1) xs i c at ∙ ap (λ (n : ℕ). Some (next_in c n (drop (suc i) xs))) same)
chain_at p (Some d ∷ xs) (suc i) c at =
    (let same : p + 1 + suc i ≡ p + suc (suc i) = omega arith in
    chain_at (p + 1) xs i c at ∙ ap (λ (n : ℕ). Some (next_in c n (drop (suc i) xs))) same)

-- ## Look-ups

-- the symbol behind another one
abbrev pub after : List (Option ℕ) → Option ℕ → Option ℕ
after xs None = None
after xs (Some i) = if i == 0 then None else slice_get (chains 0 xs) i

-- the k-th symbol that a look-up in a bucket comes to
unfoldable pub visited : ℕ → List (Option ℕ) → ℕ → Option ℕ
visited b xs zero = Some (next_in b 0 xs)
visited b xs (suc k) = after xs (visited b xs k)

step : (xs : List (Option ℕ)) (b k m : ℕ) → visited b xs k ≡ Some m → m ≢ 0 → slice_get xs m ≡ Some (Some b)
    → visited b xs (suc k) ≡ Some (next_in b (suc m) (drop (suc m) xs))
unfolding visited
step xs b k m at some there =
    ap (after xs) at
    ∙ ap (λ (t : Bool). if t then None else slice_get (chains 0 xs) m) (ne_eqb m 0 some)
    ∙ chain_at 0 xs m b there ∙ (let same : 0 + suc m ≡ suc m = omega arith in ap (λ (n : ℕ). Some (next_in b n (drop (suc m) xs))) same)

-- what a look-up comes to stands in the bucket, if the symbol before did
comes : (b : ℕ) (xs : List (Option ℕ)) (m i : ℕ) → i ≢ 0 → (m ≢ 0 → slice_get xs m ≡ Some (Some b)) → after xs (Some m) ≡ Some i
    → slice_get xs i ≡ Some (Some b)
comes b xs m i some before now = by_test (m == 0) refl now
  where
    by_test : (t : Bool) → (m == 0) ≡ t → (if t then None else slice_get (chains 0 xs) m) ≡ Some i → slice_get xs i ≡ Some (Some b)
    by_test true is h = absurd (none-some i h)
    by_test false is h =
        let nonzero : m ≢ 0 = λ z. false≢true (sym is ∙ eq-eqb m 0 z) in
        let told : next_in b (0 + suc m) (drop (suc m) xs) ≡ i =
        same_Some (next_in b (0 + suc m) (drop (suc m) xs)) i (sym (chain_at 0 xs m b (before nonzero)) ∙ h) in
        let (d, is_at, there) = next_is b (0 + suc m) (drop (suc m) xs) i told some in
        let same : i ≡ suc m + d = omega (arith, is_at) in
        ap (slice_get xs) same ∙ sym (slice_get-drop xs (suc m) d) ∙ there

pub visits_only : (b : ℕ) (xs : List (Option ℕ)) (k i : ℕ) → i ≢ 0 → visited b xs k ≡ Some i → slice_get xs i ≡ Some (Some b)
unfolding visited
visits_only b xs zero i some at =
    let (d, is, there) = next_is b 0 xs i (same_Some (next_in b 0 xs) i at) some in
    let same : i ≡ d = omega (arith, is) in
    ap (slice_get xs) same ∙ there
visits_only b xs (suc k) i some at = by_before (visited b xs k) refl at (λ m nonzero before. visits_only b xs k m nonzero before)
  where
    by_before : (o : Option ℕ) → visited b xs k ≡ o → after xs o ≡ Some i
        → ((m : ℕ) → m ≢ 0 → visited b xs k ≡ Some m → slice_get xs m ≡ Some (Some b)) → slice_get xs i ≡ Some (Some b)
    by_before None before now all = absurd (none-some i now)
    by_before (Some m) before now all = comes b xs m i some (λ nonzero. all m nonzero before) now

-- no bucket has the first symbol
abbrev pub IsFirstInNone : List (Option ℕ) → Type 0
IsFirstInNone xs = (b : ℕ) → slice_get xs 0 ≡ Some (Some b) → ⊥

-- a symbol of a bucket isn't the first
pub not_first : (xs : List (Option ℕ)) (b m : ℕ) → IsFirstInNone xs → slice_get xs m ≡ Some (Some b) → m ≢ 0
not_first xs b zero none h = λ z. none b h
not_first xs b (suc m) none h = λ z. omega (arith, z)

-- from a place on, every symbol of the bucket is come to
reach : (fuel b : ℕ) (xs : List (Option ℕ)) (p k i : ℕ) → IsFirstInNone xs → i < p + fuel → p ≤ i
    → visited b xs k ≡ Some (next_in b p (drop p xs)) → slice_get xs i ≡ Some (Some b)
    → (n : ℕ) × (visited b xs n ≡ Some i)
reach zero b xs p k i none less at_most at there = absurd (omega (arith, less, at_most))
reach (suc fuel) b xs p k i none less at_most at there =
    let back : p + (i - p) ≡ i = omega (arith, at_most) in
    let behind : slice_get (drop p xs) (i - p) ≡ Some (Some b) = slice_get-drop xs p (i - p) ∙ ap (slice_get xs) back ∙ there in
    let (e, within, told, here) = next_there b p (drop p xs) (i - p) behind in
    let at_q : visited b xs k ≡ Some (p + e) = at ∙ ap (λ (n : ℕ). Some n) told in
    let q_there : slice_get xs (p + e) ≡ Some (Some b) = sym (slice_get-drop xs p e) ∙ here in
    elim (cases_lt (p + e) i) [
      | inl before ↦
          let next = step xs b k (p + e) at_q (not_first xs b (p + e) none q_there) q_there in
          reach fuel b xs (suc (p + e)) (suc k) i none (omega (arith, less)) (omega (arith, before)) next there
      | inr past ↦ let same : p + e ≡ i = omega (arith, within, back, past) in (k, at_q ∙ ap (λ (n : ℕ). Some n) same)
    ]

pub visits_all : (b : ℕ) (xs : List (Option ℕ)) (i : ℕ) → IsFirstInNone xs → slice_get xs i ≡ Some (Some b) → (k : ℕ) × (visited b xs k ≡ Some i)
unfolding visited
visits_all b xs i none there = reach (i + 1) b xs 0 0 i none (omega arith) (omega arith) refl there

-- from a place on, the chain ends
stop : (fuel b : ℕ) (xs : List (Option ℕ)) (p k : ℕ) → IsFirstInNone xs → length xs ≤ p + fuel
    → visited b xs k ≡ Some (next_in b p (drop p xs))
    → (n : ℕ) × (n ≤ k + fuel) × (visited b xs n ≡ Some 0)
stop zero b xs p k none fits at = by_next (next_in b p (drop p xs)) refl
  where
    by_next : (j : ℕ) → next_in b p (drop p xs) ≡ j → (n : ℕ) × (n ≤ k + 0) × (visited b xs n ≡ Some 0)
    by_next zero e = (k, omega arith, at ∙ ap (λ (n : ℕ). Some n) e)
    by_next (suc j) e =
        let (d, is, there) = next_is b p (drop p xs) (suc j) e (λ z. omega (arith, z)) in
        let inside : p + d < length xs = slice_get_within xs (p + d) (Some b) (sym (slice_get-drop xs p d) ∙ there) in
        absurd (omega (arith, fits, inside))
stop (suc fuel) b xs p k none fits at =
    by_next (next_in b p (drop p xs)) refl (λ j fits' next. stop fuel b xs (suc j) (suc k) none fits' next)
  where
    by_next : (j : ℕ) → next_in b p (drop p xs) ≡ j
        → ((i : ℕ) → length xs ≤ suc i + fuel → visited b xs (suc k) ≡ Some (next_in b (suc i) (drop (suc i) xs)) → (n : ℕ) × (n ≤ suc k + fuel) × (visited b xs n ≡ Some 0))
        → (n : ℕ) × (n ≤ k + suc fuel) × (visited b xs n ≡ Some 0)
    by_next zero e again = (k, omega arith, at ∙ ap (λ (n : ℕ). Some n) e)
    by_next (suc j) e again =
        let some : suc j ≢ 0 = λ z. omega (arith, z) in
        let (d, is, there) = next_is b p (drop p xs) (suc j) e some in
        let here : slice_get xs (suc j) ≡ Some (Some b) = ap (slice_get xs) is ∙ sym (slice_get-drop xs p d) ∙ there in
        let next = step xs b k (suc j) (at ∙ ap (λ (n : ℕ). Some n) e) some here in
        let (n, within, zeroed) = again (suc j) (omega (arith, fits, is)) next in
        (n, omega (arith, within), zeroed)

-- each chain ends within as many steps as there are symbols
pub visits_end : (b : ℕ) (xs : List (Option ℕ)) → IsFirstInNone xs → (k : ℕ) × (k ≤ length xs) × (visited b xs k ≡ Some 0)
unfolding visited
visits_end b xs none =
    let (n, within, zeroed) = stop (length xs) b xs 0 0 none (omega arith) refl in
    (n, omega (arith, within), zeroed)

-- How many program headers sections that move can need.
use Rattle.std.proofs.Common.{◌≡◌, ℕ, ◌+◌, ◌≤◌, Bool, true, false, not, ◌&&◌, ◌||◌, ◌⊎◌, List, [], ◌∷◌, map, length, refl, sym, ap, subst, inl, inr, arith, cond}
use Rattle.std.specs.Prelude.{count_by, filter, ◌==◌, if◌then◌else◌}
use Rattle.std.proofs.lemmas.Bool.{true≢false}
use Rattle.std.proofs.lemmas.List.Sums.{length-filter}
use Rattle.elf_format.specs.declared.constants.TheConstants.{PF_X, PT_LOAD, SHF_EXECINSTR, SHF_WRITE, SHT_NOTE}
use Rattle.elf_format.specs.declared.records.SegmentHeader.{SegmentHeader}
use Rattle.elf_format.specs.File.{is_loaded}
use Rattle.elf_format.specs.Image.{ImageSection}
use Rattle.elf_format.specs.Places.{is_set}
use Rattle.elf_layout_plan.specs.declared.constants.TheConstants.{PF_R, PF_W}
use Rattle.elf_layout_plan.specs.Anchors.{Itself, Anchor, is_parted, is_split, anchor_of}
use Rattle.elf_layout_plan.specs.Memory.{Resized, SizedSection}
use Rattle.elf_layout_plan.specs.Plan.{most_added}
use Rattle.elf_layout_plan.specs.Rounds.{added_flags, each_once, flags_for, headers_needed, sections_at}

-- ## Splits

-- where one test passes only what another one passes, no more pass it
filter-le : {A : Type 0} (p q : A → Bool) → ((x : A) → p x ≡ true → q x ≡ true) → (xs : List A) → length (filter p xs) ≤ length (filter q xs)
filter-le p q more [] = omega arith
filter-le {A} p q more (x ∷ xs) = by_test (p x) (q x) (more x) (filter p xs) (filter q xs) (filter-le p q more xs)
  where
    by_test : (a b : Bool) → (a ≡ true → b ≡ true) → (ms ns : List A) → length ms ≤ length ns → length (cond a (x ∷ ms) ms) ≤ length (cond b (x ∷ ns) ns)
    by_test true true h ms ns le = omega (arith, le)
    by_test true false h ms ns le = absurd (true≢false (sym (h refl)))
    by_test false true h ms ns le = omega (arith, le)
    by_test false false h ms ns le = le

count_by-le : {A : Type 0} (p q : A → Bool) → ((x : A) → p x ≡ true → q x ≡ true) → (xs : List A) → count_by p xs ≤ count_by q xs
count_by-le p q more xs = omega (arith, length-filter p xs, length-filter q xs, filter-le p q more xs)

-- no program header that is loaded is split
split_isnt_loaded : (r : Resized) (moved : List ℕ) (p : SegmentHeader) → is_split r moved p ≡ true → not (is_loaded p) ≡ true
unfolding is_split anchor_of
split_isnt_loaded r moved p h = by_type (p.p_type == PT_LOAD) _ h
  where
    by_type : (loaded : Bool) (other : Anchor) → is_parted moved (cond loaded Itself other) ≡ true → not loaded ≡ true
    by_type true other h = absurd (true≢false (sym h))
    by_type false other h = refl

-- ## Sets of flags

-- one of the four sets of flags: read, with write or execute or both
IsFlags : ℕ → Type 0
IsFlags n = (n ≡ 4) ⊎ ((n ≡ 5) ⊎ ((n ≡ 6) ⊎ (n ≡ 7)))

flags_are : (leave : Bool) (s : ImageSection) → IsFlags (flags_for leave s)
unfolding IsFlags
flags_are leave s = by_tests (s.sh_type == SHT_NOTE) (leave || is_set SHF_WRITE s.sh_flags) (is_set SHF_EXECINSTR s.sh_flags)
  where
    by_tests : (note writes runs : Bool) → IsFlags (if note then PF_R else PF_R + (if writes then PF_W else 0) + (if runs then PF_X else 0))
    by_tests true writes runs = inl refl
    by_tests false false false = inl refl
    by_tests false false true = inr (inl refl)
    by_tests false true false = inr (inr (inl refl))
    by_tests false true true = inr (inr (inr refl))

-- how many of the four sets pass a test
passing : (ℕ → Bool) → ℕ
passing p = cond (p 4) 1 0 + cond (p 5) 1 0 + cond (p 6) 1 0 + cond (p 7) 1 0

filter_twice : (p q : ℕ → Bool) (ns : List ℕ) → filter p (filter q ns) ≡ filter (λ m. q m && p m) ns
filter_twice p q [] = refl
filter_twice p q (n ∷ ns) = by_test (q n) (filter_twice p q ns)
  where
    by_test : (a : Bool) → filter p (filter q ns) ≡ filter (λ m. q m && p m) ns
        → filter p (cond a (n ∷ filter q ns) (filter q ns)) ≡ cond (a && p n) (n ∷ filter (λ m. q m && p m) ns) (filter (λ m. q m && p m) ns)
    by_test true rest = ap (λ ms. cond (p n) (n ∷ ms) ms) rest
    by_test false rest = rest

-- a set and others, of which it is none: no more pass a test than of the four
module _ (p : ℕ → Bool) (ns : List ℕ) (others : (q : ℕ → Bool) → length (filter q ns) ≤ passing q) where
  Fits : ℕ → Type 0
  Fits n = length (filter p (n ∷ filter (λ m. not (m == n)) ns)) ≤ passing p

  rest-le : (n : ℕ) → length (filter p (filter (λ m. not (m == n)) ns)) ≤ passing (λ m. not (m == n) && p m)
  rest-le n = let P : List ℕ → Type 0 = λ ms. length ms ≤ passing (λ m. not (m == n) && p m) in
      subst P (sym (filter_twice p (λ m. not (m == n)) ns)) (others (λ m. not (m == n) && p m))

  add-le : (n : ℕ) (ms : List ℕ) (b : Bool) (k l : ℕ) → length ms ≤ k → cond b 1 0 + k ≤ l → length (cond b (n ∷ ms) ms) ≤ l
  add-le n ms true k l le more = omega (arith, le, more)
  add-le n ms false k l le more = omega (arith, le, more)

  fits : (n : ℕ) → IsFlags n → Fits n
  unfolding IsFlags Fits passing
  fits n (inl e) = subst Fits (sym e) (add-le 4 _ (p 4) _ (passing p) (rest-le 4) (omega arith))
  fits n (inr (inl e)) = subst Fits (sym e) (add-le 5 _ (p 5) _ (passing p) (rest-le 5) (omega arith))
  fits n (inr (inr (inl e))) = subst Fits (sym e) (add-le 6 _ (p 6) _ (passing p) (rest-le 6) (omega arith))
  fits n (inr (inr (inr e))) = subst Fits (sym e) (add-le 7 _ (p 7) _ (passing p) (rest-le 7) (omega arith))

each_once-le : (leave : Bool) (sections : List SizedSection) (p : ℕ → Bool) → length (filter p (each_once (map (λ s. flags_for leave s.kept.section) sections))) ≤ passing p
unfolding each_once passing Fits
each_once-le leave [] p = omega arith
each_once-le leave (s ∷ ss) p = fits p (each_once (map (λ t. flags_for leave t.kept.section) ss)) (each_once-le leave ss) (flags_for leave s.kept.section) (flags_are leave s.kept.section)

filter-all : (ns : List ℕ) → filter (λ _. true) ns ≡ ns
filter-all [] = refl
filter-all (n ∷ ns) = ap (λ ms. n ∷ ms) (filter-all ns)

flags-le : (r : Resized) (moved : List ℕ) → length (added_flags r moved) ≤ 4
unfolding passing
flags-le r moved = let P : List ℕ → Type 0 = λ ns. length ns ≤ 4 in
    subst P (filter-all (added_flags r moved)) (each_once-le r.image.moves_dynamic (sections_at r moved) (λ _. true))

-- ## Both

pub headers_needed-le : (r : Resized) (moved : List ℕ) → headers_needed r moved ≤ most_added r.image
unfolding headers_needed
headers_needed-le r moved =
    omega (arith, flags-le r moved, count_by-le (is_split r moved) (λ p. not (is_loaded p)) (split_isnt_loaded r moved) r.image.segments)

-- A tree over where sections come to stand gives the joined places of those that begin in a range.
use Rattle.std.proofs.Common.{◌≡◌, ℕ, zero, suc, ◌+◌, ◌-◌, ◌*◌, ◌/◌, ◌%◌, ◌<◌, ◌≤◌, Bool, true, false, ◌&&◌, ◌⊎◌, inl, inr, List, [], ◌∷◌, ◌++◌, map, length, take, get_or, refl, sym, ap, ◌∙◌, subst, Option, None, arith}
use Rattle.std.specs.Prelude.{if◌then◌else◌, nat_le, nat_lt}
use Rattle.std.proofs.lemmas.Bool.{cases_lt, le-leb, lt-leb, ltb-false, ltb-true}
use Rattle.std.proofs.lemmas.List.{get_or-append_right, get_or_append_left, length-append, length-map, take-append-le, take_all}
use Rattle.elf_format.specs.Places.{Place}
use Rattle.elf_format.specs.Ranges.{end_of}
use Rattle.elf_format.specs.declared.range.Range.{Range}
use Rattle.elf_layout_segments.specs.declared.starts.Begin.{Begin}
use Rattle.elf_layout_segments.specs.InOrder.{is_in}
use Rattle.elf_layout.specs.declared.reaches.Reach.{Reach}
use Rattle.elf_layout.specs.Reaches.{BeginBefore, IsTree, IsTreeOver, JoinsTwo, joined, joined_all, over, reach_at, reach_in, reach_of_begin}
use Rattle.elf_layout.proofs.ReachLaws.{joined-group, joined_all-cons, over_first, over_last, over_none}

-- ## Entries that join two

-- twice as many entries further in front join to the same
pub halved : (n : ℕ) (tree : List (Option Reach)) → JoinsTwo n tree → (m a low high left right : ℕ)
    → low ≡ 2 * a → high ≡ 2 * (a + m) → left ≡ n + a → right ≡ n + (a + m) → high ≤ length tree → right ≤ length tree
    → over tree low high ≡ over tree left right
halved n tree two zero a low high left right lo hi le ri fits fit =
    over_none tree low high (omega (arith, lo, hi)) ∙ sym (over_none tree left right (omega (arith, le, ri)))
halved n tree two (suc m) a low high left right lo hi le ri fits fit =
    let x : Option Reach = get_or tree low None in
    let y : Option Reach = get_or tree (suc low) None in
    let rest : Option Reach = over tree (suc (suc low)) high in
    let inside : n + a < length tree = omega (arith, ri, fit) in
    let z : get_or tree left None ≡ joined x y =
    ap (λ i. get_or tree i None) le ∙ two.joins a inside
    ∙ ap (λ i. joined (get_or tree i None) (get_or tree (2 * a + 1) None)) (sym lo)
    ∙ ap (λ i. joined x (get_or tree i None)) (let e : 2 * a + 1 ≡ suc low = omega (arith, lo) in e) in
    over_first tree low high (omega (arith, lo, hi)) fits
    ∙ ap (joined x) (over_first tree (suc low) high (omega (arith, lo, hi)) fits)
    ∙ sym (joined-group x y rest)
    ∙ ap (joined (joined x y)) (halved n tree two m (a + 1) (suc (suc low)) high (suc left) right (omega (arith, lo)) (omega (arith, hi)) (omega (arith, le)) (omega (arith, ri)) fits fit)
    ∙ ap (λ o. joined o (over tree (suc left) right)) (sym z)
    ∙ sym (over_first tree left right (omega (arith, le, ri)) fit)

-- ## Steps of a walk

pub first_more : (tree : List (Option Reach)) (low high : ℕ) → low < high → high ≤ length tree → joined (get_or tree low None) (over tree (low + 1) high) ≡ over tree low high
first_more tree low high some fits =
    ap (λ n. joined (get_or tree low None) (over tree n high)) (let e : low + 1 ≡ suc low = omega arith in e) ∙ sym (over_first tree low high some fits)

pub last_more : (tree : List (Option Reach)) (low high : ℕ) → low < high → high ≤ length tree → joined (over tree low (high - 1)) (get_or tree (high - 1) None) ≡ over tree low high
last_more tree low high some fits =
    sym (over_last tree low (high - 1) (omega (arith, some)) (omega (arith, some, fits))) ∙ ap (over tree low) (let e : suc (high - 1) ≡ high = omega (arith, some) in e)

pub halves : (n : ℕ) (tree : List (Option Reach)) (low high : ℕ) → IsTree n tree → low < high → high ≤ length tree → (low % 2 ≡ 1 → ⊥) → (high % 2 ≡ 1 → ⊥)
    → over tree (n + low / 2) (n + high / 2) ≡ over tree low high
halves n tree low high is some fits even also =
    let long : length tree ≡ n + (n - 1) = is.long in
    sym (halved n tree is.two (high / 2 - low / 2) (low / 2) low high (n + low / 2) (n + high / 2)
    (omega (arith, even)) (omega (arith, some, even, also)) refl (omega (arith, some)) fits (omega (arith, some, fits, long, also)))

-- one joined entry more
pub joins_more : (n k : ℕ) (tree : List (Option Reach)) (x : Option Reach) → JoinsTwo n tree → length tree ≡ n + k → k + 1 < n
    → x ≡ joined (get_or tree (2 * k) None) (get_or tree (2 * k + 1) None) → JoinsTwo n (tree ++ x ∷ [])
joins_more n k tree x two long within is = record { joins = λ j h. by_place j (omega (arith, h, length-append tree (x ∷ []), long)) (cases_lt j k) }
  where
    old : (i : ℕ) → i < length tree → get_or (tree ++ x ∷ []) i None ≡ get_or tree i None
    old i h = get_or_append_left tree (x ∷ []) None i h

    both : (j : ℕ) → 2 * j + 1 < length tree
        → joined (get_or tree (2 * j) None) (get_or tree (2 * j + 1) None) ≡ joined (get_or (tree ++ x ∷ []) (2 * j) None) (get_or (tree ++ x ∷ []) (2 * j + 1) None)
    both j h =
        ap (λ o. joined o (get_or tree (2 * j + 1) None)) (sym (old (2 * j) (omega (arith, h))))
        ∙ ap (joined (get_or (tree ++ x ∷ []) (2 * j) None)) (sym (old (2 * j + 1) h))

    last : get_or (tree ++ x ∷ []) (n + k) None ≡ x
    last =
        get_or-append_right tree (x ∷ []) (n + k) (n + k) None long (omega arith)
        ∙ ap (λ (i : ℕ). get_or (x ∷ []) i None) (let e : (n + k) - (n + k) ≡ 0 = omega arith in e)

    by_place : (j : ℕ) → j ≤ k → (j < k) ⊎ (k ≤ j)
        → get_or (tree ++ x ∷ []) (n + j) None ≡ joined (get_or (tree ++ x ∷ []) (2 * j) None) (get_or (tree ++ x ∷ []) (2 * j + 1) None)
    by_place j upto (inl less) =
        old (n + j) (omega (arith, less, long)) ∙ two.joins j (omega (arith, less, long)) ∙ both j (omega (arith, less, long, within))
    by_place j upto (inr more) =
        let same : k ≡ j = omega (arith, upto, more) in
        subst (λ i. get_or (tree ++ x ∷ []) (n + i) None ≡ joined (get_or (tree ++ x ∷ []) (2 * i) None) (get_or (tree ++ x ∷ []) (2 * i + 1) None)) same
        (last ∙ is ∙ both k (omega (arith, long, within)))

-- the entries in front alone tell what those up to a place join to
pub over_take : (n : ℕ) (xs : List (Option Reach)) (low high : ℕ) → high ≤ n → over xs low high ≡ over (take n xs) low high
unfolding over
over_take zero xs low high h = over_none xs low high (omega (arith, h)) ∙ sym (over_none (take 0 xs) low high (omega (arith, h)))
over_take (suc n) [] low high h = refl
over_take (suc n) (x ∷ xs) zero zero h = refl
over_take (suc n) (x ∷ xs) zero (suc high) h = ap (joined x) (over_take n xs zero high (omega (arith, h)))
over_take (suc n) (x ∷ xs) (suc low) zero h = refl
over_take (suc n) (x ∷ xs) (suc low) (suc high) h = over_take n xs low high (omega (arith, h))

-- ## Those that begin in a range

-- the sections that begin in a range are those from one place on up to another
record AreBetween (part : Range) (xs : List Begin) (low high : ℕ) : Type 0 where
  inside : (i : ℕ) (d : Begin) → low ≤ i → i < high → i < length xs → is_in part (get_or xs i d).start ≡ true
  before : (i : ℕ) (d : Begin) → i < low → i < length xs → is_in part (get_or xs i d).start ≡ false
  behind : (i : ℕ) (d : Begin) → high ≤ i → i < length xs → is_in part (get_or xs i d).start ≡ false

between_tail : (part : Range) (x : Begin) (xs : List Begin) (low high left right : ℕ) → low ≤ left + 1 → left ≤ low - 1 → high ≤ right + 1 → right ≤ high - 1
    → AreBetween part (x ∷ xs) low high → AreBetween part xs left right
between_tail part x xs low high left right a b c e h = record {
  inside = λ i d l u n. h.inside (suc i) d (omega (arith, a, l)) (omega (arith, e, u)) (omega (arith, n));
  before = λ i d u n. h.before (suc i) d (omega (arith, b, u)) (omega (arith, n));
  behind = λ i d l n. h.behind (suc i) d (omega (arith, c, l)) (omega (arith, n));
}

module _ (all : List Place) (part : Range) where
  joined_first : (b : Bool) (x : Begin) (xs : List Begin) → is_in part x.start ≡ b
      → joined_all (map (reach_in all part) (x ∷ xs)) ≡ joined (if b then reach_at all x.position else None) (joined_all (map (reach_in all part) xs))
  joined_first b x xs e =
      joined_all-cons (reach_in all part x) (map (reach_in all part) xs)
      ∙ ap (λ (c : Bool). joined (if c then reach_at all x.position else None) (joined_all (map (reach_in all part) xs))) e

  over_between : (xs : List Begin) (low high : ℕ) → AreBetween part xs low high
      → over (map (reach_of_begin all) xs) low high ≡ joined_all (map (reach_in all part) xs)
  unfolding over
  over_between [] low high h = refl
  over_between (x ∷ xs) zero zero h =
      sym (over_none (map (reach_of_begin all) xs) 0 0 (omega arith))
      ∙ over_between xs 0 0 (between_tail part x xs 0 0 0 0 (omega arith) (omega arith) (omega arith) (omega arith) h)
      ∙ sym (joined_first false x xs (h.behind 0 x (omega arith) (omega arith)))
  over_between (x ∷ xs) zero (suc high) h =
      ap (joined (reach_at all x.position)) (over_between xs 0 high (between_tail part x xs 0 (suc high) 0 high (omega arith) (omega arith) (omega arith) (omega arith) h))
      ∙ sym (joined_first true x xs (h.inside 0 x (omega arith) (omega arith) (omega arith)))
  over_between (x ∷ xs) (suc low) zero h =
      sym (over_none (map (reach_of_begin all) xs) low 0 (omega arith))
      ∙ over_between xs low 0 (between_tail part x xs (suc low) 0 low 0 (omega arith) (omega arith) (omega arith) (omega arith) h)
      ∙ sym (joined_first false x xs (h.before 0 x (omega arith) (omega arith)))
  over_between (x ∷ xs) (suc low) (suc high) h =
      over_between xs low high (between_tail part x xs (suc low) (suc high) low high (omega arith) (omega arith) (omega arith) (omega arith) h)
      ∙ sym (joined_first false x xs (h.before 0 x (omega arith) (omega arith)))

  and_false : (b c : Bool) → c ≡ false → (b && c) ≡ false
  and_false true c e = e
  and_false false c e = refl

  are_between : (xs : List Begin) (low high : ℕ) → BeginBefore xs part.start low → BeginBefore xs (end_of part) high → AreBetween part xs low high
  are_between xs low high a b = record {
    inside = λ i d l u n.
        let s : ℕ = (get_or xs i d).start in
        ap (λ (t : Bool). t && nat_lt s (end_of part)) (le-leb part.start s (ltb-false s part.start (a.behind i d l n))) ∙ b.before i d (omega arith) u;
    before = λ i d u n.
        let s : ℕ = (get_or xs i d).start in
        ap (λ (t : Bool). t && nat_lt s (end_of part)) (lt-leb part.start s (ltb-true s part.start (a.before i d (omega arith) u)));
    behind = λ i d l n.
        let s : ℕ = (get_or xs i d).start in
        and_false (nat_le part.start s) (nat_lt s (end_of part)) (b.behind i d l n);
  }

  -- a tree gives the joined places of those that begin in a range
  pub over_range : (xs : List Begin) (tree : List (Option Reach)) (low high : ℕ) → take (length xs) tree ≡ map (reach_of_begin all) xs
      → BeginBefore xs part.start low → BeginBefore xs (end_of part) high → over tree low high ≡ joined_all (map (reach_in all part) xs)
  over_range xs tree low high front a b =
      over_take (length xs) tree low high b.within ∙ ap (λ l. over l low high) front ∙ over_between xs low high (are_between xs low high a b)

-- ## A tree that is made

-- so many entries of a tree stand behind those of the sections
pub record IsTreeUpTo (all : List Place) (begins : List Begin) (k : ℕ) (tree : List (Option Reach)) : Type 0 where
  pub long : length tree ≡ length begins + k
  pub front : take (length begins) tree ≡ map (reach_of_begin all) begins
  pub two : JoinsTwo (length begins) tree

pub tree_begun : (all : List Place) (begins : List Begin) (tree : List (Option Reach)) → tree ≡ map (reach_of_begin all) begins → IsTreeUpTo all begins 0 tree
tree_begun all begins tree is =
    let long : length tree ≡ length begins = ap length is ∙ length-map begins (reach_of_begin all) in
    record {
      long = omega (arith, long);
      front = take_all (length begins) tree (omega (arith, long)) ∙ is;
      two = record { joins = λ k h. absurd (omega (arith, h, long)) };
    }

pub tree_more : (all : List Place) (begins : List Begin) (k : ℕ) (tree : List (Option Reach)) (x : Option Reach) → IsTreeUpTo all begins k tree → k < length begins - 1
    → x ≡ joined (get_or tree (2 * k) None) (get_or tree (2 * k + 1) None) → IsTreeUpTo all begins (k + 1) (tree ++ x ∷ [])
tree_more all begins k tree x so within is = record {
  long = omega (arith, length-append tree (x ∷ []), so.long);
  front = take-append-le (length begins) tree (x ∷ []) (omega (arith, so.long)) ∙ so.front;
  two = joins_more (length begins) k tree x so.two so.long (omega (arith, within)) is;
}

pub tree_done : (all : List Place) (begins : List Begin) (k : ℕ) (tree : List (Option Reach)) → IsTreeUpTo all begins k tree → k ≡ length begins - 1 → IsTreeOver all begins tree
tree_done all begins k tree so e = record {
  front = so.front;
  is_tree = record { long = so.long ∙ ap (λ n. length begins + n) e; two = so.two };
}

-- What the walk over blocks knows once it has come so far, and each of its steps.
use Rattle.std.proofs.Common.{◌≡◌, ◌≢◌, ℕ, ◌+◌, ◌<◌, ◌≤◌, ◌⊎◌, List, [], ◌∷◌, Bool, true, false, ◌&&◌, Some, length, zero, suc, refl, sym, ap, ◌∙◌, subst, inl, inr, set, length-set, get_or, arith}
use Rattle.std.specs.Prelude.{All, nat_le, nat_lt, slice_get}
use Rattle.std.proofs.lemmas.Bool.{and_from, and_left, and_right, cases_eq, le-leb, le-ltb, lt-ltb}
use Rattle.std.proofs.lemmas.List.{get_or-set_other, get_or-set_same}
use Rattle.std.proofs.lemmas.Option.{get_or_from_slice_get, same_Some, slice_get-get_or, slice_get_within}
use Rattle.elf_layout_plan.specs.declared.block.Block.{Block}
use Rattle.elf_layout_plan.specs.MovedBlocks.{EarlierMoves, HasStuck, IsApart, IsOrdered, IsStuck, LaterMoves, MoveForCause, Pair, StayApart, earlier_moves, end_of, later_moves, marks_of}
use Rattle.elf_layout_plan.proofs.MarkSteps.{IsMarked, marking_ends, marking_on, marking_over, marking_starts}

-- ## Marks

marked_there : (marks : List Bool) (i : ℕ) → i < length marks → slice_get (set marks i true) i ≡ Some true
marked_there marks i within =
    slice_get-get_or (set marks i true) i true (omega (arith, length-set marks i true)) ∙ ap Some (get_or-set_same marks i true true within)

kept_elsewhere : (marks : List Bool) (i j : ℕ) → j ≢ i → slice_get (set marks i true) j ≡ slice_get marks j
kept_elsewhere [] i j apart = refl
kept_elsewhere (m ∷ marks) zero zero apart = absurd (apart refl)
kept_elsewhere (m ∷ marks) zero (suc j) apart = refl
kept_elsewhere (m ∷ marks) (suc i) zero apart = refl
kept_elsewhere (m ∷ marks) (suc i) (suc j) apart = kept_elsewhere marks i j (λ same. apart (ap suc same))

-- what is unmarked after one more mark was so before, and isn't where that mark stands
still_unmarked : (marks : List Bool) (i k : ℕ) → i < length marks → slice_get (set marks i true) k ≡ Some false
    → (k ≢ i) × (slice_get marks k ≡ Some false)
still_unmarked marks i k within free =
    elim (cases_eq k i) [
      | inl same ↦
          let there : slice_get (set marks i true) k ≡ Some true = subst (λ (j : ℕ). slice_get (set marks i true) j ≡ Some true) (sym same) (marked_there marks i within) in
          let no : ⊥ = cc (free, there) in
          absurd no
      | inr apart ↦ (apart, sym (kept_elsewhere marks i k apart) ∙ free)
    ]

-- what is marked after one more mark was so before, or stands there
marked_before : (marks : List Bool) (i k : ℕ) → slice_get (set marks i true) k ≡ Some true → (k ≡ i) ⊎ (slice_get marks k ≡ Some true)
marked_before marks i k marked =
    elim (cases_eq k i) [
      | inl same ↦ inl same
      | inr apart ↦ inr (sym (kept_elsewhere marks i k apart) ∙ marked)
    ]

-- ## How two blocks meet

apart_tests : (a b : Block) → IsApart a b → (earlier_moves a b ≡ false) × (later_moves a b ≡ false)
apart_tests a b apart =
    let past : nat_lt b.start (end_of a) ≡ false = le-ltb b.start (end_of a) apart in (
      and_left (nat_lt b.start (end_of a) && nat_lt 0 a.priority) (nat_le b.priority a.priority) (and_left (nat_lt b.start (end_of a)) (nat_lt 0 a.priority) past),
      and_left (nat_lt b.start (end_of a)) (nat_lt a.priority b.priority) past,
    )

earlier_tests : (a b : Block) → EarlierMoves a b → (earlier_moves a b ≡ true) × (later_moves a b ≡ false)
earlier_tests a b m = (
  and_from (nat_lt b.start (end_of a) && nat_lt 0 a.priority) (nat_le b.priority a.priority)
      (and_from (nat_lt b.start (end_of a)) (nat_lt 0 a.priority) (lt-ltb b.start (end_of a) m.overlap) (lt-ltb 0 a.priority m.can))
      (le-leb b.priority a.priority m.readily),
  and_right (nat_lt b.start (end_of a)) (nat_lt a.priority b.priority) (le-ltb a.priority b.priority m.readily),
)

later_tests : (a b : Block) → LaterMoves a b → later_moves a b ≡ true
later_tests a b m =
    and_from (nat_lt b.start (end_of a)) (nat_lt a.priority b.priority) (lt-ltb b.start (end_of a) m.overlap) (lt-ltb a.priority b.priority m.readily)

-- ## The walk

-- The walk has come to a block: what it knows of those before, of which one was the last that stays.
pub record IsWalked (blocks : List Block) (moves : List Bool) (last next : ℕ) : Type 0 where
  pub before : last < next
  -- the blocks behind aren't marked yet
  pub ahead : (k : ℕ) → next ≤ k → k < length blocks → slice_get moves k ≡ Some false
  pub last_stays : last < length blocks → slice_get moves last ≡ Some false
  -- each other one that stays ends before the last one starts
  pub behind : (k : ℕ) (c l : Block) → k < next → k ≢ last → slice_get moves k ≡ Some false → slice_get blocks k ≡ Some c
      → slice_get blocks last ≡ Some l → end_of c ≤ l.start
  pub apart : (p : Pair blocks) → p.second < next → slice_get moves p.first ≡ Some false → slice_get moves p.second ≡ Some false
      → IsApart p.earlier p.later
  pub causes : MoveForCause blocks moves
  -- what can't move isn't marked
  pub fixed : (k : ℕ) (c : Block) → slice_get blocks k ≡ Some c → c.priority ≡ 0 → slice_get moves k ≡ Some false
  -- the marks so far are those that all blocks have, looked through in their order
  pub marked : IsMarked earlier_moves later_moves blocks moves last next

pub walk_starts : (blocks : List Block) (moves : List Bool) → length moves ≡ length blocks → All (λ (moved : Bool). moved ≡ false) moves
    → IsWalked blocks moves 0 1
walk_starts blocks moves long unmarked =
    let still : (k : ℕ) → k < length blocks → slice_get moves k ≡ Some false =
    λ k within. slice_get-get_or moves k false (omega arith) ∙ ap Some (unmarked k false (omega arith)) in
    record {
      before = omega arith;
      ahead = λ k late within. still k within;
      last_stays = still 0;
      behind = λ k c l early other free there at. absurd (other (omega arith));
      apart = λ p early first second. absurd (omega (arith, p.ordered));
      causes = λ k marked.
          let within : k < length blocks = omega (arith, slice_get_within moves k true marked) in
          let free = still k within in
          let no : ⊥ = cc (free, marked) in
          absurd no;
      fixed = λ k c there stays. still k (slice_get_within blocks k c there);
      marked = marking_starts earlier_moves later_moves blocks moves;
    }

module _ (blocks : List Block) (moves : List Bool) (last next : ℕ) (l b : Block) (ordered : IsOrdered blocks) (long : length moves ≡ length blocks)
    (w : IsWalked blocks moves last next) (within : next < length blocks) (at_last : slice_get blocks last ≡ Some l)
    (at_next : slice_get blocks next ≡ Some b) where
  -- the last block that stays and the next one
  abbrev these : Pair blocks
  these = record { first = last; second = next; earlier = l; later = b; ordered = w.before; at_first = at_last; at_second = at_next }

  starts : l.start ≤ b.start
  starts = elim (ordered these) [ inl less ↦ omega arith | inr same ↦ omega arith ]

  others_apart : (k : ℕ) (c : Block) → k < next → k ≢ last → slice_get moves k ≡ Some false → slice_get blocks k ≡ Some c → end_of c ≤ b.start
  others_apart k c early other free there =
      let ends = w.behind k c l early other free there at_last in
      omega (arith, starts, ends)

  -- the next block stays
  next_stays : (marks : List Bool)
      → ((k : ℕ) (c : Block) → k < next → slice_get marks k ≡ Some false → slice_get blocks k ≡ Some c → end_of c ≤ b.start)
      → ((k : ℕ) → slice_get marks k ≡ Some false → slice_get moves k ≡ Some false)
      → ((k : ℕ) → next ≤ k → k < length blocks → slice_get marks k ≡ Some false)
      → MoveForCause blocks marks
      → ((k : ℕ) (c : Block) → slice_get blocks k ≡ Some c → c.priority ≡ 0 → slice_get marks k ≡ Some false)
      → IsMarked earlier_moves later_moves blocks marks next (next + 1)
      → IsWalked blocks marks next (next + 1)
  next_stays marks ended unmarked ahead causes fixed marked = record {
    before = omega arith;
    ahead = λ k late inside. ahead k (omega arith) inside;
    last_stays = λ inside. ahead next (omega arith) inside;
    behind = λ k c n early other free there at.
        subst (λ (x : Block). end_of c ≤ x.start) (same_Some b n (sym at_next ∙ at)) (ended k c (omega arith) free there);
    apart = λ p early first second. elim (cases_eq p.second next) [
      | inl same ↦
          let at : slice_get blocks next ≡ Some p.later = subst (λ (k : ℕ). slice_get blocks k ≡ Some p.later) same p.at_second in
          subst (λ (x : Block). end_of p.earlier ≤ x.start) (same_Some b p.later (sym at_next ∙ at))
          (ended p.first p.earlier (omega (arith, p.ordered)) first p.at_first)
      | inr other ↦ w.apart p (omega arith) (unmarked p.first first) (unmarked p.second second)
    ];
    causes = causes;
    fixed = fixed;
    marked = marked;
  }

  -- the marks once the next block stays
  marked_on : (marks : List Bool) → later_moves l b ≡ false → ((k : ℕ) → k ≢ last → get_or marks k false ≡ get_or moves k false)
      → get_or marks last false ≡ earlier_moves l b → IsMarked earlier_moves later_moves blocks marks next (next + 1)
  marked_on marks isnt kept there =
      marking_on earlier_moves later_moves blocks moves last next l b w.before within at_last at_next w.marked marks isnt kept there

  pub walk_past_apart : IsApart l b → IsWalked blocks moves next (next + 1)
  walk_past_apart apart =
      next_stays moves
      (λ k c early free there. elim (cases_eq k last) [
        | inl same ↦
            let at : slice_get blocks last ≡ Some c = subst (λ (j : ℕ). slice_get blocks j ≡ Some c) same there in
            subst (λ (x : Block). end_of x ≤ b.start) (same_Some l c (sym at_last ∙ at)) apart
        | inr other ↦ others_apart k c early other free there
      ])
      (λ k free. free) (λ k late inside. w.ahead k late inside) w.causes w.fixed
      (marked_on moves (apart_tests l b apart).1 (λ k other. refl)
      (get_or_from_slice_get moves last false false (w.last_stays (slice_get_within blocks last l at_last)) ∙ sym (apart_tests l b apart).0))

  pub walk_past_earlier : EarlierMoves l b → IsWalked blocks (set moves last true) next (next + 1)
  walk_past_earlier m =
      let inside : last < length moves = omega (arith, w.before) in
      next_stays (set moves last true)
      (λ k c early free there. let before = still_unmarked moves last k inside free in others_apart k c early before.0 before.1 there)
      (λ k free. (still_unmarked moves last k inside free).1)
      (λ k late here. kept_elsewhere moves last k (λ same. absurd (omega (arith, w.before, same))) ∙ w.ahead k late here)
      (λ k marked. elim (marked_before moves last k marked) [ inl same ↦ (these, inl (sym same, m)) | inr marked_then ↦ w.causes k marked_then ])
      (λ k c there stays.
      let apart : k ≢ last = λ same.
      let at : slice_get blocks last ≡ Some c = subst (λ (j : ℕ). slice_get blocks j ≡ Some c) same there in
      let one : l ≡ c = same_Some l c (sym at_last ∙ at) in
      let can : 0 < c.priority = subst (λ (x : Block). 0 < x.priority) one m.can in
      absurd (omega (arith, can, stays)) in
      kept_elsewhere moves last k apart ∙ w.fixed k c there stays)
      (marked_on (set moves last true) (earlier_tests l b m).1 (λ k other. get_or-set_other moves last k true false other)
      (get_or-set_same moves last true false inside ∙ sym (earlier_tests l b m).0))

  pub walk_past_later : LaterMoves l b → IsWalked blocks (set moves next true) last (next + 1)
  walk_past_later m =
      let inside : next < length moves = omega arith in
      record {
        before = omega (arith, w.before);
        ahead = λ k late here. kept_elsewhere moves next k (λ same. absurd (omega (arith, same))) ∙ w.ahead k (omega arith) here;
        last_stays = λ here. kept_elsewhere moves next last (λ same. absurd (omega (arith, w.before, same))) ∙ w.last_stays here;
        behind = λ k c n early other free there at.
            let before = still_unmarked moves next k inside free in
            let first : k ≢ next = before.0 in
            w.behind k c n (omega arith) other before.1 there at;
        apart = λ p early first second.
            let before = still_unmarked moves next p.first inside first in
            let after = still_unmarked moves next p.second inside second in
            let other : p.second ≢ next = after.0 in
            w.apart p (omega arith) before.1 after.1;
        causes = λ k marked. elim (marked_before moves next k marked) [ inl same ↦ (these, inr (sym same, m)) | inr marked_then ↦ w.causes k marked_then ];
        fixed = λ k c there stays.
            let apart : k ≢ next = λ same.
            let at : slice_get blocks next ≡ Some c = subst (λ (j : ℕ). slice_get blocks j ≡ Some c) same there in
            let one : b ≡ c = same_Some b c (sym at_next ∙ at) in
            let more : l.priority < c.priority = subst (λ (x : Block). l.priority < x.priority) one m.readily in
            absurd (omega (arith, more, stays)) in
            kept_elsewhere moves next k apart ∙ w.fixed k c there stays;
        marked = marking_over earlier_moves later_moves blocks moves last next l b w.before within at_last at_next w.marked (set moves next true) (later_tests l b m)
            (λ k other. get_or-set_other moves next k true false other) (get_or-set_same moves next true false inside);
      }

  pub walk_stuck : IsStuck l b → HasStuck blocks
  walk_stuck stuck = (these, stuck)

pub walk_ends : (blocks : List Block) (moves : List Bool) (last next : ℕ) → length blocks ≤ next → IsWalked blocks moves last next → StayApart blocks moves
walk_ends blocks moves last next all w = λ p first second.
    w.apart p (omega (arith, slice_get_within blocks p.second p.later p.at_second)) first second

pub walk_marks : (blocks : List Block) (moves : List Bool) (last next : ℕ) → length moves ≡ length blocks → length blocks ≤ next → IsWalked blocks moves last next
    → moves ≡ marks_of blocks
walk_marks blocks moves last next long all w = marking_ends earlier_moves later_moves blocks moves last next long all w.last_stays w.marked

pub none_stuck : (blocks : List Block) (moves : List Bool) → StayApart blocks moves
    → ((k : ℕ) (c : Block) → slice_get blocks k ≡ Some c → c.priority ≡ 0 → slice_get moves k ≡ Some false) → HasStuck blocks → ⊥
none_stuck blocks moves apart fixed stuck =
    let p : Pair blocks = stuck.0 in
    let s : IsStuck p.earlier p.later = stuck.1 in
    let ends = apart p (fixed p.first p.earlier p.at_first s.earlier_stays) (fixed p.second p.later p.at_second s.later_stays) in
    omega (arith, ends, s.overlap)

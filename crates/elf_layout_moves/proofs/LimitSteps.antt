-- Limits of sections, one section and one block after the other.
use Rattle.std.proofs.Common.{◌≡◌, ℕ, ◌+◌, ◌<◌, ◌≤◌, List, [], ◌∷◌, ◌++◌, Bool, true, false, ◌&&◌, ◌||◌, get_or, length, min, replicate, set, take, refl, sym, ap, ◌∙◌, subst, inl, inr, arith}
use Rattle.std.specs.Prelude.{None, Option, Some, nat_le, nat_lt, ◌==◌}
use Rattle.std.specs.List.{list_any}
use Rattle.std.proofs.lemmas.Bool.{and_left, and_right, cases_eq, cases_lt, eq-eqb, le-leb, le-ltb, lt-leb, lt-ltb, ne_eqb}
use Rattle.std.proofs.lemmas.List.{get_or_default, get_or-replicate, get_or-set_other, get_or-set_same, length-replicate, length-set, take_more}
use Rattle.std.proofs.lemmas.List.Folds.{list_any-append}
use Rattle.elf_format.specs.Options.{is_one_of, is_some_and}
use Rattle.elf_layout_plan.specs.Blocks.{Block, is_block_of}
use Rattle.elf_layout_moves.specs.declared.limits.TheConstants.{NEVER}
use Rattle.elf_layout_moves.specs.Limits.{AreLimitsOf, is_reached, limit_at}

or_false : (b : Bool) → (b || false) ≡ b
or_false true = refl
or_false false = refl

or_true : (b : Bool) → (b || true) ≡ true
or_true true = refl
or_true false = refl

-- ## Sections that move

pub none_limited : (count from : ℕ) (limits : List ℕ) → limits ≡ replicate count NEVER → AreLimitsOf count from [] [] limits
none_limited count from limits are = record {
  many = ap length are ∙ length-replicate count NEVER;
  tells = λ position end within near.
      ap (λ (l : List ℕ). nat_le (limit_at l position) end) are
      ∙ ap (λ (n : ℕ). nat_le n end) (get_or-replicate count position NEVER NEVER within) ∙ lt-leb NEVER end near;
}

pub one_limited : (count from : ℕ) (moved : List ℕ) (p : ℕ) (limits : List ℕ) → p < count → AreLimitsOf count from moved [] limits → AreLimitsOf count from (moved ++ p ∷ []) [] (set limits p 0)
one_limited count from moved p limits below are = record {
  many = length-set limits p 0 ∙ are.many;
  tells = λ position end within near. elim (cases_eq position p) [
    | inl same ↦
        let here : limit_at (set limits p 0) position ≡ 0 = ap (λ (n : ℕ). limit_at (set limits p 0) n) same ∙ get_or-set_same limits p 0 NEVER (omega (arith, are.many, below)) in
        ap (λ (n : ℕ). nat_le n end) here ∙ le-leb 0 end (omega arith)
        ∙ sym (or_false (is_one_of (moved ++ p ∷ []) position) ∙ list_any-append (λ x. x == position) moved (p ∷ [])
        ∙ ap (λ (b : Bool). is_one_of moved position || (b || false)) (eq-eqb p position (sym same)) ∙ or_true (is_one_of moved position))
    | inr apart ↦
        ap (λ (n : ℕ). nat_le n end) (get_or-set_other limits p position 0 NEVER apart)
        ∙ are.tells position end within near
        ∙ ap (λ (b : Bool). b || false) (sym (list_any-append (λ x. x == position) moved (p ∷ [])
        ∙ ap (λ (b : Bool). is_one_of moved position || (b || false)) (ne_eqb p position (λ same. apart (sym same))) ∙ or_false (is_one_of moved position)))
  ];
}

pub next_limited : (count from : ℕ) (moved : List ℕ) (k : ℕ) (limits : List ℕ) → k < length moved → get_or moved k 0 < count → AreLimitsOf count from (take k moved) [] limits
    → AreLimitsOf count from (take (k + 1) moved) [] (set limits (get_or moved k 0) 0)
next_limited count from moved k limits within below are =
    subst (λ (l : List ℕ). AreLimitsOf count from l [] (set limits (get_or moved k 0) 0)) (sym (take_more moved k 0 within)) (one_limited count from (take k moved) (get_or moved k 0) limits below are)

-- ## Blocks behind an address

grouped : (a b c : Bool) → ((a || b) || c) ≡ (a || (b || c))
grouped true b c = refl
grouped false b c = refl

-- one block more, once the limits tell of it
block_told : (count from : ℕ) (moved : List ℕ) (bs : List Block) (b : Block) (limits after : List ℕ) → AreLimitsOf count from moved bs limits → length after ≡ length limits
    → ((position end : ℕ) → position < count → end < NEVER → nat_le (limit_at after position) end ≡ (nat_le (limit_at limits position) end || is_reached from end position b))
    → AreLimitsOf count from moved (bs ++ b ∷ []) after
block_told count from moved bs b limits after are long tells = record {
  many = long ∙ are.many;
  tells = λ position end within near.
      tells position end within near
      ∙ ap (λ (t : Bool). t || is_reached from end position b) (are.tells position end within near)
      ∙ grouped (is_one_of moved position) (list_any (is_reached from end position) bs) (is_reached from end position b)
      ∙ ap (λ (t : Bool). is_one_of moved position || (list_any (is_reached from end position) bs || t)) (sym (or_false (is_reached from end position b)))
      ∙ ap (λ (t : Bool). is_one_of moved position || t) (sym (list_any-append (is_reached from end position) bs (b ∷ [])));
}

-- a block of no section, or one before the address
pub block_passed : (count from : ℕ) (moved : List ℕ) (bs : List Block) (b : Block) (limits : List ℕ) → ((position end : ℕ) → is_reached from end position b ≡ false)
    → AreLimitsOf count from moved bs limits → AreLimitsOf count from moved (bs ++ b ∷ []) limits
block_passed count from moved bs b limits never are =
    block_told count from moved bs b limits limits are refl (λ position end within near. sym (ap (λ (t : Bool). nat_le (limit_at limits position) end || t) (never position end) ∙ or_false (nat_le (limit_at limits position) end)))

pub never_owned : (from end position : ℕ) (b : Block) → b.section ≡ None → is_reached from end position b ≡ false
never_owned from end position b none = and_left (is_block_of position b) (nat_le from b.start && nat_lt b.start end) (ap (λ (o : Option ℕ). is_some_and (λ p. p == position) o) none)

pub never_behind : (from end position : ℕ) (b : Block) → b.start < from → is_reached from end position b ≡ false
never_behind from end position b before = and_right (is_block_of position b) (nat_le from b.start && nat_lt b.start end) (and_left (nat_le from b.start) (nat_lt b.start end) (lt-leb from b.start before))

-- the lesser of two numbers is no greater than a third
min_le : (a b end : ℕ) → nat_le (min a b) end ≡ (nat_le a end || nat_le b end)
min_le a b end = elim (cases_lt end a) [
  | inr le ↦ le-leb (min a b) end (omega (arith, le)) ∙ sym (ap (λ (t : Bool). t || nat_le b end) (le-leb a end le))
  | inl more ↦ elim (cases_lt end b) [
    | inr le ↦ le-leb (min a b) end (omega (arith, le)) ∙ sym (ap (λ (t : Bool). t || nat_le b end) (lt-leb a end more) ∙ le-leb b end le)
    | inl also ↦ lt-leb (min a b) end (omega (arith, more, also)) ∙ sym (ap (λ (t : Bool). t || nat_le b end) (lt-leb a end more) ∙ lt-leb b end also)
  ]
]

-- a limit is just past the start
past_start : (start limit end : ℕ) → limit ≡ min (start + 1) NEVER → end < NEVER → nat_le limit end ≡ nat_lt start end
past_start start limit end is near = elim (cases_lt start end) [
  | inl less ↦ le-leb limit end (omega (arith, is, less)) ∙ sym (lt-ltb start end less)
  | inr more ↦ lt-leb limit end (omega (arith, is, more, near)) ∙ sym (le-ltb start end more)
]

-- a block of a section, at the address or behind it
pub block_limited : (count from : ℕ) (moved : List ℕ) (bs : List Block) (b : Block) (p limit : ℕ) (limits : List ℕ) → b.section ≡ Some p → from ≤ b.start → limit ≡ min (b.start + 1) NEVER
    → AreLimitsOf count from moved bs limits → AreLimitsOf count from moved (bs ++ b ∷ []) (set limits p (min (get_or limits p limit) limit))
block_limited count from moved bs b p limit limits own past is are =
    block_told count from moved bs b limits (set limits p (min (get_or limits p limit) limit)) are (length-set limits p (min (get_or limits p limit) limit)) (λ position end within near.
    let reached : is_reached from end position b ≡ (p == position && nat_lt b.start end) =
    ap (λ (o : Option ℕ). is_some_and (λ q. q == position) o && (nat_le from b.start && nat_lt b.start end)) own ∙ ap (λ (t : Bool). p == position && (t && nat_lt b.start end)) (le-leb from b.start past) in
    elim (cases_eq position p) [
      | inl same ↦
          let inside : p < length limits = omega (arith, same, within, are.many) in
          let here : limit_at (set limits p (min (get_or limits p limit) limit)) position ≡ min (get_or limits p limit) limit =
          ap (λ (n : ℕ). limit_at (set limits p (min (get_or limits p limit) limit)) n) same ∙ get_or-set_same limits p (min (get_or limits p limit) limit) NEVER inside in
          let old : get_or limits p limit ≡ limit_at limits position = get_or_default limits p limit NEVER inside ∙ ap (λ (n : ℕ). limit_at limits n) (sym same) in
          ap (λ (n : ℕ). nat_le n end) here ∙ min_le (get_or limits p limit) limit end
          ∙ ap (λ (n : ℕ). nat_le n end || nat_le limit end) old
          ∙ ap (λ (t : Bool). nat_le (limit_at limits position) end || t) (past_start b.start limit end is near)
          ∙ ap (λ (t : Bool). nat_le (limit_at limits position) end || t) (sym (reached ∙ ap (λ (t : Bool). t && nat_lt b.start end) (eq-eqb p position (sym same))))
      | inr apart ↦
          ap (λ (n : ℕ). nat_le n end) (get_or-set_other limits p position (min (get_or limits p limit) limit) NEVER apart)
          ∙ sym (ap (λ (t : Bool). nat_le (limit_at limits position) end || t) (reached ∙ ap (λ (t : Bool). t && nat_lt b.start end) (ne_eqb p position (λ same. apart (sym same)))) ∙ or_false (nat_le (limit_at limits position) end))
    ])

-- limits of a list stay limits where the list and they are seen otherwise
pub as_seen : (count from : ℕ) (moved : List ℕ) (bs all : List Block) (limits after : List ℕ) → all ≡ bs → after ≡ limits → AreLimitsOf count from moved bs limits → AreLimitsOf count from moved all after
as_seen count from moved bs all limits after same also are =
    subst (λ (l : List Block). AreLimitsOf count from moved l after) (sym same) (subst (λ (l : List ℕ). AreLimitsOf count from moved bs l) (sym also) are)

pub all_seen : (count from : ℕ) (moved seen : List ℕ) (limits : List ℕ) → moved ≡ seen → AreLimitsOf count from moved [] limits → AreLimitsOf count from seen [] limits
all_seen count from moved seen limits same are = subst (λ (l : List ℕ). AreLimitsOf count from l [] limits) same are

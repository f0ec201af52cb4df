-- Blocks that stay: no two of them share an address.
use Rattle.std.proofs.Common.{◌≡◌, ℕ, ◌+◌, ◌<◌, ◌≤◌, Bool, true, false, not, ◌&&◌, ◌||◌, ◌⊎◌, List, [], ◌∷◌, max, refl, sym, ap, ◌∙◌, inl, inr, arith}
use Rattle.std.specs.Prelude.{◌==◌, nat_le, nat_lt}
use Rattle.std.specs.List.{list_all, list_any}
use Rattle.std.proofs.lemmas.Bool.{and_cases, and_from, and_parts, cases_lt, cases_order, false≢true, lt-ltb, ltb-false, not-true, true≢false}
use Rattle.std.proofs.lemmas.Bool.Decides.{nat_tests}
use Rattle.elf_format.specs.declared.range.Range.{Range}
use Rattle.elf_format.specs.Ranges.{all_apart, apart, end_of, range}
use Rattle.elf_layout_plan.specs.Added.{greatest}
use Rattle.elf_layout_plan.specs.Blocks.{Block, is_block_of_some, is_earlier, is_kept_out, overlaps, rank, some_two, stay_apart}
use Rattle.elf_layout_plan.proofs.ApartLists.{Each, Pairs, all-at, all-from, each-more, none-at}
use Rattle.elf_format.proofs.ForCallers.{apart-before, apart-behind}

-- ## Ranges

-- ranges that are apart, both with something in them, share no position
pub apart-meet : (r s : Range) (n : ℕ) → apart r s ≡ true → r.start ≤ n → n < end_of r → s.start ≤ n → n < end_of s → ⊥
apart-meet r s n h a b c d = grind (arith, nat_tests)

pub pairs_all_apart : (rs : List Range) → Pairs (λ r s. apart r s ≡ true) rs → all_apart rs ≡ true
pairs_all_apart [] h = refl
pairs_all_apart (r ∷ rs) h = and_from (list_all (λ s. apart r s) rs) (all_apart rs) (all-from (λ s. apart r s) rs h.0) (pairs_all_apart rs h.1)

pub all_apart_pairs : (rs : List Range) → all_apart rs ≡ true → Pairs (λ r s. apart r s ≡ true) rs
all_apart_pairs [] h = tt
all_apart_pairs (r ∷ rs) h = let (here, behind) = and_parts (list_all (λ s. apart r s) rs) (all_apart rs) h in (all-at (λ s. apart r s) rs here, all_apart_pairs rs behind)

-- ## The greatest of numbers

pub greatest-start : (n : ℕ) (ns : List ℕ) → n ≤ greatest n ns
greatest-start n [] = omega arith
greatest-start n (m ∷ ns) = omega (arith, greatest-start (max n m) ns)

pub greatest-each : (n : ℕ) (ns : List ℕ) → Each (λ m. m ≤ greatest n ns) ns
greatest-each n [] = tt
greatest-each n (m ∷ ns) = (omega (arith, greatest-start (max n m) ns), greatest-each (max n m) ns)

-- ## Two blocks

pub or-false : (b c : Bool) → (b || c) ≡ false → (b ≡ false) × (c ≡ false)
or-false true c h = absurd (true≢false h)
or-false false c h = (refl, h)

-- a test that fails of two, either way
abbrev pub Neither : (Block → Block → Bool) → Block → Block → Type 0
Neither test a b = (test a b ≡ false) × (test b a ≡ false)

pub none_two : (test : Block → Block → Bool) (bs : List Block) → some_two test bs ≡ false → Pairs (Neither test) bs
unfolding some_two
none_two test [] h = tt
none_two test (b ∷ bs) h =
    let (here, behind) = or-false (list_any (λ c. test b c || test c b) bs) (some_two test bs) h in (
      each-more (λ c. (test b c || test c b) ≡ false) (Neither test b) (λ c e. or-false (test b c) (test c b) e) bs (none-at (λ c. test b c || test c b) bs here),
      none_two test bs behind,
    )

-- two blocks overlap, and neither moves
abbrev pub stay_over : List ℕ → Block → Block → Bool
stay_over moved a b = overlaps a b && not (is_block_of_some moved a) && not (is_block_of_some moved b)

pub stay_pairs : (moved : List ℕ) (bs : List Block) → stay_apart moved bs ≡ true → Pairs (Neither (stay_over moved)) bs
stay_pairs moved bs h = none_two (stay_over moved) bs (not-true (some_two (stay_over moved) bs) h)

stay_over-false : (o a b : Bool) → (o && not a && not b) ≡ false → a ≡ false → b ≡ false → o ≡ false
stay_over-false false a b h e k = refl
stay_over-false true true b h e k = absurd (true≢false e)
stay_over-false true false true h e k = absurd (true≢false k)
stay_over-false true false false h e k = absurd (true≢false h)

-- two that stay don't overlap, either way
pub stay_neither : (moved : List ℕ) (a b : Block) → Neither (stay_over moved) a b → is_block_of_some moved a ≡ false → is_block_of_some moved b ≡ false → Neither overlaps a b
stay_neither moved a b h a_stays b_stays = (
  stay_over-false (overlaps a b) (is_block_of_some moved a) (is_block_of_some moved b) h.0 a_stays b_stays,
  stay_over-false (overlaps b a) (is_block_of_some moved b) (is_block_of_some moved a) h.1 b_stays a_stays,
)

-- of two blocks one is the earlier
earlier_number : ℕ → ℕ → ℕ → ℕ → ℕ → ℕ → Bool
earlier_number s z n t y m = nat_lt s t || s == t && (nat_lt z y || z == y && nat_le n m)

earlier_or : (s z n t y m : ℕ) → (earlier_number s z n t y m ≡ true) ⊎ (earlier_number t y m s z n ≡ true)
unfolding earlier_number
earlier_or s z n t y m = elim (cases_order s t) [
  | inr (inl less) ↦ inl (grind (arith, nat_tests))
  | inr (inr more) ↦ inr (grind (arith, nat_tests))
  | inl same ↦ elim (cases_order z y) [
    | inr (inl less) ↦ inl (grind (arith, nat_tests))
    | inr (inr more) ↦ inr (grind (arith, nat_tests))
    | inl same_size ↦ elim (cases_lt m n) [
      | inl less ↦ inr (grind (arith, nat_tests))
      | inr more ↦ inl (grind (arith, nat_tests))
    ]
  ]
]

one_earlier : (a b : Block) → (is_earlier a b ≡ true) ⊎ (is_earlier b a ≡ true)
unfolding earlier_number
one_earlier a b = earlier_or a.start a.size (rank a) b.start b.size (rank b)

-- an earlier block that doesn't overlap ends by the start of the later one, and neither is kept out by the other
earlier_clear : (a b : Block) → is_earlier a b ≡ true → overlaps a b ≡ false → (a.start + a.size ≤ b.start) × (is_kept_out a b ≡ false)
earlier_clear a b e h = elim (and_cases (is_earlier a b) (nat_lt b.start (a.start + a.size) || is_kept_out a b) h) [
  | inl other ↦ absurd (false≢true (sym other ∙ e))
  | inr clear ↦
      let parts = or-false (nat_lt b.start (a.start + a.size)) (is_kept_out a b) clear in
      (ltb-false b.start (a.start + a.size) parts.0, parts.1)
]

-- what lies at the front of blocks that don't overlap is apart
pub neither-apart : (a b : Block) (m n : ℕ) → Neither overlaps a b → m ≤ a.size → n ≤ b.size → apart (range a.start m) (range b.start n) ≡ true
neither-apart a b m n h less_a less_b = elim (one_earlier a b) [
  | inl e ↦ let clear : a.start + a.size ≤ b.start = (earlier_clear a b e h.0).0 in apart-before (range a.start m) (range b.start n) (omega arith)
  | inr e ↦ let clear : b.start + b.size ≤ a.start = (earlier_clear b a e h.1).0 in apart-behind (range a.start m) (range b.start n) (omega arith)
]

-- a block that begins before the other ends by its start
pub neither-before : (a b : Block) → Neither overlaps a b → a.start < b.start → a.start + a.size ≤ b.start
neither-before a b h less = (earlier_clear a b (ap (λ c. c || a.start == b.start && (nat_lt a.size b.size || a.size == b.size && nat_le (rank a) (rank b))) (lt-ltb a.start b.start less)) h.0).0

-- a displaced block overlaps the start of each loaded segment
pub neither-displaced : (a b : Block) → Neither overlaps a b → a.is_load_start ≡ true → b.is_displaced ≡ true → ⊥
neither-displaced a b h start displaced = elim (one_earlier a b) [
  | inl e ↦ kept_out_first a.is_displaced b.is_load_start a.is_load_start b.is_displaced start displaced (earlier_clear a b e h.0).1
  | inr e ↦ kept_out_second b.is_displaced a.is_load_start b.is_load_start a.is_displaced displaced start (earlier_clear b a e h.1).1
]
  where
    kept_out_first : (w x y z : Bool) → y ≡ true → z ≡ true → (w && x || y && z) ≡ false → ⊥
    kept_out_first w x false z e k h = false≢true e
    kept_out_first w x true false e k h = false≢true k
    kept_out_first w x true true e k h = true≢false (sym (or_right (w && x)) ∙ h)
      where
        or_right : (b : Bool) → (b || true) ≡ true
        or_right true = refl
        or_right false = refl

    kept_out_second : (w x y z : Bool) → w ≡ true → x ≡ true → (w && x || y && z) ≡ false → ⊥
    kept_out_second false x y z e k h = false≢true e
    kept_out_second true false y z e k h = false≢true k
    kept_out_second true true y z e k h = true≢false h

-- Ranges that share no place, and tests on numbers.
use Rattle.std.proofs.Common.{◌≡◌, ◌≤◌, true, List, [], ◌∷◌, refl, inl, inr, arith}
use Rattle.std.specs.List.{list_all}
use Rattle.std.proofs.lemmas.Bool.{and_from, and_parts}
use Rattle.std.proofs.lemmas.Bool.Decides.{nat_tests}
use Rattle.elf_format.specs.declared.range.Range.{Range}
use Rattle.elf_format.specs.Ranges.{all_apart, apart, end_of, lies_in}
use Rattle.elf_layout_plan.proofs.PlacedLists.{Pairs, all-at, all-from, pairs-first, pairs-more, pairs-none, pairs-rest}
use Rattle.elf_format.proofs.ForCallers.{apart-tells}
use Rattle.elf_format.proofs.ForCallers as ranges

-- two ranges share no place
pub record Apart (r s : Range) : Type 0 where
  pub tested : apart r s ≡ true

swapped : (r s : Range) → apart r s ≡ true → apart s r ≡ true
swapped r s h = grind (arith, nat_tests)

pub apart-before : (r s : Range) → end_of r ≤ s.start → Apart r s
apart-before r s e = record { tested = ranges.apart-before r s e }

pub apart-behind : (r s : Range) → end_of s ≤ r.start → Apart r s
apart-behind r s e = record { tested = ranges.apart-behind r s e }

pub apart-swap : (r s : Range) → Apart r s → Apart s r
apart-swap r s h = record { tested = swapped r s h.tested }

-- ranges that lie in ranges that share no place share none
pub apart-within : (r s a b : Range) → Apart a b → a.start ≤ r.start → end_of r ≤ end_of a → b.start ≤ s.start → end_of s ≤ end_of b → Apart r s
apart-within r s a b h r_begins r_ends s_begins s_ends = elim (apart-tells a b h.tested) [
  | inl e ↦ record { tested = ranges.apart-empty r s (omega (arith, e)) }
  | inr (inl e) ↦ record { tested = ranges.apart-from_empty r s (omega (arith, e)) }
  | inr (inr (inl e)) ↦ apart-before r s (omega (arith, e))
  | inr (inr (inr e)) ↦ apart-behind r s (omega (arith, e))
]

-- all of a list, and any two
pub all_apart-from : (rs : List Range) → Pairs Apart rs → all_apart rs ≡ true
all_apart-from [] h = refl
all_apart-from (r ∷ rs) h =
    and_from (list_all (λ s. apart r s) rs) (all_apart rs)
    (all-from (λ s. apart r s) rs (λ s here. (pairs-first Apart r rs h s here).tested))
    (all_apart-from rs (pairs-rest Apart r rs h))

pub all_apart-at : (rs : List Range) → all_apart rs ≡ true → Pairs Apart rs
all_apart-at [] h = pairs-none Apart
all_apart-at (r ∷ rs) h =
    let both = and_parts (list_all (λ s. apart r s) rs) (all_apart rs) h in
    pairs-more Apart r rs (λ s here. record { tested = all-at (λ t. apart r t) rs s both.0 here }) (all_apart-at rs both.1)

-- a range that lies in another one
pub lies_in-at : (r outer : Range) → lies_in r outer ≡ true → (outer.start ≤ r.start) × (end_of r ≤ end_of outer)
lies_in-at r outer h = (begins r outer h, ends r outer h)
  where
    begins : (x y : Range) → lies_in x y ≡ true → y.start ≤ x.start
    begins x y e = grind (arith, nat_tests)

    ends : (x y : Range) → lies_in x y ≡ true → end_of x ≤ end_of y
    ends x y e = grind (arith, nat_tests)

pub lies_in-from : (r outer : Range) → outer.start ≤ r.start → end_of r ≤ end_of outer → lies_in r outer ≡ true
lies_in-from r outer begins ends = grind (arith, nat_tests)

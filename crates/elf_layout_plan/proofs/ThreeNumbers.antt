-- An order by two numbers and something more, of which the first counts most.
use Rattle.std.proofs.Common.{◌≡◌, ℕ, ◌<◌, ◌⊎◌, Bool, true, ◌&&◌, ◌||◌, ◌∙◌, inl, inr, arith}
use Rattle.std.specs.Prelude.{◌==◌, nat_lt}
use Rattle.std.proofs.lemmas.Bool.{and_from, and_parts, eq-eqb, eqb-true, lt-ltb, ltb-true, or_cases, or_left, or_right}

-- the first is less, or it is the same and the second is less, or both are the same and the rest holds
abbrev pub Comes : ℕ → ℕ → ℕ → ℕ → Type 0 → Type 0
Comes a b x y Rest = (a < x) ⊎ ((a ≡ x) × ((b < y) ⊎ ((b ≡ y) × Rest)))

abbrev pub does_come : ℕ → ℕ → ℕ → ℕ → Bool → Bool
does_come a b x y rest = nat_lt a x || a == x && (nat_lt b y || b == y && rest)

pub comes_means : (a b x y : ℕ) (rest : Bool) → does_come a b x y rest ≡ true → Comes a b x y (rest ≡ true)
comes_means a b x y rest h = elim (or_cases (nat_lt a x) (a == x && (nat_lt b y || b == y && rest)) h) [
  | inl less ↦ inl (ltb-true a x less)
  | inr same ↦
      let parts = and_parts (a == x) (nat_lt b y || b == y && rest) same in
      inr (
        eqb-true a x parts.0,
        elim (or_cases (nat_lt b y) (b == y && rest) parts.1) [
          | inl less ↦ inl (ltb-true b y less)
          | inr also ↦ let last = and_parts (b == y) rest also in inr (eqb-true b y last.0, last.1)
        ],
      )
]

pub comes_from : (a b x y : ℕ) (rest : Bool) → Comes a b x y (rest ≡ true) → does_come a b x y rest ≡ true
comes_from a b x y rest (inl less) = or_left (nat_lt a x) (a == x && (nat_lt b y || b == y && rest)) (lt-ltb a x less)
comes_from a b x y rest (inr (same, inl less)) =
    or_right (nat_lt a x) (a == x && (nat_lt b y || b == y && rest))
    (and_from (a == x) (nat_lt b y || b == y && rest) (eq-eqb a x same) (or_left (nat_lt b y) (b == y && rest) (lt-ltb b y less)))
comes_from a b x y rest (inr (same, inr (also, more))) =
    or_right (nat_lt a x) (a == x && (nat_lt b y || b == y && rest))
    (and_from (a == x) (nat_lt b y || b == y && rest) (eq-eqb a x same)
    (or_right (nat_lt b y) (b == y && rest) (and_from (b == y) rest (eq-eqb b y also) more)))

pub comes_on : (a b x y u v : ℕ) (S T U : Type 0) → (S → T → U) → Comes a b x y S → Comes x y u v T → Comes a b u v U
comes_on a b x y u v S T U joins (inl p) (inl q) = inl (omega (arith, p, q))
comes_on a b x y u v S T U joins (inl p) (inr (e, k)) = inl (omega (arith, p, e))
comes_on a b x y u v S T U joins (inr (e, h)) (inl q) = inl (omega (arith, e, q))
comes_on a b x y u v S T U joins (inr (e, inl p)) (inr (f, inl q)) = inr (e ∙ f, inl (omega (arith, p, q)))
comes_on a b x y u v S T U joins (inr (e, inl p)) (inr (f, inr (g, k))) = inr (e ∙ f, inl (omega (arith, p, g)))
comes_on a b x y u v S T U joins (inr (e, inr (g, h))) (inr (f, inl q)) = inr (e ∙ f, inl (omega (arith, g, q)))
comes_on a b x y u v S T U joins (inr (e, inr (g, h))) (inr (f, inr (i, k))) = inr (e ∙ f, inr (g ∙ i, joins h k))

-- where each comes before the other, the two numbers are the same, and both rests hold
pub comes_both : (a b x y : ℕ) (S T : Type 0) → Comes a b x y S → Comes x y a b T → (a ≡ x) × (b ≡ y) × S × T
comes_both a b x y S T (inl p) (inl q) = absurd (omega (arith, p, q))
comes_both a b x y S T (inl p) (inr (e, k)) = absurd (omega (arith, p, e))
comes_both a b x y S T (inr (e, h)) (inl q) = absurd (omega (arith, e, q))
comes_both a b x y S T (inr (e, inl p)) (inr (f, inl q)) = absurd (omega (arith, p, q))
comes_both a b x y S T (inr (e, inl p)) (inr (f, inr (g, k))) = absurd (omega (arith, p, g))
comes_both a b x y S T (inr (e, inr (g, h))) (inr (f, inl q)) = absurd (omega (arith, g, q))
comes_both a b x y S T (inr (e, inr (g, h))) (inr (f, inr (i, k))) = (e, g, h, k)

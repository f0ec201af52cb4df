-- The bytes before the first NUL: by its position, and of a text that holds none.
use Rattle.std.proofs.Common.{◌≡◌, ℕ, suc, ltb, ◌+◌, ◌==◌, Bool, true, false, cond, not, List, [], ◌∷◌, length, take, Some, None, refl, ap, ◌∙◌, arith, ◌≤◌, zero, eqb, ◌++◌, get_or, replicate, All}
use Rattle.std.specs.List.{position, position_or_len}
use Rattle.std.proofs.lemmas.Bool.{ltb-false, eqb-false, ne_eqb, not-true}
use Rattle.std.proofs.lemmas.List.{take_all, append-nil}
use Rattle.std.proofs.lemmas.Option.{cond_some}
use Rattle.macho_image.specs.Command.{before_nul}
use Rattle.std.proofs.lemmas.List.Elements.{All-head, All-tail}
use Rattle.std.proofs.lemmas.List.Sums.{prefix_len_passes}

at_first : (is_nul : Bool) (b : ℕ) (text bs : List ℕ) (n : ℕ) → text ≡ take n bs → cond is_nul [] (b ∷ text) ≡ take (cond (not is_nul) (1 + n) 0) (b ∷ bs)
at_first true b text bs n is = refl
at_first false b text bs n is = let e : 1 + n ≡ suc n = omega arith in rw e (ap (λ xs. b ∷ xs) is)

before_nul-take : (bs : List ℕ) → before_nul bs ≡ take (position_or_len (λ b. b == 0) bs) bs
before_nul-take [] = refl
before_nul-take (b ∷ bs) = at_first (b == 0) b (before_nul bs) bs (position_or_len (λ b'. b' == 0) bs) (before_nul-take bs)

pub before_nul-some : (bs : List ℕ) (i : ℕ) → position (λ b. b == 0) bs ≡ Some i → before_nul bs ≡ take i bs
before_nul-some bs i found =
    let parts = cond_some _ _ i found in
    before_nul-take bs ∙ ap (λ n. take n bs) parts.1

none_past : (b : Bool) (n : ℕ) → cond b (Some n) None ≡ None → b ≡ false
none_past true n none = cc
none_past false n none = refl

pub before_nul-none : (bs : List ℕ) → position (λ b. b == 0) bs ≡ None → before_nul bs ≡ bs
before_nul-none bs none =
    let past = none_past (ltb (position_or_len (λ b. b == 0) bs) (length bs)) _ none in
    before_nul-take bs ∙ take_all (position_or_len (λ b. b == 0) bs) bs (ltb-false _ _ past)

-- each byte of a text is no NUL
abbrev pub HoldsNoNul : List ℕ → Type 0
HoldsNoNul text = All (λ b. b ≡ 0 → ⊥) text

-- a text with no NUL, before a NUL and anything
pub before_nul-append : (text rest : List ℕ) → HoldsNoNul text → before_nul (text ++ 0 ∷ rest) ≡ text
before_nul-append [] rest none = refl
before_nul-append (b ∷ text) rest none =
    let P : ℕ → Type 0 = λ n. n ≡ 0 → ⊥ in
    let here : eqb b 0 ≡ false = ne_eqb b 0 (All-head P b text none) in
    let left : before_nul (text ++ 0 ∷ rest) ≡ text = before_nul-append text rest (All-tail P b text none) in
    rw (here, left) refl

-- a text with no NUL, before nothing
pub before_nul-all : (text : List ℕ) → HoldsNoNul text → before_nul text ≡ text
before_nul-all [] none = refl
before_nul-all (b ∷ text) none =
    let P : ℕ → Type 0 = λ n. n ≡ 0 → ⊥ in
    let here : eqb b 0 ≡ false = ne_eqb b 0 (All-head P b text none) in
    let left : before_nul text ≡ text = before_nul-all text (All-tail P b text none) in
    rw (here, left) refl

-- the text before zeros
pub before_nul-zeros : (text : List ℕ) (n : ℕ) → HoldsNoNul text → before_nul (text ++ replicate n 0) ≡ text
before_nul-zeros text zero none = ap before_nul (append-nil text) ∙ before_nul-all text none
before_nul-zeros text (suc n) none = before_nul-append text (replicate n 0) none

-- a text in which no NUL is found holds none
pub HoldsNoNul-from_position : (text : List ℕ) → position (λ b. eqb b 0) text ≡ None → HoldsNoNul text
HoldsNoNul-from_position text e = λ k d inside is.
    let all : length text ≤ position_or_len (λ b. eqb b 0) text = ltb-false (position_or_len (λ b. eqb b 0) text) (length text) (none_past (ltb (position_or_len (λ b. eqb b 0) text) (length text)) (position_or_len (λ b. eqb b 0) text) e) in
    let passes : not (eqb (get_or text k d) 0) ≡ true = prefix_len_passes (λ b. not (eqb b 0)) text k d (omega arith) in
    eqb-false (get_or text k d) 0 (not-true (eqb (get_or text k d) 0) passes) is

pub ruleset texts = (before_nul-some, before_nul-none)

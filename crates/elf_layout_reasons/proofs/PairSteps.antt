-- The first two blocks that overlap and never move are two of the list, and there are some just where two are stuck.
use Rattle.std.proofs.Common.{◌≡◌, ◌≢◌, ◌⊎◌, ℕ, suc, List, [], ◌∷◌, Bool, true, false, ◌||◌, Option, Some, None, refl, sym, ap, subst, inl, inr, arith}
use Rattle.std.specs.Prelude.{slice_get, if◌then◌else◌}
use Rattle.std.specs.List.{list_any}
use Rattle.std.proofs.lemmas.Bool.{or_from}
use Rattle.std.proofs.lemmas.Option.{none-some, some_pair_parts}
use Rattle.elf_format.specs.Options.{first_there}
use Rattle.elf_layout_plan.specs.Blocks.{Block, is_stuck, is_stuck_pair, some_two}
use Rattle.elf_layout_reasons.specs.Stuck.{first_pair, first_partner}

-- a block stands somewhere in a list
abbrev pub Has : List Block → Block → Type 0
Has bs x = (k : ℕ) × (slice_get bs k ≡ Some x)

-- two blocks that are stuck: one of them is this one, the other one of the list
record IsPartner (b : Block) (cs : List Block) (x y : Block) : Type 0 where
  pub is : ((x ≡ b) × Has cs y) ⊎ ((y ≡ b) × Has cs x)
  pub stuck : is_stuck_pair x y ≡ true

-- two blocks that are stuck, at different places of a list
pub record IsPairIn (bs : List Block) (x y : Block) : Type 0 where
  pub earlier_place : ℕ
  pub later_place : ℕ
  pub apart : earlier_place ≢ later_place
  pub earlier_there : slice_get bs earlier_place ≡ Some x
  pub later_there : slice_get bs later_place ≡ Some y
  pub stuck : is_stuck_pair x y ≡ true

partner_by : Block → Block → Option (Block × Block) → Bool → Bool → Option (Block × Block)
partner_by b c rest p q = if p then Some (b, c) else if q then Some (c, b) else rest

both_stuck : (a b x y : Block) → a ≡ x → b ≡ y → is_stuck_pair a b ≡ true → is_stuck_pair x y ≡ true
both_stuck a b x y e f h =
    let P : Block → Type 0 = λ z. is_stuck_pair z y ≡ true in
    let Q : Block → Type 0 = λ z. is_stuck_pair a z ≡ true in
    subst P e (subst Q f h)

further : (b c : Block) (cs : List Block) (x y : Block) → IsPartner b cs x y → IsPartner b (c ∷ cs) x y
further b c cs x y p = record {
  is = elim p.is [
    | inl (same, (k, at)) ↦ inl (same, (suc k, at))
    | inr (same, (k, at)) ↦ inr (same, (suc k, at))
  ];
  stuck = p.stuck;
}

partner_of : (b c : Block) (cs : List Block) (x y : Block) (rest : Option (Block × Block)) → (rest ≡ Some (x, y) → IsPartner b cs x y)
    → (p q : Bool) → is_stuck_pair b c ≡ p → is_stuck_pair c b ≡ q → partner_by b c rest p q ≡ Some (x, y) → IsPartner b (c ∷ cs) x y
unfolding partner_by
partner_of b c cs x y rest more true q e f h =
    let s = some_pair_parts b x c y h in
    record { is = inl (sym s.0, (0, ap Some s.1)); stuck = both_stuck b c x y s.0 s.1 e }
partner_of b c cs x y rest more false true e f h =
    let s = some_pair_parts c x b y h in
    record { is = inr (sym s.1, (0, ap Some s.0)); stuck = both_stuck c b x y s.0 s.1 f }
partner_of b c cs x y rest more false false e f h = further b c cs x y (more h)

partner_is : (b : Block) (cs : List Block) (x y : Block) → first_partner b cs ≡ Some (x, y) → IsPartner b cs x y
unfolding first_partner partner_by
partner_is b [] x y h = absurd (none-some (x, y) h)
partner_is b (c ∷ cs) x y h =
    partner_of b c cs x y (first_partner b cs) (partner_is b cs x y) (is_stuck_pair b c) (is_stuck_pair c b) refl refl h

no_zero : (k : ℕ) → 0 ≡ suc k → ⊥
no_zero k e = omega (arith, e)

with_first : (b : Block) (bs : List Block) (x y : Block) → IsPartner b bs x y → IsPairIn (b ∷ bs) x y
with_first b bs x y p = elim p.is [
  | inl (same, (k, at)) ↦ record {
    earlier_place = 0;
    later_place = suc k;
    apart = no_zero k;
    earlier_there = ap Some (sym same);
    later_there = at;
    stuck = p.stuck;
  }
  | inr (same, (k, at)) ↦ record {
    earlier_place = suc k;
    later_place = 0;
    apart = λ e. no_zero k (sym e);
    earlier_there = at;
    later_there = ap Some (sym same);
    stuck = p.stuck;
  }
]

behind_first : (b : Block) (bs : List Block) (x y : Block) → IsPairIn bs x y → IsPairIn (b ∷ bs) x y
behind_first b bs x y p = record {
  earlier_place = suc p.earlier_place;
  later_place = suc p.later_place;
  apart = λ e. p.apart (omega (arith, e));
  earlier_there = p.earlier_there;
  later_there = p.later_there;
  stuck = p.stuck;
}

pair_of : (b : Block) (bs : List Block) (x y : Block) (f rest : Option (Block × Block)) → (f ≡ Some (x, y) → IsPartner b bs x y) → (rest ≡ Some (x, y) → IsPairIn bs x y)
    → first_there f rest ≡ Some (x, y) → IsPairIn (b ∷ bs) x y
pair_of b bs x y None rest here more h = behind_first b bs x y (more h)
pair_of b bs x y (Some pair) rest here more h = with_first b bs x y (here h)

-- the first two are two of the list
pub pair_is : (bs : List Block) (x y : Block) → first_pair bs ≡ Some (x, y) → IsPairIn bs x y
unfolding first_pair
pair_is [] x y h = absurd (none-some (x, y) h)
pair_is (b ∷ bs) x y h = pair_of b bs x y (first_partner b bs) (first_pair bs) (partner_is b bs x y) (pair_is bs x y) h

-- ## None

alone_by : (b c : Block) (rest : Option (Block × Block)) (any p q : Bool) → (rest ≡ None → any ≡ false) → partner_by b c rest p q ≡ None → ((p || q) || any) ≡ false
unfolding partner_by
alone_by b c rest any true q more h = absurd (none-some (b, c) (sym h))
alone_by b c rest any false true more h = absurd (none-some (c, b) (sym h))
alone_by b c rest any false false more h = more h

alone : (b : Block) (cs : List Block) → first_partner b cs ≡ None → list_any (λ c. is_stuck_pair b c || is_stuck_pair c b) cs ≡ false
unfolding first_partner partner_by
alone b [] h = refl
alone b (c ∷ cs) h =
    alone_by b c (first_partner b cs) (list_any (λ d. is_stuck_pair b d || is_stuck_pair d b) cs) (is_stuck_pair b c) (is_stuck_pair c b) (alone b cs) h

none_of : (f rest : Option (Block × Block)) (here there : Bool) → (f ≡ None → here ≡ false) → (rest ≡ None → there ≡ false) → first_there f rest ≡ None → (here || there) ≡ false
none_of None rest here there one more h = or_from here there (one refl) (more h)
none_of (Some pair) rest here there one more h = absurd (none-some pair (sym h))

-- where there is no pair none are stuck
pub none_stuck : (bs : List Block) → first_pair bs ≡ None → is_stuck bs ≡ false
unfolding first_pair some_two
none_stuck [] h = refl
none_stuck (b ∷ bs) h =
    none_of (first_partner b bs) (first_pair bs) (list_any (λ c. is_stuck_pair b c || is_stuck_pair c b) bs) (is_stuck bs) (alone b bs) (none_stuck bs) h

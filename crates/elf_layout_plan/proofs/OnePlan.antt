-- An image has no more than one plan: each round has one list of sections that move, and leads to one next round.
use Rattle.std.proofs.Common.{◌≡◌, ℕ, ◌+◌, ◌<◌, ◌≤◌, List, [], ◌∷◌, ◌++◌, true, ◌&&◌, ◌||◌, length, map, refl, sym, ap, ◌∙◌, subst, inl, inr, arith, Option, None, Some}
use Rattle.std.specs.Prelude.{◌==◌, filter, nat_lt}
use Rattle.std.specs.List.{cons_option, flat_map, list_all, slice_get}
use Rattle.std.proofs.lemmas.Bool.{and_parts, eq-eqb, eqb-true, false≢true, leb-true, lt-ltb, ltb-true, or_cases, or_left, or_right}
use Rattle.elf_format.specs.File.{loads_of}
use Rattle.elf_format.specs.Options.{is_one_of, is_some_and}
use Rattle.elf_layout_plan.specs.Blocks.{Block, are_moving, earlier_moves, has_cause, have_causes, is_block_of, later_moves, moving_sections, stay_apart}
use Rattle.elf_tables.specs.Kept.{kept_sections}
use Rattle.elf_layout_plan.specs.Laws.{PlansAreOne}
use Rattle.elf_layout_plan.specs.Memory.{Resized, SizedSection, blocks_with, edge_blocks, header_blocks, section_block, sized_sections, takes_memory}
use Rattle.elf_layout_plan.specs.Plan.{IsPlan, Plan, plan_for, resized}
use Rattle.elf_layout_plan.specs.Rounds.{are_chosen, are_in_old_order, comes_before, do_move, headers_needed, leads_to, sections_at}
use Rattle.elf_layout_plan.proofs.ApartFixed.{CanMove, cause_of, edges_no_section, headers_no_section, resized_sections, some_two-has}
use Rattle.elf_layout_plan.proofs.ApartLists.{Each, all-at, any-at, each-append, each-at, each-filter, each-from, each-map, each-more, same_at}
use Rattle.elf_layout_plan.proofs.ApartSections.{sized-at, sized_of}
use Rattle.elf_layout_plan.proofs.ThreeNumbers.{comes_both, comes_from, comes_means, comes_on}

-- ## The order in which sections stood

comes_before_on : (a b c : SizedSection) → comes_before a b ≡ true → comes_before b c ≡ true → comes_before a c ≡ true
comes_before_on a b c h k =
    let x = a.kept.section in
    let y = b.kept.section in
    let z = c.kept.section in
    comes_from x.sh_addr x.sh_size z.sh_addr z.sh_size (nat_lt a.kept.position c.kept.position)
    (comes_on x.sh_addr x.sh_size y.sh_addr y.sh_size z.sh_addr z.sh_size _ _ _
    (λ p q. lt-ltb a.kept.position c.kept.position
    (omega (arith, ltb-true a.kept.position b.kept.position p, ltb-true b.kept.position c.kept.position q)))
    (comes_means x.sh_addr x.sh_size y.sh_addr y.sh_size (nat_lt a.kept.position b.kept.position) h)
    (comes_means y.sh_addr y.sh_size z.sh_addr z.sh_size (nat_lt b.kept.position c.kept.position) k))

never_itself : (a : SizedSection) → comes_before a a ≡ true → ⊥
never_itself a h =
    let x = a.kept.section in
    let means = comes_means x.sh_addr x.sh_size x.sh_addr x.sh_size (nat_lt a.kept.position a.kept.position) h in
    let both = comes_both x.sh_addr x.sh_size x.sh_addr x.sh_size _ _ means means in
    omega (arith, ltb-true a.kept.position a.kept.position both.2)

-- ## One list of sections

-- a number of a list has what each of them has
one-of : (P : ℕ → Type 0) (ns : List ℕ) (n : ℕ) → Each P ns → is_one_of ns n ≡ true → P n
one-of P ns n all among = let (i, m, at, same) = any-at (λ x. x == n) ns among in subst P (eqb-true m n same) (each-at P ns all i m at)

first_in : (n : ℕ) (ns : List ℕ) → is_one_of (n ∷ ns) n ≡ true
first_in n ns = or_left (n == n) (is_one_of ns n) (eq-eqb n n refl)

module _ (r : Resized) where
  -- a section stands at the position
  abbrev Stands : ℕ → Type 0
  Stands p = (s : SizedSection) × (slice_get (sized_sections r) p ≡ Some s)

  -- the section at one position stood before that at another one
  abbrev Before : ℕ → ℕ → Type 0
  Before p q = (s t : SizedSection) → slice_get (sized_sections r) p ≡ Some s → slice_get (sized_sections r) q ≡ Some t → comes_before s t ≡ true

  before_on : (p q n : ℕ) → Stands q → Before p q → Before q n → Before p n
  before_on p q n (t, at) one other s u at_s at_u = comes_before_on s t u (one s t at_s at) (other t u at at_u)

  not_before : (p : ℕ) → Stands p → Before p p → ⊥
  not_before p (s, at) before = never_itself s (before s s at at)

  -- the first of sections in their old order stood before the others, which are in this order
  rises : (p : ℕ) (ps : List ℕ) → Stands p → Each Stands ps → are_in_old_order (sections_at r (p ∷ ps)) ≡ true
      → Each (Before p) ps × (are_in_old_order (sections_at r ps) ≡ true)
  unfolding are_in_old_order
  rises p [] stands all h = (tt, refl)
  rises p (q ∷ ps) (s, at) ((t, at_t), all) h =
      let rest : List SizedSection = sections_at r ps in
      let told : are_in_old_order (s ∷ t ∷ rest) ≡ true =
      ap (λ (o : Option SizedSection). are_in_old_order (s ∷ cons_option o rest)) (sym at_t)
      ∙ ap (λ (o : Option SizedSection). are_in_old_order (cons_option o (cons_option (slice_get (sized_sections r) q) rest))) (sym at) ∙ h in
      let parts = and_parts (comes_before s t) (are_in_old_order (t ∷ rest)) told in
      let next : are_in_old_order (sections_at r (q ∷ ps)) ≡ true = ap (λ (o : Option SizedSection). are_in_old_order (cons_option o rest)) at_t ∙ parts.1 in
      let first : Before p q = λ a b at_a at_b.
      subst (λ (x : SizedSection). comes_before x b ≡ true) (same_at (sized_sections r) p s a at at_a)
      (subst (λ (x : SizedSection). comes_before s x ≡ true) (same_at (sized_sections r) q t b at_t at_b) parts.0) in
      let behind = (rises q ps (t, at_t) all next).0 in
      ((first, each-more (Before q) (Before p) (λ n before. before_on p q n (t, at_t) first before) ps behind), next)

  -- two lists in this order with the same sections begin with the same one
  same_first : (p q : ℕ) (ps qs : List ℕ) → Stands p → Stands q → Each (Before p) ps → Each (Before q) qs
      → is_one_of (q ∷ qs) p ≡ true → is_one_of (p ∷ ps) q ≡ true → p ≡ q
  same_first p q ps qs here there up down among also = elim (or_cases (q == p) (is_one_of qs p) among) [
    | inl same ↦ sym (eqb-true q p same)
    | inr behind ↦ elim (or_cases (p == q) (is_one_of ps q) also) [
      | inl same ↦ eqb-true p q same
      | inr ahead ↦ absurd (not_before p here (before_on p q p there (one-of (Before p) ps q up ahead) (one-of (Before q) qs p down behind)))
    ]
  ]

  -- what of the first list isn't its first is of the second list, and isn't its first
  others_in : (p q : ℕ) (ps qs : List ℕ) → Stands p → p ≡ q → Each (Before p) ps → ((n : ℕ) → is_one_of (p ∷ ps) n ≡ true → is_one_of (q ∷ qs) n ≡ true)
      → (n : ℕ) → is_one_of ps n ≡ true → is_one_of qs n ≡ true
  others_in p q ps qs here same up all n among = elim (or_cases (q == n) (is_one_of qs n) (all n (or_right (p == n) (is_one_of ps n) among))) [
    | inl is ↦
        let own : n ≡ p = sym (same ∙ eqb-true q n is) in
        absurd (not_before p here (subst (Before p) own (one-of (Before p) ps n up among)))
    | inr behind ↦ behind
  ]

  one_list : (ps qs : List ℕ) → Each Stands ps → Each Stands qs → are_in_old_order (sections_at r ps) ≡ true → are_in_old_order (sections_at r qs) ≡ true
      → ((n : ℕ) → is_one_of ps n ≡ true → is_one_of qs n ≡ true) → ((n : ℕ) → is_one_of qs n ≡ true → is_one_of ps n ≡ true) → ps ≡ qs
  one_list [] [] all also up down to back = refl
  one_list [] (q ∷ qs) all also up down to back = absurd (false≢true (back q (first_in q qs)))
  one_list (p ∷ ps) [] all also up down to back = absurd (false≢true (to p (first_in p ps)))
  one_list (p ∷ ps) (q ∷ qs) (here, all) (there, also) up down to back =
      let (before, next) = rises p ps here all up in
      let (behind, after) = rises q qs there also down in
      let first : p ≡ q = same_first p q ps qs here there before behind (to p (first_in p ps)) (back q (first_in q qs)) in
      ap (λ (n : ℕ). n ∷ ps) first
      ∙ ap (λ (ns : List ℕ). q ∷ ns) (one_list ps qs all also next after (others_in p q ps qs here first before to) (others_in q p qs ps there (sym first) behind back))

-- ## The sections that move

-- of two lists of the sections that move each has those of the other
same_moving : (blocks : List Block) (one other : List ℕ) → are_moving blocks one ≡ true → are_moving blocks other ≡ true
    → (n : ℕ) → is_one_of one n ≡ true → is_one_of other n ≡ true
same_moving blocks one other h k n among =
    let all = (and_parts (list_all (is_one_of (moving_sections blocks)) one) (list_all (is_one_of one) (moving_sections blocks)) h).0 in
    let back = (and_parts (list_all (is_one_of (moving_sections blocks)) other) (list_all (is_one_of other) (moving_sections blocks)) k).1 in
    one-of (λ m. is_one_of other m ≡ true) (moving_sections blocks) n (all-at (is_one_of other) (moving_sections blocks) back)
    (one-of (λ m. is_one_of (moving_sections blocks) m ≡ true) one n (all-at (is_one_of (moving_sections blocks)) one all) among)

module _ (r : Resized) (sized : sized_sections r ≡ map (sized_of r) (kept_sections r.image)) where
  -- a block of a section shows that the section is there
  blocks_stand : (added p : ℕ) → Each (λ b. is_block_of p b ≡ true → Stands r p) (blocks_with r added)
  unfolding blocks_with
  blocks_stand added p =
      let P : Block → Type 0 = λ b. is_block_of p b ≡ true → Stands r p in
      let none : (b : Block) → b.section ≡ None → P b = λ b e h. absurd (false≢true (sym (ap (λ (o : Option ℕ). is_some_and (λ n. n == p) o) e) ∙ h)) in
      let edges = flat_map edge_blocks (loads_of r.image.segments) in
      let taking = filter (λ t. takes_memory t.kept.section) (sized_sections r) in
      each-append P (header_blocks r added ++ edges) (map (section_block r) taking)
      (each-append P (header_blocks r added) edges (each-more (λ b. b.section ≡ None) P none (header_blocks r added) (headers_no_section r added))
      (each-more (λ b. b.section ≡ None) P none edges (edges_no_section (loads_of r.image.segments))))
      (each-map P (section_block r) taking
      (each-more (λ t. (takes_memory t.kept.section ≡ true) × P (section_block r t)) (λ t. P (section_block r t)) (λ t h. h.1) taking
      (each-filter (λ t. P (section_block r t)) (λ t. takes_memory t.kept.section) (sized_sections r) (each-from (λ t. P (section_block r t)) (sized_sections r) section_stands))))
    where
      section_stands : (j : ℕ) (t : SizedSection) → slice_get (sized_sections r) j ≡ Some t → (t.kept.position == p) ≡ true → Stands r p
      section_stands j t at_t h =
          let index : j ≡ p = sym (sized-at r sized j t at_t).0 ∙ eqb-true t.kept.position p h in
          (t, subst (λ (n : ℕ). slice_get (sized_sections r) n ≡ Some t) index at_t)

  parts_of : (looked : ℕ) (moved : List ℕ) → do_move r looked moved ≡ true → (have_causes (blocks_with r looked) moved ≡ true) × (are_in_old_order (sections_at r moved) ≡ true)
  parts_of looked moved move =
      let parts = and_parts (have_causes (blocks_with r looked) moved && stay_apart moved (blocks_with r looked)) (are_in_old_order (sections_at r moved)) move in
      ((and_parts (have_causes (blocks_with r looked) moved) (stay_apart moved (blocks_with r looked)) parts.0).0, parts.1)

  -- each section that moves is there
  moved_stand : (looked : ℕ) (moved : List ℕ) → have_causes (blocks_with r looked) moved ≡ true → Each (Stands r) moved
  moved_stand looked moved causes = each-from (Stands r) moved (λ i p at.
      let blocks : List Block = blocks_with r looked in
      let cause = each-at (λ m. has_cause blocks m ≡ true) moved (all-at (has_cause blocks) moved causes) i p at in
      let (j, b, at_b, can) = some_two-has (λ a c. is_block_of p a && earlier_moves a c || is_block_of p c && later_moves a c) (CanMove p) (cause_of p) blocks cause in
      each-at (λ c. is_block_of p c ≡ true → Stands r p) blocks (blocks_stand looked p) j b at_b can.0)

  -- a round has one list of sections that move
  moved_one : (looked : ℕ) (one other : List ℕ) → do_move r looked one ≡ true → are_chosen r looked one ≡ true → do_move r looked other ≡ true → are_chosen r looked other ≡ true
      → one ≡ other
  moved_one looked one other move chosen also too =
      let these = parts_of looked one move in
      let those = parts_of looked other also in
      one_list r one other (moved_stand looked one these.0) (moved_stand looked other those.0) these.1 those.1
      (same_moving (blocks_with r looked) one other chosen too) (same_moving (blocks_with r looked) other one too chosen)

  -- ## Rounds

  -- a round that is the last one
  record IsLast (looked : ℕ) (moved : List ℕ) : Type 0 where
    move : do_move r looked moved ≡ true
    chosen : are_chosen r looked moved ≡ true
    enough : headers_needed r moved ≤ looked

  -- a round that isn't
  record IsFurther (looked : ℕ) (moved : List ℕ) (rounds : List (List ℕ)) (next : ℕ) : Type 0 where
    move : do_move r looked moved ≡ true
    chosen : are_chosen r looked moved ≡ true
    more : looked < headers_needed r moved
    lead : leads_to r (headers_needed r moved) rounds next ≡ true

  further : (looked : ℕ) (moved : List ℕ) (rounds : List (List ℕ)) (next : ℕ) → leads_to r looked (moved ∷ rounds) next ≡ true → IsFurther looked moved rounds next
  unfolding leads_to
  further looked moved rounds next h =
      let front = and_parts (do_move r looked moved && are_chosen r looked moved && nat_lt looked (headers_needed r moved)) (leads_to r (headers_needed r moved) rounds next) h in
      let parts = and_parts (do_move r looked moved && are_chosen r looked moved) (nat_lt looked (headers_needed r moved)) front.0 in
      let both = and_parts (do_move r looked moved) (are_chosen r looked moved) parts.0 in
      record { move = both.0; chosen = both.1; more = ltb-true looked (headers_needed r moved) parts.1; lead = front.1 }

  at_once : (looked next : ℕ) → leads_to r looked [] next ≡ true → looked ≡ next
  unfolding leads_to
  at_once looked next h = eqb-true looked next h

  -- one last round and one that isn't don't look with the same number
  not_both : (looked : ℕ) (one other : List ℕ) (rounds : List (List ℕ)) (next : ℕ) → IsLast looked one → IsFurther looked other rounds next → ⊥
  not_both looked one other rounds next last f =
      let same = ap (headers_needed r) (moved_one looked one other last.move last.chosen f.move f.chosen) in
      omega (arith, last.enough, f.more, same)

  rounds_one : (looked : ℕ) (before others : List (List ℕ)) (at there : ℕ) (one other : List ℕ) → leads_to r looked before at ≡ true → leads_to r looked others there ≡ true
      → IsLast at one → IsLast there other → (before ≡ others) × (at ≡ there) × (one ≡ other)
  rounds_one looked [] [] at there one other lead also last end =
      let same : at ≡ there = sym (at_once looked at lead) ∙ at_once looked there also in
      let ends : IsLast at other = subst (λ (n : ℕ). IsLast n other) (sym same) end in
      (refl, same, moved_one at one other last.move last.chosen ends.move ends.chosen)
  rounds_one looked [] (n ∷ others) at there one other lead also last end =
      let ends : IsLast looked one = subst (λ (k : ℕ). IsLast k one) (sym (at_once looked at lead)) last in
      absurd (not_both looked one n others there ends (further looked n others there also))
  rounds_one looked (m ∷ before) [] at there one other lead also last end =
      let ends : IsLast looked other = subst (λ (k : ℕ). IsLast k other) (sym (at_once looked there also)) end in
      absurd (not_both looked other m before at ends (further looked m before at lead))
  rounds_one looked (m ∷ before) (n ∷ others) at there one other lead also last end =
      let f = further looked m before at lead in
      let g = further looked n others there also in
      let same : m ≡ n = moved_one looked m n f.move f.chosen g.move g.chosen in
      let leads : leads_to r (headers_needed r m) others there ≡ true = subst (λ (k : List ℕ). leads_to r (headers_needed r k) others there ≡ true) (sym same) g.lead in
      let (rounds, number, moved) = rounds_one (headers_needed r m) before others at there one other f.lead leads last end in
      (ap (λ (k : List ℕ). k ∷ before) same ∙ ap (λ (ks : List (List ℕ)). n ∷ ks) rounds, number, moved)

  plan_one : (one other : Plan) → IsPlan r one → IsPlan r other → one ≡ other
  plan_one one other p q =
      let (rounds, looked, moved) = rounds_one 0 p.before q.before one.looked other.looked p.moved q.moved p.ended.lead q.ended.lead
      (record { move = p.ended.move; chosen = p.ended.chosen; enough = leb-true (headers_needed r p.moved) one.looked p.ended.enough })
      (record { move = q.ended.move; chosen = q.ended.chosen; enough = leb-true (headers_needed r q.moved) other.looked q.ended.enough }) in
      let count : one.rounds ≡ other.rounds = p.counted ∙ ap (λ (l : List (List ℕ)). length l + 1) rounds ∙ sym q.counted in
      p.follows
      ∙ ap (λ (n : ℕ). plan_for r n one.looked p.moved) count
      ∙ ap (λ (n : ℕ). plan_for r other.rounds n p.moved) looked
      ∙ ap (λ (ns : List ℕ). plan_for r other.rounds other.looked ns) moved
      ∙ sym q.follows

pub plans_are_one : PlansAreOne
plans_are_one image one other p q = plan_one (resized image) (resized_sections image) one other p q

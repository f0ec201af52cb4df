-- The sections that move take memory.
use Rattle.std.proofs.Common.{◌≡◌, ℕ, zero, suc, Bool, true, ◌⊎◌, List, [], ◌∷◌, ◌++◌, map, refl, sym, ap, ◌∙◌, subst, inl, inr, arith, Option, Some, None}
use Rattle.std.specs.Prelude.{◌&&◌, ◌||◌, ◌==◌, filter}
use Rattle.std.specs.List.{flat_map, list_any, slice_get}
use Rattle.std.proofs.lemmas.Bool.{and_parts, eqb-true, false≢true, or_cases}
use Rattle.std.proofs.lemmas.Option.{same_Some}
use Rattle.elf_format.specs.File.{loads_of}
use Rattle.elf_format.specs.Options.{is_one_of, is_some_and}
use Rattle.elf_layout_plan.specs.Added.{Slot}
use Rattle.elf_layout_plan.specs.Blocks.{Block, earlier_moves, has_cause, have_causes, is_block_of, later_moves, some_two, stay_apart}
use Rattle.elf_image.specs.Kept.{kept_sections}
use Rattle.elf_layout_plan.specs.Memory.{Resized, SizedSection, blocks_with, edge_blocks, header_blocks, section_block, sized_sections, takes_memory}
use Rattle.elf_layout_plan.specs.Rounds.{are_in_old_order, do_move, sections_at}
use Rattle.elf_layout_plan.specs.Standing.{slot_of}
use Rattle.elf_layout_plan.proofs.ForCallers.ApartFixed.{edges_no_section, headers_no_section}
use Rattle.elf_layout_plan.proofs.ForCallers.ApartLists.{Each, Some_in, all-at, any-at, each-append, each-at, each-filter, each-from, each-map, each-more}
use Rattle.elf_layout_plan.proofs.ForCallers.ApartPlaces.{slot_found}
use Rattle.elf_layout_plan.proofs.ForCallers.ApartSections.{sized-at, sized_of}

-- of two blocks for which a test holds one passes another test, so some block of the list does
one_of_two : (test : Block → Block → Bool) (own : Block → Bool) → ((a b : Block) → test a b ≡ true → (own a ≡ true) ⊎ (own b ≡ true))
    → (bs : List Block) → some_two test bs ≡ true → Some_in (λ b. own b ≡ true) bs
unfolding some_two
one_of_two test own tells [] h = absurd (false≢true h)
one_of_two test own tells (b ∷ bs) h = elim (or_cases (list_any (λ c. test b c || test c b) bs) (some_two test bs) h) [
  | inl here ↦
      let (i, c, at, either) = any-at (λ c. test b c || test c b) bs here in
      let found : (own b ≡ true) ⊎ (own c ≡ true) = elim (or_cases (test b c) (test c b) either) [
        | inl one ↦ tells b c one
        | inr other ↦ turned (tells c b other)
      ] in
      by_found i c at found
  | inr behind ↦ let (i, c, at, p) = one_of_two test own tells bs behind in (suc i, c, at, p)
]
  where
    turned : {A B : Type 0} → A ⊎ B → B ⊎ A
    turned (inl x) = inr x
    turned (inr x) = inl x

    by_found : (i : ℕ) (c : Block) → slice_get bs i ≡ Some c → (own b ≡ true) ⊎ (own c ≡ true) → Some_in (λ d. own d ≡ true) (b ∷ bs)
    by_found i c at (inl p) = (zero, b, refl, p)
    by_found i c at (inr p) = (suc i, c, at, p)

cause_of : (n : ℕ) (a b : Block) → (is_block_of n a && earlier_moves a b || is_block_of n b && later_moves a b) ≡ true
    → (is_block_of n a ≡ true) ⊎ (is_block_of n b ≡ true)
cause_of n a b h = elim (or_cases (is_block_of n a && earlier_moves a b) (is_block_of n b && later_moves a b) h) [
  | inl earlier ↦ inl (and_parts (is_block_of n a) (earlier_moves a b) earlier).0
  | inr later ↦ inr (and_parts (is_block_of n b) (later_moves a b) later).0
]

module _ (r : Resized) (sized : sized_sections r ≡ map (sized_of r) (kept_sections r.image)) where
  -- the block of a section's is that of one which takes memory
  blocks_take : (added i : ℕ) (s : SizedSection) → slice_get (sized_sections r) i ≡ Some s
      → Each (λ b. is_block_of s.kept.position b ≡ true → takes_memory s.kept.section ≡ true) (blocks_with r added)
  unfolding blocks_with
  blocks_take added i s at =
      let P : Block → Type 0 = λ b. is_block_of s.kept.position b ≡ true → takes_memory s.kept.section ≡ true in
      let none : (b : Block) → b.section ≡ None → P b =
      λ b e h. absurd (false≢true (sym (ap (λ (o : Option ℕ). is_some_and (λ p. p == s.kept.position) o) e) ∙ h)) in
      let edges = flat_map edge_blocks (loads_of r.image.segments) in
      let taking = filter (λ t. takes_memory t.kept.section) (sized_sections r) in
      each-append P (header_blocks r added ++ edges) (map (section_block r) taking)
      (each-append P (header_blocks r added) edges (each-more (λ b. b.section ≡ None) P none (header_blocks r added) (headers_no_section r added))
      (each-more (λ b. b.section ≡ None) P none edges (edges_no_section (loads_of r.image.segments))))
      (each-map P (section_block r) taking
      (each-more (λ t. (takes_memory t.kept.section ≡ true) × (t.kept.position ≡ s.kept.position → t ≡ s)) (λ t. P (section_block r t))
      (λ t h same. ap (λ (x : SizedSection). takes_memory x.kept.section)
      (sym (h.1 (eqb-true t.kept.position s.kept.position same))) ∙ h.0) taking
      (each-filter (λ t. t.kept.position ≡ s.kept.position → t ≡ s) (λ t. takes_memory t.kept.section) (sized_sections r)
      (each-from (λ t. t.kept.position ≡ s.kept.position → t ≡ s) (sized_sections r) is_one))))
    where
      is_one : (j : ℕ) (t : SizedSection) → slice_get (sized_sections r) j ≡ Some t → t.kept.position ≡ s.kept.position → t ≡ s
      is_one j t at_t h =
          let t_position : t.kept.position ≡ j = (sized-at r sized j t at_t).0 in
          let s_position : s.kept.position ≡ i = (sized-at r sized i s at).0 in
          let index : j ≡ i = omega (arith, t_position, s_position, h) in
          let at_i : slice_get (sized_sections r) i ≡ Some t = subst (λ (n : ℕ). slice_get (sized_sections r) n ≡ Some t) index at_t in
          same_Some t s (sym at_i ∙ at)

  -- what moves takes memory
  moved_takes : (looked : ℕ) (moved : List ℕ) → do_move r looked moved ≡ true → (i : ℕ) (s : SizedSection)
      → slice_get (sized_sections r) i ≡ Some s → is_one_of moved s.kept.position ≡ true → takes_memory s.kept.section ≡ true
  moved_takes looked moved move i s at among =
      let causes : have_causes (blocks_with r looked) moved ≡ true =
      (and_parts (have_causes (blocks_with r looked) moved) (stay_apart moved (blocks_with r looked))
      (and_parts (have_causes (blocks_with r looked) moved && stay_apart moved (blocks_with r looked))
      (are_in_old_order (sections_at r moved)) move).0).0 in
      let (k, n, at_n, same) = any-at (λ x. x == s.kept.position) moved among in
      let cause : has_cause (blocks_with r looked) s.kept.position ≡ true =
      ap (has_cause (blocks_with r looked)) (sym (eqb-true n s.kept.position same))
      ∙ each-at (λ m. has_cause (blocks_with r looked) m ≡ true) moved (all-at (has_cause (blocks_with r looked)) moved causes) k n at_n in
      let (j, b, at_b, own) = one_of_two
      (λ a c. is_block_of s.kept.position a && earlier_moves a c || is_block_of s.kept.position c && later_moves a c)
      (is_block_of s.kept.position) (cause_of s.kept.position) (blocks_with r looked) cause in
      each-at (λ c. is_block_of s.kept.position c ≡ true → takes_memory s.kept.section ≡ true) (blocks_with r looked)
      (blocks_take looked i s at) j b at_b own

  -- a section with a slot takes memory
  pub slot_takes : (looked : ℕ) (moved : List ℕ) → do_move r looked moved ≡ true → (i : ℕ) (s : SizedSection)
      → slice_get (sized_sections r) i ≡ Some s → (x : Slot) → slot_of r moved s ≡ Some x → takes_memory s.kept.section ≡ true
  slot_takes looked moved move i s at x h =
      let (_, _, same, (among, _)) = slot_found r sized moved s x h in
      moved_takes looked moved move i s at (ap (is_one_of moved) (sym (eqb-true x.position s.kept.position same)) ∙ among)

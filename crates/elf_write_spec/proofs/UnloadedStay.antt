-- A section that takes no memory keeps its address.
use Rattle.std.proofs.Common.{◌≡◌, ℕ, ◌+◌, Bool, true, false, ◌⊎◌, List, [], ◌∷◌, ◌++◌, map, refl, sym, ap, ◌∙◌, subst, inl, inr, arith, Option, Some, None}
use Rattle.std.specs.Prelude.{◌==◌, ◌&&◌, ◌||◌, not, filter}
use Rattle.std.specs.List.{flat_map, list_any, slice_get}
use Rattle.std.proofs.lemmas.Bool.{and_parts, both_ways, eqb-true, false≢true, or_cases}
use Rattle.std.proofs.lemmas.Option.{same_Some}
use Rattle.elf_format.specs.File.{loads_of}
use Rattle.elf_format.specs.Image.{Image, ImageSection}
use Rattle.elf_format.specs.Options.{is_one_of, is_some_and}
use Rattle.elf_format.specs.Places.{Place}
use Rattle.elf_layout_plan.specs.Added.{Slot}
use Rattle.elf_layout_plan.specs.Blocks.{Block, earlier_moves, has_cause, have_causes, is_block_of, later_moves, some_two, stay_apart}
use Rattle.elf_layout_plan.specs.Anchors.{is_loaded_section}
use Rattle.elf_image.specs.Kept.{KeptSection, kept_sections}
use Rattle.elf_layout_plan.specs.Memory.{Resized, SizedSection, blocks_with, edge_blocks, header_blocks, is_uninitialized_of_threads, section_block, sized_sections, takes_memory}
use Rattle.elf_format.specs.declared.constants.TheConstants.{SHT_NULL}
use Rattle.elf_layout_plan.specs.Plan.{IsPlan, Plan, plan_for, resized}
use Rattle.elf_layout_plan.specs.Rounds.{are_in_old_order, do_move, sections_at}
use Rattle.elf_layout_plan.specs.Standing.{place_in, places, slot_of}
use Rattle.elf_layout_plan.proofs.ForCallers.ApartFixed.{edges_no_section, headers_no_section, resized_sections}
use Rattle.elf_layout_plan.proofs.ForCallers.ApartLists.{Each, all-at, any-at, at-map, each-append, each-at, each-filter, each-from, each-map, each-more}
use Rattle.elf_layout_plan.proofs.ForCallers.ApartPlaces.{keeps_address, slot_found}
use Rattle.elf_layout_plan.proofs.ForCallers.ApartSections.{at-sized, kept-at, sized-at, sized_of}

-- where two blocks are found, one of them has what the test tells of each two
some_two-none : (test : Block → Block → Bool) (P : Block → Type 0) → ((a b : Block) → test a b ≡ true → P a ⊎ P b) → (bs : List Block)
    → Each (λ b. P b → ⊥) bs
    → some_two test bs ≡ true → ⊥
unfolding some_two
some_two-none test P tells [] none h = false≢true h
some_two-none test P tells (b ∷ bs) none h = elim (or_cases (list_any (λ c. test b c || test c b) bs) (some_two test bs) h) [
  | inl here ↦
      let (i, c, at, either) = any-at (λ c. test b c || test c b) bs here in
      let none_c : P c → ⊥ = each-at (λ x. P x → ⊥) bs none.1 i c at in
      elim (or_cases (test b c) (test c b) either) [
        | inl one ↦ elim (tells b c one) [ inl x ↦ none.0 x | inr x ↦ none_c x ]
        | inr two ↦ elim (tells c b two) [ inl x ↦ none_c x | inr x ↦ none.0 x ]
      ]
  | inr behind ↦ some_two-none test P tells bs none.1 behind
]

cause_of : (n : ℕ) (a b : Block) → (is_block_of n a && earlier_moves a b || is_block_of n b && later_moves a b) ≡ true
    → (is_block_of n a ≡ true) ⊎ (is_block_of n b ≡ true)
cause_of n a b h = elim (or_cases (is_block_of n a && earlier_moves a b) (is_block_of n b && later_moves a b) h) [
  | inl earlier ↦ inl (and_parts (is_block_of n a) (earlier_moves a b) earlier).0
  | inr later ↦ inr (and_parts (is_block_of n b) (later_moves a b) later).0
]

takes_none : (s : ImageSection) → is_loaded_section s ≡ false → takes_memory s ≡ true → ⊥
takes_none s unloaded takes =
    both_ways (is_loaded_section s) unloaded
    (and_parts (is_loaded_section s) (not (s.sh_type == SHT_NULL))
    (and_parts (is_loaded_section s && not (s.sh_type == SHT_NULL)) (not (is_uninitialized_of_threads s)) takes).0).0

module _ (r : Resized) (sized : sized_sections r ≡ map (sized_of r) (kept_sections r.image)) (i : ℕ) (s : KeptSection)
    (at : slice_get (kept_sections r.image) i ≡ Some s)
    (unloaded : is_loaded_section s.section ≡ false) where
  mine : s.position ≡ i
  mine = let e : s.position ≡ 0 + i = (kept-at 0 r.image.section_numbers r.image.sections i s at).0 in omega (arith, e)

  -- a section that takes no memory is no block
  no_block : (added : ℕ) → Each (λ b. is_block_of s.position b ≡ true → ⊥) (blocks_with r added)
  unfolding blocks_with
  no_block added =
      let P : Block → Type 0 = λ b. is_block_of s.position b ≡ true → ⊥ in
      let none : (b : Block) → b.section ≡ None → P b = λ b e h. false≢true (sym (ap (is_some_and (λ p. p == s.position)) e) ∙ h) in
      let edges : List Block = flat_map edge_blocks (loads_of r.image.segments) in
      let taking : List SizedSection = filter (λ t. takes_memory t.kept.section) (sized_sections r) in
      each-append P (header_blocks r added ++ edges) (map (section_block r) taking)
      (each-append P (header_blocks r added) edges
      (each-more (λ b. b.section ≡ None) P none (header_blocks r added) (headers_no_section r added))
      (each-more (λ b. b.section ≡ None) P none edges (edges_no_section (loads_of r.image.segments))))
      (each-map P (section_block r) taking
      (each-more (λ t. (takes_memory t.kept.section ≡ true) × (takes_memory t.kept.section ≡ true → P (section_block r t)))
      (λ t. P (section_block r t)) (λ t h. h.1 h.0) taking
      (each-filter (λ t. takes_memory t.kept.section ≡ true → P (section_block r t)) (λ t. takes_memory t.kept.section) (sized_sections r)
      (each-from (λ t. takes_memory t.kept.section ≡ true → P (section_block r t)) (sized_sections r) taking_other))))
    where
      taking_other : (j : ℕ) (t : SizedSection) → slice_get (sized_sections r) j ≡ Some t → takes_memory t.kept.section ≡ true
          → (t.kept.position == s.position) ≡ true → ⊥
      taking_other j t at_t takes h =
          let (position, at_k, _) = sized-at r sized j t at_t in
          let same : t.kept.position ≡ s.position = eqb-true t.kept.position s.position h in
          let index : j ≡ i = omega (arith, position, mine, same) in
          let at_i : slice_get (kept_sections r.image) i ≡ Some t.kept =
          subst (λ (n : ℕ). slice_get (kept_sections r.image) n ≡ Some t.kept) index at_k in
          let own : t.kept ≡ s = same_Some t.kept s (sym at_i ∙ at) in
          takes_none s.section unloaded (ap (λ (k : KeptSection). takes_memory k.section) (sym own) ∙ takes)

  isnt_moved : (looked : ℕ) (moved : List ℕ) → do_move r looked moved ≡ true → is_one_of moved s.position ≡ true → ⊥
  isnt_moved looked moved move among =
      let causes : have_causes (blocks_with r looked) moved ≡ true =
      (and_parts (have_causes (blocks_with r looked) moved) (stay_apart moved (blocks_with r looked))
      (and_parts (have_causes (blocks_with r looked) moved && stay_apart moved (blocks_with r looked))
      (are_in_old_order (sections_at r moved)) move).0).0 in
      let (k, n, at_n, same) = any-at (λ x. x == s.position) moved among in
      let cause : has_cause (blocks_with r looked) s.position ≡ true =
      ap (has_cause (blocks_with r looked)) (sym (eqb-true n s.position same))
      ∙ each-at (λ m. has_cause (blocks_with r looked) m ≡ true) moved (all-at (has_cause (blocks_with r looked)) moved causes) k n at_n in
      some_two-none (λ a c. is_block_of s.position a && earlier_moves a c || is_block_of s.position c && later_moves a c)
      (λ b. is_block_of s.position b ≡ true)
      (cause_of s.position) (blocks_with r looked) (no_block looked) cause

  stays_by : (looked : ℕ) (moved : List ℕ) → do_move r looked moved ≡ true → (o : Option Slot) → slot_of r moved (sized_of r s) ≡ o
      → (place_in r moved (sized_of r s)).sh_addr ≡ s.section.sh_addr
  stays_by looked moved move None e = keeps_address r moved (sized_of r s) e
  stays_by looked moved move (Some x) e =
      let (_, _, same, (among, _)) = slot_found r sized moved (sized_of r s) x e in
      absurd (isnt_moved looked moved move (ap (is_one_of moved) (sym (eqb-true x.position s.position same)) ∙ among))

  stays : (looked : ℕ) (moved : List ℕ) → do_move r looked moved ≡ true → (x : Place) → slice_get (places r moved) s.position ≡ Some x
      → x.sh_addr ≡ s.section.sh_addr
  unfolding places
  stays looked moved move x there =
      let t : SizedSection = sized_of r s in
      let at_t : slice_get (sized_sections r) s.position ≡ Some t =
      subst (λ (n : ℕ). slice_get (sized_sections r) n ≡ Some t) (sym mine) (at-sized r sized i s at) in
      let placed : slice_get (places r moved) s.position ≡ Some (place_in r moved t) =
      at-map (place_in r moved) (sized_sections r) s.position t at_t in
      ap (λ (y : Place). y.sh_addr) (same_Some x (place_in r moved t) (sym there ∙ placed))
      ∙ stays_by looked moved move (slot_of r moved t) refl

pub unloaded_stays : (image : Image) (plan : Plan) → IsPlan (resized image) plan → (i : ℕ) (s : KeptSection)
    → slice_get (kept_sections image) i ≡ Some s
    → is_loaded_section s.section ≡ false → (x : Place) → slice_get plan.places s.position ≡ Some x → x.sh_addr ≡ s.section.sh_addr
unfolding plan_for
unloaded_stays image plan is i s at unloaded x there =
    stays (resized image) (resized_sections image) i s at unloaded plan.looked is.moved is.ended.move x
    (sym (ap (λ (l : Plan). slice_get l.places s.position) is.follows) ∙ there)

-- Sections that can't move stay where they are.
use Rattle.std.proofs.Common.{◌≡◌, ℕ, zero, suc, ◌+◌, ◌<◌, Bool, true, ◌&&◌, ◌||◌, ◌⊎◌, List, [], ◌∷◌, ◌++◌, map, refl, sym, ap, ◌∙◌, subst, inl, inr, arith, Option, Some, None}
use Rattle.std.specs.Prelude.{◌==◌, filter, nat_le, nat_lt}
use Rattle.std.specs.List.{flat_map, list_any, slice_get}
use Rattle.std.proofs.lemmas.Bool.{and_parts, eqb-true, false≢true, ltb-true, or_cases}
use Rattle.std.proofs.lemmas.Option.{same_Some}
use Rattle.elf_format.specs.declared.records.SegmentHeader.{SegmentHeader}
use Rattle.elf_format.specs.File.{loads_of}
use Rattle.elf_format.specs.Image.{Image}
use Rattle.elf_format.specs.Options.{is_one_of, is_some_and}
use Rattle.elf_format.specs.Places.{Place}
use Rattle.elf_format.specs.declared.range.Range.{Range}
use Rattle.elf_format.specs.Ranges.{range}
use Rattle.elf_format.specs.Records.{file_header_size}
use Rattle.elf_layout_plan.specs.Added.{Slot}
use Rattle.elf_layout_plan.specs.ApartLaws.{FixedSectionsStay, HasPlaceAt}
use Rattle.elf_layout_plan.specs.Blocks.{Block, earlier_moves, has_cause, have_causes, is_block_of, later_moves, overlaps, some_two, stay_apart}
use Rattle.elf_tables.specs.Kept.{KeptSection, kept_sections}
use Rattle.elf_layout_plan.specs.Memory.{Resized, SizedSection, block_in_load, blocks_with, edge_blocks, header_blocks, loaded_over, priority_of, section_block, sized_sections, table_at_read, table_load, table_size_with, takes_memory}
use Rattle.elf_layout_plan.specs.Plan.{Plan, plan_for, resized}
use Rattle.elf_layout_plan.specs.Rounds.{are_in_old_order, do_move, sections_at}
use Rattle.elf_layout_plan.specs.Sizes.{new_size, new_sizes}
use Rattle.elf_layout_plan.specs.Standing.{place_in, places, slot_of}
use Rattle.elf_layout_plan.proofs.ApartLists.{Each, Some_in, all-at, any-at, at-map, each-append, each-at, each-filter, each-from, each-map, each-more}
use Rattle.elf_layout_plan.proofs.ApartPlaces.{keeps_address, slot_found}
use Rattle.elf_layout_plan.proofs.ApartSections.{at-sized, kept-at, sized-at, sized_from-map, sized_of}

-- ## Blocks that are no section's

pub no_section_in_load : (part : Range) (size : ℕ) (o : Option SegmentHeader) → Each (λ b. b.section ≡ None) (block_in_load part size o)
no_section_in_load part size None = tt
no_section_in_load part size (Some p) = (refl, tt)

-- the two parts of the headers' blocks
abbrev pub file_header_blocks : Resized → List Block
file_header_blocks r = let header = range 0 (file_header_size r.read.form) in block_in_load header header.size (loaded_over header r.read.segments)

abbrev pub table_blocks : Resized → ℕ → List Block
table_blocks r added = block_in_load (table_at_read r) (table_size_with r added) (table_load r)

pub headers_no_section : (r : Resized) (added : ℕ) → Each (λ b. b.section ≡ None) (header_blocks r added)
headers_no_section r added =
    let header = range 0 (file_header_size r.read.form) in
    each-append (λ (b : Block). b.section ≡ None) (file_header_blocks r) (table_blocks r added) (no_section_in_load header header.size (loaded_over header r.read.segments))
    (no_section_in_load (table_at_read r) (table_size_with r added) (table_load r))

pub edges_no_section : (ps : List SegmentHeader) → Each (λ b. b.section ≡ None) (flat_map edge_blocks ps)
edges_no_section [] = tt
edges_no_section (p ∷ ps) = (refl, (refl, (refl, edges_no_section ps)))

-- ## Causes

-- of two blocks, in one order or the other, one has a fact
pub some_two-has : (test : Block → Block → Bool) (P : Block → Type 0) → ((a b : Block) → test a b ≡ true → P a ⊎ P b) → (bs : List Block) → some_two test bs ≡ true → Some_in P bs
unfolding some_two
some_two-has test P tells [] h = absurd (false≢true h)
some_two-has test P tells (b ∷ bs) h = elim (or_cases (list_any (λ c. test b c || test c b) bs) (some_two test bs) h) [
  | inl here ↦
      let (i, c, at, either) = any-at (λ c. test b c || test c b) bs here in
      let found : P b ⊎ P c = elim (or_cases (test b c) (test c b) either) [
        | inl one ↦ tells b c one
        | inr other ↦ turned (tells c b other)
      ] in
      by_found i c at found
  | inr behind ↦ let (i, c, at, p) = some_two-has test P tells bs behind in (suc i, c, at, p)
]
  where
    turned : {A B : Type 0} → A ⊎ B → B ⊎ A
    turned (inl x) = inr x
    turned (inr x) = inl x

    by_found : (i : ℕ) (c : Block) → slice_get bs i ≡ Some c → P b ⊎ P c → Some_in P (b ∷ bs)
    by_found i c at (inl p) = (zero, b, refl, p)
    by_found i c at (inr p) = (suc i, c, at, p)

-- a section's block, which can move
abbrev pub CanMove : ℕ → Block → Type 0
CanMove n b = (is_block_of n b ≡ true) × (0 < b.priority)

pub cause_of : (n : ℕ) (a b : Block) → (is_block_of n a && earlier_moves a b || is_block_of n b && later_moves a b) ≡ true → CanMove n a ⊎ CanMove n b
cause_of n a b h = elim (or_cases (is_block_of n a && earlier_moves a b) (is_block_of n b && later_moves a b) h) [
  | inl earlier ↦
      let parts = and_parts (is_block_of n a) (earlier_moves a b) earlier in
      let moves = and_parts (overlaps a b && nat_lt 0 a.priority) (nat_le b.priority a.priority) parts.1 in
      inl (parts.0, ltb-true 0 a.priority (and_parts (overlaps a b) (nat_lt 0 a.priority) moves.0).1)
  | inr later ↦
      let parts = and_parts (is_block_of n b) (later_moves a b) later in
      let less : a.priority < b.priority = ltb-true a.priority b.priority (and_parts (overlaps a b) (nat_lt a.priority b.priority) parts.1).1 in
      inr (parts.0, omega arith)
]

-- ## The law

module _ (r : Resized) (sized : sized_sections r ≡ map (sized_of r) (kept_sections r.image)) where
  -- the block of a section that can't move never has a cause
  blocks_fixed : (added i : ℕ) (s : KeptSection) → slice_get (kept_sections r.image) i ≡ Some s → priority_of r s ≡ 0
      → Each (λ b. is_block_of s.position b ≡ true → b.priority ≡ 0) (blocks_with r added)
  unfolding blocks_with
  blocks_fixed added i s at fixed =
      let P : Block → Type 0 = λ b. is_block_of s.position b ≡ true → b.priority ≡ 0 in
      let none : (b : Block) → b.section ≡ None → P b = λ b e h. absurd (false≢true (sym (ap (λ (o : Option ℕ). is_some_and (λ p. p == s.position) o) e) ∙ h)) in
      let edges = flat_map edge_blocks (loads_of r.image.segments) in
      let taking = filter (λ t. takes_memory t.kept.section) (sized_sections r) in
      each-append P (header_blocks r added ++ edges) (map (section_block r) taking)
      (each-append P (header_blocks r added) edges (each-more (λ b. b.section ≡ None) P none (header_blocks r added) (headers_no_section r added))
      (each-more (λ b. b.section ≡ None) P none edges (edges_no_section (loads_of r.image.segments))))
      (each-map P (section_block r) taking
      (each-more (λ t. (takes_memory t.kept.section ≡ true) × P (section_block r t)) (λ t. P (section_block r t)) (λ t h. h.1) taking
      (each-filter (λ t. P (section_block r t)) (λ t. takes_memory t.kept.section) (sized_sections r) (each-from (λ t. P (section_block r t)) (sized_sections r) section_fixed))))
    where
      section_fixed : (j : ℕ) (t : SizedSection) → slice_get (sized_sections r) j ≡ Some t → (t.kept.position == s.position) ≡ true → priority_of r t.kept ≡ 0
      section_fixed j t at_t h =
          let (position, at_k, _) = sized-at r sized j t at_t in
          let mine : s.position ≡ 0 + i = (kept-at 0 r.image.section_numbers r.image.sections i s at).0 in
          let same : t.kept.position ≡ s.position = eqb-true t.kept.position s.position h in
          let index : j ≡ i = omega (arith, position, mine, same) in
          let at_i : slice_get (kept_sections r.image) i ≡ Some t.kept = subst (λ (n : ℕ). slice_get (kept_sections r.image) n ≡ Some t.kept) index at_k in
          ap (priority_of r) (same_Some t.kept s (sym at_i ∙ at)) ∙ fixed

  -- a section that can't move never moves
  pub fixed_isnt_moved : (looked : ℕ) (moved : List ℕ) → do_move r looked moved ≡ true → (i : ℕ) (s : KeptSection) → slice_get (kept_sections r.image) i ≡ Some s → priority_of r s ≡ 0
      → is_one_of moved s.position ≡ true → ⊥
  fixed_isnt_moved looked moved move i s at fixed among =
      let causes : have_causes (blocks_with r looked) moved ≡ true =
      (and_parts (have_causes (blocks_with r looked) moved) (stay_apart moved (blocks_with r looked))
      (and_parts (have_causes (blocks_with r looked) moved && stay_apart moved (blocks_with r looked)) (are_in_old_order (sections_at r moved)) move).0).0 in
      let (k, n, at_n, same) = any-at (λ x. x == s.position) moved among in
      let cause : has_cause (blocks_with r looked) s.position ≡ true =
      ap (has_cause (blocks_with r looked)) (sym (eqb-true n s.position same)) ∙ each-at (λ m. has_cause (blocks_with r looked) m ≡ true) moved (all-at (has_cause (blocks_with r looked)) moved causes) k n at_n in
      let (j, b, at_b, can) = some_two-has (λ a c. is_block_of s.position a && earlier_moves a c || is_block_of s.position c && later_moves a c) (CanMove s.position) (cause_of s.position) (blocks_with r looked) cause in
      let zero_there : b.priority ≡ 0 = each-at (λ c. is_block_of s.position c ≡ true → c.priority ≡ 0) (blocks_with r looked) (blocks_fixed looked i s at fixed) j b at_b can.0 in
      let some_there : 0 < b.priority = can.1 in
      omega (arith, zero_there, some_there)

  fixed_stays : (looked : ℕ) (moved : List ℕ) → do_move r looked moved ≡ true → (i : ℕ) (s : KeptSection) → slice_get (kept_sections r.image) i ≡ Some s → priority_of r s ≡ 0
      → HasPlaceAt (places r moved) s.position s.section.sh_addr
  unfolding places
  fixed_stays looked moved move i s at fixed =
      let t = sized_of r s in
      let mine : s.position ≡ 0 + i = (kept-at 0 r.image.section_numbers r.image.sections i s at).0 in
      let position : i ≡ s.position = omega (arith, mine) in
      let at_t : slice_get (sized_sections r) s.position ≡ Some t = subst (λ (n : ℕ). slice_get (sized_sections r) n ≡ Some t) position (at-sized r sized i s at) in
      record {
        place = place_in r moved t;
        is_there = at-map (place_in r moved) (sized_sections r) s.position t at_t;
        same_address = by_slot (slot_of r moved t) refl;
      }
    where
      by_slot : (o : Option Slot) → slot_of r moved (sized_of r s) ≡ o → (place_in r moved (sized_of r s)).sh_addr ≡ s.section.sh_addr
      by_slot None e = keeps_address r moved (sized_of r s) e
      by_slot (Some x) e =
          let (_, _, same, (among, _)) = slot_found r sized moved (sized_of r s) x e in
          absurd (fixed_isnt_moved looked moved move i s at fixed (ap (is_one_of moved) (sym (eqb-true x.position s.position same)) ∙ among))

-- the sizes of an image's sections
pub resized_sections : (image : Image) → sized_sections (resized image) ≡ map (sized_of (resized image)) (kept_sections image)
unfolding new_sizes
resized_sections image = sized_from-map (new_size (resized image).read image) (kept_sections image)

pub fixed_sections_stay : FixedSectionsStay
unfolding plan_for
fixed_sections_stay image plan is i s at fixed =
    let placed : plan.places ≡ places (resized image) is.moved = ap (λ (l : Plan). l.places) is.follows in
    subst (λ (l : List Place). HasPlaceAt l s.position s.section.sh_addr) (sym placed)
    (fixed_stays (resized image) (resized_sections image) plan.looked is.moved is.ended.move i s at fixed)

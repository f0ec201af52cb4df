-- What is known of the blocks of an image, and of the sections that move.
use Rattle.std.proofs.Common.{◌≡◌, ℕ, suc, ◌+◌, ◌-◌, ◌<◌, ◌≤◌, List, [], ◌∷◌, ◌++◌, Bool, true, false, not, ◌&&◌, ◌||◌, length, map, refl, sym, ap, ◌∙◌, subst, inl, inr, get_or, arith}
use Rattle.std.specs.Prelude.{All, None, Option, Some, filter, ◌==◌}
use Rattle.std.specs.List.{flat_map, list_all}
use Rattle.std.proofs.lemmas.Bool.{and_from, and_left, and_parts, both_ways, cases_lt, eqb-true, ne_eqb, or_cases, or_from, or_left, or_right, eq-eqb}
use Rattle.std.proofs.lemmas.List.{length-map}
use Rattle.std.proofs.lemmas.List.Elements.{All-append, All-cons, All-filter, All-nil}
use Rattle.elf_format.specs.File.{loads_of}
use Rattle.elf_format.specs.Image.{ImageSection}
use Rattle.elf_format.specs.Options.{is_one_of, is_some_and}
use Rattle.elf_format.specs.Ranges.{range}
use Rattle.elf_format.specs.declared.range.Range.{Range}
use Rattle.elf_format.specs.Records.{file_header_size}
use Rattle.elf_format.specs.declared.records.SegmentHeader.{SegmentHeader}
use Rattle.elf_layout_plan.specs.Blocks.{Block, are_moving, earlier_moves, has_cause, have_causes, is_block_of, later_moves, moving_sections, overlaps, some_two, stay_apart}
use Rattle.elf_image.specs.Kept.{kept_from, kept_sections}
use Rattle.elf_layout_plan.specs.Memory.{Resized, SizedSection, block_in_load, blocks_with, edge_blocks, fixed_block, header_blocks, loaded_over, section_block, sized_from, sized_sections, table_at_read, table_load, table_size_with, takes_memory}
use Rattle.elf_layout_plan.specs.Rounds.{are_in_old_order, do_move, sections_at}
use Rattle.elf_layout_plan.specs.Sizes.{new_size, new_sizes}
use Rattle.elf_layout_moves.specs.BlockSteps.{IsWhole}
use Rattle.elf_layout_moves.specs.ImageBlocks.{AreNumbered}
use Rattle.elf_layout_moves.specs.Inner.{IsResized}
use Rattle.elf_layout_moves.proofs.SomeTwo.{none_of_two}
use mathlib.Core.Path.{fun_ext}
use Rattle.elf_layout_plan.proofs.ForCallers.KeptSections.{length-kept}

-- ## The blocks

-- a block of an image of so many sections
pub record IsImageBlock (count : ℕ) (b : Block) : Type 0 where
  pub whole : IsWhole b
  pub within : (position : ℕ) → b.section ≡ Some position → position < count

module _ (count : ℕ) where
  fixed_one : (start size : ℕ) → IsImageBlock count (fixed_block start size)
  fixed_one start size = record {
    whole = record { owned = λ more. absurd (omega (arith, more)); placed = λ is. cc is; fixed = λ is. refl };
    within = λ position is. cc is;
  }

  load_one : (start : ℕ) → IsImageBlock count (record (fixed_block start 0) { is_load_start = true })
  load_one start = record {
    whole = record { owned = λ more. absurd (omega (arith, more)); placed = λ is. refl; fixed = λ is. refl };
    within = λ position is. cc is;
  }

  section_one : (r : Resized) (s : SizedSection) → s.kept.position < count → IsImageBlock count (section_block r s)
  section_one r s within = record {
    whole = record { owned = λ more. refl; placed = λ is. cc is; fixed = λ is. cc is };
    within = λ position is.
        let same : s.kept.position ≡ position = cc is in
        omega (arith, within, same);
  }

  in_load_all : (part : Range) (size : ℕ) (load : Option SegmentHeader) → All (IsImageBlock count) (block_in_load part size load)
  in_load_all part size None = All-nil (IsImageBlock count)
  in_load_all part size (Some p) = All-cons (IsImageBlock count) (fixed_block (p.p_vaddr + part.start - p.p_offset) size) [] (fixed_one (p.p_vaddr + part.start - p.p_offset) size) (All-nil (IsImageBlock count))

  edges_all : (loads : List SegmentHeader) → All (IsImageBlock count) (flat_map edge_blocks loads)
  edges_all [] = All-nil (IsImageBlock count)
  edges_all (p ∷ loads) = All-append (IsImageBlock count) (edge_blocks p) (flat_map edge_blocks loads)
      (All-cons (IsImageBlock count) (record (fixed_block p.p_vaddr 0) { is_load_start = true }) (fixed_block (p.p_vaddr + p.p_filesz) 0 ∷ fixed_block (p.p_vaddr + p.p_memsz) 0 ∷ []) (load_one p.p_vaddr)
      (All-cons (IsImageBlock count) (fixed_block (p.p_vaddr + p.p_filesz) 0) (fixed_block (p.p_vaddr + p.p_memsz) 0 ∷ []) (fixed_one (p.p_vaddr + p.p_filesz) 0)
      (All-cons (IsImageBlock count) (fixed_block (p.p_vaddr + p.p_memsz) 0) [] (fixed_one (p.p_vaddr + p.p_memsz) 0) (All-nil (IsImageBlock count)))))
      (edges_all loads)

  sections_all : (r : Resized) (zs : List SizedSection) → All (λ (z : SizedSection). z.kept.position < count) zs → All (IsImageBlock count) (map (section_block r) zs)
  sections_all r [] all = All-nil (IsImageBlock count)
  sections_all r (z ∷ zs) all =
      All-cons (IsImageBlock count) (section_block r z) (map (section_block r) zs) (section_one r z (all 0 z (omega arith)))
      (sections_all r zs (λ k d within. all (suc k) d (omega (arith, within))))

-- positions stand below the count
positions_below : (k count : ℕ) (ns : List ℕ) (ss : List ImageSection) (sizes : List ℕ) → k + length ss ≤ count
    → All (λ (z : SizedSection). z.kept.position < count) (sized_from (kept_from k ns ss) sizes)
positions_below k count [] ss sizes fits = All-nil (λ (z : SizedSection). z.kept.position < count)
positions_below k count (n ∷ ns) [] sizes fits = All-nil (λ (z : SizedSection). z.kept.position < count)
positions_below k count (n ∷ ns) (s ∷ ss) [] fits = All-nil (λ (z : SizedSection). z.kept.position < count)
positions_below k count (n ∷ ns) (s ∷ ss) (size ∷ sizes) fits =
    All-cons (λ (z : SizedSection). z.kept.position < count) _ (sized_from (kept_from (k + 1) ns ss) sizes) (omega (arith, fits)) (positions_below (k + 1) count ns ss sizes (omega (arith, fits)))

module _ (r : Resized) (added : ℕ) where
  abbrev count : ℕ
  count = length r.image.sections

  pub image_blocks : All (IsImageBlock count) (blocks_with r added)
  unfolding blocks_with
  image_blocks =
      let header = range 0 (file_header_size r.read.form) in
      let sections : List SizedSection = filter (λ s. takes_memory s.kept.section) (sized_sections r) in
      All-append (IsImageBlock count) (header_blocks r added ++ flat_map edge_blocks (loads_of r.image.segments)) (map (section_block r) sections)
      (All-append (IsImageBlock count) (header_blocks r added) (flat_map edge_blocks (loads_of r.image.segments))
      (All-append (IsImageBlock count) (block_in_load header header.size (loaded_over header r.read.segments)) (block_in_load (table_at_read r) (table_size_with r added) (table_load r))
      (in_load_all count header header.size (loaded_over header r.read.segments)) (in_load_all count (table_at_read r) (table_size_with r added) (table_load r)))
      (edges_all count (loads_of r.image.segments)))
      (sections_all count r sections (All-filter (λ s. takes_memory s.kept.section) (λ (z : SizedSection). z.kept.position < count) (sized_sections r)
      (positions_below 0 count r.image.section_numbers r.image.sections r.sizes (omega arith))))

  pub wholes : All IsWhole (blocks_with r added)
  wholes k d within = (image_blocks k d within).whole

  no_block_by : (position : ℕ) (o : Option ℕ) → count ≤ position → ((q : ℕ) → o ≡ Some q → q < count) → is_some_and (λ p. p == position) o ≡ false
  no_block_by position None past within = refl
  no_block_by position (Some q) past within = ne_eqb q position (λ same. omega (arith, same, past, within q refl))

  -- no block is that of a section past the last one
  pub no_block : (position : ℕ) (b : Block) → count ≤ position → IsImageBlock count b → is_block_of position b ≡ false
  no_block position b past is = no_block_by position b.section past is.within

  no_cause : (position : ℕ) → count ≤ position → has_cause (blocks_with r added) position ≡ false
  no_cause position past = none_of_two (λ a b. is_block_of position a && earlier_moves a b || is_block_of position b && later_moves a b) (blocks_with r added) (λ m n d apart p q.
      let a = get_or (blocks_with r added) m d in
      let b = get_or (blocks_with r added) n d in
      or_from (is_block_of position a && earlier_moves a b) (is_block_of position b && later_moves a b)
      (and_left (is_block_of position a) (earlier_moves a b) (no_block position a past (image_blocks m d p)))
      (and_left (is_block_of position b) (later_moves a b) (no_block position b past (image_blocks n d q))))

  -- a section that has a cause is one of the image's
  caused_within : (position : ℕ) → has_cause (blocks_with r added) position ≡ true → position < count
  caused_within position caused = elim (cases_lt position count) [
    | inl within ↦ within
    | inr past ↦ absurd (both_ways (has_cause (blocks_with r added) position) (no_cause position past) caused)
  ]

  pub all_within : (moved : List ℕ) → have_causes (blocks_with r added) moved ≡ true → All (λ position. position < count) moved
  all_within [] caused = All-nil (λ position. position < count)
  all_within (p ∷ moved) caused =
      let parts = and_parts (has_cause (blocks_with r added) p) (list_all (has_cause (blocks_with r added)) moved) caused in
      All-cons (λ position. position < count) p moved (caused_within p parts.0) (all_within moved parts.1)

-- ## The same sections in another order

pub all_of : (test : ℕ → Bool) (xs : List ℕ) → ((p : ℕ) → is_one_of xs p ≡ true → test p ≡ true) → list_all test xs ≡ true
all_of test [] each = refl
all_of test (x ∷ xs) each = and_from (test x) (list_all test xs) (each x (or_left (x == x) (is_one_of xs x) (eq-eqb x x refl)))
    (all_of test xs (λ p is. each p (or_right (x == p) (is_one_of xs p) is)))

pub one_of : (test : ℕ → Bool) (xs : List ℕ) (p : ℕ) → list_all test xs ≡ true → is_one_of xs p ≡ true → test p ≡ true
one_of test [] p all is = cc is
one_of test (x ∷ xs) p all is =
    let parts = and_parts (test x) (list_all test xs) all in
    elim (or_cases (x == p) (is_one_of xs p) is) [
      | inl same ↦ subst (λ (n : ℕ). test n ≡ true) (eqb-true x p same) parts.0
      | inr other ↦ one_of test xs p parts.1 other
    ]

pub same_causes : (blocks : List Block) (found moved : List ℕ) → ((p : ℕ) → is_one_of found p ≡ is_one_of moved p) → have_causes blocks moved ≡ true → have_causes blocks found ≡ true
same_causes blocks found moved same caused = all_of (has_cause blocks) found (λ p is. one_of (has_cause blocks) moved p caused (sym (same p) ∙ is))

pub same_apart : (blocks : List Block) (found moved : List ℕ) → ((p : ℕ) → is_one_of found p ≡ is_one_of moved p) → stay_apart moved blocks ≡ true → stay_apart found blocks ≡ true
same_apart blocks found moved same apart =
    let tests : is_one_of found ≡ is_one_of moved = fun_ext same in
    ap (λ (f : ℕ → Bool). not (some_two (λ a b. overlaps a b && not (is_some_and f a.section) && not (is_some_and f b.section)) blocks)) tests ∙ apart

-- sections among which the same positions are, are those whose blocks move
pub same_moving : (blocks : List Block) (found moved : List ℕ) → ((p : ℕ) → is_one_of found p ≡ is_one_of moved p) → moved ≡ moving_sections blocks → are_moving blocks found ≡ true
same_moving blocks found moved same is =
    let alike : (p : ℕ) → is_one_of found p ≡ is_one_of (moving_sections blocks) p = λ p. same p ∙ ap (λ (l : List ℕ). is_one_of l p) is in
    and_from (list_all (is_one_of (moving_sections blocks)) found) (list_all (is_one_of found) (moving_sections blocks))
    (all_of (is_one_of (moving_sections blocks)) found (λ p among. sym (alike p) ∙ among))
    (all_of (is_one_of found) (moving_sections blocks) (λ p among. alike p ∙ among))

-- ## Images with new sizes

pub as_many_sizes : (r : Resized) → IsResized r → AreNumbered r.image → length r.sizes ≡ length r.image.sections
unfolding new_sizes
as_many_sizes r is numbered =
    ap length is.sizes ∙ length-map (kept_sections r.image) (new_size r.read r.image) ∙ length-kept r.image numbered

-- ## The sections that move

pub moves : (r : Resized) (added : ℕ) (found moved : List ℕ) → ((p : ℕ) → is_one_of found p ≡ is_one_of moved p)
    → have_causes (blocks_with r added) moved ≡ true → stay_apart moved (blocks_with r added) ≡ true → are_in_old_order (sections_at r found) ≡ true → do_move r added found ≡ true
moves r added found moved same caused apart ordered =
    and_from (have_causes (blocks_with r added) found && stay_apart found (blocks_with r added)) (are_in_old_order (sections_at r found))
    (and_from (have_causes (blocks_with r added) found) (stay_apart found (blocks_with r added)) (same_causes (blocks_with r added) found moved same caused)
    (same_apart (blocks_with r added) found moved same apart)) ordered

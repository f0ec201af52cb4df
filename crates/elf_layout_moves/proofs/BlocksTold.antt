-- The order tells the blocks of an image apart: what starts together and has one size and one rank is one block.
use Rattle.std.proofs.Common.{◌≡◌, ℕ, zero, suc, ◌+◌, List, [], ◌∷◌, ◌++◌, true, map, refl, sym, ap, ◌∙◌, subst, arith}
use Rattle.std.specs.Prelude.{Contains, None, Option, Some, filter, slice_get}
use Rattle.std.specs.List.{flat_map}
use Rattle.std.proofs.lemmas.Option.{same_Some, slice_get-get_or}
use Rattle.elf_format.specs.File.{loads_of}
use Rattle.elf_format.specs.Image.{ImageSection}
use Rattle.elf_format.specs.Ranges.{range}
use Rattle.elf_format.specs.declared.range.Range.{Range}
use Rattle.elf_format.specs.Records.{file_header_size}
use Rattle.elf_format.specs.declared.records.SegmentHeader.{SegmentHeader}
use Rattle.elf_image.specs.Kept.{kept_from}
use Rattle.elf_layout_plan.specs.Blocks.{Block, rank}
use Rattle.elf_layout_plan.specs.Memory.{Resized, SizedSection, block_in_load, blocks_with, edge_blocks, fixed_block, header_blocks, loaded_over, section_block, sized_from, sized_sections, table_at_read, table_load, table_size_with, takes_memory}
use Rattle.elf_layout_plan.proofs.ForCallers.ApartLists.{Each, each-append, each-at, each-filter, each-from, each-map, each-more, same_at}
use Rattle.elf_layout_moves.specs.BlockSteps.{AreTold}

-- the start of a loaded segment
abbrev load_block : ℕ → ℕ → Block
load_block start size = record (fixed_block start size) { is_load_start = true }

-- ## Each block

module _ (r : Resized) (added : ℕ) (P : Block → Type 0) (fixed : (start size : ℕ) → P (fixed_block start size)) (load : (start : ℕ) → P (load_block start 0))
    (section : (i : ℕ) (z : SizedSection) → slice_get (sized_sections r) i ≡ Some z → P (section_block r z)) where
  in_load : (part : Range) (size : ℕ) (o : Option SegmentHeader) → Each P (block_in_load part size o)
  in_load part size None = tt
  in_load part size (Some p) = (fixed _ _, tt)

  edges : (ps : List SegmentHeader) → Each P (flat_map edge_blocks ps)
  edges [] = tt
  edges (p ∷ ps) = (load _, (fixed _ _, (fixed _ _, edges ps)))

  pub each_block : Each P (blocks_with r added)
  unfolding blocks_with
  each_block =
      let header = range 0 (file_header_size r.read.form) in
      let taking : List SizedSection = filter (λ s. takes_memory s.kept.section) (sized_sections r) in
      each-append P (header_blocks r added ++ flat_map edge_blocks (loads_of r.image.segments)) (map (section_block r) taking)
      (each-append P (header_blocks r added) (flat_map edge_blocks (loads_of r.image.segments))
      (each-append P (block_in_load header header.size (loaded_over header r.read.segments)) (block_in_load (table_at_read r) (table_size_with r added) (table_load r))
      (in_load header header.size (loaded_over header r.read.segments)) (in_load (table_at_read r) (table_size_with r added) (table_load r)))
      (edges (loads_of r.image.segments)))
      (each-map P (section_block r) taking
      (each-more (λ z. (takes_memory z.kept.section ≡ true) × P (section_block r z)) (λ z. P (section_block r z)) (λ z h. h.1) taking
      (each-filter (λ z. P (section_block r z)) (λ z. takes_memory z.kept.section) (sized_sections r) (each-from (λ z. P (section_block r z)) (sized_sections r) section))))

-- ## Ranks

-- a section's position is its place in the list
sized_position : (k : ℕ) (ns : List ℕ) (ss : List ImageSection) (sizes : List ℕ) (i : ℕ) (z : SizedSection)
    → slice_get (sized_from (kept_from k ns ss) sizes) i ≡ Some z → z.kept.position ≡ k + i
sized_position k [] ss sizes i z at = cc at
sized_position k (n ∷ ns) [] sizes i z at = cc at
sized_position k (n ∷ ns) (s ∷ ss) [] i z at = cc at
sized_position k (n ∷ ns) (s ∷ ss) (size ∷ sizes) zero z at =
    let here : k ≡ z.kept.position = ap (λ (x : SizedSection). x.kept.position) (same_Some (record { kept = record { position = k; number = n; section = s }; size = size }) z at) in
    omega (arith, here)
sized_position k (n ∷ ns) (s ∷ ss) (size ∷ sizes) (suc i) z at = omega (arith, sized_position (k + 1) ns ss sizes i z at)

-- What a block is follows from where it starts, its size and its rank.
record IsRanked (r : Resized) (b : Block) : Type 0 where
  load : rank b ≡ 0 → b ≡ load_block b.start b.size
  alone : rank b ≡ 1 → b ≡ fixed_block b.start b.size
  owned : (p : ℕ) → rank b ≡ p + 2 → (z : SizedSection) × (slice_get (sized_sections r) p ≡ Some z) × (b ≡ section_block r z)

module _ (r : Resized) where
  fixed_ranked : (start size : ℕ) → IsRanked r (fixed_block start size)
  fixed_ranked start size = record {
    load = λ e. let no : 1 ≡ 0 = e in absurd (omega (arith, no));
    alone = λ e. refl;
    owned = λ p e. let no : 1 ≡ p + 2 = e in absurd (omega (arith, no));
  }

  load_ranked : (start : ℕ) → IsRanked r (load_block start 0)
  load_ranked start = record {
    load = λ e. refl;
    alone = λ e. let no : 0 ≡ 1 = e in absurd (omega (arith, no));
    owned = λ p e. let no : 0 ≡ p + 2 = e in absurd (omega (arith, no));
  }

  section_ranked : (i : ℕ) (z : SizedSection) → slice_get (sized_sections r) i ≡ Some z → IsRanked r (section_block r z)
  section_ranked i z at =
      let here : z.kept.position ≡ 0 + i = sized_position 0 r.image.section_numbers r.image.sections r.sizes i z at in
      record {
        load = λ e. let no : z.kept.position + 2 ≡ 0 = e in absurd (omega (arith, no));
        alone = λ e. let no : z.kept.position + 2 ≡ 1 = e in absurd (omega (arith, no));
        owned = λ p e.
            let same : z.kept.position + 2 ≡ p + 2 = e in
            let index : i ≡ p = omega (arith, here, same) in
            (z, subst (λ (n : ℕ). slice_get (sized_sections r) n ≡ Some z) index at, refl);
      }

  same_block : (a b : Block) (n : ℕ) → IsRanked r a → IsRanked r b → a.start ≡ b.start → a.size ≡ b.size → rank a ≡ n → rank b ≡ n → a ≡ b
  same_block a b zero one other start size here there =
      one.load here ∙ ap (λ (s : ℕ). load_block s a.size) start ∙ ap (λ (s : ℕ). load_block b.start s) size ∙ sym (other.load there)
  same_block a b (suc zero) one other start size here there =
      one.alone here ∙ ap (λ (s : ℕ). fixed_block s a.size) start ∙ ap (λ (s : ℕ). fixed_block b.start s) size ∙ sym (other.alone there)
  same_block a b (suc (suc p)) one other start size here there =
      let two : suc (suc p) ≡ p + 2 = omega arith in
      let (z, at, is) = one.owned p (here ∙ two) in
      let (w, at_w, is_w) = other.owned p (there ∙ two) in
      is ∙ ap (section_block r) (same_at (sized_sections r) p z w at at_w) ∙ sym is_w

  ranked_in : (added : ℕ) (b : Block) → Contains (blocks_with r added) b → IsRanked r b
  ranked_in added b (k, within, here) =
      each-at (IsRanked r) (blocks_with r added) (each_block r added (IsRanked r) fixed_ranked load_ranked section_ranked) k b
      (slice_get-get_or (blocks_with r added) k b within ∙ ap Some here)

  pub told : (added : ℕ) → AreTold (blocks_with r added)
  told added a b in_a in_b start size ranks = same_block a b (rank b) (ranked_in added a in_a) (ranked_in added b in_b) start size ranks refl

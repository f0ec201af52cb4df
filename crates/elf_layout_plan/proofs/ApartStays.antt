-- Sections that stay end where memory ended.
use Rattle.std.proofs.Common.{◌≡◌, ℕ, ◌+◌, ◌<◌, ◌≤◌, Bool, true, false, not, ◌&&◌, ◌||◌, ◌⊎◌, List, ◌++◌, map, refl, sym, ap, ◌∙◌, subst, inl, inr, arith, Option, Some, None}
use Rattle.std.specs.Prelude.{◌==◌, filter, nat_le, nat_lt}
use Rattle.std.specs.List.{list_any, flat_map, slice_get}
use Rattle.std.proofs.lemmas.Bool.{and_cases, and_from, and_parts, eq-eqb, eqb-true, eqb-false, false≢true, leb-true, not-false}
use Rattle.elf_format.specs.declared.constants.TheConstants.{SHT_NOBITS, SHT_NOTE, SHT_NULL}
use Rattle.elf_format.specs.declared.records.SegmentHeader.{SegmentHeader}
use Rattle.elf_format.specs.File.{is_loaded, loads_of}
use Rattle.elf_format.specs.Options.{is_one_of, is_some_and}
use Rattle.elf_format.specs.Placement.{file_part, memory_part, shows_at}
use Rattle.elf_format.specs.Places.{occupies_file, occupies_memory}
use Rattle.elf_format.specs.Records.{file_header_size}
use Rattle.elf_format.specs.Ranges.{end_of, lies_in, range}
use Rattle.elf_layout_plan.specs.Added.{greatest, had_memory, memory_end}
use Rattle.elf_layout_plan.specs.Blocks.{overlaps, stay_apart}
use Rattle.elf_layout_plan.specs.Anchors.{is_loaded_section}
use Rattle.elf_tables.specs.Kept.{kept_sections, place_at_read}
use Rattle.elf_image_headers.specs.Segments.{loads_end}
use Rattle.elf_layout_plan.specs.Memory.{Resized, SizedSection, blocks_with, edge_blocks, fixed_block, has_lost_load, header_blocks, is_out_of_loads, is_displaced, is_uninitialized_of_threads, section_block, sized_sections, takes_memory}
use Rattle.elf_layout_plan.specs.Sizes.{new_size}
use Rattle.elf_layout_plan.proofs.ApartBlocks.{Neither, greatest-each, greatest-start, neither-before, neither-displaced, or-false, stay_neither, stay_over, stay_pairs}
use Rattle.elf_layout_plan.proofs.ApartFacts.{AreFacts, bare, bytes_of, was_stored}
use Rattle.elf_layout_plan.proofs.ApartLists.{Each, Pairs, Some_in, any-at, at-filter, at-map, each-at, each-back, each-both, each-map, each-more, each-unfilter, each-unflat_map, each-unmap, map-at, pairs-cross}
use Rattle.elf_layout_plan.proofs.ApartSections.{sized-at}

-- what a segment that shows a range tells
pub shows : (p : SegmentHeader) (o z a : ℕ) → shows_at p (range o z) a ≡ true → (p.p_offset ≤ o) × (o + z ≤ p.p_offset + p.p_filesz) × (a + p.p_offset ≡ p.p_vaddr + o)
shows p o z a h =
    let (inside, distance) = and_parts (lies_in (range o z) (file_part p)) ((a + p.p_offset) == (p.p_vaddr + o)) h in
    let (begins, ends) = and_parts (nat_le p.p_offset o) (nat_le (o + z) (p.p_offset + p.p_filesz)) inside in
    (leb-true p.p_offset o begins, leb-true (o + z) (p.p_offset + p.p_filesz) ends, eqb-true (a + p.p_offset) (p.p_vaddr + o) distance)

module _ (r : Resized) (facts : AreFacts r) where
  -- the sections that take memory
  abbrev pub taking : List SizedSection
  taking = filter (λ t. takes_memory t.kept.section) (sized_sections r)

  -- ## Loaded segments as they were read, of those that are left

  pub each_load : (Q : SegmentHeader → Type 0) → Each (λ p. Q (bare p)) (loads_of facts.left) → Each (λ p. Q (bare p)) (loads_of r.image.segments)
  each_load Q h = each-unmap Q bare (loads_of r.image.segments) (subst (λ (l : List SegmentHeader). Each Q l) (sym facts.loads) (each-map Q bare (loads_of facts.left) h))

  pub some_load : (Q : SegmentHeader → Type 0) → Some_in (λ p. Q (bare p)) (loads_of facts.left) → Some_in (λ p. Q (bare p)) (loads_of r.image.segments)
  some_load Q (i, p, at, h) =
      let there : slice_get (map bare (loads_of r.image.segments)) i ≡ Some (bare p) = subst (λ (l : List SegmentHeader). slice_get l i ≡ Some (bare p)) (sym facts.loads) (at-map bare (loads_of facts.left) i p at) in
      let (q, at_q, same) = map-at bare (loads_of r.image.segments) i (bare p) there in
      (i, q, at_q, subst Q (sym same) h)

  pub loads_fit : Each (λ p. p.p_filesz ≤ p.p_memsz) (loads_of r.image.segments)
  loads_fit = each_load (λ p. p.p_filesz ≤ p.p_memsz) facts.fit

  pub loads_memory_end : Each (λ p. p.p_vaddr + p.p_memsz ≤ memory_end r) (loads_of r.image.segments)
  unfolding memory_end
  loads_memory_end =
      let ends = map (λ p. end_of (memory_part p)) (loads_of r.image.segments) in
      let sections = filter (λ s. had_memory r.image s.kept.section) (sized_sections r) in
      let more = greatest-start (greatest 0 ends) (map (λ s. s.kept.section.sh_addr + s.kept.section.sh_size) sections) in
      each-more (λ p. p.p_vaddr + p.p_memsz ≤ greatest 0 ends) (λ p. p.p_vaddr + p.p_memsz ≤ memory_end r) (λ p h. omega (arith, h, more)) (loads_of r.image.segments)
      (each-unmap (λ m. m ≤ greatest 0 ends) (λ (p : SegmentHeader). end_of (memory_part p)) (loads_of r.image.segments) (greatest-each 0 ends))

  pub loads_file_end : Each (λ p. p.p_vaddr + p.p_filesz ≤ memory_end r) (loads_of r.image.segments)
  loads_file_end =
      each-more (λ p. (p.p_filesz ≤ p.p_memsz) × (p.p_vaddr + p.p_memsz ≤ memory_end r)) (λ p. p.p_vaddr + p.p_filesz ≤ memory_end r) (λ p h. let a = h.0 in let b = h.1 in omega (arith, a, b)) (loads_of r.image.segments)
      (each-both (λ p. p.p_filesz ≤ p.p_memsz) (λ p. p.p_vaddr + p.p_memsz ≤ memory_end r) (loads_of r.image.segments) loads_fit loads_memory_end)

  -- the end of a section that had memory
  sections_end : Each (λ t. had_memory r.image t.kept.section ≡ true → t.kept.section.sh_addr + t.kept.section.sh_size ≤ memory_end r) (sized_sections r)
  unfolding memory_end
  sections_end =
      let sections = filter (λ s. had_memory r.image s.kept.section) (sized_sections r) in
      let start = greatest 0 (map (λ p. end_of (memory_part p)) (loads_of r.image.segments)) in
      each-unfilter (λ t. t.kept.section.sh_addr + t.kept.section.sh_size ≤ memory_end r) (λ t. had_memory r.image t.kept.section) (sized_sections r)
      (each-unmap (λ m. m ≤ memory_end r) (λ (t : SizedSection). t.kept.section.sh_addr + t.kept.section.sh_size) sections (greatest-each start (map (λ (t : SizedSection). t.kept.section.sh_addr + t.kept.section.sh_size) sections)))

  -- ## Sections beside the edges of loaded segments

  module _ (moved : List ℕ) (looked : ℕ) (stay : stay_apart moved (blocks_with r looked) ≡ true) where
    pub blocks_stay : Pairs (Neither (stay_over moved)) ((header_blocks r looked ++ flat_map edge_blocks (loads_of r.image.segments)) ++ map (section_block r) taking)
    unfolding blocks_with
    blocks_stay = stay_pairs moved (blocks_with r looked) stay

    -- of a block that is no section's and a section's block that both stay neither overlaps the other
    pub block_clear : Each (λ b. Each (λ t. Neither (stay_over moved) b (section_block r t)) taking) (header_blocks r looked ++ flat_map edge_blocks (loads_of r.image.segments))
    block_clear =
        let front = header_blocks r looked ++ flat_map edge_blocks (loads_of r.image.segments) in
        each-more (λ b. Each (Neither (stay_over moved) b) (map (section_block r) taking)) (λ b. Each (λ t. Neither (stay_over moved) b (section_block r t)) taking)
        (λ b h. each-unmap (Neither (stay_over moved) b) (section_block r) taking h) front (pairs-cross (Neither (stay_over moved)) front (map (section_block r) taking) blocks_stay)

    -- edges and a section that stays don't overlap
    edges_clear : (k : ℕ) (t : SizedSection) → slice_get taking k ≡ Some t → is_one_of moved t.kept.position ≡ false
        → Each (λ p. Each (λ b. b.section ≡ None → Neither overlaps b (section_block r t)) (edge_blocks p)) (loads_of r.image.segments)
    edges_clear k t at stays =
        let edges = flat_map edge_blocks (loads_of r.image.segments) in
        each-unflat_map (λ b. b.section ≡ None → Neither overlaps b (section_block r t)) edge_blocks (loads_of r.image.segments)
        (each-more (λ b. Each (λ u. Neither (stay_over moved) b (section_block r u)) taking) (λ b. b.section ≡ None → Neither overlaps b (section_block r t))
        (λ b h none. stay_neither moved b (section_block r t) (each-at (λ u. Neither (stay_over moved) b (section_block r u)) taking h k t at)
        (ap (λ (o : Option ℕ). is_some_and (is_one_of moved) o) none) stays) edges
        (each-back (λ b. Each (λ u. Neither (stay_over moved) b (section_block r u)) taking) (header_blocks r looked) edges block_clear))

    -- a section holds nothing, or ends where memory ended
    abbrev pub IsLow : SizedSection → Type 0
    IsLow t = (t.size ≡ 0) ⊎ (t.kept.section.sh_addr + t.size ≤ memory_end r)

    module _ (k i : ℕ) (t : SizedSection) (at : slice_get taking k ≡ Some t) (at_i : slice_get (sized_sections r) i ≡ Some t) (takes : takes_memory t.kept.section ≡ true)
        (stays : is_one_of moved t.kept.position ≡ false) where
      at_kept : slice_get (kept_sections r.image) i ≡ Some t.kept
      at_kept = (sized-at r facts.sized i t at_i).1

      occupies : occupies_memory (place_at_read t.kept.section) ≡ true
      occupies =
          let s = t.kept.section in
          (and_parts (occupies_memory (place_at_read s)) (not (s.sh_type == SHT_NULL)) (and_parts (occupies_memory (place_at_read s) && not (s.sh_type == SHT_NULL)) (not (is_uninitialized_of_threads s)) takes).0).0

      no_null : not (t.kept.section.sh_type == SHT_NULL) ≡ true
      no_null =
          let s = t.kept.section in
          (and_parts (occupies_memory (place_at_read s)) (not (s.sh_type == SHT_NULL)) (and_parts (occupies_memory (place_at_read s) && not (s.sh_type == SHT_NULL)) (not (is_uninitialized_of_threads s)) takes).0).1

      -- without bytes in the file it keeps its size
      low_uninitialized : occupies_file (place_at_read t.kept.section) ≡ false → IsLow t
      low_uninitialized none = by_size (t.kept.section.sh_size == 0) refl
        where
          type : t.kept.section.sh_type ≡ SHT_NOBITS
          type = elim (and_cases (not (t.kept.section.sh_type == SHT_NULL)) (not (t.kept.section.sh_type == SHT_NOBITS)) none) [
            | inl null ↦ absurd (false≢true (sym null ∙ no_null))
            | inr nobits ↦ eqb-true t.kept.section.sh_type SHT_NOBITS (not-false (t.kept.section.sh_type == SHT_NOBITS) nobits)
          ]

          same_size : t.size ≡ t.kept.section.sh_size
          same_size =
              ap (λ (u : SizedSection). u.size) (sym (sized-at r facts.sized i t at_i).2)
              ∙ each-at (λ k. (k.section.sh_type ≡ SHT_NOBITS) ⊎ (k.section.sh_type ≡ SHT_NOTE) → new_size r.read r.image k ≡ k.section.sh_size) (kept_sections r.image) facts.keeps_size i t.kept at_kept (inl type)

          none_lost : has_lost_load r.image t.kept.section ≡ false
          none_lost = none_stored (occupies_memory (place_at_read t.kept.section)) (occupies_file (place_at_read t.kept.section)) none
            where
              none_stored : (a b : Bool) → b ≡ false → (a && b && not (t.kept.section.sh_size == 0) && nat_le (loads_end r.image.segments) t.kept.section.sh_addr) ≡ false
              none_stored true b e = ap (λ c. c && not (t.kept.section.sh_size == 0) && nat_le (loads_end r.image.segments) t.kept.section.sh_addr) e
              none_stored false b e = refl

          by_size : (b : Bool) → (t.kept.section.sh_size == 0) ≡ b → IsLow t
          by_size true e = inl (same_size ∙ eqb-true t.kept.section.sh_size 0 e)
          by_size false e =
              let ends = each-at (λ t. had_memory r.image t.kept.section ≡ true → t.kept.section.sh_addr + t.kept.section.sh_size ≤ memory_end r) (sized_sections r) sections_end i t at_i
              (and_from (takes_memory t.kept.section && not (t.kept.section.sh_size == 0)) (not (has_lost_load r.image t.kept.section))
              (and_from (takes_memory t.kept.section) (not (t.kept.section.sh_size == 0)) takes (ap (λ b. not b) e)) (ap (λ b. not b) none_lost)) in
              inr (omega (arith, ends, same_size))

      -- where a section had bytes, it ends by the end of the file part that held it
      low_stored : was_stored t.kept ≡ true → has_lost_load r.image t.kept.section ≡ false → 0 < t.kept.section.sh_size → IsLow t
      low_stored stored there some =
          let s = t.kept.section in
          let held = each-at (λ k. was_stored k ≡ true → has_lost_load r.image k.section ≡ false → list_any (λ p. shows_at p (bytes_of k) k.section.sh_addr) (loads_of facts.left) ≡ true)
          (kept_sections r.image) facts.held i t.kept at_kept stored there in
          let (j, p, at_p, shown) = some_load (λ p. shows_at p (bytes_of t.kept) s.sh_addr ≡ true) (any-at (λ p. shows_at p (bytes_of t.kept) s.sh_addr) (loads_of facts.left) held) in
          let (begins, ends, distance) = shows p s.sh_offset s.sh_size s.sh_addr shown in
          let edges = each-at (λ p. Each (λ b. b.section ≡ None → Neither overlaps b (section_block r t)) (edge_blocks p)) (loads_of r.image.segments) (edges_clear k t at stays) j p at_p in
          let clear : Neither overlaps (fixed_block (p.p_vaddr + p.p_filesz) 0) (section_block r t) = edges.1.0 refl in
          let before : s.sh_addr + t.size ≤ p.p_vaddr + p.p_filesz = neither-before (section_block r t) (fixed_block (p.p_vaddr + p.p_filesz) 0) (clear.1, clear.0) (omega arith) in
          let low : p.p_vaddr + p.p_filesz ≤ memory_end r = each-at (λ p. p.p_vaddr + p.p_filesz ≤ memory_end r) (loads_of r.image.segments) loads_file_end j p at_p in
          inr (omega (arith, before, low))

      -- with bytes of the file it isn't out of loaded segments where it was empty, and its own didn't go
      stands : is_displaced r t ≡ false → occupies_file (place_at_read t.kept.section) ≡ true → not (t.size == 0) ≡ true
          → ((t.kept.section.sh_size == 0 && is_out_of_loads r t) ≡ false) × (has_lost_load r.image t.kept.section ≡ false)
      stands not_displaced in_file some =
          let s = t.kept.section in
          let out : Bool = s.sh_size == 0 && is_out_of_loads r t in
          let lost : Bool = has_lost_load r.image s in
          elim (and_cases (occupies_file (place_at_read s) && not (t.size == 0)) (out || lost) not_displaced) [
            | inl other ↦ absurd (false≢true (sym other ∙ and_from (occupies_file (place_at_read s)) (not (t.size == 0)) in_file some))
            | inr e ↦ or-false out lost e
          ]

      -- where a section was empty, a loaded segment shows its new range
      low_grown : is_displaced r t ≡ false → occupies_file (place_at_read t.kept.section) ≡ true → t.kept.section.sh_size ≡ 0 → not (t.size == 0) ≡ true → IsLow t
      low_grown not_displaced in_file empty some =
          let s = t.kept.section in
          let shown_by : Bool = list_any (λ p. shows_at p (range s.sh_offset t.size) s.sh_addr) (loads_of r.image.segments) in
          let early : Bool = nat_lt s.sh_offset (file_header_size r.image.form) in
          let placed : (not shown_by || early) ≡ false = elim (and_cases (s.sh_size == 0) (not shown_by || early) (stands not_displaced in_file some).0) [
            | inl other ↦ absurd (false≢true (sym other ∙ eq-eqb s.sh_size 0 empty))
            | inr e ↦ e
          ] in
          let (j, p, at_p, shown) = any-at (λ p. shows_at p (range s.sh_offset t.size) s.sh_addr) (loads_of r.image.segments) (not-false shown_by (or-false (not shown_by) early placed).0) in
          let (begins, ends, distance) = shows p s.sh_offset t.size s.sh_addr shown in
          let low : p.p_vaddr + p.p_filesz ≤ memory_end r = each-at (λ p. p.p_vaddr + p.p_filesz ≤ memory_end r) (loads_of r.image.segments) loads_file_end j p at_p in
          inr (omega (arith, begins, ends, distance, low))

      -- a section that stays is no displaced one: those move
      isnt_displaced : is_displaced r t ≡ true → ⊥
      isnt_displaced displaced =
          let something = each-at (λ k. is_loaded_section k.section ≡ true → list_any is_loaded facts.left ≡ true) (kept_sections r.image) facts.something i t.kept at_kept occupies in
          let (m, q, at_q, loaded) = any-at is_loaded facts.left something in
          let (n, at_n) = at-filter is_loaded facts.left m q at_q loaded in
          let (j, p, at_p, _) = some_load (λ p. Unit {0}) (n, q, at_n, tt) in
          let edges = each-at (λ p. Each (λ b. b.section ≡ None → Neither overlaps b (section_block r t)) (edge_blocks p)) (loads_of r.image.segments) (edges_clear k t at stays) j p at_p in
          neither-displaced (record (fixed_block p.p_vaddr 0) { is_load_start = true }) (section_block r t) (edges.0 refl) refl displaced

      pub is_low : IsLow t
      is_low = by_file (occupies_file (place_at_read t.kept.section)) refl (t.kept.section.sh_size == 0) refl (t.size == 0) refl (is_displaced r t) refl
        where
          by_file : (a : Bool) → occupies_file (place_at_read t.kept.section) ≡ a → (b : Bool) → (t.kept.section.sh_size == 0) ≡ b → (c : Bool) → (t.size == 0) ≡ c → (d : Bool) → is_displaced r t ≡ d → IsLow t
          by_file false ea b eb c ec d ed = low_uninitialized ea
          by_file true ea b eb true ec d ed = inl (eqb-true t.size 0 ec)
          by_file true ea b eb false ec true ed = absurd (isnt_displaced ed)
          by_file true ea true eb false ec false ed = low_grown ed ea (eqb-true t.kept.section.sh_size 0 eb) (ap (λ x. not x) ec)
          by_file true ea false eb false ec false ed =
              low_stored (and_from (occupies_memory (place_at_read t.kept.section) && occupies_file (place_at_read t.kept.section)) (not (t.kept.section.sh_size == 0))
              (and_from (occupies_memory (place_at_read t.kept.section)) (occupies_file (place_at_read t.kept.section)) occupies ea) (ap (λ x. not x) eb))
              (stands ed ea (ap (λ x. not x) ec)).1
              (let no : t.kept.section.sh_size ≡ 0 → ⊥ = eqb-false t.kept.section.sh_size 0 eb in omega arith)

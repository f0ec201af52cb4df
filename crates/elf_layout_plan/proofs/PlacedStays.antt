-- Sections that stay, and the program header table where it is loaded: each is still in the file part of its loaded segment.
use Rattle.std.proofs.Common.{◌≡◌, ◌≤◌, ◌<◌, ◌⊎◌, ℕ, ◌+◌, ◌-◌, ◌*◌, Bool, true, false, eqb, List, [], ◌∷◌, length, refl, sym, ap, subst, inl, inr, Option, Some, arith}
use Rattle.std.specs.Prelude.{◌&&◌, ◌||◌, not, ◌==◌, nat_lt}
use Rattle.std.specs.List.{list_any}
use Rattle.std.proofs.lemmas.Bool.{and_from, and_parts, both_ways, cases_Bool, eqb-false, eqb-true, false_from_ne_true, false≢true, ltb-false, not_from_false, or_parts}
use Rattle.std.proofs.Math.Nat.{mul-le-mul_right}
use Rattle.elf_format.specs.declared.constants.TheConstants.{SHT_NOBITS, SHT_NULL}
use Rattle.elf_format.specs.declared.range.Range.{Range}
use Rattle.elf_format.specs.declared.records.SegmentHeader.{SegmentHeader}
use Rattle.elf_format.specs.File.{is_loaded, loads_of}
use Rattle.elf_format.specs.Image.{ImageSection}
use Rattle.elf_format.specs.Options.{is_one_of}
use Rattle.elf_format.specs.Placement.{file_part, is_stored, shows_at}
use Rattle.elf_format.specs.Places.{file_range, occupies_file, occupies_memory}
use Rattle.elf_format.specs.Ranges.{lies_in, range}
use Rattle.elf_format.specs.Records.{file_header_size, segment_header_size}
use Rattle.elf_layout_plan.specs.Blocks.{Block, is_block_of_some, stay_apart}
use Rattle.elf_tables.specs.Kept.{place_at_read}
use Rattle.elf_layout_plan.specs.Memory.{Resized, SizedSection, block_in_load, blocks_with, edge_blocks, fixed_block, has_lost_load, header_blocks, is_out_of_loads, is_displaced, loaded_over, section_block, sized_sections, table_at_read, table_load, table_size_with, takes_memory}
use Rattle.elf_layout_plan.proofs.PlacedLists.{Has, any-at, append-right, filter-from, has_here, has_there, pairs-two}
use Rattle.elf_layout_plan.proofs.PlacedRanges.{Apart, apart-before, apart-behind, apart-swap, apart-within, lies_in-at}
use Rattle.elf_layout_plan.proofs.PlacedRead.{ReadsPlaced, entry_filled}
use Rattle.elf_layout_plan.proofs.PlacedSections.{is_kept}
use Rattle.elf_layout_plan.proofs.PlacedBlocks.{KeepApart, ends_before, header_and_edge, header_and_section, isnt_displaced, one_ends, section_and_edge, two_sections}

-- A range of the file and its address are in a loaded segment of the image.
pub record IsKeptIn (r : Resized) (offset size address : ℕ) : Type 0 where
  pub load : SegmentHeader
  pub here : Has load (loads_of r.image.segments)
  pub begins : load.p_offset ≤ offset
  pub ends : offset + size ≤ load.p_offset + load.p_filesz
  pub distance : address + load.p_offset ≡ load.p_vaddr + offset

-- a section that stays, has bytes now, and takes memory
pub record StaysStored (r : Resized) (moved : List ℕ) (s : SizedSection) : Type 0 where
  pub here : Has s (sized_sections r)
  pub stays : is_one_of moved s.kept.position ≡ false
  pub takes : occupies_memory (place_at_read s.kept.section) ≡ true
  pub stored : occupies_file (place_at_read s.kept.section) ≡ true
  pub filled : 0 < s.size

-- a range that a segment shows at an address
shown : (p : SegmentHeader) (part : Range) (address : ℕ) → shows_at p part address ≡ true
    → (p.p_offset ≤ part.start) × (part.start + part.size ≤ p.p_offset + p.p_filesz) × (address + p.p_offset ≡ p.p_vaddr + part.start)
shown p part address h =
    let both = and_parts (lies_in part (file_part p)) (eqb (address + p.p_offset) (p.p_vaddr + part.start)) h in
    let lies = lies_in-at part (file_part p) both.0 in
    (lies.0, lies.1, eqb-true (address + p.p_offset) (p.p_vaddr + part.start) both.1)

-- what is in the file takes memory of its own where it takes memory
takes_own : (s : ImageSection) → occupies_memory (place_at_read s) ≡ true → occupies_file (place_at_read s) ≡ true → takes_memory s ≡ true
takes_own s takes stored = by_tests (occupies_memory (place_at_read s)) (s.sh_type == SHT_NULL) (s.sh_type == SHT_NOBITS) _ takes stored
  where
    by_tests : (a b c d : Bool) → a ≡ true → (not b && not c) ≡ true → (a && not b && not (c && d)) ≡ true
    by_tests true false false d e h = refl
    by_tests true false true d e h = absurd (false≢true h)
    by_tests true true c d e h = absurd (false≢true h)
    by_tests false b c d e h = absurd (false≢true e)

positive : (n : ℕ) → (n == 0) ≡ false → 0 < n
positive n h = let other : (n ≡ 0 → ⊥) = eqb-false n 0 h in omega (arith, other)

not_zero : (n : ℕ) → 0 < n → (n == 0) ≡ false
not_zero n h = false_from_ne_true (n == 0) (λ e. omega (arith, h, eqb-true n 0 e))

-- what isn't displaced
undisplaced : (stored now out lost : Bool) → (stored && not now && (out || lost)) ≡ false → stored ≡ true → now ≡ false
    → (out ≡ false) × (lost ≡ false)
undisplaced true false out lost h a b = or_parts out lost h
undisplaced true true out lost h a b = absurd (both_ways true b refl)
undisplaced false now out lost h a b = absurd (false≢true a)

-- a section that was empty and isn't out of the loaded segments
not_out : (was shows low : Bool) → (was && (not shows || low)) ≡ false → was ≡ true → (shows ≡ true) × (low ≡ false)
not_out true true false h a = (refl, refl)
not_out true true true h a = absurd (both_ways true h refl)
not_out true false low h a = absurd (both_ways true h refl)
not_out false shows low h a = absurd (false≢true a)

module _ (r : Resized) (moved : List ℕ) (looked : ℕ) (reads : ReadsPlaced r) (apart : stay_apart moved (blocks_with r looked) ≡ true) where
  -- a section is apart from an edge of a loaded segment
  from_edge : (s : SizedSection) → StaysStored r moved s → (p : SegmentHeader) → Has p (loads_of r.image.segments) → (b : Block)
      → Has b (edge_blocks p)
      → is_block_of_some moved b ≡ false → KeepApart (section_block r s) b
  from_edge s is p p_here b b_here b_stays =
      section_and_edge r moved looked apart s b p is.here (takes_own s.kept.section is.takes is.stored) is.stays p_here b_here b_stays

  -- one that stays isn't displaced
  tests_fail : (s : SizedSection) → StaysStored r moved s
      → ((s.kept.section.sh_size == 0 && is_out_of_loads r s) ≡ false) × (has_lost_load r.image s.kept.section ≡ false)
  tests_fail s is =
      let x : ImageSection = s.kept.section in
      let some = any-at is_loaded r.image.segments (reads.something s.kept (is_kept r s is.here) is.takes) in
      let q : SegmentHeader = some.element in
      let q_here = filter-from is_loaded r.image.segments q some.here some.passes in
      let start : Block = record (fixed_block q.p_vaddr 0) { is_load_start = true } in
      let clear = from_edge s is q q_here start (has_here start
      (fixed_block (q.p_vaddr + q.p_filesz) 0 ∷ fixed_block (q.p_vaddr + q.p_memsz) 0 ∷ [])) refl in
      let none_displaced : is_displaced r s ≡ false = isnt_displaced (section_block r s) start clear refl in
      undisplaced (occupies_file (place_at_read x)) (s.size == 0) (x.sh_size == 0 && is_out_of_loads r s) (has_lost_load r.image x) none_displaced
      is.stored (not_zero s.size is.filled)

  -- a section that was there: what it grew by has room in its segment
  filled_before : (s : SizedSection) → StaysStored r moved s → (s.kept.section.sh_size == 0) ≡ false
      → IsKeptIn r s.kept.section.sh_offset s.size s.kept.section.sh_addr × (file_header_size r.image.form ≤ s.kept.section.sh_offset)
  filled_before s is was =
      let x : ImageSection = s.kept.section in
      let stored : is_stored (place_at_read x) ≡ true =
      and_from (occupies_memory (place_at_read x) && occupies_file (place_at_read x)) (not (x.sh_size == 0))
      (and_from (occupies_memory (place_at_read x)) (occupies_file (place_at_read x)) is.takes is.stored) (not_from_false (x.sh_size == 0) was) in
      let held = reads.held s.kept (is_kept r s is.here) stored (tests_fail s is).1 in
      let p : SegmentHeader = held.load in
      let (begins, old_end, distance) = shown p (file_range (place_at_read x)) x.sh_addr held.holds_it in
      let begins' : p.p_offset ≤ x.sh_offset = begins in
      let old_end' : x.sh_offset + x.sh_size ≤ p.p_offset + p.p_filesz = old_end in
      let distance' : x.sh_addr + p.p_offset ≡ p.p_vaddr + x.sh_offset = distance in
      let some : 0 < x.sh_size = positive x.sh_size was in
      let start : Block = record (fixed_block p.p_vaddr 0) { is_load_start = true } in
      let edge : Block = fixed_block (p.p_vaddr + p.p_filesz) 0 in
      let last : Block = fixed_block (p.p_vaddr + p.p_memsz) 0 in
      let clear = from_edge s is p held.here edge (has_there edge start (edge ∷ last ∷ []) (has_here edge (last ∷ []))) refl in
      let inside : x.sh_addr < p.p_vaddr + p.p_filesz = omega (arith, old_end', distance', some) in
      let room : x.sh_addr + s.size ≤ p.p_vaddr + p.p_filesz = ends_before (section_block r s) edge clear inside in
      (record { load = p; here = held.here; begins = begins'; ends = omega (arith, room, distance'); distance = distance' }, held.behind_header)

  -- a section that was empty: a segment shows its new range
  empty_before : (s : SizedSection) → StaysStored r moved s → (s.kept.section.sh_size == 0) ≡ true
      → IsKeptIn r s.kept.section.sh_offset s.size s.kept.section.sh_addr × (file_header_size r.image.form ≤ s.kept.section.sh_offset)
  empty_before s is was =
      let x : ImageSection = s.kept.section in
      let part : Range = range x.sh_offset s.size in
      let tests = not_out (x.sh_size == 0) (list_any (λ p. shows_at p part x.sh_addr) (loads_of r.image.segments))
      (nat_lt x.sh_offset (file_header_size r.image.form)) (tests_fail s is).0 was in
      let holder = any-at (λ p. shows_at p part x.sh_addr) (loads_of r.image.segments) tests.0 in
      let (begins, end, distance) = shown holder.element part x.sh_addr holder.passes in (
        record { load = holder.element; here = holder.here; begins = begins; ends = end; distance = distance },
        ltb-false x.sh_offset (file_header_size r.image.form) tests.1,
      )

  both_before : (s : SizedSection) → StaysStored r moved s
      → IsKeptIn r s.kept.section.sh_offset s.size s.kept.section.sh_addr × (file_header_size r.image.form ≤ s.kept.section.sh_offset)
  both_before s is = elim (cases_Bool (s.kept.section.sh_size == 0)) [ inl empty ↦ empty_before s is empty | inr some ↦ filled_before s is some ]

  -- a section that stays is in a loaded segment
  pub kept_in : (s : SizedSection) → StaysStored r moved s → IsKeptIn r s.kept.section.sh_offset s.size s.kept.section.sh_addr
  kept_in s is = (both_before s is).0

  -- a section that stays is behind the file header
  pub behind_header : (s : SizedSection) → StaysStored r moved s → file_header_size r.image.form ≤ s.kept.section.sh_offset
  behind_header s is = (both_before s is).1

  -- two ranges in loaded segments that are apart in memory are apart in the file
  in_one : (po pv ao an aa bo bn ba : ℕ) → aa + po ≡ pv + ao → ba + po ≡ pv + bo → (aa + an ≤ ba) ⊎ (ba + bn ≤ aa)
      → Apart (range ao an) (range bo bn)
  in_one po pv ao an aa bo bn ba a_far b_far (inl h) = apart-before (range ao an) (range bo bn) (omega (arith, a_far, b_far, h))
  in_one po pv ao an aa bo bn ba a_far b_far (inr h) = apart-behind (range ao an) (range bo bn) (omega (arith, a_far, b_far, h))

  apart_in_file : (ao an aa bo bn ba : ℕ) → IsKeptIn r ao an aa → IsKeptIn r bo bn ba → (aa + an ≤ ba) ⊎ (ba + bn ≤ aa)
      → Apart (range ao an) (range bo bn)
  apart_in_file ao an aa bo bn ba a b h =
      elim (pairs-two (λ p q. Apart (file_part p) (file_part q)) (loads_of r.image.segments) reads.file_apart a.load b.load a.here b.here) [
        | inl same ↦
            in_one a.load.p_offset a.load.p_vaddr ao an aa bo bn ba a.distance
            (subst (λ (p : SegmentHeader). ba + p.p_offset ≡ p.p_vaddr + bo) (sym same) b.distance) h
        | inr (inl first) ↦ apart-within (range ao an) (range bo bn) (file_part a.load) (file_part b.load) first a.begins a.ends b.begins b.ends
        | inr (inr last) ↦
            apart-within (range ao an) (range bo bn) (file_part a.load) (file_part b.load)
            (apart-swap (file_part b.load) (file_part a.load) last) a.begins a.ends b.begins b.ends
      ]

  -- two sections that stay share no byte of the file
  pub stay_apart_in_file : (s t : SizedSection) → StaysStored r moved s → StaysStored r moved t
      → (s ≡ t) ⊎ Apart (range s.kept.section.sh_offset s.size) (range t.kept.section.sh_offset t.size)
  stay_apart_in_file s t s_is t_is =
      elim (two_sections r moved looked apart s t s_is.here t_is.here (takes_own s.kept.section s_is.takes s_is.stored)
      (takes_own t.kept.section t_is.takes t_is.stored) s_is.stays t_is.stays) [
        | inl same ↦ inl same
        | inr clear ↦ inr (apart_in_file s.kept.section.sh_offset s.size s.kept.section.sh_addr t.kept.section.sh_offset t.size
            t.kept.section.sh_addr
            (kept_in s s_is) (kept_in t t_is) (one_ends (section_block r s) (section_block r t) clear))
      ]

  -- ## The program header table

  -- the program header table where it is in memory, with room for all that it was looked with
  table_block : SegmentHeader → Block
  table_block q = fixed_block (q.p_vaddr + r.read.header.e_phoff - q.p_offset) (table_size_with r looked)

  table_there : (q : SegmentHeader) → table_load r ≡ Some q → Has (table_block q) (header_blocks r looked)
  unfolding table_block
  table_there q h =
      let header : Range = range 0 (file_header_size r.read.form) in
      let front : List Block = block_in_load header header.size (loaded_over header r.read.segments) in
      append-right front (block_in_load (table_at_read r) (table_size_with r looked) (table_load r)) (table_block q)
      (subst (λ (o : Option SegmentHeader). Has (table_block q) (block_in_load (table_at_read r) (table_size_with r looked) o)) (sym h)
      (has_here (table_block q) []))

  table_room : (q : SegmentHeader) → table_load r ≡ Some q
      → IsKeptIn r r.read.header.e_phoff (table_size_with r looked) (q.p_vaddr + r.read.header.e_phoff - q.p_offset)
  unfolding table_block
  table_room q h =
      let t = reads.table_in q h in
      let p : SegmentHeader = t.load in
      let offset : p.p_offset ≡ q.p_offset = ap (λ (x : SegmentHeader). x.p_offset) t.same in
      let address : p.p_vaddr ≡ q.p_vaddr = ap (λ (x : SegmentHeader). x.p_vaddr) t.same in
      let unit : ℕ = segment_header_size r.read.form in
      let unit_filled : 0 < unit = entry_filled r.read.form in
      let one : 1 * unit ≤ length r.read.segments * unit = mul-le-mul_right unit t.filled in
      let end : r.read.header.e_phoff + length r.read.segments * unit ≤ p.p_offset + p.p_filesz = t.ends in
      let begins : p.p_offset ≤ r.read.header.e_phoff = t.begins in
      let start : Block = record (fixed_block p.p_vaddr 0) { is_load_start = true } in
      let edge : Block = fixed_block (p.p_vaddr + p.p_filesz) 0 in
      let last : Block = fixed_block (p.p_vaddr + p.p_memsz) 0 in
      let clear = header_and_edge r moved looked apart (table_block q) edge p (table_there q h) refl t.here
      (has_there edge start (edge ∷ last ∷ []) (has_here edge (last ∷ []))) refl in
      let inside : q.p_vaddr + r.read.header.e_phoff - q.p_offset < p.p_vaddr + p.p_filesz = omega
      (arith, offset, address, unit_filled, one, end, begins) in
      let room : q.p_vaddr + r.read.header.e_phoff - q.p_offset + table_size_with r looked ≤ p.p_vaddr + p.p_filesz = ends_before
      (table_block q) edge clear inside in
      record {
        load = p;
        here = t.here;
        begins = begins;
        ends = omega (arith, room, offset, address, begins);
        distance = omega (arith, offset, address, begins);
      }

  -- the program header table is in a loaded segment, and shares no byte with a section that stays
  pub table_kept_in : (q : SegmentHeader) → table_load r ≡ Some q
      → IsKeptIn r r.read.header.e_phoff (table_size_with r looked) (q.p_vaddr + r.read.header.e_phoff - q.p_offset)
  table_kept_in q h = table_room q h

  pub table_apart : (q : SegmentHeader) → table_load r ≡ Some q → (s : SizedSection) → StaysStored r moved s
      → Apart (range r.read.header.e_phoff (table_size_with r looked)) (range s.kept.section.sh_offset s.size)
  unfolding table_block
  table_apart q h s is =
      let clear = header_and_section r moved looked apart (table_block q) s (table_there q h) refl is.here
      (takes_own s.kept.section is.takes is.stored) is.stays in
      apart_in_file r.read.header.e_phoff (table_size_with r looked) (q.p_vaddr + r.read.header.e_phoff - q.p_offset)
      s.kept.section.sh_offset s.size s.kept.section.sh_addr
      (table_room q h) (kept_in s is) (one_ends (table_block q) (section_block r s) clear)

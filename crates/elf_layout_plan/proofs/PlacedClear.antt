-- Uninitialized sections cross no end of a loaded segment's file part.
use Rattle.std.proofs.Common.{◌≡◌, ◌≤◌, ℕ, ◌+◌, Bool, true, false, List, refl, sym, ap, ◌∙◌, subst, inl, inr, arith}
use Rattle.std.specs.Prelude.{◌&&◌, not, ◌==◌, filter, nat_le, nat_lt}
use Rattle.std.specs.List.{list_all}
use Rattle.std.proofs.lemmas.Bool.{and_from, and_parts, both_ways, cases_Bool, eq-eqb, eqb-true, not-true, not_from_false}
use Rattle.std.proofs.lemmas.Bool.Decides.{nat_tests}
use Rattle.elf_format.specs.declared.constants.TheConstants.{SHF_TLS, SHT_NOBITS, SHT_NULL}
use Rattle.elf_format.specs.declared.records.SegmentHeader.{SegmentHeader}
use Rattle.elf_format.specs.File.{loads_of}
use Rattle.elf_format.specs.Placement.{crosses_file_end, file_end, is_uninitialized, uninitialized_clear}
use Rattle.elf_format.specs.Places.{Place, is_set, occupies_file, occupies_memory}
use Rattle.elf_layout_plan.specs.Added.{AddedLoad, added_loads, memory_end}
use Rattle.elf_tables.specs.Kept.{place_at_read}
use Rattle.elf_image_headers.specs.Segments.{loads_end}
use Rattle.elf_layout_plan.specs.Memory.{Resized, SizedSection, has_lost_load, sized_sections, takes_memory}
use Rattle.elf_layout_plan.specs.Standing.{is_unloaded, place_in, places}
use Rattle.elf_layout_plan.specs.Written.{written_segments}
use Rattle.elf_layout_plan.proofs.PlacedLists.{Has, MadeOf, all-from, filter-at, map-at, pairs-two}
use Rattle.elf_layout_plan.proofs.PlacedRead.{ReadsPlaced}
use Rattle.elf_layout_plan.proofs.PlacedSections.{is_kept}
use Rattle.elf_layout_plan.proofs.PlacedAdded.{StandsBefore, added_apart, is_added}
use Rattle.elf_layout_plan.proofs.PlacedSegments.{before_memory_end, load_cases, section_before_memory_end}
use Rattle.elf_layout_plan.proofs.UnloadedParts.{unloaded_parts}
use Rattle.elf_layout_plan.proofs.PlacedPlaces.{StandsAdded, StandsOn, keeps_kind, same_memory, stands}

-- a section on one side of the end
below_end : (p : SegmentHeader) (x : Place) → x.sh_addr + x.sh_size ≤ file_end p → crosses_file_end p x ≡ false
below_end p x h = grind (arith, nat_tests)

above_end : (p : SegmentHeader) (x : Place) → file_end p ≤ x.sh_addr → crosses_file_end p x ≡ false
above_end p x h = grind (arith, nat_tests)

-- ## What an uninitialized section is

uninitialized_is : (x : Place) → is_uninitialized x ≡ true
    → (x.sh_type ≡ SHT_NOBITS) × (occupies_memory x ≡ true) × (is_set SHF_TLS x.sh_flags ≡ false)
uninitialized_is x h =
    let outer = and_parts (x.sh_type == SHT_NOBITS && occupies_memory x) (not (is_set SHF_TLS x.sh_flags)) h in
    let inner = and_parts (x.sh_type == SHT_NOBITS) (occupies_memory x) outer.0 in
    (eqb-true x.sh_type SHT_NOBITS inner.0, inner.1, not-true (is_set SHF_TLS x.sh_flags) outer.1)

uninitialized_from : (x : Place) → x.sh_type ≡ SHT_NOBITS → occupies_memory x ≡ true → is_set SHF_TLS x.sh_flags ≡ false → is_uninitialized x ≡ true
uninitialized_from x type takes threads =
    and_from (x.sh_type == SHT_NOBITS && occupies_memory x) (not (is_set SHF_TLS x.sh_flags))
    (and_from (x.sh_type == SHT_NOBITS) (occupies_memory x) (eq-eqb x.sh_type SHT_NOBITS type) takes)
    (not_from_false (is_set SHF_TLS x.sh_flags) threads)

-- without bytes in the file
no_file : (x : Place) → x.sh_type ≡ SHT_NOBITS → occupies_file x ≡ false
no_file x type = ap (λ (n : ℕ). not (n == SHT_NULL) && not (n == SHT_NOBITS)) type

module _ (r : Resized) (moved : List ℕ) (reads : ReadsPlaced r)
    (keeps : (s : SizedSection) → Has s (sized_sections r) → s.kept.section.sh_type ≡ SHT_NOBITS → s.size ≡ s.kept.section.sh_size) where
  place_from : (x : Place) → Has x (places r moved) → MadeOf (place_in r moved) (sized_sections r) x
  unfolding places
  place_from x h = map-at (place_in r moved) (sized_sections r) x h

  -- one that moves is in the file part of its segment, and every other segment is before or behind that
  added_clear : (s : SizedSection) → StandsAdded r moved s → (q : SegmentHeader) → Has q (loads_of (written_segments r moved))
      → crosses_file_end q (place_in r moved s) ≡ false
  added_clear s added q q_here =
      let load : AddedLoad = added.is_moved.load in
      let is = is_added r moved load added.is_moved.here in
      let slot = is.slots added.slot added.is_moved.among in
      let x : Place = place_in r moved s in
      let address : x.sh_addr ≡ added.slot.address = ap (λ (y : Place). y.sh_addr) added.place in
      let size : x.sh_size ≡ added.slot.size = ap (λ (y : Place). y.sh_size) added.place ∙ sym added.is_moved.size in
      let low : load.header.p_vaddr ≤ x.sh_addr = omega (arith, address, slot.begins, slot.distance) in
      let high : x.sh_addr + x.sh_size ≤ load.header.p_vaddr + load.header.p_filesz = omega (arith, address, size, slot.ends, slot.distance) in
      elim (load_cases r moved reads q q_here) [
        | inl was ↦
            let end : q.p_vaddr + q.p_memsz ≤ memory_end r = before_memory_end r moved reads q was in
            let fits : q.p_filesz ≤ q.p_memsz = reads.fit q was in
            above_end q x (omega (arith, end, fits, is.in_memory, low))
        | inr new ↦
            let q_is = is_added r moved new.source new.here in
            let q_address : new.source.header.p_vaddr ≡ q.p_vaddr = ap (λ (y : SegmentHeader). y.p_vaddr) new.made in
            let q_size : new.source.header.p_filesz ≡ q.p_filesz = ap (λ (y : SegmentHeader). y.p_filesz) new.made in
            elim (pairs-two StandsBefore (added_loads r moved) (added_apart r moved) load new.source added.is_moved.here new.here) [
              | inl same ↦ below_end q x (omega (
                arith,
                high,
                q_address,
                q_size,
                ap (λ (l : AddedLoad). l.header.p_vaddr) same,
                ap (λ (l : AddedLoad). l.header.p_filesz) same,
              ))
              | inr (inl first) ↦
                  let gap : load.header.p_vaddr + load.header.p_memsz ≤ new.source.header.p_vaddr = first.in_memory in
                  below_end q x (omega (arith, high, gap, is.whole, q_address))
              | inr (inr last) ↦
                  let gap : new.source.header.p_vaddr + new.source.header.p_memsz ≤ load.header.p_vaddr = last.in_memory in
                  above_end q x (omega (arith, low, gap, q_is.whole, q_address, q_size))
            ]
      ]

  -- one that stays is where it was, and added segments are behind it
  record IsWhereItWas (s : SizedSection) : Type 0 where
    type : s.kept.section.sh_type ≡ SHT_NOBITS
    takes : occupies_memory (place_at_read s.kept.section) ≡ true
    no_threads : is_set SHF_TLS s.kept.section.sh_flags ≡ false
    address : (place_in r moved s).sh_addr ≡ s.kept.section.sh_addr
    size : (place_in r moved s).sh_size ≡ s.kept.section.sh_size

  takes_own : (s : SizedSection) → IsWhereItWas s → takes_memory s.kept.section ≡ true
  takes_own s is =
      and_from (occupies_memory (place_at_read s.kept.section) && not (s.kept.section.sh_type == SHT_NULL))
      (not (s.kept.section.sh_type == SHT_NOBITS && is_set SHF_TLS s.kept.section.sh_flags))
      (and_from (occupies_memory (place_at_read s.kept.section)) (not (s.kept.section.sh_type == SHT_NULL)) is.takes
      (ap (λ (n : ℕ). not (n == SHT_NULL)) is.type))
      (ap (λ (b : Bool). not (s.kept.section.sh_type == SHT_NOBITS && b)) is.no_threads ∙ by_first (s.kept.section.sh_type == SHT_NOBITS))
    where
      by_first : (b : Bool) → not (b && false) ≡ true
      by_first true = refl
      by_first false = refl

  -- without bytes in the file it lost no loaded segment
  not_lost : (s : SizedSection) → IsWhereItWas s → has_lost_load r.image s.kept.section ≡ false
  not_lost s is =
      let x : Place = place_at_read s.kept.section in
      by_tests (occupies_memory x) (occupies_file x) (not (x.sh_size == 0)) (nat_le (loads_end r.image.segments) s.kept.section.sh_addr)
      (no_file x is.type)
    where
      by_tests : (takes stored some behind : Bool) → stored ≡ false → (((takes && stored) && some) && behind) ≡ false
      by_tests true false some behind h = refl
      by_tests false false some behind h = refl
      by_tests takes true some behind h = absurd (both_ways true h refl)

  kept_clear : (s : SizedSection) → Has s (sized_sections r) → IsWhereItWas s → (q : SegmentHeader) → Has q (loads_of (written_segments r moved))
      → crosses_file_end q (place_in r moved s) ≡ false
  kept_clear s here is q q_here = elim (load_cases r moved reads q q_here) [
    | inl was ↦
        ap (λ (n : ℕ). nat_lt n (file_end q) && nat_lt (file_end q) (n + (place_in r moved s).sh_size)) is.address
        ∙ ap (λ (n : ℕ). nat_lt s.kept.section.sh_addr (file_end q) && nat_lt (file_end q) (s.kept.section.sh_addr + n)) is.size
        ∙ reads.clear s.kept (is_kept r s here) (uninitialized_from (place_at_read s.kept.section) is.type is.takes is.no_threads) q was
    | inr new ↦
        let x : Place = place_in r moved s in
        let low : memory_end r ≤ new.source.header.p_vaddr = (is_added r moved new.source new.here).in_memory in
        let q_address : new.source.header.p_vaddr ≡ q.p_vaddr = ap (λ (y : SegmentHeader). y.p_vaddr) new.made in
        elim (cases_Bool (s.kept.section.sh_size == 0)) [
          | inl empty ↦ no_size q x (omega (arith, is.size, eqb-true s.kept.section.sh_size 0 empty))
          | inr some ↦ below_end q x (omega (
            arith,
            section_before_memory_end r moved reads s here (takes_own s is) some (not_lost s is),
            low,
            q_address,
            is.address,
            is.size,
          ))
        ]
  ]
    where
      no_size : (p : SegmentHeader) (y : Place) → y.sh_size ≡ 0 → crosses_file_end p y ≡ false
      no_size p y h = grind (arith, nat_tests)

  where_it_was : (s : SizedSection) → Has s (sized_sections r) → is_uninitialized (place_in r moved s) ≡ true → StandsOn r moved s → IsWhereItWas s
  where_it_was s here bare on =
      let is = uninitialized_is (place_in r moved s) bare in
      let kind = keeps_kind r moved s here in
      let type : s.kept.section.sh_type ≡ SHT_NOBITS = sym kind.type ∙ is.0 in
      record {
        type = type;
        takes = sym (same_memory r moved s here) ∙ is.1;
        no_threads = ap (is_set SHF_TLS) (sym kind.flags) ∙ is.2;
        address = ap (λ (y : Place). y.sh_addr) on.place;
        size = kind.size ∙ keeps s here type;
      }

  -- one without bytes in the file doesn't stand behind the segments
  not_behind : (s : SizedSection) → Has s (sized_sections r) → is_uninitialized (place_in r moved s) ≡ true → is_unloaded s ≡ true → ⊥
  not_behind s here bare unloaded =
      let type : s.kept.section.sh_type ≡ SHT_NOBITS = sym (keeps_kind r moved s here).type ∙ (uninitialized_is (place_in r moved s) bare).0 in
      both_ways (occupies_file (place_at_read s.kept.section)) (no_file (place_at_read s.kept.section) type) (unloaded_parts s unloaded).0

  section_clear : (s : SizedSection) → Has s (sized_sections r) → is_uninitialized (place_in r moved s) ≡ true → (q : SegmentHeader)
      → Has q (loads_of (written_segments r moved))
      → crosses_file_end q (place_in r moved s) ≡ false
  section_clear s here bare q q_here = elim (stands r moved s here) [
    | inl added ↦ added_clear s added q q_here
    | inr (inl unloaded) ↦ absurd (not_behind s here bare unloaded.unloaded)
    | inr (inr on) ↦ kept_clear s here (where_it_was s here bare on) q q_here
  ]

  pub is_clear : uninitialized_clear (written_segments r moved) (places r moved) ≡ true
  is_clear = all-from (λ s. list_all (λ p. not (crosses_file_end p s)) (loads_of (written_segments r moved)))
      (filter is_uninitialized (places r moved)) (λ x here.
      let back = filter-at is_uninitialized (places r moved) x here in
      let from = place_from x back.0 in
      all-from (λ p. not (crosses_file_end p x)) (loads_of (written_segments r moved)) (λ q q_here.
      not_from_false (crosses_file_end q x) (subst (λ (y : Place). crosses_file_end q y ≡ false) from.made
      (section_clear from.source from.here (ap is_uninitialized from.made ∙ back.1) q q_here))))

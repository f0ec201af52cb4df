-- Segments that are added, one behind the other.
use Rattle.std.proofs.Common.{◌≡◌, ℕ, ◌+◌, ◌-◌, ◌^◌, ◌<◌, ◌≤◌, List, [], ◌∷◌, ◌++◌, Option, map, refl, sym, ap, ◌∙◌, arith, append_assoc}
use Rattle.std.specs.Prelude.{max}
use Rattle.std.specs.List.{flat_map}
use Rattle.std.proofs.lemmas.List.{append-nil, map-append}
use Rattle.std.proofs.lemmas.List.Concat.{flat_map-append}
use Rattle.std.proofs.lemmas.List.Sums.{fold-append}
use Rattle.elf_format.specs.Placement.{file_part, memory_part}
use Rattle.elf_format.specs.Ranges.{end_of}
use Rattle.elf_format.specs.declared.records.SegmentHeader.{SegmentHeader}
use Rattle.elf_layout_plan.specs.Added.{AddedLoad, Slot, added_loads, greatest, kept_end, load_alignment, loads_from, memory_end, size_of_slots, slots_from}
use Rattle.elf_layout_plan.specs.Memory.{Resized, SizedSection}
use Rattle.elf_layout_plan.specs.Rounds.{added_flags, sections_at}
use Rattle.elf_layout_plan.specs.Standing.{segments_end}
use Rattle.elf_layout.specs.declared.slots.At.{At}
use Rattle.elf_layout.specs.Slots.{behind_slots, end_behind, load_here, start_of_load, with_flags, with_slots}
use Rattle.elf_layout.proofs.SlotSteps.{behind_grows, with_slots-append}

-- ## How long a segment is

pub greatest_end_of_slots : (at : At) (ss : List SizedSection)
    → greatest at.offset (map (λ s. s.offset + s.size) (slots_from at.offset at.address ss)) ≡ (behind_slots at ss).offset
unfolding slots_from behind_slots
greatest_end_of_slots at [] = refl
greatest_end_of_slots at (s ∷ ss) =
    let next : max at.offset (end_behind at s).offset ≡ (end_behind at s).offset = omega arith in
    ap (λ (n : ℕ). greatest n (map (λ s. s.offset + s.size) (slots_from (end_behind at s).offset (end_behind at s).address ss))) next
    ∙ greatest_end_of_slots (end_behind at s) ss

pub size_behind : (at : At) (ss : List SizedSection)
    → size_of_slots at.offset (slots_from at.offset at.address ss) ≡ (behind_slots at ss).offset - at.offset
size_behind at ss = ap (λ (n : ℕ). n - at.offset) (greatest_end_of_slots at ss)

-- where the segment ends in the file
pub load_end : (r : Resized) (moved : List ℕ) (align end memory flags : ℕ)
    → end_of (file_part (load_here r moved align end memory flags).header)
    ≡ (behind_slots (record { offset = end; address = start_of_load align end memory }) (with_flags r flags moved)).offset
load_end r moved align end memory flags =
    let at : At = record { offset = end; address = start_of_load align end memory } in
    let sections : List SizedSection = with_flags r flags moved in
    let size : size_of_slots end (slots_from end (start_of_load align end memory) sections) ≡ (behind_slots at sections).offset - end =
    size_behind at sections in
    let grown : end ≤ (behind_slots at sections).offset = behind_grows at sections in
    omega (arith, size, grown)

-- ## One segment behind the other

abbrev pub header_of : AddedLoad → SegmentHeader
header_of load = load.header

abbrev pub slots_of : AddedLoad → List Slot
slots_of load = load.slots

abbrev pub end_in_file : AddedLoad → ℕ
end_in_file load = end_of (file_part load.header)

-- the segments of the sets of flags, behind a place
abbrev pub loads_behind : Resized → List ℕ → At → List ℕ → List AddedLoad
loads_behind r moved at sets = loads_from r.image.moves_dynamic (load_alignment r.read r.image) at.offset at.address sets (sections_at r moved)

abbrev pub load_of : Resized → List ℕ → At → ℕ → AddedLoad
load_of r moved at flags = load_here r moved (load_alignment r.read r.image) at.offset at.address flags

-- Some segments are placed, and the sets of flags that are left give the others.
pub record ArePlacedLoads (r : Resized) (moved : List ℕ) (old : List (Option At)) (at : At) (made : List SegmentHeader)
    (kept : List (Option At)) (rest : List ℕ) : Type 0 where
  pub before : List AddedLoad
  pub all : added_loads r moved ≡ before ++ loads_behind r moved at rest
  pub loads : made ≡ map header_of before
  pub slots : kept ≡ with_slots old (flat_map slots_of before)
  pub end : at.offset ≡ greatest (kept_end r moved) (map end_in_file before)
  pub near : at.address < 2 ^ 65
  pub fits : at.offset < 2 ^ 64

pub loads_start : (r : Resized) (moved : List ℕ) (old : List (Option At)) (at : At) (made : List SegmentHeader) (sets : List ℕ)
    → sets ≡ added_flags r moved
    → made ≡ [] → at.offset ≡ kept_end r moved → at.address ≡ memory_end r → at.address < 2 ^ 65 → at.offset < 2 ^ 64
    → ArePlacedLoads r moved old at made old sets
unfolding added_loads with_slots
loads_start r moved old at made sets all none offset address near fits = record {
  before = [];
  all =
      ap (λ (n : ℕ). loads_from r.image.moves_dynamic (load_alignment r.read r.image) n (memory_end r) (added_flags r moved) (sections_at r moved)) (sym offset)
      ∙ ap (λ (n : ℕ). loads_from r.image.moves_dynamic (load_alignment r.read r.image) at.offset n (added_flags r moved) (sections_at r moved)) (sym address)
      ∙ ap (λ (l : List ℕ). loads_behind r moved at l) (sym all);
  loads = none;
  slots = refl;
  end = offset;
  near = near;
  fits = fits;
}

-- the next segment is one of those that are added
pub next_load : (r : Resized) (moved : List ℕ) (at : At) (flags : ℕ) (rest : List ℕ) (next : At)
    → next.offset ≡ end_of (file_part (load_of r moved at flags).header)
    → next.address ≡ end_of (memory_part (load_of r moved at flags).header)
    → loads_behind r moved at (flags ∷ rest) ≡ load_of r moved at flags ∷ loads_behind r moved next rest
unfolding loads_from
next_load r moved at flags rest next offset address =
    let load : AddedLoad = load_of r moved at flags in
    ap (λ (n : ℕ). load ∷ loads_from r.image.moves_dynamic (load_alignment r.read r.image) n (end_of (memory_part load.header)) rest (sections_at r moved)) (sym offset)
    ∙ ap (λ (n : ℕ). load ∷ loads_from r.image.moves_dynamic (load_alignment r.read r.image) next.offset n rest (sections_at r moved)) (sym address)

pub loads_more : (r : Resized) (moved : List ℕ) (old : List (Option At)) (at : At) (made : List SegmentHeader) (kept : List (Option At))
    (flags : ℕ) (rest : List ℕ)
    (p : SegmentHeader) (next : At) (made_next : List SegmentHeader) (more : List (Option At))
    → ArePlacedLoads r moved old at made kept (flags ∷ rest)
    → p ≡ (load_of r moved at flags).header
    → more ≡ with_slots kept (load_of r moved at flags).slots
    → made_next ≡ made ++ p ∷ []
    → next.offset ≡ p.p_offset + p.p_filesz → next.address ≡ p.p_vaddr + p.p_memsz
    → next.address < 2 ^ 65 → next.offset < 2 ^ 64
    → ArePlacedLoads r moved old next made_next more rest
loads_more r moved old at made kept flags rest p next made_next more placed is is_more is_made offset address near fits =
    let load : AddedLoad = load_of r moved at flags in
    let before : List AddedLoad = placed.before in
    let ends : next.offset ≡ end_of (file_part load.header) = offset ∙ ap (λ (q : SegmentHeader). q.p_offset + q.p_filesz) is in
    let ends_memory : next.address ≡ end_of (memory_part load.header) = address ∙ ap (λ (q : SegmentHeader). q.p_vaddr + q.p_memsz) is in
    let starts : load.header.p_offset ≡ at.offset = refl in
    record {
      before = before ++ load ∷ [];
      all =
          placed.all ∙ ap (λ (l : List AddedLoad). before ++ l) (next_load r moved at flags rest next ends ends_memory)
          ∙ sym (append_assoc before (load ∷ []) (loads_behind r moved next rest));
      loads =
          is_made ∙ ap (λ (l : List SegmentHeader). l ++ p ∷ []) placed.loads
          ∙ ap (λ (q : SegmentHeader). map header_of before ++ q ∷ []) is
          ∙ sym (map-append header_of before (load ∷ []));
      slots =
          is_more ∙ ap (λ (k : List (Option At)). with_slots k load.slots) placed.slots
          ∙ sym (with_slots-append old (flat_map slots_of before) load.slots)
          ∙ ap (λ (l : List Slot). with_slots old (flat_map slots_of before ++ l)) (sym (append-nil load.slots))
          ∙ ap (λ (l : List Slot). with_slots old l) (sym (flat_map-append slots_of before (load ∷ [])));
      end =
          let later : next.offset ≡ max at.offset (end_in_file load) = omega (arith, ends, starts) in
          later ∙ ap (λ (n : ℕ). max n (end_in_file load)) placed.end
          ∙ sym (fold-append max (kept_end r moved) (map end_in_file before) (end_in_file load ∷ []))
          ∙ ap (λ (l : List ℕ). greatest (kept_end r moved) l) (sym (map-append end_in_file before (load ∷ [])));
      near = near;
      fits = fits;
    }

-- no set of flags is left
pub loads_all : (r : Resized) (moved : List ℕ) (old : List (Option At)) (at : At) (made : List SegmentHeader) (kept : List (Option At))
    (placed : ArePlacedLoads r moved old at made kept []) → placed.before ≡ added_loads r moved
unfolding loads_from
loads_all r moved old at made kept placed = sym (placed.all ∙ append-nil placed.before)

pub loads_end : (r : Resized) (moved : List ℕ) (old : List (Option At)) (at : At) (made : List SegmentHeader) (kept : List (Option At))
    → ArePlacedLoads r moved old at made kept [] → at.offset ≡ segments_end r moved
unfolding segments_end
loads_end r moved old at made kept placed =
    placed.end ∙ ap (λ (l : List AddedLoad). greatest (kept_end r moved) (map end_in_file l)) (loads_all r moved old at made kept placed)

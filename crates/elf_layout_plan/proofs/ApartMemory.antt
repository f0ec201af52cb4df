-- Blocks that stay end where memory ended, and what is added stands behind that.
use Rattle.std.proofs.Common.{◌≡◌, ℕ, ◌+◌, ◌-◌, ◌≤◌, Bool, List, [], ◌∷◌, map, arith}
use Rattle.std.specs.Int.{next_multiple_of}
use Rattle.elf_layout_plan.specs.Added.{AddedLoad, Slot, alignment_of, greatest, loads_from, slots_from}
use Rattle.elf_layout_plan.specs.Memory.{SizedSection}
use Rattle.elf_layout_plan.proofs.ApartBlocks.{greatest-each}
use Rattle.elf_layout_plan.proofs.ApartLists.{Each, Pairs, each-append, each-both, each-more, each-unmap, pairs-append}
use Rattle.elf_layout_plan.proofs.ApartSections.{all_slots, file_behind, first_load, memory_behind, with_flags}

-- ## Slots stand one behind the other

-- the first ends where the second begins or before
abbrev pub IsBehind : Slot → Slot → Type 0
IsBehind x y = x.address + x.size ≤ y.address

slots_from-low : (o a : ℕ) (ss : List SizedSection) → Each (λ x. a ≤ x.address) (slots_from o a ss)
unfolding slots_from
slots_from-low o a [] = tt
slots_from-low o a (s ∷ ss) =
    let at = next_multiple_of a (alignment_of s) in
    (omega arith, each-more (λ x. at + s.size ≤ x.address) (λ x. a ≤ x.address) (λ x h. omega arith) (slots_from (o + (at - a) + s.size) (at + s.size) ss) (slots_from-low (o + (at - a) + s.size) (at + s.size) ss))

slots_from-pairs : (o a : ℕ) (ss : List SizedSection) → Pairs IsBehind (slots_from o a ss)
unfolding slots_from
slots_from-pairs o a [] = tt
slots_from-pairs o a (s ∷ ss) =
    let at = next_multiple_of a (alignment_of s) in
    (slots_from-low (o + (at - a) + s.size) (at + s.size) ss, slots_from-pairs (o + (at - a) + s.size) (at + s.size) ss)

-- as far from the segment's address as from its offset
pub slots_from-distance : (o a : ℕ) (ss : List SizedSection) → Each (λ x. (x.offset + a ≡ o + x.address) × (o ≤ x.offset)) (slots_from o a ss)
unfolding slots_from
slots_from-distance o a [] = tt
slots_from-distance o a (s ∷ ss) =
    let at = next_multiple_of a (alignment_of s) in (
      (omega arith, omega arith),
      each-more (λ x. (x.offset + (at + s.size) ≡ o + (at - a) + s.size + x.address) × (o + (at - a) + s.size ≤ x.offset)) (λ x. (x.offset + a ≡ o + x.address) × (o ≤ x.offset))
          (λ x h. let e = h.0 in let low = h.1 in (omega arith, omega arith)) (slots_from (o + (at - a) + s.size) (at + s.size) ss) (slots_from-distance (o + (at - a) + s.size) (at + s.size) ss),
    )

-- a slot lies in its segment
abbrev pub LiesInLoad : AddedLoad → Slot → Type 0
LiesInLoad load x = (load.header.p_vaddr ≤ x.address) × (x.address + x.size ≤ memory_behind load)

first_load-slots : (leave : Bool) (align f end memory : ℕ) (ss : List SizedSection) → Each (LiesInLoad (first_load leave align f end memory ss)) (first_load leave align f end memory ss).slots
first_load-slots leave align f end memory ss =
    let load = first_load leave align f end memory ss in
    let low = slots_from-low end load.header.p_vaddr (with_flags leave f ss) in
    let ends : Each (λ x. x.offset + x.size ≤ greatest end (map (λ s. s.offset + s.size) load.slots)) load.slots =
    each-unmap (λ m. m ≤ greatest end (map (λ (s : Slot). s.offset + s.size) load.slots)) (λ (s : Slot). s.offset + s.size) load.slots (greatest-each end (map (λ (s : Slot). s.offset + s.size) load.slots)) in
    let distance = slots_from-distance end load.header.p_vaddr (with_flags leave f ss) in
    each-more (λ x. ((load.header.p_vaddr ≤ x.address) × (x.offset + x.size ≤ greatest end (map (λ (s : Slot). s.offset + s.size) load.slots))) × ((x.offset + load.header.p_vaddr ≡ end + x.address) × (end ≤ x.offset)))
    (LiesInLoad load) (λ x h. (h.0.0, let a = h.0.1 in let b = h.1.0 in omega (arith, a, b))) load.slots
    (each-both (λ x. (load.header.p_vaddr ≤ x.address) × (x.offset + x.size ≤ greatest end (map (λ (s : Slot). s.offset + s.size) load.slots))) (λ x. (x.offset + load.header.p_vaddr ≡ end + x.address) × (end ≤ x.offset)) load.slots
    (each-both (λ x. load.header.p_vaddr ≤ x.address) (λ x. x.offset + x.size ≤ greatest end (map (λ (s : Slot). s.offset + s.size) load.slots)) load.slots low ends) distance)

-- where an added segment stands: behind the end of the file and of memory so far
pub loads_from-low : (leave : Bool) (align end memory : ℕ) (flags : List ℕ) (ss : List SizedSection) → Each (λ x. memory ≤ x.address) (all_slots (loads_from leave align end memory flags ss))
unfolding loads_from
loads_from-low leave align end memory [] ss = tt
loads_from-low leave align end memory (f ∷ more) ss =
    let load = first_load leave align f end memory ss in
    let others = all_slots (loads_from leave align (file_behind load) (memory_behind load) more ss) in
    each-append (λ x. memory ≤ x.address) load.slots others
    (each-more (LiesInLoad load) (λ x. memory ≤ x.address) (λ x h. let low = h.0 in omega arith) load.slots (first_load-slots leave align f end memory ss))
    (each-more (λ x. memory_behind load ≤ x.address) (λ x. memory ≤ x.address) (λ x h. omega arith) others (loads_from-low leave align (file_behind load) (memory_behind load) more ss))

pub loads_from-pairs : (leave : Bool) (align end memory : ℕ) (flags : List ℕ) (ss : List SizedSection) → Pairs IsBehind (all_slots (loads_from leave align end memory flags ss))
unfolding loads_from
loads_from-pairs leave align end memory [] ss = tt
loads_from-pairs leave align end memory (f ∷ more) ss =
    let load = first_load leave align f end memory ss in
    let others = all_slots (loads_from leave align (file_behind load) (memory_behind load) more ss) in
    let low = loads_from-low leave align (file_behind load) (memory_behind load) more ss in
    pairs-append IsBehind load.slots others (slots_from-pairs end load.header.p_vaddr (with_flags leave f ss)) (loads_from-pairs leave align (file_behind load) (memory_behind load) more ss)
    (each-more (LiesInLoad load) (λ x. Each (IsBehind x) others)
    (λ x h. each-more (λ y. memory_behind load ≤ y.address) (IsBehind x) (λ y k. let end_x = h.1 in omega arith) others low) load.slots (first_load-slots leave align f end memory ss))

-- every added segment begins behind the end of the file so far, and is loaded
pub loads_from-headers : (leave : Bool) (align end memory : ℕ) (flags : List ℕ) (ss : List SizedSection) → Each (λ load. end ≤ load.header.p_offset) (loads_from leave align end memory flags ss)
unfolding loads_from
loads_from-headers leave align end memory [] ss = tt
loads_from-headers leave align end memory (f ∷ more) ss =
    let load = first_load leave align f end memory ss in (
      omega arith,
      each-more (λ l. file_behind load ≤ l.header.p_offset) (λ l. end ≤ l.header.p_offset) (λ l h. omega arith) (loads_from leave align (file_behind load) (memory_behind load) more ss)
          (loads_from-headers leave align (file_behind load) (memory_behind load) more ss),
    )

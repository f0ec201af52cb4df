-- Where sections that move stand, as the code keeps it: by their positions.
use Rattle.std.specs.Prelude.{ℕ, ◌+◌, ◌-◌, ◌%◌, ◌^◌, ◌≤◌, ◌≡◌, ◌⊎◌, List, [], ◌∷◌, ◌++◌, not, ◌&&◌, length, map, filter, replicate, Bool, true, false, Option, Some, None, nat_le, slice_get, slice_set, if◌then◌else◌, ◌==◌}
use Rattle.std.specs.Int.{next_multiple_of}
use Rattle.std.specs.List.{list_any}
use Rattle.elf_format.specs.Placement.{file_part, is_stored}
use Rattle.elf_format.specs.Ranges.{end_of}
use Rattle.elf_image.specs.Kept.{place_at_read}
use Rattle.elf_layout_plan.specs.Added.{AddedLoad, Slot, added_loads, alignment_of, load_at}
use Rattle.elf_layout_plan.specs.Memory.{Resized, SizedSection, sized_sections, takes_memory}
use Rattle.elf_layout_plan.specs.Rounds.{flags_for, sections_at}
use Rattle.elf_layout_plan.specs.Standing.{segments_end}
use Rattle.elf_layout.specs.declared.added.Added.{Added}
use Rattle.elf_layout.specs.declared.slots.At.{At}

abbrev pub at_of : Slot → At
at_of x = record { offset = x.offset; address = x.address }

-- a position is there, and nothing is kept for it yet
abbrev pub is_free : Option (Option At) → Bool
is_free None = false
is_free (Some None) = true
is_free (Some (Some at)) = false

-- one slot more; where a position has several, the first counts
abbrev pub with_at : List (Option At) → ℕ → At → List (Option At)
with_at kept position at = if is_free (slice_get kept position) then slice_set kept position (Some at) else kept

unfoldable pub with_slots : List (Option At) → List Slot → List (Option At)
with_slots kept [] = kept
with_slots kept (x ∷ xs) = with_slots (with_at kept x.position (at_of x)) xs

-- the next address that a section's alignment allows
abbrev pub aligned : At → SizedSection → ℕ
aligned at s = next_multiple_of at.address (alignment_of s)

-- where a section stands behind others
abbrev pub slot_behind : At → SizedSection → At
slot_behind at s = record { offset = at.offset + (aligned at s - at.address); address = aligned at s }

-- where a section ends that stands behind others
abbrev pub end_behind : At → SizedSection → At
end_behind at s = record { offset = at.offset + (aligned at s - at.address) + s.size; address = aligned at s + s.size }

-- where the last of several sections ends that stand one behind the other
unfoldable pub behind_slots : At → List SizedSection → At
behind_slots at [] = at
behind_slots at (s ∷ ss) = behind_slots (end_behind at s) ss

-- the sections at these positions that need the flags
abbrev pub with_flags : Resized → ℕ → List ℕ → List SizedSection
with_flags r flags positions = filter (λ s. flags_for r.image.moves_dynamic s.kept.section == flags) (sections_at r positions)

-- nothing is kept for any section
abbrev pub none_yet : Resized → List (Option At)
none_yet r = replicate (length (sized_sections r)) None

-- the segments that are added, and where the last segment of all ends
pub record IsAdded (r : Resized) (moved : List ℕ) (added : Added) : Type 0 where
  pub loads : added.loads.items ≡ map (λ load. load.header) (added_loads r moved)
  pub end : added.end ≡ segments_end r moved

-- ## The sets of flags

-- one set of flags more, where it isn't there yet
abbrev pub with_flag : List ℕ → Option ℕ → List ℕ
with_flag sets None = sets
with_flag sets (Some flags) = if list_any (λ x. x == flags) sets then sets else sets ++ flags ∷ []

-- ## What the greatest number is sought of

abbrev pub value_where : {X : Type 0} → (X → Bool) → (X → ℕ) → X → ℕ
value_where test value x = if test x then value x else 0

-- the section had memory where one of the loaded segments that end there may reach
abbrev pub has_memory : ℕ → SizedSection → Bool
has_memory end s =
    takes_memory s.kept.section && not (s.kept.section.sh_size == 0)
    && not (is_stored (place_at_read s.kept.section) && nat_le end s.kept.section.sh_addr)

abbrev pub section_end : SizedSection → ℕ
section_end s = s.kept.section.sh_addr + s.kept.section.sh_size

-- the end of the section in memory, 0 without one that has some
abbrev pub end_at : ℕ → Option SizedSection → ℕ
end_at end None = 0
end_at end (Some s) = value_where (has_memory end) section_end s

-- ## One segment that is added

abbrev pub start_of_load : ℕ → ℕ → ℕ → ℕ
start_of_load align end memory = next_multiple_of memory align + end % align

-- the segment with these flags, behind the end of the file and of memory so far
abbrev pub load_here : Resized → List ℕ → ℕ → ℕ → ℕ → ℕ → AddedLoad
load_here r moved align end memory flags = load_at align flags end (start_of_load align end memory) (with_flags r flags moved)

-- the added segment's address or its end in the file is past 64 bits
abbrev pub IsFar : AddedLoad → Type 0
IsFar load = (2 ^ 64 ≤ load.header.p_vaddr) ⊎ (2 ^ 64 ≤ end_of (file_part load.header))

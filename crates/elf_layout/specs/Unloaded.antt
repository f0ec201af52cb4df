-- Where sections stand that aren't loaded, the header tables, and every section, as the code keeps it.
use Rattle.std.specs.Prelude.{ℕ, ◌+◌, ◌*◌, ◌^◌, ◌≡◌, ◌≤◌, ◌⊎◌, min, List, [], ◌∷◌, map, Bool, ◌&&◌, Option, Some, None, is_some, slice_get, if◌then◌else◌, ◌==◌}
use Rattle.std.specs.Int.{next_multiple_of}
use Rattle.elf_layout_plan.specs.declared.fault.LayoutFault.{LayoutFault}
use Rattle.elf_layout_plan.specs.declared.fault.LayoutFault.TheVariants as faults
use Rattle.elf_format.specs.File.{is_loaded}
use Rattle.elf_format.specs.Placement.{file_part}
use Rattle.elf_format.specs.declared.range.Range.{Range}
use Rattle.elf_format.specs.Ranges.{lies_in}
use Rattle.elf_format.specs.declared.records.SegmentHeader.{SegmentHeader}
use Rattle.elf_format.specs.Places.{Place, occupies_file}
use Rattle.elf_format.specs.Records.{segment_header_size}
use Rattle.elf_layout_plan.specs.Added.{alignment_of}
use Rattle.elf_image.specs.Kept.{place_at_read}
use Rattle.elf_layout_plan.specs.Memory.{Resized, SizedSection, sized_sections, table_load}
use Rattle.elf_layout_plan.specs.PlanModel.{place_model}
use Rattle.elf_layout_plan.specs.Standing.{is_unloaded, next_table, stands_at}
use Rattle.elf_layout.specs.declared.slots.At.{At}
use Rattle.elf_layout.specs.declared.standing.Behind.{Behind}

-- ## Sections that aren't loaded

-- where a section stands, if it isn't loaded
abbrev pub unloaded_offset : ℕ → SizedSection → Option ℕ
unloaded_offset end s = if is_unloaded s then Some (next_multiple_of end (alignment_of s)) else None

-- the end of all, with that section
abbrev pub unloaded_next : ℕ → SizedSection → ℕ
unloaded_next end s = if is_unloaded s then next_multiple_of end (alignment_of s) + s.size else end

-- the offset of each section that isn't loaded, none for each other section
unfoldable pub unloaded_offsets : ℕ → List SizedSection → List (Option ℕ)
unloaded_offsets end [] = []
unloaded_offsets end (s ∷ ss) = unloaded_offset end s ∷ unloaded_offsets (unloaded_next end s) ss

-- where the last of the sections that aren't loaded ends
unfoldable pub unloaded_end : ℕ → List SizedSection → ℕ
unloaded_end end [] = end
unloaded_end end (s ∷ ss) = unloaded_end (unloaded_next end s) ss

-- the last of the sections that aren't loaded ends past 64 bits, or there isn't enough memory
abbrev pub IsUnloadedFault : ℕ → LayoutFault → Type 0
IsUnloadedFault end faults.Overlap = ⊥
IsUnloadedFault end faults.NumberTooLarge = 2 ^ 64 ≤ end
IsUnloadedFault end faults.Memory = Unit {0}

-- ## The program header table

-- a loaded segment has all of a range
abbrev pub has_all : Range → SegmentHeader → Bool
has_all part p = is_loaded p && lies_in part (file_part p)

-- where the program header table stands, once the segments end there
abbrev pub table_behind : Resized → ℕ → ℕ
table_behind r end = if is_some (table_load r) then r.image.header.e_phoff else next_table r end

-- the end of both
abbrev pub start_behind : Resized → ℕ → ℕ → ℕ
start_behind r end headers =
    if is_some (table_load r) then end else next_table r end + headers * segment_header_size r.image.form

-- ## Every section

-- what is kept for a position
abbrev pub kept_for : {A : Type 0} → Option (Option A) → Option A
kept_for None = None
kept_for (Some found) = found

-- the offset of a section that stays
abbrev pub offset_stays : ℕ → SizedSection → ℕ
offset_stays end s = if occupies_file (place_at_read s.kept.section) && s.size == 0 then min s.kept.section.sh_offset end else s.kept.section.sh_offset

-- a section that stays
abbrev pub stays_by : ℕ → SizedSection → Place
stays_by end s = stands_at s (offset_stays end s) s.kept.section.sh_addr

-- a section's place, by what is kept for it
abbrev pub place_by : ℕ → SizedSection → Option At → Option ℕ → Place
place_by end s (Some at) unloaded = stands_at s at.offset at.address
place_by end s None (Some offset) = stands_at s offset s.kept.section.sh_addr
place_by end s None None = stays_by end s

-- the place of each section, in order
abbrev pub places_by : Resized → ℕ → List (Option At) → List (Option ℕ) → List Place
places_by r end slots unloaded =
    map (λ s. place_by end s (kept_for (slice_get slots s.kept.position)) (kept_for (slice_get unloaded s.kept.position))) (sized_sections r)

-- an address is past 64 bits, or there isn't enough memory
abbrev pub IsPlaceFault : List Place → LayoutFault → Type 0
IsPlaceFault places faults.Overlap = ⊥
IsPlaceFault places faults.NumberTooLarge = (i : ℕ) × (s : Place) × (slice_get places i ≡ Some s) × (2 ^ 64 ≤ s.sh_addr)
IsPlaceFault places faults.Memory = Unit {0}

-- ## Everything behind the segments

-- the sections that aren't loaded, and where the last of them ends
abbrev pub offsets_behind : Resized → ℕ → ℕ → List (Option ℕ)
offsets_behind r end headers = unloaded_offsets (start_behind r end headers) (sized_sections r)

abbrev pub content_behind : Resized → ℕ → ℕ → ℕ
content_behind r end headers = unloaded_end (start_behind r end headers) (sized_sections r)

abbrev pub places_behind : Resized → List (Option At) → ℕ → ℕ → List Place
places_behind r slots end headers = places_by r (content_behind r end headers) slots (offsets_behind r end headers)

pub record IsBehind (r : Resized) (slots : List (Option At)) (end headers : ℕ) (b : Behind) : Type 0 where
  pub places : map place_model b.places.items ≡ places_behind r slots end headers
  pub e_phoff : b.e_phoff ≡ table_behind r end
  pub e_shoff : b.e_shoff ≡ next_table r (content_behind r end headers)

-- a number of what stands behind the segments is past 64 bits
abbrev pub IsBehindFault : Resized → List (Option At) → ℕ → ℕ → LayoutFault → Type 0
IsBehindFault r slots end headers faults.Overlap = ⊥
IsBehindFault r slots end headers faults.NumberTooLarge =
    (2 ^ 64 ≤ next_table r (content_behind r end headers)) ⊎ IsPlaceFault (places_behind r slots end headers) faults.NumberTooLarge
IsBehindFault r slots end headers faults.Memory = Unit {0}

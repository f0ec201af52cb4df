-- What the steps of the placement rules say: the rules in parts.
use Rattle.std.specs.Prelude.{ℕ, ◌≤◌, List, [], ◌∷◌, filter, map, Bool, true, ◌&&◌, ◌||◌, not, nat_le, nat_lt, ◌==◌, if◌then◌else◌}
use Rattle.std.specs.List.{AllPairs, list_all, list_any}
use Rattle.std.specs.List.Sorted.{IsNonDecreasing, IsPermutation}
use Rattle.elf_image_rules.specs.File.{is_loaded, loads_of, has_file_bytes}
use Rattle.elf_image_rules.specs.Placement.{file_end, file_part, holds, is_stored, is_uninitialized, ends_by}
use Rattle.elf_image_rules.specs.Places.{Place, file_range, memory_range, place_of}
use Rattle.elf_image_rules.specs.Range.{Range}
use Rattle.elf_image_rules.specs.Ranges.{end_of}
use Rattle.elf_image_rules.specs.SectionHeader.{SectionHeader}
use Rattle.elf_image_rules.specs.SegmentHeader.{SegmentHeader}

-- from left to right each range that isn't empty begins where the one before it ends or later; the first, at
-- this place or later
abbrev pub follows_end : ℕ → List Range → Bool
follows_end end [] = true
follows_end end (r ∷ rs) = if r.size == 0 then follows_end end rs else nat_le end r.start && follows_end (end_of r) rs

-- a loaded segment that covers bytes of the file
abbrev pub is_filled_load : SegmentHeader → Bool
is_filled_load p = is_loaded p && not (p.p_filesz == 0)

-- each segment begins in the file where those before it end, or later
abbrev pub AreInTurn : List SegmentHeader → Type 0
AreInTurn loads = AllPairs (λ p q. end_of (file_part p) ≤ q.p_offset) loads

-- the loaded segments that cover bytes of the file, in the order of their offsets
pub record AreLoadsInTurn (segments loads : List SegmentHeader) : Type 0 where
  pub in_turn : AreInTurn loads
  pub same : IsPermutation (filter is_filled_load segments) loads

-- a section, where it is stored, is held by one of the segments and doesn't begin at the file's start
abbrev pub is_held_if_stored : List SegmentHeader → Place → Bool
is_held_if_stored loads s = not (is_stored s) || list_any (λ p. holds p s) loads && not (s.sh_offset == 0)

-- where the file parts of loaded segments end in memory, in order
pub record AreEndsInOrder (segments : List SegmentHeader) (ends : List ℕ) : Type 0 where
  pub in_order : IsNonDecreasing ends
  pub same : IsPermutation (map file_end (loads_of segments)) ends

-- a place lies inside the addresses of a section, and isn't their start
abbrev pub lies_inside : Place → ℕ → Bool
lies_inside s e = nat_lt s.sh_addr e && nat_lt e (end_of (memory_range s))

-- a section, where it is uninitialized, has none of the places inside its addresses
abbrev pub is_clear_if_uninitialized : List ℕ → Place → Bool
is_clear_if_uninitialized ends s = not (is_uninitialized s) || list_all (λ e. not (lies_inside s e)) ends

-- the bytes of each section lie in a file of this length
abbrev pub sections_end_by : ℕ → List SectionHeader → Bool
sections_end_by length sections = list_all (λ s. ends_by length (file_range (place_of s))) (filter has_file_bytes sections)

-- the headers of stored sections
abbrev pub stored_of : List SectionHeader → List SectionHeader
stored_of sections = filter (λ s. is_stored (place_of s)) sections

-- Where the sections of a file begin and end that have bytes, counted in place of walked over.
use Rattle.std.specs.Prelude.{ℕ, ◌+◌, ◌-◌, List, map, filter, Bool, ◌&&◌, not, nat_le, ◌==◌, IsPermutation}
use Rattle.elf_format.specs.Places.{file_range}
use Rattle.elf_format.specs.declared.range.Range.{Range}
use Rattle.elf_format.specs.Ranges.{end_of}
use Rattle.elf_layout_segments.specs.declared.file_ranges.FileRanges.{FileRanges}
use Rattle.elf_layout_segments.specs.declared.sections.SectionAt.{SectionAt}
use Rattle.elf_layout_segments.specs.Asked.{below, is_some_in}
use Rattle.elf_layout_segments.specs.Sections.{has_bytes_at, is_loaded_note_at, place_at}

abbrev pub starts_at : List SectionAt → List ℕ
starts_at sections = map (λ (s : SectionAt). s.sh_offset) (filter has_bytes_at sections)

abbrev pub ends_at : List SectionAt → List ℕ
ends_at sections = map (λ (s : SectionAt). end_of (file_range (place_at s))) (filter has_bytes_at sections)

-- where the sections with bytes begin that are no loaded notes
abbrev pub other_starts_at : List SectionAt → List ℕ
other_starts_at sections = map (λ (s : SectionAt). s.sh_offset) (filter (λ s. has_bytes_at s && not (is_loaded_note_at s)) sections)

-- all three, in order
pub record AreFileRanges (sections : List SectionAt) (ranges : FileRanges) : Type 0 where
  pub starts : IsPermutation (starts_at sections) ranges.starts.numbers.items
  pub ends : IsPermutation (ends_at sections) ranges.ends.numbers.items
  pub others : IsPermutation (other_starts_at sections) ranges.others.numbers.items

-- all sections that begin before a place end by it
unfoldable pub is_clear : FileRanges → ℕ → Bool
is_clear ranges place = below ranges.starts place == below ranges.ends (place + 1)

-- All sections that share bytes with a range are loaded notes in it: none reaches across its start or its end, and none that begins in
-- it is another section.
unfoldable pub are_all_notes_by : FileRanges → Range → Bool
are_all_notes_by ranges part = is_clear ranges part.start && is_clear ranges (end_of part) && not (is_some_in ranges.others part)

-- two or more sections share bytes with a range, all loaded notes in it: those that begin before its end, but for those that end by its
-- start
unfoldable pub is_over_counts : FileRanges → Range → Bool
is_over_counts ranges part = nat_le 2 (below ranges.starts (end_of part) - below ranges.ends (part.start + 1)) && are_all_notes_by ranges part

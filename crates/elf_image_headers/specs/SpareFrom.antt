-- From where on segments are spare: what is kept of the facts once these were looked at.
use Rattle.std.specs.Prelude.{ℕ, max, List, [], ◌∷◌, filter, fold, map, Bool, ◌&&◌, not, Option, Some, None, nat_le, nat_lt, ◌==◌, if◌then◌else◌, sum_by}
use Rattle.std.specs.List.{list_any}
use Rattle.elf_format.specs.Number.{field}
use Rattle.elf_format.specs.declared.constants.TheConstants.{PT_DYNAMIC, PT_GNU_PROPERTY, PT_INTERP, PT_LOAD, PT_NOTE, SHF_ALLOC}
use Rattle.elf_format.specs.declared.records.SegmentHeader.{SegmentHeader}
use Rattle.elf_format.specs.File.{is_loaded}
use Rattle.elf_format.specs.Image.{ImageSection}
use Rattle.elf_format.specs.Options.{is_one_of}
use Rattle.elf_format.specs.Placement.{memory_part}
use Rattle.elf_format.specs.Places.{is_set}
use Rattle.elf_format.specs.Ranges.{end_of}
use Rattle.elf_image_headers.specs.declared.segment.TheConstants.{MOST_SEGMENTS}
use Rattle.elf_image_headers.specs.declared.spare.SpareFrom.{SpareFrom}
use Rattle.elf_image_headers.specs.declared.spare.SpareParts.{SpareParts}
use Rattle.elf_image_headers.specs.PartModels.{section_model, segment_model}
use Rattle.elf_image_headers.specs.Spare.{SpareFacts, can_reclaim, could_be_spare, count_filled, count_others, fixed_end, others_end}

-- the facts, seen without where their bytes lie
abbrev pub facts_of : SpareParts → SpareFacts
facts_of parts = record {
  segments = map segment_model parts.segments.now;
  sections = map section_model parts.sections.now;
  numbers = parts.numbers.now;
  table = parts.table;
  source = parts.source.now;
}

abbrev pub has_fixed_type : ℕ → Bool
has_fixed_type type = not (is_one_of (PT_LOAD ∷ PT_DYNAMIC ∷ PT_INTERP ∷ PT_NOTE ∷ PT_GNU_PROPERTY ∷ []) type)

-- bytes of the file stand for all of a segment's memory
abbrev pub has_bytes_for_all : SegmentHeader → Bool
has_bytes_for_all p = p.p_filesz == p.p_memsz && not (p.p_filesz == 0)

-- the greatest of a number and of the places where segments end in memory
abbrev pub end_after : ℕ → List SegmentHeader → ℕ
end_after n segments = fold max n (map (λ p. end_of (memory_part p)) segments)

-- ## From where on segments are spare

abbrev pub spare_from : SpareFacts → SpareFrom
spare_from f = record { fixed = fixed_end f; others = others_end f; table = f.table }

abbrev pub is_spare_from : SpareFrom → SegmentHeader → Bool
is_spare_from from p = could_be_spare from.fixed from.table p && nat_le from.others p.p_vaddr

abbrev pub left_from : SpareFrom → List SegmentHeader → List SegmentHeader
left_from from segments = filter (λ p. not (is_spare_from from p)) segments

-- the segment is loaded, and not spare
abbrev pub stays_loaded : SpareFrom → SegmentHeader → Bool
stays_loaded from p = is_loaded p && not (is_spare_from from p)

-- ## Their bytes

abbrev pub filled_if_spare : SpareFrom → List ℕ → SegmentHeader → ℕ
filled_if_spare from source p = if is_spare_from from p then count_filled (field p.p_filesz p.p_offset source) else 0

abbrev pub filled_if_behind : ℕ → ImageSection → ℕ
filled_if_behind end s = if is_set SHF_ALLOC s.sh_flags && nat_le end s.sh_addr then count_filled s.content else 0

-- ## What is left

-- whether the segments that are spare from somewhere on can be taken away, told in one pass over each list
abbrev pub can_reclaim_from : SpareFrom → SpareFacts → Bool
can_reclaim_from from f =
    list_any (stays_loaded from) f.segments && nat_le (end_after 0 (filter (stays_loaded from) f.segments)) from.others
    && sum_by (filled_if_spare from f.source) f.segments == sum_by (filled_if_behind from.others) f.sections
    && nat_lt (count_others f.segments) MOST_SEGMENTS

-- where the spare segments can be taken away
abbrev pub reclaimable : SpareFacts → Option SpareFrom
reclaimable f = if can_reclaim f then Some (spare_from f) else None

-- what is left then
abbrev pub left : Option SpareFrom → List SegmentHeader → List SegmentHeader
left None segments = segments
left (Some from) segments = left_from from segments

-- What a plan promises of memory: what stands in it is apart, and notes are found where they stand.
use Rattle.std.specs.Prelude.{ℕ, ◌+◌, ◌-◌, ◌*◌, List, [], ◌∷◌, ◌++◌, length, map, filter, Bool, ◌&&◌, ◌||◌, not, ◌==◌, slice_get}
use Rattle.std.specs.List.{list_all, list_any}
use Rattle.elf_format.specs.declared.constants.TheConstants.{PT_GNU_PROPERTY, PT_NOTE, SHF_TLS, SHT_NOBITS, SHT_NOTE, SHT_NULL}
use Rattle.elf_format.specs.Image.{Image}
use Rattle.elf_format.specs.Options.{is_one_of, is_some_and, list_at}
use Rattle.elf_format.specs.declared.range.Range.{Range}
use Rattle.elf_format.specs.Ranges.{all_apart, range}
use Rattle.elf_format.specs.declared.records.SegmentHeader.{SegmentHeader}
use Rattle.elf_format.specs.Records.{file_header_size, segment_header_size}
use Rattle.elf_format.specs.Placement.{shows_at}
use Rattle.elf_format.specs.Places.{Place, file_range, is_set, occupies_memory}
use Rattle.elf_layout_plan.specs.Anchors.{has_bytes, is_just_over, is_loaded_section, is_over_notes, sharers}
use Rattle.elf_tables.specs.Kept.{KeptSection, kept_sections, place_at_read}
use Rattle.elf_layout_plan.specs.Memory.{Resized, loaded_over}
use Rattle.elf_layout_plan.specs.Plan.{Plan}

-- ## Memory

-- a section at that place takes memory of its own
abbrev pub does_take_memory : Place → Bool
does_take_memory s = occupies_memory s && not (s.sh_type == SHT_NULL) && not (s.sh_type == SHT_NOBITS && is_set SHF_TLS s.sh_flags)

-- the addresses of a range of the file, where a loaded segment has all of it
abbrev pub addresses_of : Range → List SegmentHeader → List Range
addresses_of part segments = list_at (λ p. range (p.p_vaddr + part.start - p.p_offset) part.size ∷ []) (loaded_over part segments)

-- the addresses of the file header and of the program header table
abbrev pub header_addresses : Resized → Plan → List Range
header_addresses r plan =
    addresses_of (range 0 (file_header_size r.image.form)) plan.segments
    ++ addresses_of (range plan.e_phoff (length plan.segments * segment_header_size r.image.form)) plan.segments

-- The headers and all sections that take memory share no address.
unfoldable pub is_memory_apart : Resized → Plan → Bool
is_memory_apart r plan =
    all_apart (header_addresses r plan ++ map (λ s. range s.sh_addr s.sh_size) (filter does_take_memory plan.places))

-- ## Notes

abbrev pub is_for_notes : SegmentHeader → Bool
is_for_notes p = is_one_of (PT_NOTE ∷ PT_GNU_PROPERTY ∷ []) p.p_type

-- the program header shows a place's bytes at its address
abbrev pub shows_place : SegmentHeader → Place → Bool
shows_place p s = shows_at p (file_range s) s.sh_addr

-- the program header showed at read each section that shared bytes of the file with it
abbrev pub shows_its_notes : Image → SegmentHeader → Bool
shows_its_notes read p = list_all (λ n. shows_place p (place_at_read n.section)) (sharers read p)

-- A program header for notes showed the note section at read, and no bytes but notes': it was just over the section, or over several
-- notes and showed each of them. A note that stands at another distance from p_vaddr than from p_offset isn't shown, though its bytes
-- are among those that p_offset and p_filesz name: who reads the notes in memory finds other bytes there. So a program header that is
-- over several notes and doesn't show one of them promises nothing of the others either.
abbrev pub did_show_note : Image → KeptSection → SegmentHeader → Bool
did_show_note read s p =
    is_for_notes p && shows_place p (place_at_read s.section) && (is_just_over p s || is_over_notes read p && shows_its_notes read p)

-- a program header of that type shows the place
abbrev pub is_shown_by : List SegmentHeader → ℕ → Place → Bool
is_shown_by segments type s = list_any (λ q. q.p_type == type && shows_place q s) segments

-- the note section has a place, which for each program header that is still there and showed the section at read is shown by one of
-- its type
abbrev pub is_note_shown : Resized → Plan → KeptSection → Bool
is_note_shown r plan s =
    list_all (λ p. is_some_and (is_shown_by plan.segments p.p_type) (slice_get plan.places s.position))
    (filter (did_show_note r.read s) r.image.segments)

-- a loaded note section with bytes
abbrev pub is_loaded_note : KeptSection → Bool
is_loaded_note s = s.section.sh_type == SHT_NOTE && is_loaded_section s.section && has_bytes s.section

-- Every loaded note section of the image is shown as it was by the program headers that are still there.
unfoldable pub are_notes_shown : Resized → Plan → Bool
are_notes_shown r plan = list_all (is_note_shown r plan) (filter is_loaded_note (kept_sections r.image))

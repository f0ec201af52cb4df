-- Which program headers follow sections: where these go, the program header goes.
use Rattle.std.specs.Prelude.{ℕ, List, [], ◌∷◌, length, map, filter, find, Bool, true, false, ◌&&◌, not, Option, Some, None, nat_le, ◌==◌, if◌then◌else◌}
use Rattle.std.specs.List.{list_all, list_any}
use Rattle.elf_format.specs.declared.constants.TheConstants.{PT_DYNAMIC, PT_GNU_PROPERTY, PT_GNU_RELRO, PT_INTERP, PT_LOAD, PT_NOTE, PT_PHDR, SHT_DYNAMIC, SHT_NOTE}
use Rattle.elf_format.specs.Image.{Image, ImageSection}
use Rattle.elf_format.specs.Options.{first_there, is_one_of}
use Rattle.elf_format.specs.Placement.{file_part}
use Rattle.elf_format.specs.Ranges.{apart, lies_in}
use Rattle.elf_format.specs.declared.records.SegmentHeader.{SegmentHeader}
use Rattle.elf_format.specs.Places.{file_range, occupies_file, occupies_memory}
use Rattle.elf_tables.specs.Kept.{KeptSection, interpreter_number, is_numbered, kept_of_type, kept_sections, place_at_read}
use Rattle.elf_layout_plan.specs.Memory.{Resized}

-- What a program header goes by.
pub data Anchor : Type 0 where
  -- the program header keeps its range
  Itself : Anchor
  -- the program header table (gABI, Program Header, PT_PHDR)
  HeaderTable : Anchor
  -- one section
  OneSection : KeptSection → Anchor
  -- several note sections
  Notes : List KeptSection → Anchor

-- ## One section

-- the section has bytes in the file
abbrev pub has_bytes : ImageSection → Bool
has_bytes s = occupies_file (place_at_read s) && not (s.sh_size == 0)

abbrev pub is_loaded_section : ImageSection → Bool
is_loaded_section s = occupies_memory (place_at_read s)

-- the bytes of the file that the program header covered at read are just the section's
abbrev pub is_just_over : SegmentHeader → KeptSection → Bool
is_just_over p s = has_bytes s.section && s.section.sh_offset == p.p_offset && s.section.sh_size == p.p_filesz

-- the section that a program header is just over: of several one that is loaded
abbrev pub section_under : Image → SegmentHeader → Option KeptSection
section_under image p =
    let under = filter (is_just_over p) (kept_sections image) in
    first_there (find (λ s. is_loaded_section s.section) under) (find (λ _. true) under)

abbrev pub anchor_or_itself : Option KeptSection → Anchor
anchor_or_itself (Some s) = OneSection s
anchor_or_itself None = Itself

-- what a PT_PHDR goes by: the section that it is just over, or where there is none the program header table
abbrev pub section_or_table : Option KeptSection → Anchor
section_or_table (Some s) = OneSection s
section_or_table None = HeaderTable

-- ## Several note sections

-- the section shares a byte of the file with the program header
abbrev pub shares_bytes : SegmentHeader → KeptSection → Bool
shares_bytes p s = has_bytes s.section && not (apart (file_range (place_at_read s.section)) (file_part p))

-- the section is a loaded note section that the program header has all of
abbrev pub is_note_in : SegmentHeader → KeptSection → Bool
is_note_in p s = s.section.sh_type == SHT_NOTE && is_loaded_section s.section && lies_in (file_range (place_at_read s.section)) (file_part p)

-- the sections of the file, as it was read, that share bytes with the program header
abbrev pub sharers : Image → SegmentHeader → List KeptSection
sharers read p = filter (shares_bytes p) (kept_sections read)

-- the program header is for notes or properties, and was over two note sections or more and over no other section
abbrev pub is_over_notes : Image → SegmentHeader → Bool
is_over_notes read p =
    is_one_of (PT_NOTE ∷ PT_GNU_PROPERTY ∷ []) p.p_type
    && nat_le 2 (length (sharers read p)) && list_all (is_note_in p) (sharers read p)

-- the sections that shared bytes with a program header at read, and are still there
abbrev pub notes_under : Image → Image → SegmentHeader → List KeptSection
notes_under read image p = filter (λ s. is_one_of (map (λ n. n.number) (sharers read p)) s.number) (kept_sections image)

-- ## All of them

-- the anchor of a program header of no special type, by the bytes of the file that it covers
abbrev pub anchor_by_range : Image → Image → SegmentHeader → Anchor
anchor_by_range read image p =
    if p.p_filesz == 0 then Itself
    else if is_over_notes read p then Notes (notes_under read image p)
    else anchor_or_itself (section_under image p)

-- Where the dynamic section has leave to move, a PT_GNU_RELRO keeps its range, whatever section it is just over. Linkers round its size
-- in memory up to a page, of up to 64 KiB: where the section goes, it could reach past what is loaded, and a loader that makes it
-- read-only would fail. Where it stands, it is loaded as it was.
abbrev pub does_relro_stay : Bool → ℕ → Bool
does_relro_stay moves_dynamic type = type == PT_GNU_RELRO && moves_dynamic

-- What a program header of an image goes by, whose file was read as another.
unfoldable pub anchor_of : Image → Image → SegmentHeader → Anchor
anchor_of read image p =
    if p.p_type == PT_LOAD then Itself
    else if p.p_type == PT_PHDR then section_or_table (section_under image p)
    else if p.p_type == PT_DYNAMIC then anchor_or_itself (kept_of_type SHT_DYNAMIC image)
    else if p.p_type == PT_INTERP then anchor_or_itself (find (is_numbered (interpreter_number read)) (kept_sections image))
    else if does_relro_stay image.moves_dynamic p.p_type then Itself
    else anchor_by_range read image p

-- ## Which of them move

abbrev pub is_moved : List ℕ → KeptSection → Bool
is_moved moved s = is_one_of moved s.position

-- the notes that move, and those that stay
abbrev pub moved_notes : List ℕ → List KeptSection → List KeptSection
moved_notes moved notes = filter (is_moved moved) notes

abbrev pub staying_notes : List ℕ → List KeptSection → List KeptSection
staying_notes moved notes = filter (λ s. not (is_moved moved s)) notes

-- some notes move and some stay
abbrev pub are_parted : List ℕ → List KeptSection → Bool
are_parted moved notes = list_any (is_moved moved) notes && list_any (λ s. not (is_moved moved s)) notes

abbrev pub is_parted : List ℕ → Anchor → Bool
is_parted moved Itself = false
is_parted moved HeaderTable = false
is_parted moved (OneSection s) = false
is_parted moved (Notes notes) = are_parted moved notes

-- a program header over several notes is split in two where only some of them move
unfoldable pub is_split : Resized → List ℕ → SegmentHeader → Bool
is_split r moved p = is_parted moved (anchor_of r.read r.image p)

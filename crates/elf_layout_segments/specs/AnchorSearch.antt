-- What a program header goes by, told by the positions of sections.
use Rattle.std.specs.Prelude.{ℕ, List, [], ◌∷◌, filter, count_by, ◌&&◌, Bool, nat_le, Option, Some, None, ◌==◌, if◌then◌else◌}
use Rattle.std.specs.List.{list_all}
use Rattle.elf_format.specs.declared.constants.TheConstants.{PT_DYNAMIC, PT_GNU_PROPERTY, PT_INTERP, PT_LOAD, PT_NOTE, PT_PHDR, SHT_DYNAMIC}
use Rattle.elf_format.specs.Options.{first_there, is_one_of}
use Rattle.elf_format.specs.Placement.{file_part}
use Rattle.elf_format.specs.Places.{occupies_memory}
use Rattle.elf_format.specs.declared.records.SegmentHeader.{SegmentHeader}
use Rattle.elf_image.specs.Kept.{interpreter_number}
use Rattle.elf_layout_plan.specs.Anchors.{does_relro_stay}
use Rattle.elf_layout_plan.specs.Memory.{Resized}
use Rattle.elf_layout_segments.specs.AnchorPositions.{AnchorPosition, itself, notes, section, table}
use Rattle.elf_layout_segments.specs.declared.sections.SectionAt.{SectionAt}
use Rattle.elf_layout_segments.specs.declared.sections.Wanted.TheVariants.{Numbered, OfType}
use Rattle.elf_layout_segments.specs.Sections.{first_at, first_wanted, is_just_over_at, is_note_at, place_at, indexed_sections, shares_bytes_at}

-- What is looked at to find an anchor: the sections at read and those that are there, the number at read of the section with the
-- interpreter's name, and whether the dynamic section has leave to move.
pub record SearchedLists : Type 0 where
  pub read : List SectionAt
  pub kept : List SectionAt
  pub interpreter : Option ℕ
  pub moves_dynamic : Bool

-- what is looked at of an image to find an anchor
abbrev pub searched_lists : Resized → SearchedLists
searched_lists r = record {
  read = indexed_sections r.read;
  kept = indexed_sections r.image;
  interpreter = interpreter_number r.read;
  moves_dynamic = r.image.moves_dynamic;
}

-- one section, where there is one
abbrev pub position_or_itself : Option ℕ → AnchorPosition
position_or_itself (Some position) = section position
position_or_itself None = itself

-- one section, or where there is none the program header table
abbrev pub section_or_table_at : Option ℕ → AnchorPosition
section_or_table_at (Some position) = section position
section_or_table_at None = table

-- the section with the interpreter's name
abbrev pub interpreter_at : Option ℕ → List SectionAt → Option ℕ
interpreter_at None sections = None
interpreter_at (Some number) sections = first_wanted (Numbered number) sections

-- two sections or more share bytes with the program header, and all that do are notes in it
abbrev pub are_notes_in : SegmentHeader → List SectionAt → Bool
are_notes_in p sections = nat_le 2 (count_by (shares_bytes_at p) sections) && list_all (is_note_at p) (filter (shares_bytes_at p) sections)

-- the section that a program header is just over: of several one that is loaded
abbrev pub under_at : SegmentHeader → List SectionAt → Option ℕ
under_at p sections = first_there (first_at (λ s. is_just_over_at p s && occupies_memory (place_at s)) sections) (first_at (is_just_over_at p) sections)

-- the program header is for notes or properties, and was over several notes and over no other section
unfoldable pub is_over_notes_at : SearchedLists → SegmentHeader → Bool
is_over_notes_at l p = is_one_of (PT_NOTE ∷ PT_GNU_PROPERTY ∷ []) p.p_type && are_notes_in p l.read

-- by the bytes of the file that a program header covers
unfoldable pub anchor_position_by_range : SearchedLists → SegmentHeader → AnchorPosition
anchor_position_by_range l p =
    if p.p_filesz == 0 then itself
    else if is_over_notes_at l p then notes (file_part p)
    else position_or_itself (under_at p l.kept)

-- What a program header goes by.
unfoldable pub anchor_position_of : SearchedLists → SegmentHeader → AnchorPosition
anchor_position_of l p =
    if p.p_type == PT_LOAD then itself
    else if p.p_type == PT_PHDR then section_or_table_at (under_at p l.kept)
    else if p.p_type == PT_DYNAMIC then position_or_itself (first_wanted (OfType SHT_DYNAMIC) l.kept)
    else if p.p_type == PT_INTERP then position_or_itself (interpreter_at l.interpreter l.kept)
    else if does_relro_stay l.moves_dynamic p.p_type then itself
    else anchor_position_by_range l p

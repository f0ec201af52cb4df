-- The program headers of a written file: those of the image, in their order, and loaded ones that were added.
use Rattle.std.specs.Prelude.{ℕ, ◌+◌, ◌*◌, ◌%◌, ◌≡◌, ◌≢◌, ◌<◌, ◌≤◌, ◌⊎◌, List, [], ◌∷◌, ◌++◌, length, max, false, Some, IsTrue, if◌then◌else◌}
use Rattle.std.specs.List.{AllByRecursion, list_any, slice_get}
use Rattle.elf_format.specs.declared.constants.TheConstants.{PT_LOAD}
use Rattle.elf_format.specs.declared.records.SegmentHeader.{SegmentHeader}
use Rattle.elf_format.specs.File.{is_loaded}
use Rattle.elf_format.specs.Image.{Image, ImageSection}
use Rattle.elf_format.specs.Placement.{holds, memory_part}
use Rattle.elf_format.specs.Ranges.{end_of}
use Rattle.elf_format.specs.Records.{segment_header_size}
use Rattle.elf_image.specs.Kept.{KeptSection, kept_sections, place_at_read}
use Rattle.elf_image.specs.Segments.{loads_end}
use Rattle.elf_layout_plan.specs.Added.{load_alignment}
use Rattle.elf_layout_plan.specs.Anchors.{Anchor, HeaderTable, Itself, Notes, OneSection, anchor_of, is_loaded_section}
use Rattle.elf_layout_plan.specs.Rounds.{flags_for}
use Rattle.elf_layout_plan.specs.Written.{memory_size, physical_for}

-- ## Those of the image

-- a section of these of the image, and what is read of it
pub record SectionNow (again : Image) (sections : List KeptSection) : Type 0 where
  pub index : ℕ
  pub kept : KeptSection
  pub is_kept : slice_get sections index ≡ Some kept
  pub now : ImageSection
  pub is_now : slice_get again.sections kept.position ≡ Some now

-- The program header q, made of p, begins where one of these sections does, in the file and, where that section is in memory, in memory
-- too; and it ends in the file where one of them does. Its physical address is as far from its address as it was, and it takes as much
-- memory as p took or as it has bytes (gABI, Program Header, p_memsz).
pub record StandsAtSections (again : Image) (p : SegmentHeader) (sections : List KeptSection) (q : SegmentHeader) : Type 0 where
  pub first : SectionNow again sections
  pub last : SectionNow again sections
  pub offset : q.p_offset ≡ first.now.sh_offset
  pub end : q.p_offset + q.p_filesz ≡ last.now.sh_offset + last.now.sh_size
  pub address : q.p_vaddr ≡ (if is_loaded_section first.now then first.now.sh_addr else p.p_vaddr)
  pub physical : q.p_paddr ≡ physical_for again.form p q.p_vaddr
  pub memory : q.p_memsz ≡ memory_size p q.p_filesz

-- The program header stands where it did, and is as long as the program header table (gABI, Program Header, PT_PHDR).
pub record StandsAtTable (again : Image) (p q : SegmentHeader) : Type 0 where
  pub same : q ≡ record p { p_filesz = q.p_filesz; p_memsz = q.p_filesz }
  pub whole : q.p_filesz ≡ length again.segments * segment_header_size again.form

-- the section stands at its address
abbrev pub IsAtItsAddress : Image → KeptSection → Type 0
IsAtItsAddress again s = (now : ImageSection) × (slice_get again.sections s.position ≡ Some now) × (now.sh_addr ≡ s.section.sh_addr)

-- Where a program header q stands that is made of p, by what p goes by: q is p; it has the header table; it has just the one section; it is
-- p, where none of the notes moved, or it is over some of them.
abbrev pub StandsBy : Image → SegmentHeader → Anchor → SegmentHeader → Type 0
StandsBy again p Itself q = q ≡ p
StandsBy again p HeaderTable q = StandsAtTable again p q
StandsBy again p (OneSection s) q = StandsAtSections again p (s ∷ []) q
StandsBy again p (Notes notes) q = ((q ≡ p) × AllByRecursion (IsAtItsAddress again) notes) ⊎ StandsAtSections again p notes q

-- a program header of the image, as it is written
pub record IsSameHeader (again : Image) (p : SegmentHeader) (anchor : Anchor) (q : SegmentHeader) : Type 0 where
  pub type : q.p_type ≡ p.p_type
  pub flags : q.p_flags ≡ p.p_flags
  pub align : q.p_align ≡ p.p_align
  pub place : StandsBy again p anchor q

-- one over several notes becomes two where only some of them move
abbrev pub most_headers : Anchor → ℕ
most_headers Itself = 1
most_headers HeaderTable = 1
most_headers (OneSection s) = 1
most_headers (Notes notes) = 2

-- What becomes of one of them: a loaded one stays as it is, and no other goes.
pub record AreHeadersOf (again : Image) (p : SegmentHeader) (anchor : Anchor) (qs : List SegmentHeader) : Type 0 where
  pub loaded : IsTrue (is_loaded p) → qs ≡ p ∷ []
  pub some : 1 ≤ length qs
  pub few : length qs ≤ most_headers anchor
  pub each : AllByRecursion (IsSameHeader again p anchor) qs

-- what becomes of all of them, in their order
abbrev pub AreHeadersInOrder : Image → Image → Image → List SegmentHeader → List SegmentHeader → Type 0
AreHeadersInOrder read image again [] qs = qs ≡ []
AreHeadersInOrder read image again (p ∷ ps) qs =
    (here : List SegmentHeader) × (rest : List SegmentHeader) × (qs ≡ here ++ rest)
    × AreHeadersOf again p (anchor_of read image p) here × AreHeadersInOrder read image again ps rest

-- ## Those that were added

-- A loaded segment that was added, with the flags that a section needs. Its alignment is the page size that was set, else the greatest of
-- the loaded segments that were read, else the machine's pages; it is 0 only if that was set. Its offset and its address leave the same
-- rest (gABI, Program Header, p_align).
pub record IsAddedLoad (read image : Image) (q : SegmentHeader) : Type 0 where
  pub type : q.p_type ≡ PT_LOAD
  pub index : ℕ
  pub section : KeptSection
  pub is_section : slice_get (kept_sections image) index ≡ Some section
  pub flags : q.p_flags ≡ flags_for image.moves_dynamic section.section
  pub memory : q.p_memsz ≡ q.p_filesz
  pub physical : q.p_paddr ≡ q.p_vaddr
  pub align : q.p_align ≡ load_alignment read image
  pub aligned : image.page_size ≢ Some 0 → 0 < q.p_align
  pub congruent : 0 < q.p_align → q.p_offset % q.p_align ≡ q.p_vaddr % q.p_align

-- each begins in memory where the one before it ends, or behind; the first at an end or behind (gABI, Program Header, PT_LOAD)
abbrev pub AreBehind : ℕ → List SegmentHeader → Type 0
AreBehind end [] = Unit {0}
AreBehind end (q ∷ qs) = (end ≤ q.p_vaddr) × AreBehind (end_of (memory_part q)) qs

-- one of the added segments has the section's bytes at the section's address, a multiple of the section's alignment, and lets a program do
-- with them what the section needs
pub record IsInAdded (image : Image) (added : List SegmentHeader) (s : KeptSection) (now : ImageSection) : Type 0 where
  pub index : ℕ
  pub load : SegmentHeader
  pub is_load : slice_get added index ≡ Some load
  pub flags : load.p_flags ≡ flags_for image.moves_dynamic s.section
  pub has : IsTrue (holds load (place_at_read now))
  pub aligned : now.sh_addr % max 1 s.section.sh_addralign ≡ 0

-- ## All of them

-- The program headers that are read of a written file.
pub record AreSegmentsKept (read image again : Image) : Type 0 where
  pub front : List SegmentHeader
  pub added : List SegmentHeader
  pub behind : List SegmentHeader
  pub are : again.segments ≡ front ++ (added ++ behind)
  -- the program headers are the image's, but for those that were added
  pub kept : AreHeadersInOrder read image again image.segments (front ++ behind)
  -- loaded ones that were added stand behind all others that are loaded, in the table as in memory
  pub last : list_any is_loaded behind ≡ false
  pub loads : AllByRecursion (IsAddedLoad read image) added
  pub order : AreBehind (loads_end image.segments) added
  -- each loaded section that stands at another address than it did is in one of them
  pub moved : (i : ℕ) (s : KeptSection) (now : ImageSection) → slice_get (kept_sections image) i ≡ Some s → slice_get again.sections i ≡ Some now
      → IsTrue (is_loaded_section s.section) → now.sh_addr ≢ s.section.sh_addr → IsInAdded image added s now

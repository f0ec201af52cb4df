-- What of the bytes of a file stays where loaders find it.
use Rattle.std.specs.Prelude.{ℕ, ◌+◌, ◌-◌, ◌≡◌, List, [], ◌∷◌, ◌++◌, false, ◌&&◌, Some, IsTrue}
use Rattle.std.specs.List.{list_any, slice_get}
use Rattle.patch_bytes.specs.Memory.{Keeps, from, memory_of}
use Rattle.elf_format.specs.declared.range.Range.{Range}
use Rattle.elf_format.specs.declared.records.SegmentHeader.{SegmentHeader}
use Rattle.elf_format.specs.declared.records.EntryNumbers.{EntryNumbers}
use Rattle.elf_format.specs.declared.constants.TheConstants.{DT_GNU_HASH, DT_HASH, SHT_GNU_HASH, SHT_HASH}
use Rattle.elf_format.specs.Dynamic.{value_of_tag}
use Rattle.elf_format.specs.File.{loads_of}
use Rattle.elf_format.specs.Image.{Image}
use Rattle.elf_format.specs.Placement.{file_part}
use Rattle.elf_format.specs.Places.{Place, file_range, occupies_file}
use Rattle.elf_format.specs.Views.{byte_at}
use Rattle.elf_image.specs.Kept.{KeptSection, kept_of_type, kept_sections, place_at_read}
use Rattle.elf_write_spec.specs.Base.{has_position, is_data, is_rewritten, old_places}

-- bytes stand at an address in the memory that program headers load of a file
abbrev pub IsSeenAt : List SegmentHeader → List ℕ → ℕ → List ℕ → Type 0
IsSeenAt segments file address bytes = Keeps (memory_of bytes) (from (byte_at segments file) address)

-- Each section of data has its bytes at its address.
abbrev pub IsDataSeen : Image → Image → List SegmentHeader → List ℕ → Type 0
IsDataSeen read image segments file = (i : ℕ) (s : KeptSection) → slice_get (kept_sections image) i ≡ Some s
    → IsTrue (is_data read s && occupies_file (place_at_read s.section))
    → IsSeenAt segments file s.section.sh_addr s.section.content

-- the new places of what takes memory and is written anew
abbrev pub new_places_from : Image → List KeptSection → List Place → List Range
new_places_from read [] places = []
new_places_from read (s ∷ ss) [] = []
new_places_from read (s ∷ ss) (p ∷ ps) =
    elim (is_rewritten read s) [ false ↦ new_places_from read ss ps | _ ↦ file_range p ∷ new_places_from read ss ps ]

-- the old and the new ranges of headers and of what is written anew
abbrev pub written_places : Image → Image → List Range → List Place → List Range
written_places read image headers places =
    old_places read image ++ headers ++ new_places_from read (kept_sections image) places

-- Every other byte that a loaded segment of the read file had keeps its value and its address, but for spare segments, which go with the
-- leave that the dynamic section moves.
abbrev pub AreOthersSeen : Image → List SegmentHeader → List Range → List ℕ → Type 0
AreOthersSeen image segments written file = (i : ℕ) (p : SegmentHeader) (position : ℕ)
    → slice_get (loads_of image.segments) i ≡ Some p
    → IsTrue (has_position position (file_part p))
    → list_any (has_position position) written ≡ false
    → byte_at segments file (p.p_vaddr + (position - p.p_offset)) ≡ slice_get image.source position

-- The bytes of the section of a type stand at the address that a tag tells.
abbrev pub IsSeenByTag : Image → List SegmentHeader → List EntryNumbers → List ℕ → ℕ → ℕ → Type 0
IsSeenByTag image segments raw file type tag = (s : KeptSection) (address : ℕ) → kept_of_type type image ≡ Some s
    → value_of_tag tag raw ≡ Some address → IsSeenAt segments file address s.section.content

-- The hash tables stand, as they were read, where the dynamic list says (gABI, Hash Table; GNU hash section).
pub record AreHashesSeen (image : Image) (segments : List SegmentHeader) (raw : List EntryNumbers) (file : List ℕ) : Type 0 where
  pub gabi : IsSeenByTag image segments raw file SHT_HASH DT_HASH
  pub gnu : IsSeenByTag image segments raw file SHT_GNU_HASH DT_GNU_HASH

-- The bytes of one section among those of an image.
use Rattle.std.specs.Prelude.{ℕ, ◌*◌, ◌≡◌, ◌≢◌, List, length, Some, None}
use Rattle.std.specs.List.{slice_get}
use Rattle.elf_format.specs.declared.records.EntryNumbers.{EntryNumbers}
use Rattle.elf_format.specs.declared.constants.TheConstants.{SHT_GNU_HASH, SHT_GNU_VERSYM, SHT_HASH}
use Rattle.elf_format.specs.declared.section_data.SectionData.{SectionData}
use Rattle.elf_format.specs.declared.section_data.SectionData.TheVariants as kinds
use Rattle.elf_format.specs.Image.{Image, ImageSection}
use Rattle.elf_format.specs.Places.{Place}
use Rattle.elf_image.specs.Kept.{KeptSection, kept_sections}
use Rattle.elf_layout_plan.specs.Memory.{Resized}
use Rattle.elf_layout_plan.specs.Plan.{Plan, resized}
use Rattle.elf_layout_plan.specs.Sizes.{hash_size}
use Rattle.elf_write_spec.specs.Contents.{AreRelocationsOf, AreVersionsIn, IsGabiContent, IsGnuContent}
use Rattle.elf_write_symbol_tables.specs.Made.{Made}
use Rattle.elf_write_symbol_tables.specs.WrittenStrings.{made_of}
use Rattle.elf_write_contents.specs.Inner.{IsMadeContent}

-- the table that is told anew, where one had a number, else these bytes
abbrev pub made_or : List Made → ℕ → List ℕ → List ℕ
made_or made number content = elim (made_of made number) [ Some m ↦ m.table.bytes | None ↦ content ]

-- the bytes are those of the section at a position, as many as its place
pub record IsBytesAt (image : Image) (plan : Plan) (made : List Made) (raw : List EntryNumbers) (i : ℕ) (bytes : List ℕ) : Type 0 where
  pub are : (k : KeptSection) (place : Place) → slice_get (kept_sections image) i ≡ Some k → slice_get plan.places i ≡ Some place
      → IsMadeContent (resized image) plan made raw k place bytes

-- the bytes of each of the first sections are there
pub record AreBytesOf (image : Image) (plan : Plan) (made : List Made) (raw : List EntryNumbers) (contents : List (List ℕ)) : Type 0 where
  pub each : (i : ℕ) (bytes : List ℕ) → slice_get contents i ≡ Some bytes → IsBytesAt image plan made raw i bytes

-- ## Sections that number the dynamic symbols

-- the bytes of a section of relocations, as many as they were; those of any other one are as they were read
abbrev pub IsRelocatedOf : Resized → ImageSection → List ℕ → SectionData → Type 0
IsRelocatedOf r s bytes kind = elim kind [
  | kinds.Relocation ↦ (length bytes ≡ s.sh_size) × AreRelocationsOf r s bytes
  | _ ↦ bytes ≡ s.content
]

abbrev pub IsRelocated : Resized → ImageSection → List ℕ → Type 0
IsRelocated r s bytes = IsRelocatedOf r s bytes s.kind

-- the bytes of a section that numbers the dynamic symbols, by its type; else as of other sections
pub record IsNumbering (read image : Image) (s : ImageSection) (bytes : List ℕ) : Type 0 where
  pub versions : s.sh_type ≡ SHT_GNU_VERSYM
      → (length bytes ≡ 2 * length image.dynamic_symbols) × AreVersionsIn (resized image) s bytes
  pub gabi : s.sh_type ≡ SHT_HASH → (length bytes ≡ hash_size read image s) × IsGabiContent (resized image) s bytes
  pub gnu : s.sh_type ≡ SHT_GNU_HASH → (length bytes ≡ hash_size read image s) × IsGnuContent (resized image) s bytes
  pub others : s.sh_type ≢ SHT_GNU_VERSYM → s.sh_type ≢ SHT_HASH → s.sh_type ≢ SHT_GNU_HASH → IsRelocated (resized image) s bytes

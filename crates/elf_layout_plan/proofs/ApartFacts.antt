-- What is known of an edited image and the one that was read: its loaded segments and its sections stand where those stood.
use Rattle.std.proofs.Common.{◌≡◌, ℕ, ◌≤◌, Bool, true, false, ◌⊎◌, List, map, length, Some}
use Rattle.std.specs.List.{list_any, slice_get}
use Rattle.elf_format.specs.declared.constants.TheConstants.{SHT_NOBITS, SHT_NOTE}
use Rattle.elf_format.specs.declared.records.SegmentHeader.{SegmentHeader}
use Rattle.elf_format.specs.File.{is_loaded, loads_of}
use Rattle.elf_format.specs.Image.{Image}
use Rattle.elf_format.specs.Placement.{file_part, is_stored, shows_at}
use Rattle.elf_format.specs.declared.range.Range.{Range}
use Rattle.elf_format.specs.Ranges.{apart, end_of, range}
use Rattle.elf_layout_plan.specs.Anchors.{is_loaded_section}
use Rattle.elf_tables.specs.Complete.{IsComplete}
use Rattle.elf_tables.specs.Edited.{AreUnclaimed}
use Rattle.elf_tables.specs.Kept.{KeptSection, kept_sections, place_at_read}
use Rattle.elf_image_headers.specs.Segments.{loads_end}
use Rattle.elf_layout_plan.specs.Memory.{Resized, has_lost_load, sized_sections}
use Rattle.elf_layout_plan.specs.Sizes.{new_size}
use Rattle.elf_layout_plan.proofs.ApartLists.{Each, Pairs}
use Rattle.elf_layout_plan.proofs.ApartSections.{sized_of}

-- a program header without what edits change of it
abbrev pub bare : SegmentHeader → SegmentHeader
bare p = record p { p_flags = 0; p_align = 0 }

-- the bytes of the file that a kept section had
abbrev pub bytes_of : KeptSection → Range
bytes_of k = range k.section.sh_offset k.section.sh_size

abbrev pub was_stored : KeptSection → Bool
was_stored k = is_stored (place_at_read k.section)

-- a section that was read at that number, and is the same but for its name
pub record IsOriginal (read : Image) (k : KeptSection) : Type 0 where
  pub place : ℕ
  pub old : KeptSection
  pub is_there : slice_get (kept_sections read) place ≡ Some old
  pub same_number : old.number ≡ k.number
  pub same : k.section ≡ record old.section { name = k.section.name }

-- What the layout may rest on.
pub record AreFacts (r : Resized) : Type 0 where
  pub form : r.image.form ≡ r.read.form
  pub table : r.image.header.e_phoff ≡ r.read.header.e_phoff
  -- what is left of the program headers that were read
  pub left : List SegmentHeader
  pub are_left : AreUnclaimed r.read.header.e_phoff (loads_end r.image.segments) r.read.segments left
  pub loads : map bare (loads_of r.image.segments) ≡ map bare (loads_of left)
  pub sized : sized_sections r ≡ map (sized_of r) (kept_sections r.image)
  pub fit : Each (λ p. p.p_filesz ≤ p.p_memsz) (loads_of left)
  pub in_file : Each (λ p. end_of (file_part p) ≤ length r.image.source) (loads_of left)
  pub bytes_apart : Pairs (λ p q. apart (file_part p) (file_part q) ≡ true) (loads_of left)
  pub held : Each (λ k. was_stored k ≡ true → has_lost_load r.image k.section ≡ false → list_any (λ p. shows_at p (bytes_of k) k.section.sh_addr) (loads_of left) ≡ true) (kept_sections r.image)
  pub something : Each (λ k. is_loaded_section k.section ≡ true → list_any is_loaded left ≡ true) (kept_sections r.image)
  pub sections_apart : Pairs (λ k l. was_stored k ≡ true → was_stored l ≡ true → apart (bytes_of k) (bytes_of l) ≡ true) (kept_sections r.image)
  pub read_apart : Pairs (λ k l. was_stored k ≡ true → was_stored l ≡ true → apart (bytes_of k) (bytes_of l) ≡ true) (kept_sections r.read)
  pub keeps_size : Each (λ k. (k.section.sh_type ≡ SHT_NOBITS) ⊎ (k.section.sh_type ≡ SHT_NOTE) → new_size r.read r.image k ≡ k.section.sh_size) (kept_sections r.image)
  pub originals : Each (IsOriginal r.read) (kept_sections r.image)
  pub numbers : (i : ℕ) (k : KeptSection) → slice_get (kept_sections r.read) i ≡ Some k → k.number ≡ i
  pub complete : IsComplete r.read r.image

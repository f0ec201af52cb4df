-- How the blocks of an image are found: what the steps hand to each other.
use Rattle.std.specs.Prelude.{ℕ, ◌+◌, ◌-◌, ◌≡◌, List, [], length, map, filter, drop, Bool, false, Option, Some, ◌==◌, ◌&&◌, ◌||◌, if◌then◌else◌, nat_le, slice_index}
use Rattle.std.specs.Option.{option_map}
use Rattle.elf_format.specs.declared.constants.TheConstants.{SHT_DYNAMIC, SHT_STRTAB}
use Rattle.elf_format.specs.Image.{Image, ImageSection}
use Rattle.elf_format.specs.Options.{is_some_and}
use Rattle.elf_format.specs.Placement.{is_stored}
use Rattle.elf_format.specs.declared.records.SegmentHeader.{SegmentHeader}
use Rattle.elf_layout_plan.specs.Blocks.{Block}
use Rattle.elf_image.specs.Kept.{KeptSection, kept_from, place_at_read}
pub use Rattle.elf_layout_plan.specs.Memory.{is_movable_type}
use Rattle.elf_layout_plan.specs.Memory.{Resized, SizedSection, is_out_of_loads, is_displaced, section_block, sized_from, takes_memory}

-- each section has a number at read
abbrev pub AreNumbered : Image → Type 0
AreNumbered image = length image.section_numbers ≡ length image.sections

-- the address of what starts at an offset, in a loaded segment
abbrev pub address_of : ℕ → Option SegmentHeader → Option ℕ
address_of offset load = option_map (λ p. p.p_vaddr + offset - p.p_offset) load

-- the sections from a position on
abbrev pub kept_behind : Image → ℕ → List KeptSection
kept_behind image k = kept_from k (drop k image.section_numbers) (drop k image.sections)

-- a section at a position, with its number at read and its new size
abbrev pub sized_at : ℕ → ℕ → ImageSection → ℕ → SizedSection
sized_at position number s size = record { kept = record { position = position; number = number; section = s }; size = size }

-- a section of an image alone, with a new size
abbrev pub image_alone : Image → Resized
image_alone image = record { read = image; image = image; sizes = [] }

-- a section that was empty can't stand where it stood
abbrev pub is_section_out : Image → ImageSection → ℕ → Bool
is_section_out image s size = is_out_of_loads (image_alone image) (sized_at 0 0 s size)

-- a section with bytes stands behind where the loaded segments end
abbrev pub is_section_behind : ℕ → ImageSection → Bool
is_section_behind end s = is_stored (place_at_read s) && nat_le end s.sh_addr

-- a section can't stand where it stood
abbrev pub is_section_displaced : Image → ImageSection → ℕ → Bool
is_section_displaced image s size = is_displaced (image_alone image) (sized_at 0 0 s size)

-- how readily a section moves that had a number at read, by the numbers of the interpreter's and of the dynamic strings, and by the
-- leave that the dynamic section has
abbrev pub priority_with : Option ℕ → Option ℕ → Bool → ImageSection → ℕ → ℕ
priority_with interpreter strings leave s number =
    if is_some_and (λ n. n == number) interpreter then 1
    else if is_movable_type s.sh_type || s.sh_type == SHT_STRTAB && is_some_and (λ n. n == number) strings
    || s.sh_type == SHT_DYNAMIC && leave then 2 else 0

-- the block of the section at a position
abbrev pub made_block : Resized → Option ℕ → Option ℕ → ℕ → ImageSection → Block
made_block r interpreter strings position s = record {
  start = s.sh_addr;
  size = slice_index r.sizes position;
  priority = priority_with interpreter strings r.image.moves_dynamic s (slice_index r.image.section_numbers position);
  section = Some position;
  is_displaced = is_section_displaced r.image s (slice_index r.sizes position);
  is_load_start = false;
}

-- the blocks of the sections from a position on
abbrev pub section_blocks_from : Resized → ℕ → List Block
section_blocks_from r k = map (section_block r) (filter (λ s. takes_memory s.kept.section) (sized_from (kept_behind r.image k) (drop k r.sizes)))

-- What of the bytes that were read stays where it is.
use Rattle.std.specs.Prelude.{ℕ, zero, suc, ◌+◌, ◌*◌, List, [], ◌∷◌, length, map, filter, slice_index, Bool, ◌&&◌, ◌==◌, not, nat_le, nat_lt, if◌then◌else◌}
use Rattle.std.specs.List.{list_any}
use Rattle.elf_format.specs.declared.constants.TheConstants.{SHT_DYNAMIC}
use Rattle.elf_format.specs.declared.range.Range.{Range}
use Rattle.elf_format.specs.File.{loads_of}
use Rattle.elf_format.specs.Places.{file_range, occupies_file}
use Rattle.elf_format.specs.Placement.{file_part}
use Rattle.elf_format.specs.Ranges.{end_of, range}
use Rattle.elf_format.specs.Image.{Image}
use Rattle.elf_format.specs.Records.{file_header_size, segment_header_size}
use Rattle.elf_layout_plan.specs.Anchors.{is_loaded_section}
use Rattle.elf_image.specs.Kept.{KeptSection, interpreter_number, is_numbered, kept_sections, place_at_read}
pub use Rattle.elf_image.specs.Renumbering.{is_opaque}
use Rattle.elf_layout_plan.specs.Memory.{Resized}

abbrev pub is_interpreter : Image → KeptSection → Bool
is_interpreter read s = is_numbered (interpreter_number read) s

-- Data of the program: it takes memory, and nothing but the program knows what it is. It stays where it is.
abbrev pub is_data : Image → KeptSection → Bool
is_data read s = is_loaded_section s.section && is_opaque s.section.kind && not (is_interpreter read s)

-- the section takes memory and bytes of the file, and is no data
abbrev pub is_rewritten : Image → KeptSection → Bool
is_rewritten read s = is_loaded_section s.section && occupies_file (place_at_read s.section) && not (is_data read s)

-- the section is written anew, and where it stood nobody looks for it any more; of a dynamic section that may move the bytes stay there,
-- since some programs find it by its symbol _DYNAMIC
abbrev pub leaves_place : Image → Image → KeptSection → Bool
leaves_place read image s = is_rewritten read s && not (s.section.sh_type == SHT_DYNAMIC && image.moves_dynamic)

-- The old places of what is written anew: they are zeros, where nothing comes to stand in them.
abbrev pub old_places : Image → Image → List Range
old_places read image =
    range 0 (file_header_size image.form)
    ∷ range read.header.e_phoff (length read.segments * segment_header_size read.form)
    ∷ map (λ s. file_range (place_at_read s.section)) (filter (leaves_place read image) (kept_sections image))

abbrev pub has_position : ℕ → Range → Bool
has_position position r = nat_le r.start position && nat_lt position (end_of r)

-- a loaded segment that was read and is still there has the byte, and it isn't in an old place
abbrev pub does_byte_stay : Resized → ℕ → Bool
does_byte_stay r position =
    list_any (λ p. has_position position (file_part p)) (loads_of r.image.segments)
    && not (list_any (has_position position) (old_places r.read r.image))

abbrev pub base_byte : Resized → ℕ → ℕ
base_byte r position = if does_byte_stay r position then slice_index r.image.source position else 0

-- the values of a function at so many positions, from one on
unfoldable pub values_from : (ℕ → ℕ) → ℕ → ℕ → List ℕ
values_from f position zero = []
values_from f position (suc count) = f position ∷ values_from f (position + 1) count

-- The bytes over which headers, tables and contents are laid: what the read file's loaded segments had, zeros elsewhere.
unfoldable pub base : Resized → ℕ → List ℕ
base r size = values_from (base_byte r) 0 size

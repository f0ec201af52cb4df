-- Steps towards what of a written file differs from the bytes that were read.
use Rattle.std.specs.Prelude.{ℕ, ◌≡◌, ◌<◌, List, length, map, min, slice_index, false, All}
use Rattle.byte_store.specs.Composed.{Stands, is_patched}
use Rattle.byte_store.specs.Laid.{Patch}
use Rattle.byte_store.specs.declared.composed.Span.{Span}
use Rattle.elf_format.specs.declared.range.Range.{Range}
use Rattle.elf_format.specs.declared.records.SegmentHeader.{SegmentHeader}
use Rattle.elf_format.specs.File.{loads_of}
use Rattle.elf_format.specs.Placement.{file_part}
use Rattle.elf_format.specs.Ranges.{end_of}
use Rattle.elf_layout_plan.specs.Memory.{Resized}
use Rattle.elf_write_contents.specs.Base.{base_byte}

-- ## Spans

-- the positions of a range, as far as there are so many bytes
abbrev pub span_in : ℕ → Range → Span
span_in len r = record { start = min r.start len; end = min (end_of r) len }

-- the positions of the bytes that loaded segments have in the file, as far as there are so many bytes
abbrev pub load_spans : ℕ → List SegmentHeader → List Span
load_spans len segments = map (λ p. span_in len (file_part p)) (loads_of segments)

-- ## Bytes that are composed

-- so many bytes: the patches at their offsets, elsewhere what stays of the bytes that were read
pub record IsOverBase (r : Resized) (patches : List Patch) (size : ℕ) (bytes : List ℕ) : Type 0 where
  pub sized : length bytes ≡ size
  pub stand : All (Stands bytes) patches
  pub stay : (k : ℕ) → k < size → is_patched patches k ≡ false → slice_index bytes k ≡ base_byte r k

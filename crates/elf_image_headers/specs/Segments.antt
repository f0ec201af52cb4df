-- Changes of program headers (gABI, Program Header).
use Rattle.std.specs.Prelude.{ℕ, max, List, [], ◌∷◌, ◌++◌, fold, map, ◌==◌, if◌then◌else◌}
use Rattle.elf_format.specs.declared.constants.TheConstants.{PT_GNU_STACK, PT_LOAD}
use Rattle.elf_format.specs.declared.records.SegmentHeader.{SegmentHeader}
use Rattle.elf_format.specs.File.{loads_of}
use Rattle.elf_format.specs.Placement.{memory_part}
use Rattle.elf_format.specs.Ranges.{end_of}
use Rattle.elf_image_headers.specs.declared.segment.TheConstants.{STACK_ALIGN}

-- a loaded segment gets the alignment
abbrev pub with_align : ℕ → SegmentHeader → SegmentHeader
with_align size p = record p { p_align = if p.p_type == PT_LOAD then size else p.p_align }

-- every loaded segment gets the alignment
abbrev pub with_load_align : ℕ → List SegmentHeader → List SegmentHeader
with_load_align size segments = map (with_align size) segments

-- the first program header for the stack gets these flags
unfoldable pub with_stack_flags : ℕ → List SegmentHeader → List SegmentHeader
with_stack_flags flags [] = []
with_stack_flags flags (p ∷ ps) = if p.p_type == PT_GNU_STACK then record p { p_flags = flags } ∷ ps else p ∷ with_stack_flags flags ps

-- the program header for a stack with these flags, as it is added
abbrev pub added_stack : ℕ → SegmentHeader
added_stack flags = record { p_type = PT_GNU_STACK; p_flags = flags; p_offset = 0; p_vaddr = 0; p_paddr = 0; p_filesz = 0; p_memsz = 0; p_align = STACK_ALIGN }

-- the program header for a stack is put last
abbrev pub with_stack_added : ℕ → List SegmentHeader → List SegmentHeader
with_stack_added flags segments = segments ++ added_stack flags ∷ []

-- where the loaded segments end in memory; 0 without one
abbrev pub loads_end : List SegmentHeader → ℕ
loads_end segments = fold max 0 (map (λ p. end_of (memory_part p)) (loads_of segments))

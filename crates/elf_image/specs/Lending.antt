-- What an image is once the flags of its stack are no longer lent.
use Rattle.std.specs.Prelude.{ℕ, List, [], Option, Result, true}
use Rattle.std.specs.Borrow.{Fml, Lends, LendsIf, LendsIfOk, MutBor, u32}
use Rattle.std.specs.declared.alloc.AllocError.{AllocError}
use Rattle.elf_format.specs.Image.{Image}
use Rattle.elf_format.specs.declared.records.SegmentHeader.{SegmentHeader}
use Rattle.elf_image_headers.specs.Segments.{with_stack_added, with_stack_flags}
use Rattle.elf_image.specs.contracts.builder.Builder.{the_row}
use mir.Syntax.{named}

-- the image, changed, with these program headers
abbrev pub with_segments : List SegmentHeader → Image → Image
with_segments segments image = record image { changed = true; segments = segments }

-- the first program header for the stack has the flags that are written last; without one nothing changes
abbrev pub LendsStackFlags : MutBor Image → Option (MutBor ℕ) → Fml
LendsStackFlags s r = LendsIf (the_row (record { mir = named 1; lft = [] })) u32 s r (λ flags. with_segments (with_stack_flags flags s.now.segments) s.now) s.now

-- the added program header for the stack has the flags that are written last; on an error nothing changes
abbrev pub LendsAddedFlags : MutBor Image → Result (MutBor ℕ) AllocError → Fml
LendsAddedFlags s r = LendsIfOk (the_row (record { mir = named 1; lft = [] })) u32 s r (λ flags. with_segments (with_stack_added flags s.now.segments) s.now) s.now

-- the program header for the stack, where it is there, has the flags that are written last
abbrev pub LendsFlagsOfStack : MutBor Image → MutBor ℕ → Fml
LendsFlagsOfStack s r = Lends (the_row (record { mir = named 1; lft = [] })) u32 s r (λ flags. with_segments (with_stack_flags flags s.now.segments) s.now)

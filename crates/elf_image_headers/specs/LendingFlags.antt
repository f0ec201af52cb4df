-- What a program header is once its flags are no longer lent.
use Rattle.std.specs.Prelude.{ℕ}
use Rattle.std.specs.Borrow.{Fml, Lends, MutBor, u32}
use Rattle.elf_image_headers.specs.declared.segment.Segment.{Segment}
use Rattle.elf_image_headers.specs.contracts.segment.Segment.{the_row}

-- the program header with these flags
abbrev pub with_flags : Segment → ℕ → Segment
with_flags p flags = record p { numbers = record p.numbers { p_flags = flags } }

-- a program header has the flags that are written last
abbrev pub LendsFlags : MutBor Segment → MutBor ℕ → Fml
LendsFlags s r = Lends the_row u32 s r (with_flags s.now)

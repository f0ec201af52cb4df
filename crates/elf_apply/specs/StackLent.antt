-- What calls on the program header for the stack lend, and what they leave.
use Rattle.std.specs.Prelude.{ℕ, ◌≡◌, ◌==◌, [], Option, Some, None, Result, if◌then◌else◌, option_map}
use Rattle.std.specs.Option.{OnSome}
use Rattle.std.specs.Borrow.{Fml, Lends, LendsSo, LendsSoOk, MutBor, RattleType, u32}
use Rattle.elf_edits.specs.Cause.{Cause, MipsImage, TooManyHeaders, cause_if, has_no_room_for_stack}
use Rattle.elf_edits.specs.Edited.{with_stack_changed}
use Rattle.elf_format.specs.declared.constants.TheConstants.{EM_MIPS, PT_GNU_STACK}
use Rattle.elf_image.specs.File.{segment_of_type}
use Rattle.elf_image.specs.Image.{Image}
use Rattle.elf_image.specs.Lending.{with_segments}
use Rattle.elf_image.specs.Options.{first_there}
use Rattle.elf_image.specs.Segments.{with_stack_flags}
use Rattle.elf_image.specs.contracts.builder.Builder.{the_row}
use Rattle.elf_apply.specs.declared.error.ElfError.{ElfError}
use Rattle.elf_apply.specs.declared.error.ElfError.TheVariants.{Memory, Modify}
use Rattle.elf_apply.specs.Told.{cause_told}
use mir.Syntax.{named}

-- the flags that can be lent: those of the first program header for the stack, but none of a MIPS image
abbrev pub flags_to_lend : Image → Option ℕ
flags_to_lend image = if image.header.e_machine == EM_MIPS then None else option_map (λ p. p.p_flags) (segment_of_type PT_GNU_STACK image.segments)

-- what stands against a program header for the stack: the machine, or that one has to be added to as many as there can be
abbrev pub stack_cause : Image → Option Cause
stack_cause image = first_there (cause_if (image.header.e_machine == EM_MIPS) MipsImage) (cause_if (has_no_room_for_stack image) TooManyHeaders)

-- the image, marked, whose first program header for the stack has these flags; without one, one is added last
abbrev pub with_stack : ℕ → Image → Image
with_stack flags image = with_segments (with_stack_changed (λ _. flags) image.segments) image

module _ (S : RattleType) (image : S.Denot → Image) (s : MutBor S.Denot) where
  -- the image is marked, and the first program header for the stack has the flags that are written last; where none are
  -- lent, the image is as it was
  abbrev pub LendsStackFlags : Option (MutBor ℕ) → Fml
  LendsStackFlags r =
      LendsSo S u32 s r (λ last flags. OnSome r (image last ≡ with_segments (with_stack_flags flags (image s.now).segments) (image s.now)))
      (λ last. image last ≡ image s.now)

  -- the image is marked, and the program header for the stack, which is added where there is none, has the flags that are written last; on
  -- an error the image is as it was
  abbrev pub LendsAddedFlags : Result (MutBor ℕ) ElfError → Fml
  LendsAddedFlags r =
      LendsSoOk S u32 s r (λ last flags. image last ≡ with_stack flags (image s.now)) (λ last. image last ≡ image s.now)

-- a builder that has a program header for the stack lends the flags of that
abbrev pub LendsFlagsThere : MutBor Image → MutBor ℕ → Fml
LendsFlagsThere s r = Lends (the_row (record { mir = named 1; lft = [] })) u32 s r (λ flags. with_stack flags s.now)

-- an error tells the cause that stands; where none does, that there was no memory
abbrev pub TellsWhy : Option Cause → ElfError → Type 0
TellsWhy None e = e ≡ Memory
TellsWhy (Some cause) (Modify told) = cause_told told ≡ Some cause
TellsWhy (Some cause) other = ⊥

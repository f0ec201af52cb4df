-- The program header for the stack, there or added.
use Rattle.std.proofs.Common.{◌≡◌, ℕ, List, refl, sym, ap, ◌∙◌, Option, Some, None, option_map, true}
use Rattle.std.specs.Prelude.{◌==◌, IsSome, unwrap_or}
use Rattle.std.proofs.lemmas.Option.{none-some}
use Rattle.elf_format.specs.declared.constants.TheConstants.{EM_MIPS, PT_GNU_STACK}
use Rattle.elf_format.specs.declared.records.SegmentHeader.{SegmentHeader}
use Rattle.elf_image.specs.File.{segment_of_type}
use Rattle.elf_image.specs.Image.{Image}
use Rattle.elf_image.specs.Lending.{with_segments}
use Rattle.elf_image.specs.Options.{first_there}
use Rattle.elf_image.specs.Segments.{with_stack_added, with_stack_flags}
use Rattle.elf_edits.specs.declared.constants.TheConstants.{STACK_FLAGS}
use Rattle.elf_edits.specs.Cause.{Cause, Facts, MipsImage, TooManyHeaders, cause_if, facts_of}
use Rattle.elf_apply.specs.Drafted.{stack_flags_of}
use Rattle.elf_apply.specs.StackLent.{stack_cause, with_stack}
use Rattle.elf_apply.proofs.DraftLaws.{flags_added, flags_there}

-- ## What is lent

-- flags of the one that is there
pub stack_there : (flags : ℕ) (image : Image) → IsSome (segment_of_type PT_GNU_STACK image.segments) → with_segments (with_stack_flags flags image.segments) image ≡ with_stack flags image
stack_there flags image there = ap (λ (l : List SegmentHeader). record image { changed = true; segments = l }) (flags_there flags image.segments there)

-- flags of one that is added
pub stack_added : (flags : ℕ) (image : Image) → segment_of_type PT_GNU_STACK image.segments ≡ None → with_segments (with_stack_added flags image.segments) image ≡ with_stack flags image
stack_added flags image none = ap (λ (l : List SegmentHeader). record image { changed = true; segments = l }) (flags_added flags image.segments none)

-- what is lent at first
pub flags_there_are : (n : ℕ) (segments : List SegmentHeader) → Some n ≡ option_map (λ p. p.p_flags) (segment_of_type PT_GNU_STACK segments) → n ≡ stack_flags_of segments
flags_there_are n segments h = ap (λ (o : Option ℕ). unwrap_or o STACK_FLAGS) h

pub flags_added_are : (n : ℕ) (segments : List SegmentHeader) → n ≡ STACK_FLAGS → segment_of_type PT_GNU_STACK segments ≡ None → n ≡ stack_flags_of segments
flags_added_are n segments h none = h ∙ sym (ap (λ (o : Option SegmentHeader). unwrap_or (option_map (λ p. p.p_flags) o) STACK_FLAGS) none)

-- ## Causes

stack_causes : Facts → Option Cause
stack_causes facts = first_there (cause_if (facts.machine == EM_MIPS) MipsImage) (cause_if facts.is_full TooManyHeaders)

none_told : (o : Option Cause) → None ≡ option_map {U = Option Cause} Some o → o ≡ None
none_told None h = refl
none_told (Some cause) h = absurd (none-some (Some cause) h)

-- nothing was refused where no cause stands
pub no_refusal : (image : Image) (facts : Facts) → facts ≡ facts_of image
    → None ≡ option_map {U = Option Cause} Some (first_there (cause_if (facts.machine == EM_MIPS) MipsImage) (cause_if facts.is_full TooManyHeaders)) → stack_cause image ≡ None
unfolding stack_causes
no_refusal image facts same h = none_told (stack_cause image) (h ∙ ap (λ (f : Facts). option_map {U = Option Cause} Some (stack_causes f)) same)

-- The section with the interpreter's name: where it was read, and which sections it isn't.
use Rattle.std.proofs.Common.{◌≡◌, ◌<◌, ℕ, true, false, length, sym, ap, ◌∙◌, Option, Some}
use Rattle.std.specs.Prelude.{◌==◌, IsSome, is_some}
use Rattle.patch_bytes.specs.Memory.{◌>>=◌}
use Rattle.std.specs.List.{slice_get}
use Rattle.std.proofs.lemmas.Option.{same_Some, slice_get_within}
use Rattle.elf_format.specs.declared.constants.TheConstants.{PT_INTERP, SHT_PROGBITS}
use Rattle.elf_format.specs.declared.records.SegmentHeader.{SegmentHeader}
use Rattle.elf_format.specs.File.{segment_of_type}
use Rattle.elf_image.specs.Kept.{KeptSection, image_at_read, interpreter_number, kept_at_number, kept_sections, stands_as_interpreter}
use Rattle.elf_layout_plan.proofs.ForCallers.ApartSections.{kept-at}
use Rattle.elf_write_spec.specs.Base.{is_interpreter}
use Rattle.elf_write_spec.specs.Output.{IsPlannedOutput, Output}
use Rattle.elf_write_spec.proofs.WholeEdits as edits
use Rattle.elf_write_spec.proofs.WholeFacts.{ReadFacts, SectionAt, read_at, section_at, section_numbered}
use Rattle.elf_write_spec.proofs.WholeLists.{some_there}
use Rattle.elf_write_spec.proofs.NumberedSections.{kept_as}

-- the section at a position among those that are there
pub section_here : (w : Output) → IsPlannedOutput w → (f : ReadFacts w) → (j : ℕ) (s : KeptSection)
    → slice_get (kept_sections w.image) j ≡ Some s
    → (at : SectionAt w f.parts j) × (kept_as j at.number at.section ≡ s)
section_here w is f j s there =
    let (_, _, at_section) = kept-at 0 w.image.section_numbers w.image.sections j s there in
    let within : j < length w.image.sections = slice_get_within w.image.sections j s.section at_section in
    let at = section_at w is f j within in
    (at, same_Some (kept_as j at.number at.section) s (sym at.is_kept ∙ there))

-- PT_INTERP stood where the section stood that has that number and is still there
pub record InterpreterIs (w : Output) (f : ReadFacts w) (n : ℕ) : Type 0 where
  pub segment : SegmentHeader
  pub is_segment : segment_of_type PT_INTERP f.parts.segments ≡ Some segment
  pub position : ℕ
  pub at : SectionAt w f.parts position
  pub number : at.number ≡ n
  pub stands : stands_as_interpreter segment at.section ≡ true

pub interpreter_is : (w : Output) → IsPlannedOutput w → (f : ReadFacts w) → (n : ℕ) → interpreter_number (image_at_read w.image) ≡ Some n
    → IsSome w.image.interpreter → InterpreterIs w f n
interpreter_is w is f n h some =
    let found = edits.interpreter_read (image_at_read w.image) w.image f n h in
    let there : IsSome (kept_at_number n w.image) =
    ap (λ (o : Option ℕ). is_some (o >>= λ m. kept_at_number m w.image)) (sym h) ∙ f.edit.complete.interpreter_section some in
    let (k, k_is) = some_there (kept_at_number n w.image) there in
    let (at, number) = section_numbered w is f n k k_is in
    let same : found.section ≡ at.was =
    same_Some found.section at.was (sym found.is_section ∙ ap (slice_get (image_at_read w.image).sections) (sym number) ∙ at.is_was) in
    record {
      segment = found.segment;
      is_segment = ap (segment_of_type PT_INTERP) (sym f.holds.segments) ∙ found.is_segment;
      position = k.position;
      at = at;
      number = number;
      stands = ap (stands_as_interpreter found.segment) at.renamed ∙ ap (stands_as_interpreter found.segment) (sym same) ∙ found.stands;
    }

-- the type of the interpreter's section
pub interpreter_type : (w : Output) (f : ReadFacts w) (n : ℕ) (is : InterpreterIs w f n) → is.at.section.sh_type ≡ SHT_PROGBITS
interpreter_type w f n is = edits.stands_typed is.segment is.at.section is.stands

-- a section of another type isn't the one
pub isnt_interpreter : (w : Output) → IsPlannedOutput w → (f : ReadFacts w) → (i : ℕ) (at : SectionAt w f.parts i)
    → (at.section.sh_type == SHT_PROGBITS) ≡ false
    → is_interpreter (image_at_read w.image) (kept_as i at.number at.section) ≡ false
isnt_interpreter w is f i at = edits.not_interpreter (image_at_read w.image) w.image f i (read_at at)

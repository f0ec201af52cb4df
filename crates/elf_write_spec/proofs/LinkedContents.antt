-- What the bytes of a written section are, where it isn't the interpreter's.
use Rattle.std.proofs.Common.{◌≡◌, ℕ, Bool, true, false, sym, ap, ◌∙◌, subst}
use Rattle.std.specs.Prelude.{◌==◌, unwrap_or}
use Rattle.std.proofs.lemmas.Bool.{false≢true}
use Rattle.elf_format.specs.declared.constants.TheConstants.{SHT_PROGBITS}
use Rattle.elf_format.specs.declared.section_data.SectionData.{SectionData}
use Rattle.elf_format.specs.File.{section_bytes}
use Rattle.elf_format.specs.Image.{ImageSection}
use Rattle.elf_format.specs.Rules.{data_of, file_of}
use Rattle.elf_image.specs.Kept.{image_at_read, interpreter_number, is_numbered}
use Rattle.elf_layout_plan.specs.Plan.{resized}
use Rattle.elf_write_spec.specs.ReadBack.{HasWrittenParts}
use Rattle.elf_write_spec.specs.Contents.{IsContentByKind, IsContentOfKind, content_at_number}
use Rattle.elf_write_spec.specs.Output.{IsPlannedOutput, Output, written_bytes}
use Rattle.elf_write_spec.proofs.WholeEdits as edits
use Rattle.elf_write_spec.proofs.WholeFacts.{ReadFacts, SectionAt, read_at}
use Rattle.elf_write_spec.proofs.NumberedSections.{kept_as}

module _ (w : Output) (is : IsPlannedOutput w) (f : ReadFacts w) where
  -- the interpreter's section is of PROGBITS
  pub interpreter_type : (i : ℕ) (at : SectionAt w f.parts i)
      → is_numbered (interpreter_number (image_at_read w.image)) (kept_as i at.number at.section) ≡ true
      → at.section.sh_type ≡ SHT_PROGBITS
  interpreter_type i at = edits.interpreter_type (image_at_read w.image) w.image f i (read_at at)

  pub section_type : (i : ℕ) (at : SectionAt w f.parts i) → at.section.sh_type ≡ at.old.sh_type
  section_type i at = ap (λ (x : ImageSection). x.sh_type) at.of_old.fields

  -- a section of another type isn't the interpreter's
  pub not_interpreter : (i : ℕ) (at : SectionAt w f.parts i) → (at.old.sh_type == SHT_PROGBITS) ≡ false
      → is_numbered (interpreter_number (image_at_read w.image)) (kept_as i at.number at.section) ≡ false
  not_interpreter i at other =
      edits.not_interpreter (image_at_read w.image) w.image f i (read_at at)
      (ap (λ n. n == SHT_PROGBITS) (section_type i at) ∙ other)

  -- ## Bytes

  -- the bytes that the file has of a section are those that were written
  pub bytes_there : HasWrittenParts w → (i : ℕ) (at : SectionAt w f.parts i) → section_bytes (written_bytes w) at.header ≡ at.bytes
  bytes_there has i at = has.contents i at.header at.bytes at.is_header at.is_bytes

  content_by : (i : ℕ) (at : SectionAt w f.parts i) (b : Bool) → b ≡ false
      → (elim b as (λ _. Type 0) [
        | true ↦ at.bytes ≡ unwrap_or w.image.interpreter at.section.content
        | _ ↦ IsContentByKind (resized w.image) w.plan w.raw (content_at_number w.image w.contents at.section.sh_link)
            (kept_as i at.number at.section) at.bytes
      ])
      → IsContentByKind (resized w.image) w.plan w.raw (content_at_number w.image w.contents at.section.sh_link)
      (kept_as i at.number at.section) at.bytes
  content_by i at true other h = absurd (false≢true (sym other))
  content_by i at false other h = h

  pub content_kind : (i : ℕ) (at : SectionAt w f.parts i) → (at.old.sh_type == SHT_PROGBITS) ≡ false
      → IsContentByKind (resized w.image) w.plan w.raw (content_at_number w.image w.contents at.section.sh_link)
      (kept_as i at.number at.section) at.bytes
  content_kind i at other =
      content_by i at (is_numbered (interpreter_number (image_at_read w.image)) (kept_as i at.number at.section))
      (not_interpreter i at other) at.written.content

  pub section_kind : (i : ℕ) (at : SectionAt w f.parts i) → at.section.kind ≡ data_of f.parts at.old
  section_kind i at = ap (λ (x : ImageSection). x.kind) at.of_old.fields

  pub content_of_kind : (i : ℕ) (at : SectionAt w f.parts i) → (at.old.sh_type == SHT_PROGBITS) ≡ false → (kind : SectionData)
      → data_of f.parts at.old ≡ kind
      → IsContentOfKind (resized w.image) w.plan w.raw (content_at_number w.image w.contents at.section.sh_link) (kept_as i at.number at.section)
      at.bytes kind
  content_of_kind i at other kind is_kind =
      subst (IsContentOfKind (resized w.image) w.plan w.raw (content_at_number w.image w.contents at.section.sh_link) (kept_as i at.number at.section)
      at.bytes) (section_kind i at ∙ is_kind) (content_kind i at other)

  pub section_content : (i : ℕ) (at : SectionAt w f.parts i) → at.section.content ≡ section_bytes (file_of f.parts) at.old
  section_content i at = ap (λ (x : ImageSection). x.content) at.of_old.fields

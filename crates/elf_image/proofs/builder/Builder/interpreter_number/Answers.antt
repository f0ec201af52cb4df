-- The number is the one at the section's place.
use Rattle.std.proofs.Common.{ℕ, Option, Some, ap, sym, ◌∙◌}
use Rattle.std.specs.Prelude.{slice_index}
use Rattle.patch_bytes.specs.Memory.{◌>>=◌}
use Rattle.elf_image.proofs.KeptSections.{number_by_position}
use Rattle.elf_image.proofs.builder.Builder.interpreter_number.Goals as goal

pub returns : goal.returns
returns c =
    ap (λ i. Some i) c.read_section.ensures
    ∙ ap (λ (o : Option ℕ). o >>= λ i. Some (slice_index c.args.self.now.section_numbers i)) (sym c.in_ok-at.was ∙ c.interpreter_position.ensures)
    ∙ sym (number_by_position c.args.self.now c.source-source.ensures.edited)

pub returns-in_err-at : goal.returns-in_err-at
returns-in_err-at c =
    c.from_residual.ensures
    ∙ ap (λ (o : Option ℕ). o >>= λ i. Some (slice_index c.args.self.now.section_numbers i)) (sym c.in_err-at.was ∙ c.interpreter_position.ensures)
    ∙ sym (number_by_position c.args.self.now c.source-source.ensures.edited)

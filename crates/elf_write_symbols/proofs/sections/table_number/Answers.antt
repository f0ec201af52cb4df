-- The number is the one at the section's place.
use Rattle.std.proofs.Common.{ℕ, Option, Some, ap, sym, ◌∙◌}
use Rattle.std.specs.Prelude.{◌==◌, position, slice_index}
use Rattle.std.specs.Option.{option_map}
use Rattle.elf_format.specs.Image.{Image}
use Rattle.elf_write_symbols.proofs.ListSteps.{number-kept}
use Rattle.elf_write_symbols.proofs.sections.table_number.Goals as goal

pub returns : goal.returns
returns c =
    let image : Image = c.args.image.now in
    ap (λ (i : ℕ). Some i) c.read_section.ensures
    ∙ ap (option_map (slice_index image.section_numbers)) (sym c.in_ok-position.was ∙ c.type_position.ensures)
    ∙ sym (number-kept (λ s. s.sh_type == c.args.kind) 0 image.section_numbers image.sections c.source-source.ensures.edited.is_edit.sections.numbered)

pub returns-in_err-position : goal.returns-in_err-position
returns-in_err-position c =
    let image : Image = c.args.image.now in
    c.from_residual.ensures
    ∙ ap (option_map (slice_index image.section_numbers)) (sym c.in_err-position.was ∙ c.type_position.ensures)
    ∙ sym (number-kept (λ s. s.sh_type == c.args.kind) 0 image.section_numbers image.sections c.source-source.ensures.edited.is_edit.sections.numbered)

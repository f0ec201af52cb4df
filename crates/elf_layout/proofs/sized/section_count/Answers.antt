use Rattle.std.proofs.Common.{◌≡◌, ◌∙◌, List, length, sym, ap, subst}
use Rattle.std.proofs.lemmas.List.{length-map}
use Rattle.elf_format.specs.Image.{ImageSection}
use Rattle.elf_image.specs.ImageModel.{section_model}
use Rattle.elf_layout_plan.specs.Memory.{Resized, sized_sections}
use Rattle.elf_layout_segments.specs.Seen.{resized_model}
use Rattle.elf_layout.proofs.SizedSections.{count_sized}
use Rattle.elf_layout.proofs.sized.section_count.Goals as goal

pub returns : goal.returns
returns c =
    let seen : Resized = resized_model c.r.inside in
    let count : length c.sections.result.now ≡ length (sized_sections seen) =
    sym (length-map c.sections.result.now section_model) ∙ ap (λ (l : List ImageSection). length l) c.sections.ensures
    ∙ sym (count_sized seen c.r.invariant c.source-source.ensures.edited) in
    subst (λ (r : Resized). length c.sections.result.now ≡ length (sized_sections r)) c.r.view_is count

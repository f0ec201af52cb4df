use Rattle.std.proofs.Common.{◌≡◌, ◌∙◌, None, subst, refl, ap}
use Rattle.std.specs.Prelude.{option_map, slice_get}
use Rattle.std.proofs.lemmas.Option.{slice_get-get_or, slice_get_read}
use Rattle.elf_layout_plan.specs.Memory.{Resized, sized_sections}
use Rattle.elf_layout.specs.Numbers.{numbers_of}
use Rattle.elf_layout_segments.specs.Seen.{resized_model}
use Rattle.elf_layout.proofs.SizedSections.{none_found, none_has_size, some_found}
use Rattle.elf_layout.proofs.sized.sized_at.Goals as goal
use Rattle.elf_layout.proofs.sized.sized_at.Goals.{then-position-sections-via-then-position-sections, then-position-sections-via-else-position-sections+then-position-r}

pub returns-then-position-sections : goal.returns-then-position-sections
returns-then-position-sections c =
    let seen : Resized = resized_model c.r.inside in
    let is : None ≡ option_map numbers_of (slice_get (sized_sections seen) c.args.position) =
    elim c.then-position-sections.branch [
      | then-position-sections-via-then-position-sections w ↦
          none_found seen c.source-source.ensures.edited c.sections-sections.result.now c.sections-sections.ensures c.args.position
          w.if-position-sections.true
      | then-position-sections-via-else-position-sections+then-position-r w ↦
          none_has_size seen c.source-source.ensures.edited c.sections-sections.result.now c.sections-sections.ensures c.args.position
          w.if-position-r.true
    ] in
    subst (λ (r : Resized). None ≡ option_map numbers_of (slice_get (sized_sections r) c.args.position)) c.r.view_is is

pub returns : goal.returns
returns c =
    let seen : Resized = resized_model c.r.inside in
    let is = some_found seen c.source-source.ensures.edited c.sections-sections.result.now c.sections-sections.ensures c.args.position
    c.index-sections-position.result _
    (slice_get_read c.sections-sections.result.now _ c.args.position _ refl c.if-position-sections.false c.index-sections-position.is)
    (slice_get-get_or c.r.inside.sizes.now c.args.position 0 c.if-position-r.false) in
    is ∙ ap (λ (r : Resized). option_map numbers_of (slice_get (sized_sections r) c.args.position)) c.r.view_is

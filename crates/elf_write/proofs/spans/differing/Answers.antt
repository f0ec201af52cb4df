use Rattle.std.proofs.Common.{◌∙◌, List, ℕ, length, map, refl, subst}
use Rattle.byte_store.specs.Composed.{IsMadeInParts}
use Rattle.byte_store.specs.Laid.{patches_of}
use Rattle.elf_image.specs.ImageModel.{segment_model}
use Rattle.elf_layout_plan.specs.Plan.{resized}
use Rattle.elf_write.proofs.Composing.{composed_of}
use Rattle.elf_write.proofs.spans.differing.Goals as goal

pub returns-clause-makes : goal.returns-clause-makes
returns-clause-makes c bytes is =
    let source : List ℕ = c.source-source.result.now in
    subst (λ (l : List ℕ). IsMadeInParts l c.in_ok-difference.difference bytes) c.source-source.ensures.source
    (c.in_ok-difference.ensures.makes bytes
    (composed_of (resized c.args.image.now) source (length source) (map segment_model c.segments.result.now) c.deref.result.now
    c.deref-2.result.now c.deref-3.result.now (patches_of c.args.pieces.now) c.args.size bytes c.source-source.ensures.source refl
    c.segments.ensures
    (c.deref.ensures.value ∙ c.in_ok-places.ensures) (c.deref-2.ensures.value ∙ c.in_ok-kept.ensures)
    (c.deref-3.ensures.value ∙ c.in_ok-cleared.ensures) is))

use Rattle.std.proofs.Common.{sym, ap, ◌∙◌, List, Option, option_map}
use Rattle.std.specs.Prelude.{position}
use Rattle.std.specs.Borrow.{Bor}
use Rattle.elf_format.specs.declared.constants.TheConstants.{PT_GNU_STACK}
use Rattle.elf_format.specs.Image.{Image}
use Rattle.elf_image_headers.specs.declared.segment.Segment.{Segment}
use Rattle.elf_image.specs.File.{segment_of_type}
use Rattle.elf_image.specs.ImageModel.{segment_model}
use Rattle.elf_image_headers.proofs.ForCallers.EditSteps.{first_seen, is_stack, none_seen}
use Rattle.elf_image.proofs.builder.Builder.stack.Goals as goal

pub returns-in_err-at : goal.returns-in_err-at
returns-in_err-at c =
    ap (λ (o : Option (Bor Segment)). option_map (λ p. segment_model p.now) o) c.from_residual.ensures
    ∙ sym (none_seen segment_model c.self.inside.segments.items (ap (λ (ps : List Segment). position (λ p. is_stack (segment_model p)) ps) (sym c.deref.ensures.value) ∙ sym c.stack_position.ensures ∙ c.in_err-at.was))
    ∙ ap (λ (i : Image). segment_of_type PT_GNU_STACK i.segments) c.self.view_is

pub returns : goal.returns
returns c =
    sym (first_seen segment_model c.self.inside.segments.items c.in_ok-at.at c.index.result.now c.index.ensures (ap (λ (ps : List Segment). position (λ p. is_stack (segment_model p)) ps) (sym c.deref.ensures.value) ∙ sym c.stack_position.ensures ∙ c.in_ok-at.was))
    ∙ ap (λ (i : Image). segment_of_type PT_GNU_STACK i.segments) c.self.view_is

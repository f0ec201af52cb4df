-- One range after the other.
use Rattle.std.proofs.Common.{◌∙◌, Bool, ap, sym}
use Rattle.std.specs.Prelude.{◌&&◌}
use Rattle.std.specs.List.{list_all}
use Rattle.std.proofs.lemmas.Bool.{and_left}
use Rattle.elf_image_rules.specs.Places.{file_range, place_of}
use Rattle.elf_image_rules.specs.Ranges.{apart}
use Rattle.elf_image_placement.specs.PlacementSteps.{stored_of}
use Rattle.elf_image_placement.proofs.PlacementSteps.{clear_of_each}
use Rattle.elf_image_placement.proofs.placement.clear_of_headers.Goals as goal

pub returns-then-clear_of_sections : goal.returns-then-clear_of_sections
returns-then-clear_of_sections c =
    let second : Bool = list_all (λ s. apart c.args.table (file_range (place_of s))) (stored_of c.args.sections.now) in
    c.clear_of_sections-then-clear_of_sections.ensures ∙ sym (ap (λ t. t && second) (sym c.clear_of_sections.ensures ∙ c.if-clear_of_sections.true))
    ∙ sym (clear_of_each c.args.header c.args.table c.args.sections.now)

pub returns-else-clear_of_sections : goal.returns-else-clear_of_sections
returns-else-clear_of_sections c =
    let first : Bool = list_all (λ s. apart c.args.header (file_range (place_of s))) (stored_of c.args.sections.now) in
    let second : Bool = list_all (λ s. apart c.args.table (file_range (place_of s))) (stored_of c.args.sections.now) in
    c.if-clear_of_sections.false ∙ sym (and_left first second (sym c.clear_of_sections.ensures ∙ c.if-clear_of_sections.false))
    ∙ sym (clear_of_each c.args.header c.args.table c.args.sections.now)

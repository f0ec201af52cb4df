-- Each stage's refusal is the answer, and the image where none refuses.
use Rattle.std.proofs.lemmas.Result.{err_from_is_err_and}
use Rattle.elf_format.specs.Stages.{link_rules}
use Rattle.elf_image_versions.specs.Read.{parts_model}
use Rattle.elf_format.specs.Rules.{checked, placement_rules}
use Rattle.elf_image.specs.ImageSteps.{image_gathered}
use Rattle.elf_image.proofs.ReadSteps.{image_is_read, links_refused, placement_refused, refused_is}
use Rattle.elf_image.proofs.read.image_of_parts.Goals as goal

pub returns-in_err-check_placement-clause-image : goal.returns-in_err-check_placement-clause-image
returns-in_err-check_placement-clause-image c =
    let e = err_from_is_err_and c.from_residual.result c.from_residual.ensures.1 in
    rw (e.1, e.2) (λ file there other. placement_refused file (parts_model c.args.parts.now) there c.in_err-check_placement.field-0.0
    (refused_is c.in_err-check_placement.field-0.0 (checked placement_rules (parts_model c.args.parts.now)) c.in_err-check_placement.ensures other))

pub returns-in_err-kinds-clause-image : goal.returns-in_err-kinds-clause-image
returns-in_err-kinds-clause-image c =
    let e = err_from_is_err_and c.from_residual-in_err-kinds.result c.from_residual-in_err-kinds.ensures.1 in
    rw (e.1, e.2) (λ file there other. links_refused file (parts_model c.args.parts.now) there c.in_ok-check_placement.ensures c.in_err-kinds.field-0.0
    (refused_is c.in_err-kinds.field-0.0 (checked link_rules (parts_model c.args.parts.now)) c.in_err-kinds.ensures other))

pub returns-clause-image : goal.returns-clause-image
returns-clause-image c = λ file there.
    image_is_read file (parts_model c.args.parts.now) there c.in_ok-check_placement.ensures c.in_ok-kinds.ensures.0
    (image_gathered (parts_model c.args.parts.now)) c.image_and_last.result c.image_and_last.ensures.image

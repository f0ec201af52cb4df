use Rattle.std.proofs.Common.{◌≡◌, length, ap, sym, ◌∙◌, arith}
use Rattle.std.proofs.lemmas.List.{length-map}
use Rattle.elf_image.specs.ImageModel.{segment_model}
use Rattle.elf_layout_segments.proofs.ForCallers.{few_needed}
use Rattle.elf_layout.proofs.layout.headers_for.Goals as goal

pub overflow_add-result : goal.overflow_add-result
overflow_add-result c =
    let moved = c.args.moved.now in
    let few = few_needed c.args.r.now moved in
    let need = c.in_ok-needed.ensures in
    let many : length c.segments.result.now ≡ length c.args.r.now.image.segments =
    sym (length-map c.segments.result.now segment_model) ∙ ap length c.segments.ensures ∙ ap (λ r. length r.image.segments) c.r.view_is in
    omega (arith, few, need, many, c.segments.type_inv.1)

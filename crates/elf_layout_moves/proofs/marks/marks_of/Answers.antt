use Rattle.std.proofs.Common.{false, ◌∙◌, ap, length, replicate, sym}
use Rattle.std.proofs.lemmas.List.{length-map}
use Rattle.elf_image.specs.ImageModel.{section_model}
use Rattle.elf_layout_moves.proofs.Marking.{marked_all, marked_next, none_marked}
use Rattle.elf_layout_moves.proofs.marks.marks_of.Goals as goal

pub loop-position-init : goal.loop-position-init
loop-position-init c =
    c.in_ok-marks.ensures.items_if_clones_equal (λ y same. same)
    ∙ ap (λ n. replicate n false) (sym (length-map c.sections.result.now section_model) ∙ ap length c.sections.ensures ∙ ap (λ r. length r.image.sections) c.r.view_is) ∙ none_marked (length c.args.r.now.image.sections)

pub loop-position-preserved : goal.loop-position-preserved
loop-position-preserved c =
    marked_next c.args.moved.now c.loop-position.position-index (length c.args.r.now.image.sections) c.loop-position.marks.items
    c.loop-position-test.true (c.requires _ 0 c.loop-position-test.true) c.loop-position.invariant

pub returns : goal.returns
returns c = record { is = marked_all c.args.moved.now c.loop-position.position-index (length c.args.r.now.image.sections) c.loop-position.marks.items c.loop-position-test.false c.loop-position.invariant }

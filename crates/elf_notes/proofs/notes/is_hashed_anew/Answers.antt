-- The image was read from its source.
use Rattle.std.proofs.Common.{◌≡◌, Bool, true, false, not, refl, ap, ◌∙◌}
use Rattle.elf_image.specs.Kept.{image_at_read}
use Rattle.elf_image.specs.Names.{are_names_changed}
use Rattle.elf_layout_plan.proofs.ForCallers.NeedSteps.{at_read}
use Rattle.elf_notes.proofs.notes.is_hashed_anew.Goals as goal

not_not : (b : Bool) → not (not b) ≡ b
not_not true = refl
not_not false = refl

pub returns : goal.returns
returns c =
    let is_read = at_read c.args.edited.now (image_at_read c.args.edited.now) c.source-source.ensures.edited refl in
    ap not (c.keeps_dynamic_names.ensures (image_at_read c.args.edited.now) is_read) ∙ not_not (are_names_changed (image_at_read c.args.edited.now) c.args.edited.now)

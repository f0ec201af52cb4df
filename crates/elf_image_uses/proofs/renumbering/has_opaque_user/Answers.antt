-- One section after another.
use Rattle.std.proofs.Common.{ℕ, List, arith}
use Rattle.elf_format.specs.Image.{Image}
use Rattle.elf_image.specs.ImageModel.{section_model}
use Rattle.elf_image.specs.Kept.{kept_sections}
use Rattle.elf_image_uses.specs.Renumbering.{has_opaque_user, is_opaque_user}
use Rattle.elf_image_uses.specs.Staying.{staying, stays}
use Rattle.elf_image_uses.specs.Steps.{kept_as}
use Rattle.elf_image_uses.proofs.ListSteps.{some_done, some_ends, some_goes}
use Rattle.elf_image_uses.proofs.renumbering.has_opaque_user.Goals as goal

pub returns-then-is_staying_user : goal.returns-then-is_staying_user
returns-then-is_staying_user c =
    let image : Image = c.args.image.now in
    let gone : List ℕ = c.args.gone.now in
    some_ends (stays gone) (λ s. is_opaque_user c.args.table s.section) (kept_sections image) c.loop-i.i
    (kept_as c.loop-i.i c.kept_at-number.result.0 (section_model c.kept_at-number.result.1.now)) c.is_staying_user.result (has_opaque_user c.args.table (staying gone image))
    c.kept_at-number.ensures c.is_staying_user.ensures c.if-is_staying_user.true c.loop-i.invariant

pub loop-i-preserved : goal.loop-i-preserved
loop-i-preserved c =
    let image : Image = c.args.image.now in
    let gone : List ℕ = c.args.gone.now in
    some_goes (stays gone) (λ s. is_opaque_user c.args.table s.section) (kept_sections image) c.loop-i.i
    (kept_as c.loop-i.i c.kept_at-number.result.0 (section_model c.kept_at-number.result.1.now)) c.is_staying_user.result (has_opaque_user c.args.table (staying gone image))
    c.kept_at-number.ensures c.is_staying_user.ensures c.if-is_staying_user.false c.loop-i.invariant

pub returns : goal.returns
returns c =
    some_done (stays c.args.gone.now) (λ s. is_opaque_user c.args.table s.section) (kept_sections c.args.image.now) c.loop-i.i
    (has_opaque_user c.args.table (staying c.args.gone.now c.args.image.now)) (omega arith) c.loop-i.invariant

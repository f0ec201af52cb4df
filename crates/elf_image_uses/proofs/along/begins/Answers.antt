-- One section after another.
use Rattle.std.proofs.Common.{ap, ◌∙◌, arith}
use Rattle.elf_image.specs.ImageModel.{section_model}
use Rattle.elf_image.specs.Kept.{KeptSection, kept_sections}
use Rattle.elf_image_uses.specs.Steps.{begins_of, is_begin, kept_as}
use Rattle.elf_image_uses.proofs.AlongSteps.{keeps_all, keeps_none, keeps_one}
use Rattle.elf_image_uses.proofs.along.begins.Goals as goal
use Rattle.elf_image_uses.proofs.along.begins.Goals.{then-is_begin+in_ok-push, else-is_begin}

pub loop-i-preserved : goal.loop-i-preserved
loop-i-preserved c =
    let s : KeptSection = kept_as c.loop-i.i c.kept_at-number.result.0 (section_model c.kept_at-number.result.1.now) in
    elim c.if-is_begin.branch [
      | then-is_begin+in_ok-push w ↦
          keeps_one (λ k. k.section.sh_addr) (is_begin c.args.go c.args.gone.now) c.loop-i.made.items c.if-is_begin.made.items (begins_of c.args.go c.args.gone.now c.args.image.now)
          (kept_sections c.args.image.now) c.loop-i.i s c.is_begin.result c.kept_at-number.ensures c.is_begin.ensures w.if-is_begin.true
          (ap (λ v. v.items) w.made-is ∙ w.in_ok-push.ensures.items) c.loop-i.invariant
      | else-is_begin w ↦
          keeps_none (λ k. k.section.sh_addr) (is_begin c.args.go c.args.gone.now) c.loop-i.made.items c.if-is_begin.made.items (begins_of c.args.go c.args.gone.now c.args.image.now)
          (kept_sections c.args.image.now) c.loop-i.i s c.is_begin.result c.kept_at-number.ensures c.is_begin.ensures w.if-is_begin.false
          (ap (λ v. v.items) w.made-is) c.loop-i.invariant
    ]

pub returns : goal.returns
returns c =
    keeps_all (λ k. k.section.sh_addr) (is_begin c.args.go c.args.gone.now) c.loop-i.made.items (begins_of c.args.go c.args.gone.now c.args.image.now)
    (kept_sections c.args.image.now) c.loop-i.i (omega arith) c.loop-i.invariant

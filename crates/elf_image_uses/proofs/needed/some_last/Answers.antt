-- One section after another.
use Rattle.std.proofs.Common.{arith}
use Rattle.std.specs.List.{list_any}
use Rattle.elf_image.specs.ImageModel.{section_model}
use Rattle.elf_image.specs.Kept.{kept_sections}
use Rattle.elf_image_uses.specs.Staying.{goes, going}
use Rattle.elf_image_uses.specs.Steps.{kept_as, lasts}
use Rattle.elf_image_uses.proofs.ListSteps.{some_done, some_ends, some_goes}
use Rattle.elf_image_uses.proofs.needed.some_last.Goals as goal

pub returns-then-goes_and_lasts : goal.returns-then-goes_and_lasts
returns-then-goes_and_lasts c =
    some_ends (goes c.args.gone.now) (λ s. lasts c.args.names c.args.strings s.number s.section.sh_type) (kept_sections c.args.image.now) c.loop-i.i
    (kept_as c.loop-i.i c.kept_at-number.result.0 (section_model c.kept_at-number.result.1.now)) c.goes_and_lasts.result
    (list_any (λ s. lasts c.args.names c.args.strings s.number s.section.sh_type) (going c.args.gone.now c.args.image.now))
    c.kept_at-number.ensures c.goes_and_lasts.ensures c.if-goes_and_lasts.true c.loop-i.invariant

pub loop-i-preserved : goal.loop-i-preserved
loop-i-preserved c =
    some_goes (goes c.args.gone.now) (λ s. lasts c.args.names c.args.strings s.number s.section.sh_type) (kept_sections c.args.image.now) c.loop-i.i
    (kept_as c.loop-i.i c.kept_at-number.result.0 (section_model c.kept_at-number.result.1.now)) c.goes_and_lasts.result
    (list_any (λ s. lasts c.args.names c.args.strings s.number s.section.sh_type) (going c.args.gone.now c.args.image.now))
    c.kept_at-number.ensures c.goes_and_lasts.ensures c.if-goes_and_lasts.false c.loop-i.invariant

pub returns : goal.returns
returns c =
    some_done (goes c.args.gone.now) (λ s. lasts c.args.names c.args.strings s.number s.section.sh_type) (kept_sections c.args.image.now) c.loop-i.i
    (list_any (λ s. lasts c.args.names c.args.strings s.number s.section.sh_type) (going c.args.gone.now c.args.image.now)) (omega arith) c.loop-i.invariant

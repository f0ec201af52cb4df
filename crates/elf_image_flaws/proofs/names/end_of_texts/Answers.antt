-- The last NUL, or none.
use Rattle.std.proofs.Common.{◌-◌}
use Rattle.std.specs.Prelude.{slice_index}
use Rattle.std.proofs.lemmas.Bool.{eq-eqb}
use Rattle.elf_image_flaws.proofs.FlawSteps.{ends_at_last, ends_at_none}
use Rattle.elf_image_flaws.proofs.names.end_of_texts.Goals as goal

pub returns-else-texts-end-ne0 : goal.returns-else-texts-end-ne0
returns-else-texts-end-ne0 c =
    ends_at_last c.args.room c.loop-end.end c.args.texts.now c.requires c.loop-end-test.true c.loop-end.invariant.within
    (eq-eqb (slice_index c.args.texts.now (c.loop-end.end - 1)) 0 c.if-texts-end-ne0.false) c.loop-end.invariant.none

pub returns-after-loop-end : goal.returns-after-loop-end
returns-after-loop-end c = ends_at_none c.args.room c.loop-end.end c.args.texts.now c.requires c.loop-end-test.false c.loop-end.invariant.none

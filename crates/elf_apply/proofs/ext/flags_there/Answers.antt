use Rattle.std.proofs.Common.{refl}
use Rattle.elf_apply.proofs.StackLaws.{flags_there_are, stack_there}
use Rattle.elf_apply.proofs.ext.flags_there.Goals as goal

pub returns : goal.returns
returns c = (
  (refl, λ w. stack_there w c.args.builder.now c.requires),
  record { lends = tt; value = flags_there_are c.in-Some.flags.now c.args.builder.now.segments c.in-Some.ensures.value },
)

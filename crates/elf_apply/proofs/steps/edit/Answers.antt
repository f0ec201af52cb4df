-- A batch of one is its edit.
use Rattle.elf_apply.proofs.TakenLaws.{one_refused, one_taken}
use Rattle.elf_apply.proofs.steps.edit.Goals as goal

pub returns-in-Ok : goal.returns-in-Ok
returns-in-Ok c = one_taken c.from_ref.result.now c.args.edit.now c.args.builder.now c.apply.new.builder c.from_ref.ensures.value c.in-Ok.ensures.takes

pub returns-in-Err : goal.returns-in-Err
returns-in-Err c =
    let refused = c.in-Err.refused in
    (c.in-Err.ensures.takes.0, one_refused c.from_ref.result.now c.args.edit.now c.args.builder.now refused.fault refused.index c.from_ref.ensures.value c.in-Err.ensures.takes.1)

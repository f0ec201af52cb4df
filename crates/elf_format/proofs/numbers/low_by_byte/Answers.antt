-- A byte more keeps the number below 2^64.
use Rattle.std.proofs.Common.{◌-◌, arith, get_or, length}
use Rattle.elf_format.proofs.NumberSteps.{one_more_fits}
use Rattle.elf_format.proofs.numbers.low_by_byte.Goals as goal

pub overflow_mul-number : goal.overflow_mul-number
overflow_mul-number c =
    omega (arith, one_more_fits c.loop-i.number 0 c.loop-i.i (omega arith) c.loop-i.invariant.bound (omega arith))

pub overflow_add-number : goal.overflow_add-number
overflow_add-number c =
    let i = length c.args.bytes.now - 1 - c.loop-i.i in
    omega (arith, one_more_fits c.loop-i.number (get_or c.args.bytes.now i 0) c.loop-i.i (omega arith) c.loop-i.invariant.bound (omega (arith, c.type_inv.bytes i)))

-- A byte more keeps the number below 2^64, and is its lowest.
use Rattle.std.proofs.Common.{arith, get_or}
use Rattle.elf_format.proofs.NumberSteps.{high_first_value-more, one_more_below, one_more_fits}
use Rattle.elf_format.proofs.numbers.high_by_byte.Goals as goal

pub overflow_mul-number : goal.overflow_mul-number
overflow_mul-number c =
    omega (arith, one_more_fits c.loop-byte.number 0 c.loop-byte.byte-index (omega arith) c.loop-byte.invariant.bound (omega arith))

pub loop-byte-preserved : goal.loop-byte-preserved
loop-byte-preserved c = record {
  value = high_first_value-more c.args.bytes.now c.loop-byte.byte-index c.loop-byte.number c.loop-byte-test.true c.loop-byte.invariant.value;
  bound = one_more_below c.loop-byte.number (get_or c.args.bytes.now c.loop-byte.byte-index 0) c.loop-byte.byte-index c.loop-byte.invariant.bound (omega (arith, c.type_inv.bytes c.loop-byte.byte-index));
}

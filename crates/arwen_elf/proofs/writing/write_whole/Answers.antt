use Rattle.std.proofs.Common.{ap, arith, length}
use Rattle.std.proofs.KnownBytes.{Appends-trans}
use Rattle.std.proofs.Math.Seq.{take-add}
use Rattle.std.proofs.lemmas.List.{length-drop, take_rest}
use Rattle.arwen_elf.proofs.writing.write_whole.Goals as goal

pub loop-done-preserved : goal.loop-done-preserved
loop-done-preserved g c =
    let rest = take_rest c.args.bytes.now c.loop-done.done in
    let next = rw rest at c.in_ok-done.ensures.ok in record {
      within = omega (arith, c.in_ok-done.ensures.count, ap length rest, length-drop c.loop-done.done c.args.bytes.now);
      written = rw (take-add c.loop-done.done c.in_ok-done.field-0 c.args.bytes.now)
          (Appends-trans _ _ _ _ _ c.loop-done.invariant.written next);
    }

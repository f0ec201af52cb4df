-- One symbol's position more, or none.
use Rattle.std.proofs.Common.{◌++◌, drop, ◌∙◌}
use Rattle.std.specs.Prelude.{slice_get}
use Rattle.elf_image_symbols.specs.Loan.{symbols_now}
use Rattle.elf_hashes.specs.Found.{is_sought}
use Rattle.elf_hashes.specs.Order.{places_where}
use Rattle.elf_hashes.proofs.OrderSteps.{places-no, places-yes}
use Rattle.elf_hashes.proofs.HashSteps.{with_part}
use Rattle.elf_hashes.proofs.order.push_sought.Goals as goal
use Rattle.elf_hashes.proofs.order.push_sought.Goals.{then-is_sought+in_ok-push, else-is_sought}

pub loop-i-preserved : goal.loop-i-preserved
loop-i-preserved c =
    let ys = symbols_now c.args.symbols in
    let (y, at, told) = with_part is_sought (slice_get ys c.loop-i.i) c.is_sought.result c.is_sought.ensures in
    let all = c.args.order.now.items ++ places_where is_sought 1 (drop 1 ys) in
    elim c.if-is_sought.branch [
      | then-is_sought+in_ok-push w ↦
          rw w.order-is
          (places-yes is_sought ys c.loop-i.order.items w.push.new.self.items all c.loop-i.i y at
          (told ∙ w.if-is_sought.true) w.in_ok-push.ensures.items c.loop-i.invariant)
      | else-is_sought w ↦
          rw w.order-is
          (places-no is_sought ys c.loop-i.order.items all c.loop-i.i y at
          (told ∙ w.if-is_sought.false) c.loop-i.invariant)
    ]

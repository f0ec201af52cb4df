-- One symbol's position more, or none.
use Rattle.std.proofs.Common.{◌++◌, drop, ◌∙◌}
use Rattle.std.specs.Prelude.{slice_get}
use Rattle.elf_image_symbols.specs.Loan.{symbols_now}
use Rattle.elf_hashes.specs.Found.{is_local}
use Rattle.elf_hashes.specs.Order.{places_where}
use Rattle.elf_hashes.proofs.OrderSteps.{places-no, places-yes}
use Rattle.elf_hashes.proofs.HashSteps.{with_part}
use Rattle.elf_hashes.proofs.order.push_locals.Goals as goal
use Rattle.elf_hashes.proofs.order.push_locals.Goals.{then-is_local+in_ok-push, else-is_local}

pub loop-i-preserved : goal.loop-i-preserved
loop-i-preserved c =
    let ys = symbols_now c.args.symbols in
    let (y, at, told) = with_part is_local (slice_get ys c.loop-i.i) c.is_local.result c.is_local.ensures in
    let all = c.args.order.now.items ++ places_where is_local 1 (drop 1 ys) in
    elim c.if-is_local.branch [
      | then-is_local+in_ok-push w ↦
          rw w.order-is
          (places-yes is_local ys c.loop-i.order.items w.push.new.self.items all c.loop-i.i y at
          (told ∙ w.if-is_local.true) w.in_ok-push.ensures.items c.loop-i.invariant)
      | else-is_local w ↦
          rw w.order-is
          (places-no is_local ys c.loop-i.order.items all c.loop-i.i y at
          (told ∙ w.if-is_local.false) c.loop-i.invariant)
    ]

-- One more hash is appended.
use Rattle.std.proofs.Common.{ℕ, ◌<◌, get_or, length, arith}
use Rattle.std.proofs.lemmas.List.Elements.{All-get_or}
use Rattle.std.proofs.lemmas.Option.{slice_get-get_or}
use Rattle.elf_hashes.proofs.HashSteps.{picked-more}
use Rattle.elf_hashes.proofs.hashes.push_hashes.Goals as goal

pub loop-i-preserved : goal.loop-i-preserved
loop-i-preserved c =
    let inside : get_or c.args.order.now c.loop-i.i-index 0 < length c.args.found.now =
    All-get_or (λ (i : ℕ). i < length c.args.found.now) c.args.order.now c.loop-i.i-index 0 (omega arith) c.requires in
    picked-more c.args.found.now c.args.order.now c.loop-i.i-index _ c.args.hashes.now.items c.loop-i.hashes.items c.push.new.self.items (omega arith)
    (slice_get-get_or c.args.found.now (get_or c.args.order.now c.loop-i.i-index 0) _ inside) c.loop-i.invariant c.in_ok-push.ensures.items

use Rattle.std.proofs.Common.{◌≡◌, ◌+◌, ◌∙◌, ap, arith, take, drop, length}
use Rattle.byte_store.proofs.LoadLaws.{filled_up, lent_back}
use Rattle.byte_store.proofs.reading.read_once.Goals as goal

pub returns-in-Ok-clause-read : goal.returns-in-Ok-clause-read
returns-in-Ok-clause-read g c =
    let now = c.read_behind.new.buffer in
    let room = c.make_room.new.bytes in
    let filled = c.len-filled.result in
    let long : length now ≡ room.len = omega (arith, c.read_behind.auto.buffer, c.as_mut_slice.ensures.len) in (
      take c.in-Ok.count (drop filled now),
      c.in-Ok.ensures.ok,
      filled_up c.args.bytes.now.items room.items now c.truncate.new.self.items filled c.in-Ok.count
          (ap (λ n. take n room.items) c.len-filled.ensures ∙ c.in_ok-make_room.ensures.front)
          (c.in-Ok.ensures.front ∙ ap (take filled) c.as_mut_slice.ensures.value)
          (c.truncate.ensures.items ∙ ap (take (filled + c.in-Ok.count)) (lent_back room.len now room.items long)),
    )

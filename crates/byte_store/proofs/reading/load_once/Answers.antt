use Rattle.std.proofs.Common.{◌≡◌, ◌+◌, ◌∙◌, ap, arith, take, length}
use Rattle.byte_store.proofs.LoadLaws.{front_more, lent_back}
use Rattle.byte_store.proofs.reading.load_once.Goals as goal

pub returns-in-Ok-clause-front : goal.returns-in-Ok-clause-front
returns-in-Ok-clause-front g c =
    let now = c.load_behind.new.buffer in
    let old = c.args.bytes.now in
    let room = c.make_room.new.bytes in
    let filled = c.len-filled.result in
    let long : length now ≡ room.len = omega (arith, c.load_behind.auto.buffer, c.as_mut_slice.ensures.len) in
    front_more (g.S.Store.contents c.args.store.now) old.items room.items now c.truncate.new.self.items filled c.in-Ok.count
    (c.len-filled.ensures ∙ old.ok.0)
    c.in-Ok.ensures.fits
    (ap (λ n. take n room.items) c.len-filled.ensures ∙ c.in_ok-make_room.ensures.front)
    (c.in-Ok.ensures.front ∙ ap (take filled) c.as_mut_slice.ensures.value)
    (c.truncate.ensures.items ∙ ap (take (filled + c.in-Ok.count)) (lent_back room.len now room.items long))
    c.in-Ok.ensures.ok

-- What was read of the signature.
use Rattle.std.proofs.Common.{◌+◌, ℕ, List, arith, subst, sym}
use Rattle.macho_commands_stores.specs.Slices.{IsAt}
use Rattle.macho_commands_stores.proofs.RenewingLaws.{signs_front}
use Rattle.macho_commands_stores.proofs.renewing.slots_at.Goals as goal

pub returns-clause-slots : goal.returns-clause-slots
returns-clause-slots g c =
    let At : List ℕ → Type 0 = IsAt (g.S.Store.contents c.args.store.now) (c.args.front.now.offset + c.args.place.dataoff) in
    signs_front (g.S.Store.contents c.args.store.now) c.args.front.now c.args.new.now c.as_slice-old.result.now c.as_slice.result.now c.args.place c.in_ok-made.made c.in_ok-made.ensures.signs c.as_slice-old.ensures.value c.requires.long
    (omega (arith, c.if-place-new.false)) (omega (arith, c.if-front-end.false)) (omega (arith, c.requires.low)) (subst At (sym c.as_slice.ensures.value) c.in_ok-signature.ensures.read)
    (omega (arith, c.as_slice.ensures.value, c.as_slice.ensures.len, c.len.ensures, c.if-len-size.false, c.in_ok-signature.ensures.bound))

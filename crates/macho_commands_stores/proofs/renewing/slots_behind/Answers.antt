-- A slice without a signature.
use Rattle.std.proofs.Common.{◌∙◌, Ok, ap, arith, refl}
use Rattle.macho_commands_stores.proofs.RenewingLaws.{plain_front}
use Rattle.macho_commands_stores.proofs.renewing.slots_behind.Goals as goal

pub returns-in-None-clause-slots : goal.returns-in-None-clause-slots
returns-in-None-clause-slots g c =
    let told = rw c.in-Some.is at c.in_ok-found.ensures.found in
    plain_front (g.S.Store.contents c.args.store.now) c.args.front.now c.args.new.now _ (omega (arith, c.requires.low)) c.requires.long told.0 (told.1 ∙ ap (λ p. Ok p) c.in-None.is) refl c.new.ensures.items

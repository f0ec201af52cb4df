use Rattle.std.proofs.Common.{◌≡◌, ◌∙◌, List, ℕ, None, Ok, Option, sym, subst}
use Rattle.macho_signatures.specs.declared.signature.Signature.{Signature}
use Rattle.macho_signing.specs.Place.{signature_place}
use Rattle.macho_signing.specs.Thin.{Holds, Pages, pages_of, renewal_fault}
use Rattle.macho_signing.proofs.ThinLaws.{no_slots, no_slots_placed, none_directories, none_identity, none_touch}
use Rattle.macho_signing.proofs.thin.thin_slots.Goals as goal

pub returns-in-None : goal.returns-in-None
unfolding renewal_fault
returns-in-None c =
    let bytes : List ℕ = c.args.bytes.now in
    let pages : Pages = pages_of c.args.scope in
    let P : Option Signature → Type 0 = λ o. Holds bytes o in
    let is : signature_place bytes ≡ Ok None = subst P c.in-None.is c.in_ok-signature.ensures.1 in
    let none = none_directories bytes is in
    (rw c.in_ok-signature.ensures.0 (none_touch pages bytes is), c.new.ensures.items ∙ no_slots pages bytes none, sym (none_identity bytes is), no_slots_placed bytes none)

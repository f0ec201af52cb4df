use Rattle.std.proofs.Common.{◌∙◌, List, ℕ, None, Some, ap, sym, if◌then◌else◌}
use Rattle.std.proofs.lemmas.Bool.{not-false, not-true}
use Rattle.macho_signatures.specs.declared.signature.Signature.{Signature}
use Rattle.macho_signing.specs.Thin.{Pages, pages_of}
use Rattle.macho_signing.specs.declared.fault.SigningFault.TheVariants.{ChangedSignature}
use Rattle.macho_signing.proofs.ThinLaws.{held_identity, held_inside, held_placed, held_slots, held_touch, identity_directories, identity_touch, no_slots, no_slots_placed}
use Rattle.macho_signing.proofs.thin.adhoc_slots.Goals as goal

pub returns-then-not-is_adhoc : goal.returns-then-not-is_adhoc
returns-then-not-is_adhoc c =
    let bytes : List ℕ = c.args.bytes.now in
    let pages : Pages = pages_of c.args.scope in
    let found : Signature = c.args.signature.now in
    let signed = not-false found.is_signed (sym c.is_adhoc.ensures ∙ c.if-not-is_adhoc.true) in
    let identity = held_identity bytes found c.requires.holds ∙ signed in
    let none = identity_directories bytes identity in
    (identity_touch pages bytes found c.requires.holds identity, c.new.ensures.items ∙ no_slots pages bytes none, sym identity, no_slots_placed bytes none)

pub is_changed_from-requires-clause-inside : goal.is_changed_from-requires-clause-inside
is_changed_from-requires-clause-inside c = held_inside c.args.bytes.now c.args.signature.now c.requires.holds

pub returns-then-is_changed_from : goal.returns-then-is_changed_from
returns-then-is_changed_from c = λ _.
    let bytes : List ℕ = c.args.bytes.now in
    let pages : Pages = pages_of c.args.scope in
    let found : Signature = c.args.signature.now in
    let adhoc = held_identity bytes found c.requires.holds ∙ not-true found.is_signed (sym c.is_adhoc.ensures ∙ c.if-not-is_adhoc.false) in
    held_touch pages bytes found c.is_changed_from.result c.requires.holds adhoc c.is_changed_from.ensures
    ∙ ap (λ b. if b then Some ChangedSignature else None) c.if-is_changed_from.true

pub returns : goal.returns
returns c =
    let bytes : List ℕ = c.args.bytes.now in
    let pages : Pages = pages_of c.args.scope in
    let found : Signature = c.args.signature.now in
    let adhoc = held_identity bytes found c.requires.holds ∙ not-true found.is_signed (sym c.is_adhoc.ensures ∙ c.if-not-is_adhoc.false) in (
      held_touch pages bytes found c.is_changed_from.result c.requires.holds adhoc c.is_changed_from.ensures
          ∙ ap (λ b. if b then Some ChangedSignature else None) c.if-is_changed_from.false,
      c.in_ok-signature_slots.ensures ∙ held_slots pages bytes found c.requires.holds adhoc,
      sym adhoc,
      held_placed bytes found c.requires.holds adhoc,
    )

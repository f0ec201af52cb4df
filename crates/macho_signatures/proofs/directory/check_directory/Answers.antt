-- Each check in its turn.
use Rattle.std.proofs.Common.{sym, ◌∙◌}
use Rattle.macho_signatures.proofs.DirectoryLaws.{has_fields, has_places, hash_fault, identifier_fault, rest_fault, slots_fault}
use Rattle.macho_signatures.proofs.directory.check_directory.Goals as goal

pub returns-then-are_slots_outside : goal.returns-then-are_slots_outside
returns-then-are_slots_outside c =
    let h = c.in_ok-fixed.ensures in
    slots_fault c.args.dataoff c.args.d.now c.in_ok-fixed.fixed c.are_slots_outside.result h.0 h.1 c.are_slots_outside.ensures c.if-are_slots_outside.true

pub returns-in_default : goal.returns-in_default
returns-in_default c =
    let h = c.in_ok-fixed.ensures in
    let has = has_places c.args.d.now c.in_ok-fixed.fixed c.are_slots_outside.result h.0 h.1 c.are_slots_outside.ensures c.if-are_slots_outside.false in
    identifier_fault c.args.dataoff c.args.d.now c.in_ok-fixed.fixed has h.1 c.in_default.ensures

pub returns-in_default-hash_kind : goal.returns-in_default-hash_kind
returns-in_default-hash_kind c =
    let h = c.in_ok-fixed.ensures in
    let has = has_places c.args.d.now c.in_ok-fixed.fixed c.are_slots_outside.result h.0 h.1 c.are_slots_outside.ensures c.if-are_slots_outside.false in
    hash_fault c.args.dataoff c.args.d.now c.in_ok-fixed.fixed has h.1 c.in-Some.ensures.0 (sym c.hash_kind.ensures ∙ c.in_default-hash_kind.is)

pub returns-in-Some-pages_fault : goal.returns-in-Some-pages_fault
returns-in-Some-pages_fault c =
    let h = c.in_ok-fixed.ensures in
    let has = has_places c.args.d.now c.in_ok-fixed.fixed c.are_slots_outside.result h.0 h.1 c.are_slots_outside.ensures c.if-are_slots_outside.false in
    let kind = sym c.hash_kind.ensures ∙ c.in-Some-hash_kind.is in
    rest_fault c.args.dataoff c.args.d.now c.in_ok-fixed.fixed c.in-Some-hash_kind.hash has h.1 c.in-Some.ensures.0 kind ∙ sym c.pages_fault.ensures.value ∙ c.in-Some-pages_fault.is

pub returns-in-None : goal.returns-in-None
returns-in-None c =
    let h = c.in_ok-fixed.ensures in
    let has = has_places c.args.d.now c.in_ok-fixed.fixed c.are_slots_outside.result h.0 h.1 c.are_slots_outside.ensures c.if-are_slots_outside.false in
    let kind = sym c.hash_kind.ensures ∙ c.in-Some-hash_kind.is in
    (rest_fault c.args.dataoff c.args.d.now c.in_ok-fixed.fixed c.in-Some-hash_kind.hash has h.1 c.in-Some.ensures.0 kind ∙ sym c.pages_fault.ensures.value ∙ c.in-None.is, has_fields c.args.d.now c.in_ok-fixed.fixed h.2 h.3 h.4 h.5 c.in-None.ensures.exponent, kind, c.in-Some.ensures.1)

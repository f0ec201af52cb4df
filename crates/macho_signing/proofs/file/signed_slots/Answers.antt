use Rattle.std.proofs.Common.{◌∙◌, List, length, subst, sym}
use Rattle.std.proofs.lemmas.Result.{err_from_is_err_and}
use Rattle.macho_signing.specs.declared.file.Part.{Part}
use Rattle.macho_signing.specs.File.{AreParts}
use Rattle.macho_signing.specs.Thin.{pages_of}
use Rattle.macho_signing.proofs.SignedLaws.{fault_of, lie_of, shows_of, signed_of, value_of}
use Rattle.macho_signing.proofs.file.signed_slots.Goals as goal

pub returns-in_err-parts-clause-value : goal.returns-in_err-parts-clause-value
returns-in_err-parts-clause-value c =
    let p = err_from_is_err_and c.from_residual.result c.from_residual.ensures.1 in
    rw (p.1, p.2) (λ other. fault_of (pages_of c.args.scope) c.args.bytes.now c.in_err-parts.field-0.0 (c.in_err-parts.ensures other))

pub returns-clause-value : goal.returns-clause-value
returns-clause-value c = value_of (pages_of c.args.scope) c.args.bytes.now c.deref.result.now c.part_slots_of.result c.in_ok-parts.ensures.0 (c.deref.ensures.value ∙ c.in_ok-parts.ensures.1) c.part_slots_of.ensures

pub returns-clause-lie : goal.returns-clause-lie
returns-clause-lie c =
    let P : List Part → Type 0 = λ l. AreParts (length c.args.bytes.now) l in
    lie_of (pages_of c.args.scope) c.args.bytes.now c.deref.result.now c.part_slots_of.result (subst P (sym c.deref.ensures.value) c.in_ok-parts.ensures.2) c.part_slots_of.ensures

pub returns-clause-signed : goal.returns-clause-signed
returns-clause-signed c =
    let P : List Part → Type 0 = λ l. AreParts (length c.args.bytes.now) l in
    signed_of (pages_of c.args.scope) c.args.bytes.now c.deref.result.now c.part_slots_of.result (c.deref.ensures.value ∙ c.in_ok-parts.ensures.1) (subst P (sym c.deref.ensures.value) c.in_ok-parts.ensures.2) c.part_slots_of.ensures

pub returns-clause-shows : goal.returns-clause-shows
returns-clause-shows c =
    let P : List Part → Type 0 = λ l. AreParts (length c.args.bytes.now) l in
    shows_of (pages_of c.args.scope) c.args.bytes.now c.deref.result.now c.part_slots_of.result c.in_ok-parts.ensures.0 (c.deref.ensures.value ∙ c.in_ok-parts.ensures.1) (subst P (sym c.deref.ensures.value) c.in_ok-parts.ensures.2) c.part_slots_of.ensures

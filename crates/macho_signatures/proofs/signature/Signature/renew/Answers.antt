use Rattle.std.proofs.Common.{◌∙◌, List, ap, length, sym, subst}
use Rattle.std.specs.List.{All}
use Rattle.macho_signatures.specs.declared.renewal.Slot.{Slot}
use Rattle.macho_signatures.specs.Renewed.{SlotLies, laid}
use Rattle.macho_signatures.proofs.RenewedLaws.{is_renewed, slots_lie}
use Rattle.macho_signatures.proofs.signature.Signature.renew.Goals as goal

pub returns : goal.returns
returns c = record {
  ok = is_renewed c.args.self.now.start c.args.self.now.directories.items c.args.touched.now c.args.bytes.now c.lay_slots.new.bytes c.requires
      (c.lay_slots.ensures ∙ ap (λ (xs : List Slot). laid xs c.args.bytes.now) (c.deref.ensures.value ∙ c.in_ok-slots.ensures));
  err = tt;
}

pub lay_slots-requires : goal.lay_slots-requires
lay_slots-requires c =
    let P : List Slot → Type 0 = λ xs. All (SlotLies (length c.args.bytes.now)) xs in
    subst P (sym (c.deref.ensures.value ∙ c.in_ok-slots.ensures)) (slots_lie c.args.self.now.start _ c.args.self.now.directories.items c.args.touched.now c.args.bytes.now c.requires)

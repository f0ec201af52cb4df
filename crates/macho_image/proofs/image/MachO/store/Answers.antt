use Rattle.std.proofs.Common.{rules, ◌≡◌, ◌+◌, ◌<◌, ◌≤◌, ◌^◌, length, refl, sym, ap, ◌∙◌, arith}
use Rattle.std.specs.Option.{option_or}
use Rattle.std.proofs.lemmas.List.{with_items_is}
use Rattle.macho_image.specs.Form.{ctx_of, header_size}
use Rattle.macho_image.specs.Image.{Image, with_area}
use Rattle.macho_image.specs.Parsed.{image_of}
use Rattle.macho_image.specs.Prepared.{NewArea, copy_for}
use Rattle.macho_image.proofs.FormLaws.{file_passes}
use Rattle.macho_image.proofs.StoredFields.{IsParsed-stored, items-copy}
use Rattle.macho_image.specs.Stored.{Fits as AreaFits}
use Rattle.macho_image.proofs.image.MachO.store.Goals as goal

pub lay_area-requires-clause-short : goal.lay_area-requires-clause-short
lay_area-requires-clause-short c =
    let shown : (image_of c.self.inside).bytes ≡ c.args.self.now.bytes = ap (λ (i : Image). i.bytes) c.self.view_is in
    let made : c.prepared.inside.area.items ≡ c.args.prepared.area = ap (λ (n : NewArea). n.area) c.prepared.view_is in
    let short = (file_passes (image_of c.self.inside).bytes c.self.invariant.accepted).0 in
    omega (arith, short, ap length shown, ap length (c.deref.ensures.value ∙ made), c.requires.room, c.requires.inside)

pub overflow_cast-self : goal.overflow_cast-self
overflow_cast-self c =
    let shown : (image_of c.self.inside).bytes ≡ c.args.self.now.bytes = ap (λ (i : Image). i.bytes) c.self.view_is in
    let made : c.prepared.inside.area.items ≡ c.args.prepared.area = ap (λ (n : NewArea). n.area) c.prepared.view_is in
    let short = (file_passes (image_of c.self.inside).bytes c.self.invariant.accepted).0 in
    let size : c.len.result < 2 ^ 32 = omega (arith, short, ap length shown, ap length (c.deref.ensures.value ∙ made), c.deref.ensures.len, c.len.ensures, c.requires.room, c.requires.inside) in
    search rules

pub invariant_of-self : goal.invariant_of-self
invariant_of-self c =
    let shown : (image_of c.self.inside).bytes ≡ c.args.self.now.bytes = ap (λ (i : Image). i.bytes) c.self.view_is in
    let made : c.prepared.inside.area.items ≡ c.args.prepared.area = ap (λ (n : NewArea). n.area) c.prepared.view_is in
    let form : c.prepared.inside.ctx ≡ ctx_of (image_of c.self.inside).bytes = ap (λ (n : NewArea). n.form) c.prepared.view_is ∙ c.requires.made_for.same_form ∙ ap ctx_of (sym shown) in
    let room : header_size c.prepared.inside.ctx.container + length c.prepared.inside.area.items ≤ c.args.high = rw (form, shown, made) c.requires.room in
    let inside : c.args.high ≤ length (image_of c.self.inside).bytes = rw shown c.requires.inside in
    let same = ap (λ (n : NewArea). n.copy) c.prepared.view_is ∙ c.requires.made_for.same_copy ∙ ap copy_for (sym c.self.view_is) in
    let taken : option_or c.prepared.inside.copy c.self.inside.edited ≡ _ = ap (option_or c.prepared.inside.copy) (sym c.take.ensures.value) ∙ sym c.or.ensures ∙ c.in-Some.is in
    let copied : c.in-Some.bytes.items ≡ (image_of c.self.inside).bytes = items-copy c.self.inside.source.bytes c.self.inside.edited c.prepared.inside.copy c.in-Some.bytes same taken in
    let laid : c.lay_area.new.bytes ≡ with_area c.prepared.inside.ctx (image_of c.self.inside).bytes c.prepared.inside.count c.prepared.inside.area.items c.args.high = cc (c.lay_area.ensures, copied, c.deref_mut.ensures.value, c.deref.ensures.value) in
    let fit : AreaFits c.prepared.inside.ctx (image_of c.self.inside).bytes c.prepared.inside.area.items c.args.high = record { room = room; inside = inside } in
    let long : length c.lay_area.new.bytes ≡ c.in-Some.bytes.len = omega (arith, c.lay_area.auto.bytes, c.deref_mut.ensures.len) in
    let size : c.len.result ≡ length c.prepared.inside.area.items = omega (arith, c.len.ensures, c.prepared.inside.area.ok) in
    let whole : length (image_of c.self.inside).bytes ≡ c.in-Some.bytes.len = omega (arith, ap length copied, c.in-Some.bytes.ok) in
    let ends : c.len-2.result ≡ length (image_of c.self.inside).bytes = c.len-2.ensures ∙ sym whole in
    IsParsed-stored c.self.inside _ c.prepared.inside c.args.high c.self.invariant c.prepared.invariant
    record {
      form = form;
      room = room;
      inside = inside;
      bytes = with_items_is c.in-Some.bytes c.lay_area.new.bytes long ∙ laid;
      same_form = refl;
      fields = rw size refl;
      commands = refl;
      first = omega (arith, c.min-self-inside.ensures, ends);
    }

use Rattle.std.proofs.Common.{◌≡◌, ℕ, List, length, take, ap, ◌∙◌, arith}
use Rattle.std.proofs.lemmas.List.{with_items_is}
use Rattle.macho_image.specs.declared.format.Ctx.{Ctx}
use Rattle.macho_image.specs.Form.{ctx_of}
use Rattle.macho_image.specs.Image.{with_area}
use Rattle.macho_image.proofs.FormLaws.{file_passes}
use Rattle.macho_image.proofs.StoredParts.{take-with_area_high}
use Rattle.macho_image.specs.Stored.{Fits as AreaFits}
use Rattle.macho_image.proofs.image.MachO.front_with.Goals as goal

pub lay_area-requires-clause-short : goal.lay_area-requires-clause-short
lay_area-requires-clause-short c =
    let short = (file_passes c.args.self.now.bytes c.bytes.ensures.accepted).0 in
    omega (arith, c.requires.room, c.requires.inside)

pub returns : goal.returns
returns c =
    let old : List ℕ = c.args.self.now.bytes in
    let high : ℕ = c.args.high in
    let fit : AreaFits (ctx_of old) old c.args.area.now high = record { room = c.requires.room; inside = c.requires.inside } in
    let front : c.deref_mut.result.now ≡ take high old = c.deref_mut.ensures.value ∙ c.in_ok-front.ensures.items ∙ ap (take high) c.bytes.ensures.value in
    let long : length c.lay_area.new.bytes ≡ c.in_ok-front.front.len = omega arith in
    with_items_is c.in_ok-front.front c.lay_area.new.bytes long
    ∙ c.lay_area.ensures
    ∙ ap (λ (ctx : Ctx). with_area ctx c.deref_mut.result.now c.args.count c.args.area.now high) c.ctx.ensures.form
    ∙ ap (λ (bytes : List ℕ). with_area (ctx_of old) bytes c.args.count c.args.area.now high) front
    ∙ take-with_area_high (ctx_of old) old c.args.count c.args.area.now high fit

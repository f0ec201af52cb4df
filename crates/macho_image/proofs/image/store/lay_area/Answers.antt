use Rattle.std.proofs.Common.{◌≡◌, ◌+◌, ◌-◌, List, ℕ, length, replicate, rules, refl}
use Rattle.macho_image.specs.Stored.{Fits}
use Rattle.macho_image.proofs.LaidLaws.{with_area-written}
use Rattle.macho_image.proofs.image.store.lay_area.Goals as goal

pub returns : goal.returns
returns c =
    let ctx = c.args.ctx in
    let old : List ℕ = c.args.bytes.now in
    let area : List ℕ = c.args.area.now in
    let start : ℕ = c.header_size-start.result in
    let end : ℕ = start + length area in
    let fit : Fits ctx old area c.args.high = record { room = c.requires.room; inside = c.requires.inside } in
    let zeros : c.fill.new.self ≡ replicate (c.args.high - end) 0 = search rules in
    let written = with_area-written ctx old c.args.count area c.args.high c.fill.new.self start end fit c.header_size-start.ensures refl zeros in
    cc (written, c.put_u32.ensures, c.put_u32-2.ensures, c.copy_from_slice.ensures.after)

use Rattle.std.proofs.Common.{◌≡◌, ◌≤◌, ◌+◌, ℕ, List, length, None, arith, sym, subst}
use Rattle.macho_image.specs.Checks.{area_fault}
use Rattle.macho_image.specs.Form.{ctx_of, header_size}
use Rattle.arwen_macho.specs.Change.{IsChangeOf, change_with}
use Rattle.macho_edits.specs.Held.{Held}
use Rattle.arwen_macho.specs.HeldBy.{held_of}
use Rattle.arwen_macho.proofs.ChangeLaws.{change_fault, change_inside, change_room}
use Rattle.arwen_macho.proofs.macho.SingleMachO.change_with.Goals as goal

pub prepare-requires-clause-commands : goal.prepare-requires-clause-commands
prepare-requires-clause-commands c =
    let held = held_of c.self.inside in
    let of_change : Held → Type 0 = λ h. IsChangeOf h (change_with h c.args.fit) in
    let of = subst of_change (sym c.self.view_is) c.requires in
    let P : List ℕ → Type 0 = λ bytes. area_fault (ctx_of bytes).le c.args.fit.count c.args.fit.area.items ≡ None in
    subst P (sym c.self.invariant.bytes) (change_fault held (change_with held c.args.fit) c.self.invariant.is_state of)

pub prepare-requires-clause-room : goal.prepare-requires-clause-room
prepare-requires-clause-room c =
    let held = held_of c.self.inside in
    let of_change : Held → Type 0 = λ h. IsChangeOf h (change_with h c.args.fit) in
    let of = subst of_change (sym c.self.view_is) c.requires in
    let room = change_room held (change_with held c.args.fit) c.self.invariant.is_state of in
    let inside = change_inside held (change_with held c.args.fit) c.self.invariant.is_state of in
    let P : List ℕ → Type 0 = λ bytes. header_size (ctx_of bytes).container + length c.args.fit.area.items ≤ length bytes in
    let here = subst P (sym c.self.invariant.bytes) (omega arith) in
    omega (arith, c.args.fit.area.ok.0)

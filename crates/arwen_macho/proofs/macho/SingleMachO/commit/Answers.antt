use Rattle.std.proofs.Common.{◌≤◌, ◌+◌, ℕ, List, length, ap, sym, ◌∙◌, subst}
use Rattle.macho_image.specs.Form.{ctx_of, header_size}
use Rattle.arwen_macho.specs.Change.{IsChangeOf, changed_file}
use Rattle.macho_edits.specs.Held.{Held}
use Rattle.arwen_macho.specs.HeldBy.{held_of}
use Rattle.arwen_macho.proofs.ChangeLaws.{change_inside, change_room}
use Rattle.arwen_macho.proofs.HeldLaws.{changed_fields}
use Rattle.arwen_macho.proofs.macho.SingleMachO.commit.Goals as goal

pub store-requires-clause-room : goal.store-requires-clause-room
store-requires-clause-room c =
    let of_change : Held → Type 0 = λ h. IsChangeOf h c.args.change in
    let of = subst of_change (sym c.self.view_is) c.requires in
    let P : List ℕ → Type 0 = λ bytes. header_size (ctx_of bytes).container + length c.args.change.prepared.area ≤ c.args.change.high in
    subst P (sym c.self.invariant.bytes) (change_room (held_of c.self.inside) c.args.change c.self.invariant.is_state of)

pub store-requires-clause-inside : goal.store-requires-clause-inside
store-requires-clause-inside c =
    let of_change : Held → Type 0 = λ h. IsChangeOf h c.args.change in
    let of = subst of_change (sym c.self.view_is) c.requires in
    let P : List ℕ → Type 0 = λ bytes. c.args.change.high ≤ length bytes in
    subst P (sym c.self.invariant.bytes) (change_inside (held_of c.self.inside) c.args.change c.self.invariant.is_state of)

pub invariant_of-self : goal.invariant_of-self
invariant_of-self c =
    let of_change : Held → Type 0 = λ h. IsChangeOf h c.args.change in
    let of = subst of_change (sym c.self.view_is) c.requires in
    (changed_fields c.self.inside c.args.change c.store.new.self c.self.invariant of c.store.ensures).1

pub returns : goal.returns
returns c =
    let of_change : Held → Type 0 = λ h. IsChangeOf h c.args.change in
    let of = subst of_change (sym c.self.view_is) c.requires in
    (changed_fields c.self.inside c.args.change c.store.new.self c.self.invariant of c.store.ensures).0
    ∙ ap (λ (h : Held). changed_file h c.args.change) c.self.view_is

use Rattle.std.proofs.Common.{◌≡◌, ◌≤◌, ◌+◌, ℕ, List, length, take, Vec, Global, sym, ap, ◌∙◌, subst}
use Rattle.std.proofs.lemmas.Result.{IfOk-weaker}
use Rattle.macho_image.specs.Form.{ctx_of, header_size}
use Rattle.macho_image.specs.Image.{with_area}
use Rattle.arwen_macho.specs.Change.{IsChangeOf, change_with, changed_file}
use Rattle.macho_edits.specs.Held.{Held}
use Rattle.arwen_macho.specs.HeldBy.{held_of}
use Rattle.macho_edits.specs.State.{laid_bytes}
use Rattle.arwen_macho.proofs.ChangeLaws.{change_bytes, change_inside, change_room}
use Rattle.arwen_macho.proofs.macho.SingleMachO.front_with.Goals as goal

pub front_with-requires-clause-room : goal.front_with-requires-clause-room
front_with-requires-clause-room c =
    let held = held_of c.self.inside in
    let of_change : Held → Type 0 = λ h. IsChangeOf h (change_with h c.args.fit.now) in
    let of = subst of_change (sym c.self.view_is) c.requires in
    let P : List ℕ → Type 0 = λ bytes. header_size (ctx_of bytes).container + length c.deref.result.now ≤ c.args.fit.now.high in
    let Q : List ℕ → Type 0 = λ area. header_size (ctx_of (laid_bytes held.state)).container + length area ≤ c.args.fit.now.high in
    subst P (sym c.self.invariant.bytes)
    (subst Q (sym c.deref.ensures.value) (change_room held (change_with held c.args.fit.now) c.self.invariant.is_state of))

pub front_with-requires-clause-inside : goal.front_with-requires-clause-inside
front_with-requires-clause-inside c =
    let held = held_of c.self.inside in
    let of_change : Held → Type 0 = λ h. IsChangeOf h (change_with h c.args.fit.now) in
    let of = subst of_change (sym c.self.view_is) c.requires in
    let P : List ℕ → Type 0 = λ bytes. c.args.fit.now.high ≤ length bytes in
    subst P (sym c.self.invariant.bytes) (change_inside held (change_with held c.args.fit.now) c.self.invariant.is_state of)

pub returns : goal.returns
returns c =
    let held = held_of c.self.inside in
    let fit = c.args.fit.now in
    let high : ℕ = fit.high in
    let of_change : Held → Type 0 = λ h. IsChangeOf h (change_with h fit) in
    let of = subst of_change (sym c.self.view_is) c.requires in
    let over : with_area (ctx_of c.self.inside.inner.bytes) c.self.inside.inner.bytes fit.count c.deref.result.now high ≡ laid_bytes (changed_file held (change_with held fit)).state =
    ap (λ (area : List ℕ). with_area (ctx_of c.self.inside.inner.bytes) c.self.inside.inner.bytes fit.count area high) c.deref.ensures.value
    ∙ ap (λ (bytes : List ℕ). with_area (ctx_of bytes) bytes fit.count fit.area.items high) c.self.invariant.bytes
    ∙ change_bytes held (change_with held fit) c.self.invariant.is_state of in
    let here = over ∙ ap (λ (h : Held). laid_bytes (changed_file h (change_with h fit)).state) c.self.view_is in
    let Before : Vec ℕ Global → Type 0 = λ front. front.items ≡ take high (with_area (ctx_of c.self.inside.inner.bytes) c.self.inside.inner.bytes fit.count c.deref.result.now high) in
    let After : Vec ℕ Global → Type 0 = λ front. front.items ≡ take high (laid_bytes (changed_file c.args.self.now (change_with c.args.self.now fit)).state) in
    IfOk-weaker c.front_with.result Before After (λ front is. is ∙ ap (take high) here) c.front_with.ensures

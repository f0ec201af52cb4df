use Rattle.std.proofs.Common.{◌≡◌, length, ap, sym, ◌∙◌, subst, arith}
use Rattle.std.proofs.lemmas.List.{length-take-le}
use Rattle.arwen_macho.specs.Change.{IsChangeOf, changed_file}
use Rattle.arwen_macho.specs.FatSlice.{HeldSlice}
use Rattle.macho_edits.specs.Held.{Held}
use Rattle.macho_edits.specs.State.{laid_bytes}
use Rattle.macho_edits.specs.Whole.{IsState}
use Rattle.arwen_macho.proofs.ChangeLaws.{change_inside}
use Rattle.arwen_macho.proofs.FrontLaws.{same_length}
use Rattle.arwen_macho.proofs.fat.commit_slice.Goals as goal

pub slice_bounds-put-end : goal.slice_bounds-put-end
slice_bounds-put-end c =
    let m : Held = c.slice.inside.inner in
    let Of : HeldSlice → Type 0 = λ s. IsChangeOf s.inner c.args.change in
    let Is : HeldSlice → Type 0 = λ s. IsState s.inner.state in
    let of = subst Of (sym c.slice.view_is) c.requires.of in
    let is = subst Is (sym c.slice.view_is) c.requires.is_state in
    let shown : c.bytes.result.now ≡ laid_bytes (changed_file m c.args.change).state = c.bytes.ensures.bytes ∙ ap (λ (h : Held). laid_bytes h.state) c.commit.ensures in
    let long : length c.bytes.result.now ≡ length (laid_bytes m.state) = ap length shown ∙ same_length m c.args.change is of in
    let inside = change_inside m c.args.change is of in
    sym (length-take-le c.args.change.high c.bytes.result.now (omega arith))

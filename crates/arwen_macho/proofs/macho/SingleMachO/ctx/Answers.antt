use Rattle.std.proofs.Common.{◌≡◌, ap, ◌∙◌, subst}
use Rattle.macho_image.specs.Form.{ctx_of}
use Rattle.macho_edits.specs.Held.{Held}
use Rattle.arwen_macho.specs.HeldBy.{held_of}
use Rattle.arwen_macho.proofs.StateLaws.{laid_shows}
use Rattle.arwen_macho.proofs.macho.SingleMachO.ctx.Goals as goal

pub returns : goal.returns
returns c =
    let held = held_of c.self.inside in
    let of_held : Held → Type 0 = λ h. c.ctx.result ≡ ctx_of h.state.old in
    let here = c.ctx.ensures.form ∙ ap ctx_of c.self.invariant.bytes ∙ (laid_shows held.state c.self.invariant.is_state).form in
    subst of_held c.self.view_is here

use Rattle.std.proofs.Common.{ℕ, List, sym, ◌∙◌, subst}
use Rattle.macho_edits.specs.Held.{Held}
use Rattle.arwen_macho.specs.HeldBy.{held_of}
use Rattle.arwen_macho.specs.Shown.{Shows}
use Rattle.macho_edits.specs.Whole.{IsState}
use Rattle.arwen_macho.proofs.StateLaws.{laid_shows}
use Rattle.arwen_macho.proofs.macho.SingleMachO.bytes.Goals as goal

pub returns-clause-shows : goal.returns-clause-shows
returns-clause-shows c =
    let held = held_of c.self.inside in
    let of_bytes : List ℕ → Type 0 = λ bytes. Shows held.state bytes in
    let of_held : Held → Type 0 = λ h. Shows h.state c.bytes.result.now in
    let here = subst of_bytes (sym (c.bytes.ensures.value ∙ c.self.invariant.bytes)) (laid_shows held.state c.self.invariant.is_state) in
    subst of_held c.self.view_is here

pub returns-clause-state : goal.returns-clause-state
returns-clause-state c = subst (λ (h : Held). IsState h.state) c.self.view_is c.self.invariant.is_state

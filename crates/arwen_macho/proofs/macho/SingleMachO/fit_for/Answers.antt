-- The numbers that the file shows are those of its state.
use Rattle.std.proofs.Common.{◌≡◌, ◌+◌, ℕ, length, max, Some, ap, arith, refl, sym, ◌∙◌, subst}
use Rattle.std.specs.List.{concat}
use Rattle.std.proofs.lemmas.Bool.{leb-false}
use Rattle.std.proofs.lemmas.List.{length-map}
use Rattle.patch_bytes.specs.ByteString.{StringValue, bytes_of_each}
use Rattle.macho_image.specs.Commands.{first_content_of}
use Rattle.macho_image.specs.Form.{commands_end, ctx_of}
use Rattle.macho_image.specs.Prepared.{IsMadeFor}
use Rattle.arwen_macho.specs.declared.change.Fit.{Fit}
use Rattle.macho_edits.specs.Call.Cause.{no_room}
use Rattle.arwen_macho.specs.Change.{IsChangeOf, RefusesRoom, change_with, list_of}
use Rattle.macho_edits.specs.Held.{Held, image_model}
use Rattle.arwen_macho.specs.HeldBy.{held_of}
use Rattle.macho_edits.specs.State.{available, end_of}
use Rattle.macho_edits.specs.Whole.{KeepsContents}
use Rattle.arwen_macho.proofs.ChangeLaws.{change_of, kept_count}
use Rattle.arwen_macho.proofs.HeldLaws.{available_is, end_is, ends_inside}
use Rattle.arwen_macho.proofs.macho.SingleMachO.fit_for.Goals as goal

pub returns-then-not-fits-clause-err : goal.returns-then-not-fits-clause-err
returns-then-not-fits-clause-err c =
    let s = c.self.inside in
    let size : c.len.result ≡ length (concat (bytes_of_each c.args.commands.now)) = rw (← c.in_ok-area.ensures) (omega arith) in
    let end = end_is s c.ctx.result c.header_size.result c.len.result (bytes_of_each c.args.commands.now) c.self.invariant c.ctx.ensures.form c.header_size.ensures size in
    let most = available_is s c.self.invariant in
    let here : c.available.result ≡ available (held_of s).state = c.available.ensures ∙ most in
    let past = leb-false (c.header_size.result + c.len.result) (max (commands_end (ctx_of s.inner.bytes) s.inner.bytes) (first_content_of s.inner.bytes)) (sym c.if-not-fits.ensures) in
    let Refused : Held → Type 0 = λ h. RefusesRoom h.state (bytes_of_each c.args.commands.now) (Some (no_room (c.header_size.result + c.len.result) c.available.result)) in
    subst Refused c.self.view_is (omega arith, ap (λ (n : ℕ). no_room n c.available.result) end ∙ ap (λ (n : ℕ). no_room (end_of (ctx_of s.source.now) (bytes_of_each c.args.commands.now)) n) here)

pub overflow_cast-result : goal.overflow_cast-result
overflow_cast-result c =
    let s = c.self.inside in
    let size : c.len.result ≡ length (concat (bytes_of_each c.args.commands.now)) = rw (← c.in_ok-area.ensures) (omega arith) in
    let ends = ends_inside s c.ctx.result c.header_size.result c.len.result (bytes_of_each c.args.commands.now) c.self.invariant c.ctx.ensures.form c.header_size.ensures size c.if-not-fits.ensures in
    let Kept : Held → Type 0 = λ h. KeepsContents (ctx_of h.state.old).le h.state.list (bytes_of_each c.args.commands.now) in
    let keeps = subst Kept (sym c.self.view_is) c.requires in
    let few = kept_count (held_of s).state (bytes_of_each c.args.commands.now) c.self.invariant.is_state keeps ends in
    record { fits = omega (arith, few, length-map c.args.commands.now (λ (x : StringValue). x.bytes)) }

pub returns : goal.returns
returns c =
    let s = c.self.inside in
    let size : c.len.result ≡ length (concat (bytes_of_each c.args.commands.now)) = rw (← c.in_ok-area.ensures) (omega arith) in
    let ends = ends_inside s c.ctx.result c.header_size.result c.len.result (bytes_of_each c.args.commands.now) c.self.invariant c.ctx.ensures.form c.header_size.ensures size c.if-not-fits.ensures in
    let Kept : Held → Type 0 = λ h. KeepsContents (ctx_of h.state.old).le h.state.list (bytes_of_each c.args.commands.now) in
    let keeps = subst Kept (sym c.self.view_is) c.requires in
    let end = end_is s c.ctx.result c.header_size.result c.len.result (bytes_of_each c.args.commands.now) c.self.invariant c.ctx.ensures.form c.header_size.ensures size in
    let high : c.max.result ≡ max s.high (end_of (ctx_of s.source.now) (bytes_of_each c.args.commands.now)) = c.max.ensures ∙ ap (max s.high) end in
    let fit : Fit = record { count = length c.args.commands.now; area = c.in_ok-area.area; high = c.max.result } in
    let made : IsMadeFor (image_model (held_of s)) (length (bytes_of_each c.args.commands.now)) (concat (bytes_of_each c.args.commands.now)) (change_with (held_of s) fit).prepared =
    record { same_form = refl; same_count = sym (length-map c.args.commands.now (λ (x : StringValue). x.bytes)); same_area = c.in_ok-area.ensures; same_copy = refl } in
    let Of : Held → Type 0 = λ h. IsChangeOf h (change_with h fit) × (list_of h (change_with h fit) ≡ (bytes_of_each c.args.commands.now)) in
    record { ok = subst Of c.self.view_is (change_of (held_of s) (bytes_of_each c.args.commands.now) (change_with (held_of s) fit) made keeps ends high); err = tt }

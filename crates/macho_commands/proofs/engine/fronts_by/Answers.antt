use Rattle.std.proofs.Common.{◌≡◌, None, ℕ, List, arith, inl, inr, string_bytes, subst, sym}
use Rattle.std.proofs.lemmas.Result.{IfErr-weaker, IfOk-weaker}
use Rattle.patch_bytes.specs.Bytes.{AreBytes}
use Rattle.arwen_macho.specs.declared.macho.MachoType.{MachoType}
use Rattle.macho_edits.specs.Batch.{calls_of}
use Rattle.macho_edits.specs.Call.{Call}
use Rattle.arwen_macho.specs.Container.{first_container}
use Rattle.arwen_macho.specs.Found.{container_found}
use Rattle.arwen_macho.proofs.ForCallers.{first_bytes}
use Rattle.macho_commands.specs.Engine.{AreAsked, Asked, Tells, asked, outcome_of}
use Rattle.macho_commands.specs.Meaning.{file_of, macho_command_model}
use Rattle.macho_commands.specs.Refusing.{IsRefusal, LeadsWith}
use Rattle.macho_commands.specs.declared.error.MachoCommandError.{MachoCommandError}
use Rattle.macho_commands.proofs.NotingLaws.{told_of_bytes}
use Rattle.macho_commands.proofs.Outcomes.{tells_refused, writes_on}
use Rattle.macho_commands.proofs.engine.fronts_by.Goals as goal

-- a refusal tells the outcome
refused : (a : Asked) (calls : List Call) (file : List ℕ) (e : MachoCommandError) → AreAsked a calls → container_found file ≡ None → IsRefusal a calls (first_container file) e → Tells (outcome_of a file) e
refused a calls file e are found (inl is) =
    let P : MachoCommandError → Type 0 = Tells (outcome_of a file) in
    subst P (sym is) tt
refused a calls file e are found (inr refusal) =
    let P : MachoCommandError → Type 0 = Tells (outcome_of a file) in
    subst P (sym refusal.2) (tells_refused a calls file refusal.0 are found refusal.1)

pub returns-clause-ok : goal.returns-clause-ok
returns-clause-ok c =
    let a : Asked = asked (macho_command_model c.args.command.now) in
    let file : List ℕ = c.args.bytes.now in
    let bytes : AreBytes file = record { each = λ i. omega (arith, c.type_inv.bytes i) } in
    let calls : List Call = calls_of c.args.edits.now in
    let found = c.in_ok-macho.ensures.0 in
    IfOk-weaker c.fronts_in.result _ _ (λ made leads.
    let First : MachoType → Type 0 = λ f. LeadsWith calls f made.0.items in
    let first = subst First c.in_ok-macho.ensures.1 leads in
    writes_on a calls file made.0.items c.requires found (first_bytes file bytes found) first.0 first.1) c.fronts_in.ensures.ok

pub returns-clause-told : goal.returns-clause-told
returns-clause-told c =
    IfOk-weaker c.fronts_in.result _ _ (λ made told.
    told_of_bytes c.args.notes (file_of (macho_command_model c.args.command.now)) c.args.bytes.now c.in_ok-macho.macho (string_bytes made.1) c.in_ok-macho.ensures.0 c.in_ok-macho.ensures.1 told) c.fronts_in.ensures.told

pub returns-clause-err : goal.returns-clause-err
returns-clause-err c =
    let a : Asked = asked (macho_command_model c.args.command.now) in
    let calls : List Call = calls_of c.args.edits.now in
    IfErr-weaker c.fronts_in.result _ _ (λ e why.
    let First : MachoType → Type 0 = λ f. IsRefusal a calls f e in
    refused a calls c.args.bytes.now e c.requires c.in_ok-macho.ensures.0 (subst First c.in_ok-macho.ensures.1 why)) c.fronts_in.ensures.err

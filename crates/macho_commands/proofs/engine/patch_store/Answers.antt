-- A failure is counted behind those of what was read before.
use Rattle.std.proofs.lemmas.Result.{IfErr-weaker}
use Rattle.macho_commands.specs.Meaning.{macho_command_model}
use Rattle.macho_commands.proofs.SlicedRuns.{caused_later, left_later}
use Rattle.macho_commands.proofs.engine.patch_store.Goals as goal

pub returns-in-Some-clause-cause : goal.returns-in-Some-clause-cause
returns-in-Some-clause-cause g c =
    IfErr-weaker c.patch_slices.result _ _ (λ e cause.
    caused_later g.S.Store.may_fail_read g.S.Store.may_fail_write g.S.Store.may_take_none _ _ e _ _ _ c.in_ok-slices.ensures.kept c.in_ok-slices.ensures.grows cause) c.patch_slices.ensures.cause

pub returns-then-leaves_signatures-clause-cause : goal.returns-then-leaves_signatures-clause-cause
returns-then-leaves_signatures-clause-cause g c =
    IfErr-weaker c.patch_loaded.result _ _ (λ e cause.
    caused_later g.S.Store.may_fail_read g.S.Store.may_fail_write g.S.Store.may_take_none _ _ e _ _ _ c.in_ok-slices.ensures.kept c.in_ok-slices.ensures.grows cause) c.patch_loaded.ensures.cause

pub returns-clause-cause : goal.returns-clause-cause
returns-clause-cause g c =
    let kept = rw c.in_default-2.is at c.in_ok-text.ensures.patched in
    IfErr-weaker c.patch_loaded-2.result _ _ (λ e cause.
    caused_later g.S.Store.may_fail_read g.S.Store.may_fail_write g.S.Store.may_take_none _ _ e _ _ _ kept c.in_ok-text.ensures.grows cause) c.patch_loaded-2.ensures.cause

pub returns-in-Some-clause-left : goal.returns-in-Some-clause-left
returns-in-Some-clause-left g c =
    IfErr-weaker c.patch_slices.result _ _ (λ e fails.
    left_later g.S.Store.may_fail_write g.S.Store.may_take_none c.args.signing (macho_command_model c.args.command.now) _ _ _ e _ _ _ c.in_ok-slices.ensures.kept c.in_ok-slices.ensures.grows fails) c.patch_slices.ensures.left

pub returns-then-leaves_signatures-clause-left : goal.returns-then-leaves_signatures-clause-left
returns-then-leaves_signatures-clause-left g c =
    IfErr-weaker c.patch_loaded.result _ _ (λ e fails.
    left_later g.S.Store.may_fail_write g.S.Store.may_take_none c.args.signing (macho_command_model c.args.command.now) _ _ _ e _ _ _ c.in_ok-slices.ensures.kept c.in_ok-slices.ensures.grows fails) c.patch_loaded.ensures.left

pub returns-clause-left : goal.returns-clause-left
returns-clause-left g c =
    let kept = rw c.in_default-2.is at c.in_ok-text.ensures.patched in
    IfErr-weaker c.patch_loaded-2.result _ _ (λ e fails.
    left_later g.S.Store.may_fail_write g.S.Store.may_take_none c.args.signing (macho_command_model c.args.command.now) _ _ _ e _ _ _ kept c.in_ok-text.ensures.grows fails) c.patch_loaded-2.ensures.left

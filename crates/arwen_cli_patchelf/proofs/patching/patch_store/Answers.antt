-- What was made of the bytes that were loaded is written.
use Rattle.std.proofs.Common.{◌∙◌, List, ap, subst, ℕ}
use Rattle.std.specs.Prelude.{IfErr}
use Rattle.std.specs.declared.io.Error.{Error}
use Rattle.std.proofs.lemmas.Result.{IfErr-weaker}
use Rattle.elf_commands.specs.ElfEngine.{bytes_left}
use Rattle.elf_commands.specs.ElfStores.{WritesEnd}
use Rattle.arwen_cli_patchelf.specs.Made.{IsMadeOf}
use Rattle.arwen_cli_patchelf.specs.Patched.{IsUnwritten}
use Rattle.arwen_cli_patchelf.specs.Plans.{PlanMeant, plan_model}
use Rattle.arwen_cli_patchelf.proofs.PatchLaws.{unwritten_fails}
use Rattle.arwen_cli_patchelf.proofs.StepLaws.{nothing_made}
use Rattle.arwen_cli_patchelf.proofs.patching.patch_store.Goals as goal

pub returns-then-asks_nothing-clause-patched : goal.returns-then-asks_nothing-clause-patched
returns-then-asks_nothing-clause-patched g c = λ file known.
    (file, nothing_made (g.P.Probe.may_find c.args.probe.now) (plan_model c.args.plan.now) file (c.asks_nothing.ensures.yes c.if-asks_nothing.true), known)

pub returns-clause-left : goal.returns-clause-left
returns-clause-left g c =
    let finds = g.P.Probe.may_find c.args.probe.now in
    let plan : PlanMeant = plan_model c.args.plan.now in
    let loaded = c.in_ok-bytes.bytes.items in
    let answer = c.in_ok-new.new in
    let made = bytes_left loaded answer in
    let old = g.S.Store.contents c.args.store.now in
    let mid = g.S.Store.contents c.load.new.store in
    let new = g.S.Store.contents c.write_made.new.store in
    let ended : Error → Type 0 = WritesEnd g.S.Store.may_fail_write g.S.Store.may_take_none (g.S.Store.failed c.load.new.store) (g.S.Store.failed c.write_made.new.store) in
    let Made : List ℕ → Type 0 = λ l. IsMadeOf finds plan l (bytes_left l answer) in
    let is = subst Made c.as_slice.ensures.value c.in_ok-new.ensures.made in
    let Of : List ℕ → Type 0 = λ l. IfErr c.write_made.result (IsUnwritten ended l c.left_of.result.now mid new) in
    let To : List ℕ → Type 0 = λ l. IfErr c.write_made.result (IsUnwritten ended loaded l mid new) in
    IfErr-weaker c.write_made.result _ _ (λ e left.
    unwritten_fails g.S.Store.may_fail_write g.S.Store.may_take_none _ _ _ finds plan old mid new loaded made e c.in_ok-bytes.ensures.grows c.in_ok-bytes.ensures.read c.in_ok-bytes.ensures.kept is left)
    (subst To (c.left_of.ensures ∙ ap (λ l. bytes_left l answer) c.as_slice-3.ensures.value) (subst Of c.as_slice-2.ensures.value c.write_made.ensures.left))

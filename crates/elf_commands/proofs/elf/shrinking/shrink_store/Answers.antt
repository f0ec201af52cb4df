use Rattle.std.proofs.Common.{List, ℕ, Option, String, map, string_bytes, subst}
use Rattle.std.specs.Prelude.{IfErr}
use Rattle.std.proofs.lemmas.Result.{IfErr-weaker, err_from_is_err_and}
use Rattle.std.specs.declared.alloc.Global.{Global}
use Rattle.std.specs.declared.io.Error.{Error}
use Rattle.command_words.specs.Rows.{Text}
use Rattle.elf_commands_edits.specs.declared.error.ElfCommandError.{ElfCommandError}
use Rattle.elf_commands.specs.ElfStores.{WritesEnd}
use Rattle.elf_commands.specs.ShrinkRuns.{FailsShrink, IsQuiet}
use Rattle.elf_commands.proofs.FailureLaws.{shrink_cause_after, shrink_read_cause}
use Rattle.elf_commands.proofs.ShrinkLaws.{refused_is_quiet, shrink_fails_after}
use Rattle.elf_commands.proofs.elf.shrinking.shrink_store.Goals as goal

-- the store that was loaded has the bytes that it had
pub returns-clause-left : goal.returns-clause-left
returns-clause-left g c =
    let finds = g.P.Probe.may_find c.args.probe.now in
    let new : Option (List ℕ) = g.S.Store.contents c.shrink_loaded.new.store in
    let mid : Option (List ℕ) = g.S.Store.contents c.load.new.store in
    let prefixes : List Text = map string_bytes c.args.args.now.allowed_rpath_prefixes.items in
    let ended : ℕ → Error → Type 0 = λ n. WritesEnd g.S.Store.may_fail_write g.S.Store.may_take_none n (g.S.Store.failed c.shrink_loaded.new.store) in
    let Of : List (String Global) → Type 0 = λ ps. IfErr c.shrink_loaded.result (FailsShrink (ended (g.S.Store.failed c.load.new.store)) finds (map string_bytes ps) mid new) in
    let Fails : ℕ → Option (List ℕ) → ElfCommandError → Type 0 = λ n o. FailsShrink (ended n) finds prefixes o new in
    let From : Option (List ℕ) → Type 0 = λ o. IfErr c.shrink_loaded.result (Fails (g.S.Store.failed c.args.store.now) o) in
    subst From c.in_ok-bytes.ensures.kept
    (IfErr-weaker c.shrink_loaded.result (Fails (g.S.Store.failed c.load.new.store) mid) (Fails (g.S.Store.failed c.args.store.now) mid) (λ e fails.
    shrink_fails_after g.S.Store.may_fail_write g.S.Store.may_take_none _ _ _ finds prefixes mid new e c.in_ok-bytes.ensures.grows fails) (subst Of c.as_slice-prefixes.ensures.value c.shrink_loaded.ensures.left))

pub returns-in_err-bytes-clause-cause : goal.returns-in_err-bytes-clause-cause
returns-in_err-bytes-clause-cause g c =
    let p = err_from_is_err_and c.from_residual.result c.from_residual.ensures.1 in
    rw (p.1, p.2) (shrink_read_cause g.S.Store.may_fail_read g.S.Store.may_fail_write g.S.Store.may_take_none (g.S.Store.contents c.args.store.now) _ _ _ _ c.in_err-bytes.field-0.0 c.in_err-bytes.ensures.cause)

pub returns-clause-cause : goal.returns-clause-cause
returns-clause-cause g c =
    IfErr-weaker c.shrink_loaded.result _ _ (λ e why.
    shrink_cause_after g.S.Store.may_fail_read g.S.Store.may_fail_write g.S.Store.may_take_none (g.S.Store.contents c.args.store.now) _ _ _ _ _ e c.in_ok-bytes.ensures.grows why) c.shrink_loaded.ensures.cause

pub returns-in_err-bytes-clause-quiet : goal.returns-in_err-bytes-clause-quiet
returns-in_err-bytes-clause-quiet g c =
    let p = err_from_is_err_and c.from_residual.result c.from_residual.ensures.1 in
    rw (p.1, p.2) (refused_is_quiet (g.P.Probe.may_find c.args.probe.now) (map string_bytes c.args.args.now.allowed_rpath_prefixes.items) g.W.Write.contents (g.S.Store.contents c.args.store.now) c.args.out.now _)

pub returns-clause-quiet : goal.returns-clause-quiet
returns-clause-quiet g c =
    let finds = g.P.Probe.may_find c.args.probe.now in
    let Of : List (String Global) → Type 0 = λ ps. IfErr c.shrink_loaded.result (IsQuiet finds (map string_bytes ps) g.W.Write.contents (g.S.Store.contents c.load.new.store) c.args.out.now c.shrink_loaded.new.out) in
    let From : Option (List ℕ) → Type 0 = λ o. IfErr c.shrink_loaded.result (IsQuiet finds (map string_bytes c.args.args.now.allowed_rpath_prefixes.items) g.W.Write.contents o c.args.out.now c.shrink_loaded.new.out) in
    subst From c.in_ok-bytes.ensures.kept (subst Of c.as_slice-prefixes.ensures.value c.shrink_loaded.ensures.quiet)

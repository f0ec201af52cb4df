use Rattle.std.proofs.Common.{List, ℕ, inr, map, subst, string_bytes, take}
use Rattle.std.specs.Io.KnownBytes.{Appends}
use Rattle.std.proofs.lemmas.Result.{err_from_is_err_and}
use Rattle.elf_commands.proofs.FailureLaws.{shrink_replaced_cause, unshrunk_unwritten}
use Rattle.elf_commands.proofs.ShrinkLaws.{gets_first, refused_is_quiet, replaced_is_quiet, replaced_may_fail, shrink_failed, shrink_may_fail, shrink_refused, shrinks_store}
use Rattle.elf_commands.proofs.elf.shrinking.shrink_loaded.Goals as goal

pub returns-in_err-shrunk-clause-err : goal.returns-in_err-shrunk-clause-err
returns-in_err-shrunk-clause-err g c =
    let p = err_from_is_err_and c.from_residual.result c.from_residual.ensures.1 in
    rw (p.1, p.2) (shrink_may_fail (g.P.Probe.may_find c.args.probe.now) (map string_bytes c.args.prefixes.now) c.args.bytes.now c.in_err-shrunk.field-0.0 c.in_err-shrunk.ensures.err)

pub returns-in_err-shrunk-clause-quiet : goal.returns-in_err-shrunk-clause-quiet
returns-in_err-shrunk-clause-quiet g c =
    let p = err_from_is_err_and c.from_residual.result c.from_residual.ensures.1 in
    rw (p.1, p.2) (refused_is_quiet (g.P.Probe.may_find c.args.probe.now) (map string_bytes c.args.prefixes.now) g.W.Write.contents (g.S.Store.contents c.args.store.now) c.args.out.now c.in_err-shrunk.field-0.0)

pub returns-in_err-write_all_counted-clause-quiet : goal.returns-in_err-write_all_counted-clause-quiet
returns-in_err-write_all_counted-clause-quiet g c =
    let p = err_from_is_err_and c.from_residual-in_err-write_all_counted.result c.from_residual-in_err-write_all_counted.ensures.1 in
    let stops = c.in_err-write_all_counted.ensures.err in
    let Gets : List ℕ → Type 0 = λ l. Appends (g.W.Write.contents c.args.out.now) (g.W.Write.contents c.write_all_counted.new.w) (take stops.0 l) in
    rw (p.1, p.2) (inr (gets_first (g.P.Probe.may_find c.args.probe.now) (map string_bytes c.args.prefixes.now) (g.S.Store.contents c.args.store.now)
    (g.W.Write.contents c.args.out.now) (g.W.Write.contents c.write_all_counted.new.w) c.args.bytes.now c.in_ok-shrunk.shrunk.difference (string_bytes c.in_ok-shrunk.shrunk.text) stops.0
    c.requires.whole c.in_ok-shrunk.ensures.shrunk (subst Gets c.as_bytes.ensures.value stops.2)))

pub returns-in_err-shrunk-clause-cause : goal.returns-in_err-shrunk-clause-cause
returns-in_err-shrunk-clause-cause g c =
    let p = err_from_is_err_and c.from_residual.result c.from_residual.ensures.1 in
    rw (p.1, p.2) (unshrunk_unwritten g.S.Store.may_fail_write g.S.Store.may_take_none (g.P.Probe.may_find c.args.probe.now) (map string_bytes c.args.prefixes.now) c.args.bytes.now
    _ _ _ _ c.in_err-shrunk.field-0.0 c.in_err-shrunk.ensures.err)

pub returns-in_err-make_opened-clause-err : goal.returns-in_err-make_opened-clause-err
returns-in_err-make_opened-clause-err g c =
    let p = err_from_is_err_and c.from_residual-in_err-make_opened.result c.from_residual-in_err-make_opened.ensures.1 in
    rw (p.1, p.2) (replaced_may_fail (map string_bytes c.args.prefixes.now) c.in_err-make_opened.field-0.0)

pub returns-in_err-make_opened-clause-quiet : goal.returns-in_err-make_opened-clause-quiet
returns-in_err-make_opened-clause-quiet g c =
    let p = err_from_is_err_and c.from_residual-in_err-make_opened.result c.from_residual-in_err-make_opened.ensures.1 in
    let Gets : List ℕ → Type 0 = λ l. Appends (g.W.Write.contents c.args.out.now) (g.W.Write.contents c.write_all_counted.new.w) l in
    rw (p.1, p.2) (replaced_is_quiet (g.P.Probe.may_find c.args.probe.now) (map string_bytes c.args.prefixes.now) g.W.Write.contents (g.S.Store.contents c.args.store.now)
    c.args.out.now c.write_all_counted.new.w c.args.bytes.now c.in_ok-shrunk.shrunk.difference (string_bytes c.in_ok-shrunk.shrunk.text) c.in_err-make_opened.field-0.0
    c.requires.whole c.in_ok-shrunk.ensures.shrunk (subst Gets c.as_bytes.ensures.value c.in_ok-write_all_counted.ensures.ok))

pub returns-in_err-make_opened-clause-cause : goal.returns-in_err-make_opened-clause-cause
returns-in_err-make_opened-clause-cause g c =
    let p = err_from_is_err_and c.from_residual-in_err-make_opened.result c.from_residual-in_err-make_opened.ensures.1 in
    rw (p.1, p.2) (shrink_replaced_cause g.S.Store.may_fail_write g.S.Store.may_take_none _ _ _ _ c.in_err-make_opened.field-0.0 c.in_err-make_opened.ensures.cause)

pub returns-in_err-shrunk-clause-left : goal.returns-in_err-shrunk-clause-left
returns-in_err-shrunk-clause-left g c =
    let p = err_from_is_err_and c.from_residual.result c.from_residual.ensures.1 in
    rw (p.1, p.2) (shrink_refused _ (g.P.Probe.may_find c.args.probe.now) (map string_bytes c.args.prefixes.now) (g.S.Store.contents c.args.store.now) c.args.bytes.now c.in_err-shrunk.field-0.0 c.requires.whole c.in_err-shrunk.ensures.err)

pub returns-in_err-make_opened-clause-left : goal.returns-in_err-make_opened-clause-left
returns-in_err-make_opened-clause-left g c =
    let p = err_from_is_err_and c.from_residual-in_err-make_opened.result c.from_residual-in_err-make_opened.ensures.1 in
    rw (p.1, p.2) (shrink_failed g.S.Store.may_fail_write g.S.Store.may_take_none _ _ (g.P.Probe.may_find c.args.probe.now) (map string_bytes c.args.prefixes.now) g.S.Store.contents c.args.store.now c.make_opened.new.store c.args.bytes.now c.in_ok-shrunk.shrunk.difference (string_bytes c.in_ok-shrunk.shrunk.text) _
    c.requires.whole c.in_ok-shrunk.ensures.makeable c.in_ok-shrunk.ensures.shrunk c.in_err-make_opened.ensures.err c.in_err-make_opened.ensures.cause)

pub returns-clause-shrunk : goal.returns-clause-shrunk
returns-clause-shrunk g c =
    let Gets : List ℕ → Type 0 = λ l. Appends (g.W.Write.contents c.args.out.now) (g.W.Write.contents c.write_all_counted.new.w) l in
    shrinks_store (g.P.Probe.may_find c.args.probe.now) (map string_bytes c.args.prefixes.now) (g.S.Store.contents c.args.store.now) (g.S.Store.contents c.make_opened.new.store)
    (g.W.Write.contents c.args.out.now) (g.W.Write.contents c.write_all_counted.new.w) c.args.bytes.now c.in_ok-shrunk.shrunk.difference (string_bytes c.in_ok-shrunk.shrunk.text) c.requires.whole
    c.in_ok-shrunk.ensures.shrunk c.in_ok-make_opened.ensures.ok (subst Gets c.as_bytes.ensures.value c.in_ok-write_all_counted.ensures.ok)

-- The files so far and one more are told of, or an error ends it.
use Rattle.std.proofs.Common.{◌<◌, List, ℕ, arith, inl, inr, length, map, rules, string_bytes, sym, subst, take}
use Rattle.std.proofs.lemmas.Result.{err_from_is_err_and}
use Rattle.std.proofs.lemmas.List.{length-map, take-map}
use Rattle.arwen_cli_show.specs.Command.{AreShown, Telling, TellingAt}
use Rattle.arwen_cli_show.proofs.ShownSteps.{one_more_shown, stopped_there}
use Rattle.arwen_cli_show.proofs.command.show_paths.Goals as goal
use Rattle.arwen_cli_show.proofs.command.show_paths.Goals.{then-not-branch, else-not-branch}

pub loop-path-preserved : goal.loop-path-preserved
loop-path-preserved g c =
    let IsAt : List ℕ → Telling → Type 0 = TellingAt (g.F.FileBytes.may_fail c.args.files.now) (g.F.FileBytes.contents c.args.files.now) c.args.style in
    let next = one_more_shown IsAt c.args.paths.now c.loop-path.path-index c.path-item.result c.as_str.result.now c.loop-path.are_all c.in_ok-show_path.field-0 c.if-not-branch.are_all
    (g.W.Write.contents c.args.out.now) (g.W.Write.contents c.loop-path.out) (g.W.Write.contents c.show_path.new.out) (g.E.Write.contents c.args.err.now) (g.E.Write.contents c.loop-path.err) (g.E.Write.contents c.show_path.new.err)
    c.loop-path-test.true c.path-item.is c.as_str.ensures.value
    (elim c.if-not-branch.branch [ then-not-branch w ↦ inl (search rules, w.are_all-is) | else-not-branch w ↦ inr (search rules, w.are_all-is) ])
    c.loop-path.invariant.shown c.in_ok-show_path.ensures.told in
    record { shown = next; some = λ isnt. omega arith }

pub returns-in_err-show_path-clause-stopped : goal.returns-in_err-show_path-clause-stopped
returns-in_err-show_path-clause-stopped g c =
    let IsAt : List ℕ → Telling → Type 0 = TellingAt (g.F.FileBytes.may_fail c.args.files.now) (g.F.FileBytes.contents c.args.files.now) c.args.style in
    let paths : List (List ℕ) = map string_bytes c.args.paths.now in
    let so_far : AreShown IsAt (take c.loop-path.path-index paths) c.loop-path.are_all
    (g.W.Write.contents c.args.out.now) (g.W.Write.contents c.loop-path.out) (g.E.Write.contents c.args.err.now) (g.E.Write.contents c.loop-path.err) =
    let P : List (List ℕ) → Type 0 = λ ps. AreShown IsAt ps c.loop-path.are_all
    (g.W.Write.contents c.args.out.now) (g.W.Write.contents c.loop-path.out) (g.E.Write.contents c.args.err.now) (g.E.Write.contents c.loop-path.err) in
    subst P (sym (take-map string_bytes c.loop-path.path-index c.args.paths.now)) c.loop-path.invariant.shown in
    let less : c.loop-path.path-index < length paths = rw length-map c.loop-path-test.true in
    let p = err_from_is_err_and c.from_residual.result c.from_residual.ensures.1 in
    rw (p.1, p.2) (stopped_there IsAt paths c.loop-path.path-index c.loop-path.are_all
    (g.W.Write.contents c.args.out.now) (g.W.Write.contents c.loop-path.out) (g.W.Write.contents c.show_path.new.out) (g.E.Write.contents c.args.err.now) (g.E.Write.contents c.loop-path.err) (g.E.Write.contents c.show_path.new.err)
    c.in_err-show_path.field-0.0 less so_far c.in_err-show_path.ensures.stopped)

use Rattle.std.proofs.Common.{◌≡◌, ◌+◌, ◌-◌, ◌∙◌, ℕ, arith, inr, length, subst}
use Rattle.std.proofs.lemmas.Result.{err_from_is_err_and}
use Rattle.byte_store.specs.Known.{EndsWithin}
use Rattle.byte_store.proofs.CauseLaws.{endless, failed_on, read_ended}
use Rattle.byte_store.proofs.LoadLaws.{first_at_end}
use Rattle.byte_store.proofs.reading.load_into.Goals as goal

pub loop-read-preserved : goal.loop-read-preserved
loop-read-preserved g c =
    let known = g.S.Store.contents c.args.store.now in
    let before = c.loop-read.bytes in
    let after = c.load_once.new.bytes in
    let i = c.loop-read._read in record {
      front = λ all knows. c.in_ok-load_once.ensures.front all (c.loop-read.invariant.kept ∙ knows) (c.loop-read.invariant.front all knows);
      bound = c.in_ok-load_once.ensures.bound;
      kept = c.in_ok-load_once.ensures.kept ∙ c.loop-read.invariant.kept;
      grows = omega (arith, c.in_ok-load_once.ensures.grows);
      failed = failed_on g.S.Store.may_fail_read (i - before.len) (before.len + 1 - after.len) (i + 1 - after.len) _ _ _ (omega arith)
          c.loop-read.invariant.failed (c.in_ok-load_once.ensures.some c.if-branch.false);
    }

pub returns-in_err-load_once-clause-cause : goal.returns-in_err-load_once-clause-cause
returns-in_err-load_once-clause-cause g c =
    let p = err_from_is_err_and c.from_residual.result c.from_residual.ensures.1 in
    rw (p.1, p.2) (read_ended g.S.Store.may_fail_read _ _ _ _ _ c.loop-read.invariant.grows c.in_err-load_once.ensures.cause)

pub returns-then-branch-clause-read : goal.returns-then-branch-clause-read
returns-then-branch-clause-read g c =
    let bytes = c.load_once.new.bytes in
    let known = g.S.Store.contents c.loop-read.store in
    let long : bytes.len ≡ length bytes.items = bytes.ok.0 in
    let P : ℕ → Type 0 = λ n. EndsWithin known n in
    first_at_end c.args.most (g.S.Store.contents c.args.store.now) known c.loop-read.bytes.items bytes.items
    c.loop-read.invariant.kept (omega (arith, c.in_ok-load_once.ensures.bound)) c.loop-read.invariant.front
    c.in_ok-load_once.ensures.front (subst P long (c.in_ok-load_once.ensures.end c.if-branch.true))

pub returns-clause-cause : goal.returns-clause-cause
returns-clause-cause g c =
    inr (c.endless.ensures, endless g.S.Store.may_fail_read _ c.loop-read.bytes.items 4294967295 c.loop-read._read c.loop-read.bytes.len _ _ c.loop-read-test.false c.loop-read.bytes.ok.0 c.loop-read.invariant.front c.loop-read.invariant.failed)

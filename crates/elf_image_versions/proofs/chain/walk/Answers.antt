-- One record after another, up to one that isn't there, isn't whole or has no next.
use Rattle.std.proofs.Common.{◌≡◌, ◌⊎◌, ◌+◌, ◌-◌, false, inl, inr, refl, sym, ap, ◌∙◌, subst, arith}
use Rattle.std.specs.Prelude.{option_map}
use Rattle.patch_bytes.specs.Memory.{memory_of}
use Rattle.elf_image_versions.specs.WalkSteps.{IsWalk, step_of}
use Rattle.elf_image_versions.proofs.WalkSteps.{WalkLeft, walk_breaks, walk_done, walk_ends, walk_goes, walk_starts, walk_stops}
use Rattle.elf_image_versions.proofs.chain.walk.Goals as goal
use Rattle.elf_image_versions.proofs.chain.walk.Goals.{else-next-eq0-via-else-next-eq0, else-next-eq0-via-then-next-eq0+else-i-count}

pub loop-i-init : goal.loop-i-init
loop-i-init g c =
    let read = g.R.ChainRecord.step_at c.args.form (memory_of c.args.bytes.now) in
    subst (λ l. WalkLeft read c.args.count c.args.start l (c.args.count - 0) c.args.start) (sym c.new-values.ensures.items) (walk_starts read c.args.count c.args.start)

pub returns-in_default : goal.returns-in_default
returns-in_default g c =
    walk_ends (g.R.ChainRecord.step_at c.args.form (memory_of c.args.bytes.now)) c.args.count c.args.start c.loop-i.values.items c.loop-i.i c.loop-i.place c.loop-i-test.true
    (sym c.in_ok-record.ensures.step ∙ ap (option_map step_of) c.in_default.is) c.loop-i.invariant

pub returns-then-not-is_whole : goal.returns-then-not-is_whole
returns-then-not-is_whole g c =
    let read = g.R.ChainRecord.step_at c.args.form (memory_of c.args.bytes.now) in
    subst (λ l. IsWalk read c.args.count c.args.start l false) (sym c.in_ok-push.ensures.items)
    (walk_breaks read c.args.count c.args.start c.loop-i.values.items c.loop-i.i c.loop-i.place (step_of c.in-Some.record) c.loop-i-test.true
    (sym c.in_ok-record.ensures.step ∙ ap (option_map step_of) c.in-Some.is) c.if-not-is_whole.true c.loop-i.invariant)

pub returns-then-i-count : goal.returns-then-i-count
returns-then-i-count g c =
    let read = g.R.ChainRecord.step_at c.args.form (memory_of c.args.bytes.now) in
    subst (λ l. IsWalk read c.args.count c.args.start l false) (sym c.in_ok-push.ensures.items)
    (walk_stops read c.args.count c.args.start c.loop-i.values.items c.loop-i.i c.loop-i.place (step_of c.in-Some.record) c.loop-i-test.true
    (sym c.in_ok-record.ensures.step ∙ ap (option_map step_of) c.in-Some.is) (λ e. omega (arith, c.if-i-count.true, e)) c.if-next-eq0.true c.loop-i.invariant)

pub loop-i-preserved : goal.loop-i-preserved
loop-i-preserved g c =
    let read = g.R.ChainRecord.step_at c.args.form (memory_of c.args.bytes.now) in
    let i = c.loop-i.i in
    let next = c.in-Some.record.next in
    let on : (c.args.count - (i + 1) ≡ 0) ⊎ ((next ≡ 0 → ⊥) × (c.loop-i.place + next ≡ c.loop-i.place + next)) = elim c.else-next-eq0.branch [
      | else-next-eq0-via-then-next-eq0+else-i-count w ↦ inl (omega (arith, w.if-i-count.false, c.loop-i-test.true))
      | else-next-eq0-via-else-next-eq0 w ↦ inr (w.if-next-eq0.false, refl)
    ] in
    subst (λ l. WalkLeft read c.args.count c.args.start l (c.args.count - (i + 1)) (c.loop-i.place + next)) (sym c.in_ok-push.ensures.items)
    (walk_goes read c.args.count c.args.start c.loop-i.values.items i c.loop-i.place (c.loop-i.place + next) (step_of c.in-Some.record) c.loop-i-test.true
    (sym c.in_ok-record.ensures.step ∙ ap (option_map step_of) c.in-Some.is) c.if-not-is_whole.false on c.loop-i.invariant)

pub returns : goal.returns
returns g c =
    walk_done (g.R.ChainRecord.step_at c.args.form (memory_of c.args.bytes.now)) c.args.count c.args.start c.loop-i.values.items c.loop-i.i c.loop-i.place c.loop-i-test.false c.loop-i.invariant

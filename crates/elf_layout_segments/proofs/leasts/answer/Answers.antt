use Rattle.std.proofs.Common.{◌≡◌, ◌+◌, ◌-◌, ◌<◌, ◌≤◌, ℕ, List, Some, arith, get_or, inl, inr, length, subst, sym}
use Rattle.std.specs.Prelude.{slice_get}
use Rattle.std.proofs.lemmas.Option.{slice_get-get_or}
use Rattle.elf_layout_segments.specs.declared.leasts.Stretch.{Stretch}
use Rattle.elf_layout_segments.specs.Leasts.{IsLeast, numbers_at}
use Rattle.elf_layout_segments.proofs.LeastSteps.{AreAnswered, all_answered, answer_passed, answer_put, least_over, none_answered, row_at}
use Rattle.elf_layout_segments.proofs.leasts.answer.Goals as goal
use Rattle.elf_layout_segments.proofs.leasts.answer.Goals.{then-width-length+then-length-width, else-width-length, else-width-length-via-then-width-length+else-length-width, else-width-length-via-else-width-length}

pub lesser_of-requires-clause-first : goal.lesser_of-requires-clause-first
lesser_of-requires-clause-first c =
    let s : Stretch = get_or c.args.asked.now c.loop-j.j (record { from = 0; until = 0 }) in
    let ends : s.until ≤ length c.args.row.now = c.requires.within c.loop-j.j s (slice_get-get_or c.args.asked.now c.loop-j.j (record { from = 0; until = 0 }) c.loop-j-test.true) in
    omega (arith, ends, c.saturating_sub-length.ensures, c.if-width-length.true, c.requires.some)

pub lesser_of-requires-clause-last : goal.lesser_of-requires-clause-last
lesser_of-requires-clause-last c =
    let s : Stretch = get_or c.args.asked.now c.loop-j.j (record { from = 0; until = 0 }) in
    let ends : s.until ≤ length c.args.row.now = c.requires.within c.loop-j.j s (slice_get-get_or c.args.asked.now c.loop-j.j (record { from = 0; until = 0 }) c.loop-j-test.true) in
    omega (arith, ends, c.saturating_sub-length.ensures, c.if-width-length.true, c.requires.some)

pub loop-j-init : goal.loop-j-init
loop-j-init c = λ numbers are below. none_answered numbers c.args.asked.now c.args.width c.args.answers.now below

pub loop-j-preserved : goal.loop-j-preserved
loop-j-preserved c = λ numbers are below.
    let asked : List Stretch = c.args.asked.now in
    let row : List ℕ = c.args.row.now in
    let width : ℕ = c.args.width in
    let j : ℕ = c.loop-j.j in
    let s : Stretch = get_or asked j (record { from = 0; until = 0 }) in
    let at : slice_get asked j ≡ Some s = slice_get-get_or asked j (record { from = 0; until = 0 }) c.loop-j-test.true in
    let ends : s.until ≤ length row = c.requires.within j s at in
    let so = c.loop-j.invariant numbers are below in
    elim c.if-width-length.branch [
      | then-width-length+then-length-width w ↦
          let long : s.from + width ≤ s.until = omega (arith, c.saturating_sub-length.ensures, w.if-width-length.true, c.requires.some) in
          let short : s.until - s.from < width + width = omega (arith, c.saturating_sub-length.ensures, w.if-length-width.true) in
          let first : s.from < length row = omega (arith, long, ends, c.requires.some) in
          let last : s.until - width < length row = omega (arith, long, ends, c.requires.some) in
          let least = least_over numbers row width s.from s.until (get_or row s.from 0) (get_or row (s.until - width) 0) long short (row_at numbers row width s.from 0 are first) (row_at numbers row width (s.until - width) 0 are last) in
          subst (λ (l : List ℕ). AreAnswered numbers asked width (j + 1) l) (sym w.answers-is)
          (answer_put numbers asked width j c.loop-j.answers s w.lesser_of.result at (subst (λ (n : ℕ). IsLeast (numbers_at numbers s.from (s.until - s.from)) n) (sym w.lesser_of.ensures) least) so)
      | else-width-length w ↦
          subst (λ (l : List ℕ). AreAnswered numbers asked width (j + 1) l) (sym w.answers-is)
          (answer_passed numbers asked width j c.loop-j.answers s at (elim w.else-width-length.branch [
            | else-width-length-via-then-width-length+else-length-width v ↦ inr (omega (arith, c.saturating_sub-length.ensures, v.if-width-length.true, v.if-length-width.false))
            | else-width-length-via-else-width-length v ↦ inl (omega (arith, c.saturating_sub-length.ensures, v.if-width-length.false))
          ]) so)
    ]

pub returns : goal.returns
returns c = λ numbers are below.
    all_answered numbers c.args.asked.now c.args.width c.loop-j.j c.loop-j.answers c.loop-j-test.false (c.loop-j.invariant numbers are below)

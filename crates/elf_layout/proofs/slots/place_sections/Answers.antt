use Rattle.std.proofs.Common.{◌≡◌, ◌+◌, [], ℕ, List, drop, get_or, subst, arith}
use Rattle.std.proofs.lemmas.List.{drop_all, drop_more}
use Rattle.elf_layout.proofs.SlotSteps.{ArePlaced, placed_end, placed_far, placed_more, placed_slots}
use Rattle.elf_layout.proofs.slots.place_sections.Goals as goal

pub place_section-requires : goal.place_section-requires
place_section-requires c = record {
  address = omega (arith, c.loop-position.invariant.distance, c.loop-position.invariant.fits);
  offset = c.loop-position.invariant.fits;
}

pub loop-position-preserved : goal.loop-position-preserved
loop-position-preserved c =
    let i : ℕ = c.loop-position.position-index in
    let moved : List ℕ = c.args.moved.now in
    let here : List ℕ → Type 0 = λ l. ArePlaced c.args.r.now c.args.flags c.args.start moved c.args.slots.now c.loop-position.at
    c.loop-position.slots l in
    placed_more c.args.r.now c.args.flags c.args.start moved c.args.slots.now c.loop-position.at c.loop-position.slots (get_or moved i 0)
    (drop (i + 1) moved)
    c.in-Some.end c.place_section.new.slots (subst here (drop_more moved i 0 c.loop-position-test.true) c.loop-position.invariant)
    c.in-Some.ensures.end c.in-Some.ensures.slots c.in-Some.ensures.distance c.in-Some.ensures.fits

pub returns-in_default-clause-far : goal.returns-in_default-clause-far
returns-in_default-clause-far c =
    let i : ℕ = c.loop-position.position-index in
    let moved : List ℕ = c.args.moved.now in
    let here : List ℕ → Type 0 = λ l. ArePlaced c.args.r.now c.args.flags c.args.start moved c.args.slots.now c.loop-position.at
    c.loop-position.slots l in
    placed_far c.args.r.now c.args.flags c.args.start moved c.args.slots.now c.loop-position.at c.loop-position.slots (get_or moved i 0)
    (drop (i + 1) moved) _
    (subst here (drop_more moved i 0 c.loop-position-test.true) c.loop-position.invariant) c.in_default.ensures.far

pub returns-clause-end : goal.returns-clause-end
returns-clause-end c =
    let left : List ℕ = drop c.loop-position.position-index c.args.moved.now in
    let none : left ≡ [] = drop_all c.loop-position.position-index c.args.moved.now c.loop-position-test.false in
    placed_end c.args.r.now c.args.flags c.args.start c.args.moved.now c.args.slots.now c.loop-position.at c.loop-position.slots
    (subst (λ (l : List ℕ). ArePlaced c.args.r.now c.args.flags c.args.start c.args.moved.now c.args.slots.now c.loop-position.at
    c.loop-position.slots l) none c.loop-position.invariant)

pub returns-clause-slots : goal.returns-clause-slots
returns-clause-slots c =
    let left : List ℕ = drop c.loop-position.position-index c.args.moved.now in
    let none : left ≡ [] = drop_all c.loop-position.position-index c.args.moved.now c.loop-position-test.false in
    placed_slots c.args.r.now c.args.flags c.args.start c.args.moved.now c.args.slots.now c.loop-position.at c.loop-position.slots
    (subst (λ (l : List ℕ). ArePlaced c.args.r.now c.args.flags c.args.start c.args.moved.now c.args.slots.now c.loop-position.at
    c.loop-position.slots l) none c.loop-position.invariant)

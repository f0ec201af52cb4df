use Rattle.std.proofs.Common.{◌≡◌, ℕ, List, Bool, Some, true, false, get_or, refl, sym, inl, inr, subst, arith}
use Rattle.std.specs.Prelude.{slice_get}
use Rattle.std.proofs.lemmas.Bool.{cases_eq}
use Rattle.std.proofs.lemmas.Option.{get_or_from_slice_get, slice_get_within}
use Rattle.elf_layout_plan.specs.declared.block.Block.{Block}
use Rattle.elf_layout_plan.specs.MovedBlocks.{HasCause}
use Rattle.test_elf.proofs.blocks.plain.move_for_cause.Goals as goal
use Rattle.test_elf.proofs.blocks.plain.move_for_cause.Goals.{else-moves-place-via-then-moves-place+else-not-has_cause, else-moves-place-via-else-moves-place}

pub loop-place-preserved : goal.loop-place-preserved
loop-place-preserved c = λ k early marked.
    let blocks : List Block = c.args.blocks.now in
    let moves : List Bool = c.args.moves.now in
    elim (cases_eq k c.loop-place.place) [
      | inl same ↦
          let there : slice_get moves c.loop-place.place ≡ Some true = subst (λ (j : ℕ). slice_get moves j ≡ Some true) same marked in
          let read : get_or moves c.loop-place.place false ≡ true = get_or_from_slice_get moves c.loop-place.place true false there in
          elim c.else-moves-place.branch [
            | else-moves-place-via-then-moves-place+else-not-has_cause w ↦
                subst (λ (j : ℕ). HasCause blocks j) (sym same) (w.has_cause.ensures.0 w.if-not-has_cause.false)
            | else-moves-place-via-else-moves-place w ↦
                let free = w.if-moves-place.false in
                let no : ⊥ = cc (read, free) in
                absurd no
          ]
      | inr other ↦ c.loop-place.invariant k (omega arith) marked
    ]

pub returns : goal.returns
returns c = (
  λ _ k marked. c.loop-place.invariant k (omega (arith, slice_get_within c.args.moves.now k true marked)) marked,
  λ _. refl,
)

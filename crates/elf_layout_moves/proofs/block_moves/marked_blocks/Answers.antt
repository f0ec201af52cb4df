use Rattle.std.proofs.Common.{ap, ◌∙◌, refl, arith}
use Rattle.std.specs.Prelude.{None, Some, false}
use Rattle.std.proofs.lemmas.Option.{slice_get-get_or, slice_get_read}
use Rattle.elf_layout_plan.specs.Blocks.{Block}
use Rattle.elf_layout_moves.proofs.MoverLaws.{marked_more, marked_none}
use Rattle.elf_layout_moves.proofs.block_moves.marked_blocks.Goals as goal
use Rattle.elf_layout_moves.proofs.block_moves.marked_blocks.Goals.{then-marks-place+in_ok-push, else-marks-place}

pub loop-place-preserved : goal.loop-place-preserved
loop-place-preserved c = elim c.if-marks-place.branch [
  | then-marks-place+in_ok-push w ↦
      let block : Block = w.index-blocks-place.result in
      marked_more c.args.blocks.now c.args.marks.now c.loop-place.place block c.loop-place.found.items c.if-marks-place.found.items _
      (slice_get_read c.args.blocks.now _ c.loop-place.place block refl (omega arith) w.index-blocks-place.is)
      (slice_get-get_or c.args.marks.now c.loop-place.place _ (omega arith) ∙ ap Some w.if-marks-place.true)
      (ap (λ v. v.items) w.found-is ∙ w.in_ok-push.ensures.items) c.loop-place.invariant
  | else-marks-place w ↦
      let block : Block = record { start = 0; size = 0; priority = 0; section = None; is_displaced = false; is_load_start = false } in
      marked_none c.args.blocks.now c.args.marks.now c.loop-place.place _ c.loop-place.found.items c.if-marks-place.found.items _
      (slice_get-get_or c.args.blocks.now c.loop-place.place block (omega arith))
      (slice_get-get_or c.args.marks.now c.loop-place.place _ (omega arith) ∙ ap Some w.if-marks-place.false)
      (ap (λ v. v.items) w.found-is) c.loop-place.invariant
]

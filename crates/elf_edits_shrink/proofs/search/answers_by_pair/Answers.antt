-- An answer is put into the map, or one for its pair is there.
use Rattle.std.proofs.Common.{◌∙◌, ap, map, sym, take}
use Rattle.std.specs.Map.{lookup}
use Rattle.elf_edits_shrink.specs.ShrinkModel.{answer_model}
use Rattle.elf_edits_shrink.specs.ShrinkModel.{is_pair}
use Rattle.elf_edits_shrink.proofs.AnswerSteps.{first_answer, second_answer, told_more}
use Rattle.elf_edits_shrink.proofs.search.answers_by_pair.Goals.{then-not-contains_key+in_ok-insert, else-not-contains_key}
use Rattle.elf_edits_shrink.proofs.search.answers_by_pair.Goals as goal

pub loop-answer-preserved : goal.loop-answer-preserved
loop-answer-preserved c = λ directory name.
    let answers = c.args.answers.now in
    let i = c.loop-answer.answer-index in
    let x = c.answer-item.result in
    let before = map answer_model (take i answers) in
    let d0 = c.as_slice.result.now in
    let n0 = c.as_slice-in-loop-answer.result.now in
    elim c.if-not-contains_key.branch [
      | then-not-contains_key+in_ok-insert w ↦
          ap (λ m. lookup (is_pair directory name) m.entries) w.found-is
          ∙ first_answer before (answer_model x) c.loop-answer.found.entries c.loop-answer.invariant d0 n0 c.as_slice.ensures c.as_slice-in-loop-answer.ensures w.insert.new.self.entries
          (sym c.contains_key.ensures ∙ w.if-not-contains_key.true)
          (λ d n. w.in_ok-insert.ensures.updates.0 (record { ref_ptr = (0, 0); now = d }, record { ref_ptr = (0, 0); now = n })) directory name
          ∙ told_more answers i x c.loop-answer-test.true c.answer-item.is directory name
      | else-not-contains_key w ↦
          ap (λ m. lookup (is_pair directory name) m.entries) w.found-is
          ∙ second_answer before (answer_model x) c.loop-answer.found.entries c.loop-answer.invariant d0 n0 c.as_slice.ensures c.as_slice-in-loop-answer.ensures
          (sym c.contains_key.ensures ∙ w.if-not-contains_key.false) directory name
          ∙ told_more answers i x c.loop-answer-test.true c.answer-item.is directory name
    ]

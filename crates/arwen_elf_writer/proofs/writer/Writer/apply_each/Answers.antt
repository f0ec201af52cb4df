-- The next batch, its answer and what it leaves go behind those before it.
use Rattle.std.proofs.Common.{◌≡◌, ◌+◌, List, [], ◌∷◌, ◌++◌, Result, take, ap, refl, sym, ◌∙◌, subst, arith}
use Rattle.std.proofs.lemmas.List.{map_more, take_all}
use Rattle.std.specs.declared.alloc.Global.{Global}
use Rattle.std.specs.declared.vec.Vec.{Vec}
use Rattle.elf_image.specs.Image.{Image}
use Rattle.elf_edits.specs.declared.edit.ElfEdit.{ElfEdit}
use Rattle.elf_edits.specs.Batch.{run}
use Rattle.elf_edits.specs.Edit.{Edit}
use Rattle.elf_apply.specs.declared.batch.ElfBatchError.{ElfBatchError}
use Rattle.elf_apply.specs.Taken.{AnswersAll, AnswersBatch, TakesBatch, batches_model, edits_model, left_upon, left_upon_all}
use Rattle.elf_apply.proofs.ForCallers.{answers_more, left_more, taken_is}
use Rattle.arwen_elf_writer.proofs.writer.Writer.apply_each.Goals as goal

pub loop-batch-preserved : goal.loop-batch-preserved
loop-batch-preserved c =
    let i = c.loop-batch.batch-index in
    let xs = c.args.batches.now in
    let batch = c.batch-item.result in
    let answer = c.apply-answer.result in
    let before = batches_model (take i xs) in
    let old = c.args.self.now in
    let edits = edits_model batch.items in
    let next : batches_model (take (i + 1) xs) ≡ before ++ (edits ∷ []) =
    map_more (λ (b : Vec ElfEdit Global). edits_model b.items) xs i batch (omega arith) ∙ ap (λ (b : Vec ElfEdit Global). before ++ (edits_model b.items ∷ [])) (sym c.batch-item.is) in
    let Takes : List ElfEdit → Type 0 = λ l. TakesBatch (edits_model l) c.loop-batch.self c.apply-answer.new.self answer in
    let taken = taken_is edits c.loop-batch.self c.apply-answer.new.self answer (subst Takes c.as_slice.ensures.value c.apply-answer.ensures.takes) in
    let here : c.loop-batch.self ≡ left_upon_all before c.loop-batch.answers.items old = c.loop-batch.invariant.left in
    let Answer : Image → Type 0 = λ image. AnswersBatch edits image answer in
    let Left : Image → Type 0 = λ image. c.apply-answer.new.self ≡ left_upon image (run edits image) answer in
    let all = answers_more before c.loop-batch.answers.items edits answer old c.loop-batch.invariant.answers (subst Answer here taken.0) in
    let left = subst Left here taken.1 ∙ sym (left_more before c.loop-batch.answers.items edits answer old c.loop-batch.invariant.answers) in
    let All : List (List Edit) → Type 0 = λ cs. AnswersAll cs (c.loop-batch.answers.items ++ (answer ∷ [])) old in
    let After : List (List Edit) → Type 0 = λ cs. c.apply-answer.new.self ≡ left_upon_all cs (c.loop-batch.answers.items ++ (answer ∷ [])) old in
    let Answers : List (Result (Unit {0}) ElfBatchError) → Type 0 = λ as'. AnswersAll (batches_model (take (i + 1) xs)) as' old in
    let Afters : List (Result (Unit {0}) ElfBatchError) → Type 0 = λ as'. c.apply-answer.new.self ≡ left_upon_all (batches_model (take (i + 1) xs)) as' old in
    let count = c.loop-batch.invariant.count in
    let room = c.loop-batch.invariant.room in
    record {
      count = omega arith;
      room = omega arith;
      answers = subst Answers (sym c.push_reserved.ensures.items) (subst All (sym next) all);
      left = subst Afters (sym c.push_reserved.ensures.items) (subst After (sym next) left);
    }

pub loop-batch-init : goal.loop-batch-init
loop-batch-init c =
    let none = c.in_ok-answers.ensures.items in
    let All : List (Result (Unit {0}) ElfBatchError) → Type 0 = λ answers. AnswersAll [] answers c.args.self.now in
    record { count = c.in_ok-answers.ensures.len; room = c.in_ok-answers.ensures.capacity; answers = subst All (sym none) tt; left = refl }

pub returns-clause-answers : goal.returns-clause-answers
returns-clause-answers c =
    let xs = c.args.batches.now in
    let Answered : List (Vec ElfEdit Global) → Type 0 = λ l. AnswersAll (batches_model l) c.loop-batch.answers.items c.args.self.now in
    subst Answered (take_all c.loop-batch.batch-index xs (omega arith)) c.loop-batch.invariant.answers

pub returns-clause-left : goal.returns-clause-left
returns-clause-left c =
    let xs = c.args.batches.now in
    let Left : List (Vec ElfEdit Global) → Type 0 = λ l. c.loop-batch.self ≡ left_upon_all (batches_model l) c.loop-batch.answers.items c.args.self.now in
    subst Left (take_all c.loop-batch.batch-index xs (omega arith)) c.loop-batch.invariant.left

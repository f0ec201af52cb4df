-- The next batch, its answer and what it leaves go behind those before it.
use Rattle.std.proofs.Common.{◌≡◌, ◌+◌, List, [], ◌∷◌, ◌++◌, Result, take, ap, refl, sym, ◌∙◌, subst, arith}
use Rattle.std.proofs.lemmas.List.{map_more, take_all}
use Rattle.std.specs.declared.alloc.Global.{Global}
use Rattle.std.specs.declared.vec.Vec.{Vec}
use Rattle.macho_edits.specs.declared.batch.MachoBatchError.{MachoBatchError}
use Rattle.macho_edits.specs.declared.batch.MachoEdit.{MachoEdit}
use Rattle.arwen_macho.specs.declared.macho.MachoType.{MachoType}
use Rattle.macho_edits.specs.Batch.{calls_of}
use Rattle.macho_edits.specs.Call.{Call}
use Rattle.arwen_macho.specs.Container.{AnswersAll, AnswersBatch, TakesBatch, all_calls, container_step, left_by, left_by_all}
use Rattle.arwen_macho.proofs.ContainerLaws.{answers_more, left_more, taken_is}
use Rattle.arwen_macho.proofs.macho.MachoContainer.apply_each.Goals as goal

pub loop-batch-preserved : goal.loop-batch-preserved
loop-batch-preserved c =
    let i = c.loop-batch.batch-index in
    let xs = c.args.batches.now in
    let batch = c.batch-item.result in
    let answer = c.apply-answer.result in
    let before = all_calls (take i xs) in
    let old = c.args.self.now in
    let calls = calls_of batch.items in
    let next : all_calls (take (i + 1) xs) ≡ before ++ (calls ∷ []) =
    map_more (λ (b : Vec MachoEdit Global). calls_of b.items) xs i batch (omega arith) ∙ ap (λ (b : Vec MachoEdit Global). before ++ (calls_of b.items ∷ [])) (sym c.batch-item.is) in
    let Takes : List MachoEdit → Type 0 = λ edits. TakesBatch (calls_of edits) c.loop-batch.self c.apply-answer.new.self answer in
    let taken = taken_is calls c.loop-batch.self c.apply-answer.new.self answer (subst Takes c.as_slice.ensures.value c.apply-answer.ensures.takes) in
    let here : c.loop-batch.self ≡ left_by_all before c.loop-batch.answers.items old = c.loop-batch.invariant.left in
    let Answer : MachoType → Type 0 = λ file. AnswersBatch calls file answer in
    let Left : MachoType → Type 0 = λ file. c.apply-answer.new.self ≡ left_by file (container_step calls file) answer in
    let all = answers_more before c.loop-batch.answers.items calls answer old c.loop-batch.invariant.answers (subst Answer here taken.0) in
    let left = subst Left here taken.1 ∙ sym (left_more before c.loop-batch.answers.items calls answer old c.loop-batch.invariant.answers) in
    let All : List (List Call) → Type 0 = λ cs. AnswersAll cs (c.loop-batch.answers.items ++ (answer ∷ [])) old in
    let After : List (List Call) → Type 0 = λ cs. c.apply-answer.new.self ≡ left_by_all cs (c.loop-batch.answers.items ++ (answer ∷ [])) old in
    let Answers : List (Result (Unit {0}) MachoBatchError) → Type 0 = λ as'. AnswersAll (all_calls (take (i + 1) xs)) as' old in
    let Afters : List (Result (Unit {0}) MachoBatchError) → Type 0 = λ as'. c.apply-answer.new.self ≡ left_by_all (all_calls (take (i + 1) xs)) as' old in
    let count = c.loop-batch.invariant.count in
    let room = c.loop-batch.invariant.room in
    record {
      count = omega arith;
      room = omega arith;
      answers = subst Answers (sym c.push_reserved.ensures.items) (subst All (sym next) all);
      left = subst Afters (sym c.push_reserved.ensures.items) (subst After (sym next) left);
    }

pub loop-batch-init : goal.loop-batch-init
loop-batch-init c =
    let none = c.in_ok-answers.ensures.items in
    let All : List (Result (Unit {0}) MachoBatchError) → Type 0 = λ answers. AnswersAll [] answers c.args.self.now in
    record { count = c.in_ok-answers.ensures.len; room = c.in_ok-answers.ensures.capacity; answers = subst All (sym none) tt; left = refl }

pub returns-clause-answers : goal.returns-clause-answers
returns-clause-answers c =
    let xs = c.args.batches.now in
    let Answered : List (Vec MachoEdit Global) → Type 0 = λ l. AnswersAll (all_calls l) c.loop-batch.answers.items c.args.self.now in
    subst Answered (take_all c.loop-batch.batch-index xs (omega arith)) c.loop-batch.invariant.answers

pub returns-clause-left : goal.returns-clause-left
returns-clause-left c =
    let xs = c.args.batches.now in
    let Left : List (Vec MachoEdit Global) → Type 0 = λ l. c.loop-batch.self ≡ left_by_all (all_calls l) c.loop-batch.answers.items c.args.self.now in
    subst Left (take_all c.loop-batch.batch-index xs (omega arith)) c.loop-batch.invariant.left

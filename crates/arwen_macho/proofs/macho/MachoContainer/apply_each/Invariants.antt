use Rattle.std.proofs.Common.{◌≡◌, ◌≤◌, length, take}
use Rattle.std.specs.Vec.{vec_capacity, vec_len}
use Rattle.arwen_macho.specs.Container.{AnswersAll, all_calls, left_by_all}
use Rattle.arwen_macho.proofs.macho.MachoContainer.apply_each.Given as goal

-- each batch so far has its answer, and the file is what they leave
abbrev pub invariant-loop-batch : goal.invariant-loop-batch
invariant-loop-batch l = record {
  count : vec_len l.answers ≡ l.batch-index;
  room : length l.batches ≤ vec_capacity l.answers;
  answers : AnswersAll (all_calls (take l.batch-index l.batches)) l.answers.items l.fn.self;
  left : l.self ≡ left_by_all (all_calls (take l.batch-index l.batches)) l.answers.items l.fn.self;
}

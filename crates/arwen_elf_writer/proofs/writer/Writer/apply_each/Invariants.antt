use Rattle.std.proofs.Common.{◌≡◌, ◌≤◌, length, take}
use Rattle.std.specs.Vec.{vec_capacity, vec_len}
use Rattle.elf_apply.specs.Taken.{AnswersAll, batches_model, left_upon_all}
use Rattle.arwen_elf_writer.proofs.writer.Writer.apply_each.Given as goal

-- each batch so far has its answer, and the image is what they leave
abbrev pub invariant-loop-batch : goal.invariant-loop-batch
invariant-loop-batch l = record {
  count : vec_len l.answers ≡ l.batch-index;
  room : length l.batches ≤ vec_capacity l.answers;
  answers : AnswersAll (batches_model (take l.batch-index l.batches)) l.answers.items l.fn.self;
  left : l.self ≡ left_upon_all (batches_model (take l.batch-index l.batches)) l.answers.items l.fn.self;
}

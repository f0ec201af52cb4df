use Rattle.std.proofs.Common.{◌≡◌, ℕ, List, map, take, option_map}
use Rattle.std.specs.List.{find}
use Rattle.std.specs.Map.{lookup}
use Rattle.elf_edits_shrink.specs.ShrinkModel.{answer_model}
use Rattle.elf_edits.specs.Shrunk.{is_answer_for}
use Rattle.elf_edits_shrink.specs.ShrinkModel.{is_pair}
use Rattle.elf_edits_shrink.proofs.search.answers_by_pair.Given as goal

-- the map has the first of the answers so far for each pair
abbrev pub invariant-loop-answer : goal.invariant-loop-answer
invariant-loop-answer l = (directory name : List ℕ) → lookup (is_pair directory name) l.found.entries ≡ option_map (λ a. a.machine) (find (is_answer_for directory name) (map answer_model (take l.answer-index l.answers)))

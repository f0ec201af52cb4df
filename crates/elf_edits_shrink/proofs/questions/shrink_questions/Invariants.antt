use Rattle.std.proofs.Common.{◌≡◌, map, take}
use Rattle.elf_image.specs.ImageModel.{entry_model}
use Rattle.elf_edits.specs.Entries.{run_paths}
use Rattle.elf_edits_shrink.specs.Questions.{questions_of}
use Rattle.elf_edits_shrink.specs.ShrinkModel.{pair_lent}
use Rattle.elf_edits_shrink.proofs.questions.shrink_questions.Given as goal

-- the questions of the entries so far
abbrev pub invariant-loop-entry : goal.invariant-loop-entry
invariant-loop-entry l = map pair_lent l.made.items ≡ questions_of (map (λ x. x.now) l.needed.items) (run_paths (map entry_model (take l.entry-index l.entries)))

use Rattle.std.proofs.Common.{take}
use Rattle.elf_edits.specs.Decided.{all_edited}
use Rattle.elf_apply.specs.Drafted.{OnlyShows}
use Rattle.elf_apply.specs.Taken.{edits_model}
use Rattle.elf_apply.proofs.steps.draft_of.Given as goal

-- the edits so far are written
abbrev pub invariant-loop-edit : goal.invariant-loop-edit
invariant-loop-edit l = OnlyShows l.builder (all_edited (edits_model (take l.edit-index l.edits)) l.builder) l.draft

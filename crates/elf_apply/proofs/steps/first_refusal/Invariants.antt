use Rattle.std.proofs.Common.{◌≡◌, drop}
use Rattle.elf_edits.specs.Decided.{first_refusal}
use Rattle.elf_edits.specs.Facts.{facts_model}
use Rattle.elf_apply.specs.Taken.{edits_model}
use Rattle.elf_apply.proofs.steps.first_refusal.Given as goal

-- the first refused edit of those that are left is that of all
abbrev pub invariant-loop-index : goal.invariant-loop-index
invariant-loop-index l = first_refusal (facts_model l.facts) l.index (edits_model (drop l.index l.edits)) ≡ first_refusal (facts_model l.facts) 0 (edits_model l.edits)

use Rattle.std.proofs.Common.{◌≡◌, map, string_bytes, take}
use Rattle.elf_edits_shrink.specs.ShrinkModel.{removal_model}
use Rattle.elf_commands_edits.specs.Shrinking.{removal_lines}
use Rattle.elf_commands_edits.proofs.probing.removal_text_of.Given as goal

-- the lines of those that were gone over
abbrev pub invariant-loop-one : goal.invariant-loop-one
invariant-loop-one l = string_bytes l.text ≡ removal_lines (map removal_model (take l.one-index l.removed))

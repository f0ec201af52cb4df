use Rattle.std.proofs.Common.{◌-◌}
use Rattle.patch_bytes.specs.Memory.{memory_of}
use Rattle.elf_image_versions.proofs.WalkSteps.{WalkLeft}
use Rattle.elf_image_versions.proofs.chain.walk.Given as goal

-- what was walked so far, and what is left of the walk
abbrev pub invariant-loop-i : goal.invariant-loop-i
invariant-loop-i g l = WalkLeft (g.R.ChainRecord.step_at l.form (memory_of l.bytes)) l.count l.start l.values.items (l.count - l.i) l.place

use Rattle.std.proofs.Common.{length}
use Rattle.elf_image_rules.specs.LinkSteps.{names_below_limit}
use Rattle.elf_format.specs.Records.{relocation}
use Rattle.elf_image_rules.proofs.KindSteps.{Counting}
use Rattle.elf_image_rules.proofs.linked.good_count.Given as goal

-- so many relocations have passed so far
abbrev pub invariant-loop-rest : goal.invariant-loop-rest
invariant-loop-rest l = Counting (names_below_limit l.limit) (relocation l.form l.kind) l.size l.bytes l.rest l.count

abbrev pub decreases-loop-rest : goal.decreases-loop-rest
decreases-loop-rest l = length l.rest

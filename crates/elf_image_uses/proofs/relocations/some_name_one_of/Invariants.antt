use Rattle.std.proofs.Common.{◌≡◌, length}
use Rattle.elf_format.specs.Records.{relocation}
use Rattle.elf_image_uses.specs.Steps.{names_one_of}
use Rattle.elf_image_uses.proofs.RecordSteps.{any_record}
use Rattle.elf_image_uses.proofs.relocations.some_name_one_of.Given as goal

-- none of the relocations so far names a symbol of these, so the rest decides
abbrev pub invariant-loop-rest : goal.invariant-loop-rest
invariant-loop-rest l =
    any_record (names_one_of l.numbers) (relocation l.form l.kind) l.size l.rest ≡ any_record (names_one_of l.numbers) (relocation l.form l.kind) l.size l.content

abbrev pub decreases-loop-rest : goal.decreases-loop-rest
decreases-loop-rest l = length l.rest

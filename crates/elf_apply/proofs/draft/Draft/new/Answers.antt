use Rattle.elf_apply.proofs.DraftLaws.{nothing_written}
use Rattle.elf_apply.proofs.draft.Draft.new.Goals as goal

pub returns : goal.returns
returns c = λ image. nothing_written image

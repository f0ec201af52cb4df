-- What is held is picked.
use Rattle.std.proofs.Common.{subst}
use Rattle.elf_image_symbols.specs.EditedList.{ArePicked}
use Rattle.elf_image_symbols.proofs.EditedLaws.{are_picked}
use Rattle.elf_image_symbols.proofs.edited_symbols.EditedSymbols.read.Goals as goal

pub returns-clause-picked : goal.returns-clause-picked
returns-clause-picked c = subst ArePicked c.self.view_is (are_picked c.self.inside c.self.invariant)

-- The sections and both lists of symbols.
use Rattle.std.proofs.Common.{sym, map}
use Rattle.elf_image.specs.ImageModel.{section_model}
use Rattle.elf_image.specs.SymbolsRead.{lists_read}
use Rattle.elf_image_versions.specs.Read.{parts_model}
use Rattle.elf_image_versions.proofs.ForCallers.KeptSteps.{none_found}
use Rattle.elf_image.proofs.SymbolLists.{named_missing, named_there}
use Rattle.elf_image.proofs.read.named_parts.Goals as goal

pub returns-in_default-clause-named : goal.returns-in_default-clause-named
returns-in_default-clause-named c =
    named_missing (parts_model c.args.parts.now) (map section_model c.in_ok-sections.sections.items) c.in_ok-sections.ensures
    (sym (none_found c.symbol_lists.result (lists_read (parts_model c.args.parts.now)) c.in_default.not-Some c.symbol_lists.ensures))

pub returns-clause-named : goal.returns-clause-named
returns-clause-named c =
    named_there (parts_model c.args.parts.now) (map section_model c.in_ok-sections.sections.items) c.in_ok-sections.ensures c.in-Some.lists (sym c.in-Some.ensures)

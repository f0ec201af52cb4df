use Rattle.std.proofs.Common.{map, []}
use Rattle.elf_image.specs.ImageModel.{definition_model}
use Rattle.elf_tables.specs.VersionRecords.{definition_size, placed_definition, spelled_definition}
use Rattle.elf_tables.specs.VersionSteps.{DefinitionFits}
use Rattle.elf_tables.proofs.ChainingSteps.{Chaining}
use Rattle.elf_tables.proofs.versions.build_verdef.Given as goal

abbrev pub invariant-loop-i : goal.invariant-loop-i
invariant-loop-i l = Chaining (spelled_definition l.order) definition_size DefinitionFits [] (map (placed_definition l.names) (map definition_model l.records)) l.i l.bytes.items

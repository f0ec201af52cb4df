use Rattle.std.proofs.Common.{map}
use Rattle.elf_image.specs.ImageModel.{name_model}
use Rattle.elf_tables.specs.VersionRecords.{placed_name, spelled_need_name}
use Rattle.elf_tables.specs.VersionSteps.{NameFits}
use Rattle.elf_tables.proofs.ChainingSteps.{Chaining}
use Rattle.elf_tables.proofs.needs.push_need_names.Given as goal

abbrev pub invariant-loop-i : goal.invariant-loop-i
invariant-loop-i l = Chaining (spelled_need_name l.order) (λ v. 16) NameFits l.initial.bytes.items (map (placed_name l.table) (map name_model l.versions)) l.i l.bytes.items

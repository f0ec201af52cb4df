use Rattle.std.proofs.Common.{map, []}
use Rattle.elf_image.specs.ImageModel.{needs_model}
use Rattle.elf_tables.specs.VersionRecords.{needs_size, placed_needs, spelled_needs}
use Rattle.elf_tables.specs.VersionSteps.{NeedsFit}
use Rattle.elf_tables.proofs.ChainingSteps.{Chaining}
use Rattle.elf_tables.proofs.needs.build_verneed.Given as goal

abbrev pub invariant-loop-i : goal.invariant-loop-i
invariant-loop-i l = Chaining (spelled_needs l.order) needs_size NeedsFit [] (map (placed_needs l.names) (map needs_model l.records)) l.i l.bytes.items

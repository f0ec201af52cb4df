use Rattle.std.proofs.Common.{ℕ, ◌<◌, ◌^◌, map}
use Rattle.patch_bytes.specs.ByteString.{bytes_of_each}
use Rattle.elf_tables.specs.VersionRecords.{place_in, spelled_definition_name}
use Rattle.elf_tables.proofs.ChainingSteps.{Chaining}
use Rattle.elf_tables.proofs.versions.push_names.Given as goal

abbrev pub invariant-loop-i : goal.invariant-loop-i
invariant-loop-i l = Chaining (spelled_definition_name l.order) (λ name. 8) (λ (place : ℕ). place < 2 ^ 32) l.initial.bytes.items (map (place_in l.table) (bytes_of_each l.names)) l.i l.bytes.items

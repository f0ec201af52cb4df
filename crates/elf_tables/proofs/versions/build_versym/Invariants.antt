use Rattle.std.proofs.Common.{◌≡◌, false, take}
use Rattle.std.specs.List.{list_any}
use Rattle.elf_tables.specs.VersionRecords.{fields, is_index_too_large, version_fields}
use Rattle.elf_tables.proofs.versions.build_versym.Given as goal

abbrev pub invariant-loop-id : goal.invariant-loop-id
invariant-loop-id l = record {
  made : l.bytes.items ≡ fields l.order (version_fields (take l.id-index l.ids));
  small : list_any is_index_too_large (take l.id-index l.ids) ≡ false;
}

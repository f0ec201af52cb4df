use Rattle.std.proofs.Common.{◌≡◌, ◌++◌, map, take}
use Rattle.elf_tables.specs.Fields.{field_model, fields}
use Rattle.elf_tables.proofs.fields.push_fields.Given as goal

abbrev pub invariant-loop-field : goal.invariant-loop-field
invariant-loop-field l = l.bytes.items ≡ l.initial.bytes.items ++ fields l.order (map field_model (take l.field-index l.numbers))

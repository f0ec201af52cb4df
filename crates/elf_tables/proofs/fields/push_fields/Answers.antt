-- One more number is appended.
use Rattle.std.proofs.Common.{arith}
use Rattle.elf_tables.specs.declared.fields.Field.TheVariants.{Byte}
use Rattle.elf_tables.specs.Fields.{field_model}
use Rattle.elf_tables.proofs.FieldLaws.{fields_more}
use Rattle.elf_tables.proofs.fields.push_fields.Goals as goal

pub loop-field-preserved : goal.loop-field-preserved
loop-field-preserved c =
    fields_more field_model c.args.order c.args.bytes.now.items c.loop-field.bytes.items c.push_field.new.bytes.items c.args.numbers.now c.loop-field.field-index (Byte 0) (omega arith)
    c.loop-field.invariant c.in_ok-push_field.ensures

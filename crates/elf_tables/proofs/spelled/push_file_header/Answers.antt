-- The numbers behind the identification follow it.
use Rattle.std.proofs.Common.{◌≡◌, ◌++◌, OnOk, ap, ◌∙◌, subst}
use Rattle.elf_tables.specs.Fields.{fields}
use Rattle.elf_tables.specs.Spelled.{header_fields, identification_fields}
use Rattle.elf_tables.proofs.FieldLaws.{both_pushed}
use Rattle.elf_tables.proofs.spelled.push_file_header.Goals as goal

pub returns : goal.returns
returns c =
    let items = c.args.bytes.now.items in
    let was = c.push_fields.new.bytes.items in
    let order = c.args.form.order in
    let first : was ≡ items ++ fields order (identification_fields c.args.form c.args.header) =
    c.in_ok-push_fields.ensures ∙ ap (λ fs. items ++ fields order fs) c.identification.ensures in
    let second : OnOk c.push_fields-2.result (c.push_fields-2.new.bytes.items ≡ was ++ fields order (header_fields c.args.form c.args.header)) =
    subst (λ fs. OnOk c.push_fields-2.result (c.push_fields-2.new.bytes.items ≡ was ++ fields order fs)) c.header_numbers.ensures c.push_fields-2.ensures in
    both_pushed order items was c.push_fields-2.new.bytes.items (identification_fields c.args.form c.args.header) (header_fields c.args.form c.args.header) c.push_fields-2.result first second

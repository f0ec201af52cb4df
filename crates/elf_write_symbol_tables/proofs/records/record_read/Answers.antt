-- The record begins in the bytes; numbers that are read from bytes fit.
use Rattle.std.proofs.Common.{◌≡◌, ◌≤◌, ◌∙◌, ◌*◌, ℕ, List, Some, length, sym, ap, arith}
use Rattle.patch_bytes.specs.Bytes.{AreBytes}
use Rattle.patch_bytes.specs.Number.{field}
use Rattle.elf_format.specs.declared.form.Form.{Form}
use Rattle.elf_format.specs.declared.records.SymbolNumbers.{SymbolNumbers}
use Rattle.elf_format.specs.Records.{symbol_numbers, symbol_size}
use Rattle.elf_tables.specs.Fields.{do_fields_fit}
use Rattle.elf_tables.specs.Spelled.{symbol_fields}
use Rattle.elf_write_symbol_tables.proofs.Fits.{record_begins, record_fits, symbol_at}
use Rattle.elf_write_symbol_tables.proofs.Spelled.{symbol_size-positive}
use Rattle.elf_write_symbol_tables.proofs.records.record_read.Goals as goal

pub overflow_mul-number : goal.overflow_mul-number
overflow_mul-number c =
    let form : Form = c.args.image.now.form in
    let size : c.symbol_size-size.result ≡ symbol_size form = c.symbol_size-size.ensures.value ∙ ap symbol_size c.form-form.ensures in
    let begins : c.args.number * symbol_size form ≤ length c.args.content.now =
    record_begins form c.args.content.now c.args.number (symbol_size-positive form) c.requires in
    let same : c.args.number * c.symbol_size-size.result ≡ c.args.number * symbol_size form = ap (λ (n : ℕ). c.args.number * n) size in
    grind arith

-- the numbers that are read are those of the record
is_read : (form own : Form) (content part : List ℕ) (number size : ℕ) (result : SymbolNumbers) → own ≡ form → size ≡ symbol_size own
    → part ≡ field size (number * size) content → result ≡ symbol_numbers own part
    → result ≡ symbol_numbers form (field (symbol_size form) (number * symbol_size form) content)
is_read form own content part number size result same sized there is =
    is ∙ ap (symbol_numbers own) there
    ∙ ap (λ (n : ℕ). symbol_numbers own (field n (number * n) content)) sized
    ∙ ap (λ (f : Form). symbol_numbers f (field (symbol_size f) (number * symbol_size f) content)) same

pub returns-clause-record : goal.returns-clause-record
returns-clause-record c =
    let form : Form = c.args.image.now.form in
    symbol_at form c.args.content.now c.args.number c.requires
    ∙ ap (λ (n : SymbolNumbers). Some n) (sym (is_read form c.form-form.result c.args.content.now c.part.result.now c.args.number c.symbol_size-size.result
    c.read_symbol_numbers.result c.form-form.ensures c.symbol_size-size.ensures.value c.part.ensures c.read_symbol_numbers.ensures))

pub returns-clause-fits : goal.returns-clause-fits
returns-clause-fits c =
    let form : Form = c.args.image.now.form in
    let are : AreBytes c.args.content.now = record { each = λ i. omega (arith, c.type_inv.content i) } in
    ap (λ (n : SymbolNumbers). do_fields_fit (symbol_fields form n)) (is_read form c.form-form.result c.args.content.now c.part.result.now c.args.number
    c.symbol_size-size.result c.read_symbol_numbers.result c.form-form.ensures c.symbol_size-size.ensures.value c.part.ensures c.read_symbol_numbers.ensures)
    ∙ record_fits form c.args.content.now (c.args.number * symbol_size form) are

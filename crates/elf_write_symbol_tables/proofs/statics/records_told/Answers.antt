-- Each record shows its symbol, and fits.
use Rattle.std.proofs.Common.{◌≡◌, ◌≤◌, ◌++◌, List, true, length, sym, ap, ◌∙◌, subst, arith}
use Rattle.elf_format.specs.declared.form.Form.{Form}
use Rattle.elf_format.specs.Views.{NamedSymbol}
use Rattle.elf_tables.specs.Fields.{do_fields_fit}
use Rattle.elf_tables.specs.Spelled.{spelled_symbol, symbol_fields}
use Rattle.elf_write_symbols.specs.Final.{final}
use Rattle.elf_write_symbols.proofs.ForCallers.ReadyFacts.{facts}
use Rattle.elf_write_symbol_tables.proofs.Spelled.{all_spelled, more_spelled, none_spelled}
use Rattle.elf_write_symbol_tables.proofs.SymbolsShown.{static_long}
use Rattle.elf_write_symbol_tables.proofs.statics.records_told.Goals as goal

pub push_symbol-requires : goal.push_symbol-requires
push_symbol-requires c =
    subst (λ (form : Form). do_fields_fit (symbol_fields form c.told_record-numbers.result) ≡ true) (sym c.form-form.ensures) c.told_record-numbers.ensures.fits

pub loop-i-init : goal.loop-i-init
loop-i-init c =
    none_spelled c.args.image.now.form c.args.made.now.table.bytes (final c.args.read.now c.args.image.now).symbols c.in_ok-bytes.bytes.items c.in_ok-bytes.ensures.items

pub loop-i-preserved : goal.loop-i-preserved
loop-i-preserved c =
    more_spelled c.args.image.now.form c.args.made.now.table.bytes (final c.args.read.now c.args.image.now).symbols c.loop-i.i c.loop-i.bytes.items
    c.push_symbol.new.bytes.items c.told_record-numbers.result c.loop-i.invariant c.told_record-numbers.ensures
    (c.in_ok-push_symbol.ensures
    ∙ ap (λ (form : Form). c.loop-i.bytes.items ++ spelled_symbol form c.told_record-numbers.result) c.form-form.ensures)

pub returns : goal.returns
returns c =
    let ys : List NamedSymbol = (final c.args.read.now c.args.image.now).symbols in
    let past : length ys ≤ c.loop-i.i =
    omega (
      arith,
      c.loop-i-test.false,
      c.len-count.ensures,
      ap length c.symbols.ensures.symbols,
      static_long c.args.read.now c.args.image.now (facts c.args.read.now c.args.image.now c.requires.ready),
    ) in
    all_spelled c.args.image.now.form c.args.made.now.table.bytes ys c.loop-i.i c.loop-i.bytes.items past c.loop-i.invariant

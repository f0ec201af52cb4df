-- The binding of the symbol that stands there.
use Rattle.std.proofs.Common.{◌/◌, Some, ap, ◌∙◌}
use Rattle.std.specs.Prelude.{◌==◌, option_map, slice_get}
use Rattle.elf_format.specs.declared.records.SymbolNumbers.{SymbolNumbers}
use Rattle.elf_write_symbol_tables.proofs.ForCallers.SymbolSteps.{with_part}
use Rattle.elf_write_symbol_tables.specs.Found.{is_local}
use Rattle.elf_image_symbols.specs.Loan.{symbols_now}
use Rattle.elf_write_symbol_tables.specs.TableSymbols.{symbol_with}
use Rattle.elf_write_contents.proofs.headers.is_local.Goals as goal

pub returns : goal.returns
returns c =
    let (y, at, numbers) = with_part (symbol_with 0) (slice_get (symbols_now c.args.symbols) c.args.i) c.numbers.result c.numbers.ensures in
    ap (option_map is_local) at ∙ ap (λ (n : SymbolNumbers). Some (n.st_info / 16 == 0)) numbers

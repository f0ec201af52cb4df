-- Where there is no version to clear, the symbol is as it was.
use Rattle.elf_image_symbols.specs.Loan.{symbols_now}
use Rattle.elf_edits.proofs.SymbolSteps.{none_cleared, one_cleared}
use Rattle.elf_edits.proofs.symbols.clear.Goals as goal

pub returns-then-has_version : goal.returns-then-has_version
returns-then-has_version c =
    one_cleared c.args.name.now c.args.edited.now c.clear_version.new.self (symbols_now c.lend.result) c.args.i c.has_version.result c.lend.ensures.symbols c.has_version.ensures c.if-has_version.true c.clear_version.ensures

pub returns-else-has_version : goal.returns-else-has_version
returns-else-has_version c =
    none_cleared c.args.name.now c.args.edited.now (symbols_now c.lend.result) c.args.i c.has_version.result c.lend.ensures.symbols c.has_version.ensures c.if-has_version.false

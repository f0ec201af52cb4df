-- A first one is found.
use Rattle.std.proofs.Common.{◌∙◌}
use Rattle.elf_image_symbols.specs.Loan.{symbols_now}
use Rattle.elf_edits.proofs.SymbolSteps.{any_found}
use Rattle.elf_edits.proofs.symbols.SymbolChange.is_about_any.Goals as goal

pub returns : goal.returns
returns c = c.is_some.ensures ∙ any_found c.args.self.now (symbols_now c.args.symbols.now) c.find_first.result c.find_first.ensures

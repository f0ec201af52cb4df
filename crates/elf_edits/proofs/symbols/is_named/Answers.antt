-- The names are compared the other way round.
use Rattle.std.proofs.Common.{◌∙◌}
use Rattle.elf_image_symbols.specs.Loan.{symbols_now}
use Rattle.elf_edits.proofs.SymbolSteps.{named_among}
use Rattle.elf_edits.proofs.symbols.is_named.Goals as goal

pub returns : goal.returns
returns c = c.is_about_any.ensures ∙ named_among c.args.name.now (symbols_now c.args.symbols.now)

-- The numbers are those that were read.
use Rattle.std.proofs.Common.{ℕ, Some, ap, ◌∙◌}
use Rattle.std.specs.Prelude.{option_map}
use Rattle.elf_format.specs.declared.records.SymbolNumbers.{SymbolNumbers}
use Rattle.elf_image_symbols.specs.TableSymbols.{symbol_with}
use Rattle.elf_image_symbols.proofs.SymbolLaws.{now-numbers, read_part}
use Rattle.elf_image_symbols.proofs.EditedLaws.{number_below, symbol_is}
use Rattle.elf_image_symbols.proofs.symbols_now.SymbolsNow.numbers.Goals as goal

pub numbers-requires : goal.numbers-requires
numbers-requires c =
    number_below c.edited.inside c.edited.invariant c.args.self.now.edited.now c.edited.view_is c.args.i c.number_at.result c.number_at.ensures

pub returns : goal.returns
returns c =
    let s = c.edited.inside in
    let e = c.args.self.now.edited.now in
    let n : ℕ = c.number_at.result in
    let below = number_below s c.edited.invariant e c.edited.view_is c.args.i n c.number_at.ensures in
    ap (option_map (symbol_with c.args.st_name)) (symbol_is s c.edited.invariant e c.edited.view_is c.args.i n c.number_at.ensures)
    ∙ ap (λ (r : SymbolNumbers). Some r) (now-numbers s.table s.changes.items n c.args.st_name ∙ read_part (symbol_with c.args.st_name) s.table n c.numbers.result below c.numbers.ensures)

-- The numbers of the symbol that stands there.
use Rattle.std.proofs.Common.{◌/◌, Bool, Some, ap, eq-eqb, sym, ◌∙◌}
use Rattle.std.specs.Prelude.{◌==◌, ◌&&◌, not, option_map, slice_get}
use Rattle.std.proofs.lemmas.Bool.{ne_eqb}
use Rattle.elf_format.specs.declared.records.SymbolNumbers.{SymbolNumbers}
use Rattle.elf_image_symbols.specs.Loan.{symbols_now}
use Rattle.elf_image_symbols.specs.TableSymbols.{symbol_with}
use Rattle.elf_layout_plan.specs.Sizes.{is_found}
use Rattle.elf_layout_sizes.proofs.SymbolSteps.{with_part}
use Rattle.elf_layout_sizes.proofs.tables.is_found.Goals as goal

pub returns-then-numbers-ne0 : goal.returns-then-numbers-ne0
returns-then-numbers-ne0 c =
    let (y, at, numbers) = with_part (symbol_with 0) (slice_get (symbols_now c.args.symbols) c.args.i) c.numbers-numbers.result c.numbers-numbers.ensures in
    ap (option_map is_found) at
    ∙ ap (λ (n : SymbolNumbers). Some (not (n.st_shndx == 0) && not (n.st_info / 16 == 0))) numbers
    ∙ ap (λ (b : Bool). Some (not b && not (c.numbers-numbers.result.st_info / 16 == 0))) (ne_eqb c.numbers-numbers.result.st_shndx 0 c.if-numbers-ne0.true)

pub returns-else-numbers-ne0 : goal.returns-else-numbers-ne0
returns-else-numbers-ne0 c =
    let (y, at, numbers) = with_part (symbol_with 0) (slice_get (symbols_now c.args.symbols) c.args.i) c.numbers-numbers.result c.numbers-numbers.ensures in
    ap (option_map is_found) at
    ∙ ap (λ (n : SymbolNumbers). Some (not (n.st_shndx == 0) && not (n.st_info / 16 == 0))) numbers
    ∙ ap (λ (b : Bool). Some (not b && not (c.numbers-numbers.result.st_info / 16 == 0))) (eq-eqb c.numbers-numbers.result.st_shndx 0 c.if-numbers-ne0.false)
    ∙ sym (ap (λ (b : Bool). Some (not b)) (eq-eqb c.numbers-numbers.result.st_shndx 0 c.if-numbers-ne0.false))

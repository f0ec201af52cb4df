-- The numbers that its record shows.
use Rattle.std.proofs.Common.{◌≡◌, Some, ap, sym, ◌∙◌}
use Rattle.std.specs.Prelude.{option_map}
use Rattle.elf_format.specs.declared.records.SymbolNumbers.{SymbolNumbers}
use Rattle.elf_format.specs.Records.{symbol_numbers}
use Rattle.elf_image_symbols.specs.TableSymbols.{kept_as, symbol_with}
use Rattle.elf_image_symbols.proofs.SeenSteps.{numbers_of, seen_at, version_of, within}
use Rattle.elf_image_symbols.proofs.symbols.Symbols.numbers.Goals as goal

pub record_at-requires : goal.record_at-requires
record_at-requires c = within c.self.inside c.self.invariant c.args.self.now c.self.view_is c.args.i c.requires

pub returns : goal.returns
returns c =
    let (y, at, shows) = seen_at c.self.inside c.self.invariant c.args.self.now c.self.view_is c.args.i c.requires in
    let read : c.read_symbol_numbers-numbers.result ≡ numbers_of c.self.inside c.args.i =
    c.read_symbol_numbers-numbers.ensures ∙ ap (symbol_numbers c.self.inside.form) c.record_at.ensures in
    ap (option_map (symbol_with c.args.st_name)) at
    ∙ ap (λ z. Some (symbol_with c.args.st_name z)) (sym shows.kept)
    ∙ ap (λ (n : SymbolNumbers). Some (symbol_with c.args.st_name (kept_as n (version_of c.self.inside c.args.i) y.name))) (sym read)

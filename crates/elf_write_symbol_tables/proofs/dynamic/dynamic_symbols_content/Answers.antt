use Rattle.std.proofs.Common.{◌≡◌, ◌∙◌, ◌*◌, ℕ, length, ap}
use Rattle.elf_format.specs.Records.{symbol_size, symbols_in}
use Rattle.elf_write_symbols.specs.Contents.{AreSymbolsOf}
use Rattle.elf_write_symbols.specs.Final.{final}
use Rattle.elf_write_strings.specs.WrittenStrings.{strings_at}
use Rattle.elf_write_strings.proofs.ForCallers.Results.{if_ok}
use Rattle.elf_write_symbols.proofs.ForCallers.ReadyFacts.{facts}
use Rattle.elf_write_symbol_tables.specs.SymbolSteps.{ShowsSymbols}
use Rattle.elf_write_symbol_tables.proofs.SymbolsShown.{dynamic_long}
use Rattle.elf_write_symbol_tables.proofs.dynamic.dynamic_symbols_content.Goals as goal

pub returns-clause-sized : goal.returns-clause-sized
returns-clause-sized c =
    let read = c.args.read.now in
    let image = c.args.image.now in
    if_ok c.symbols_content.result
    (λ v. ShowsSymbols image.form (strings_at image c.args.made.now c.args.section.now.sh_link) (final read image).dynamic_symbols v.bytes)
    (λ v. length v.bytes ≡ length image.dynamic_symbols * symbol_size image.form)
    (λ v shows. shows.sized ∙ ap (λ (n : ℕ). n * symbol_size image.form) (dynamic_long read image (facts read image c.requires.ready)))
    c.symbols_content.ensures

pub returns-clause-symbols : goal.returns-clause-symbols
returns-clause-symbols c =
    let image = c.args.image.now in
    let strings = strings_at image c.args.made.now c.args.section.now.sh_link in
    let finals = (final c.args.read.now image).dynamic_symbols in
    if_ok c.symbols_content.result (λ v. ShowsSymbols image.form strings finals v.bytes)
    (λ v. AreSymbolsOf strings finals (symbols_in image.form v.bytes)) (λ v shows. shows.symbols) c.symbols_content.ensures

-- The strings are those that are told, or those that were read.
use Rattle.std.proofs.Common.{ℕ, List, sym, subst}
use Rattle.patch_bytes.specs.ByteString.{StringValue}
use Rattle.elf_image.specs.ImageModel.{section_model}
use Rattle.elf_write_symbols.specs.Final.{final}
use Rattle.elf_write_strings.specs.WrittenStrings.{content_read, strings_at}
use Rattle.elf_write_strings.proofs.ForCallers.Results.{if_ok}
use Rattle.elf_write_strings.proofs.ForCallers.VersionsShown.{number_found, strings_copied, strings_made}
use Rattle.elf_write_symbol_tables.specs.SymbolSteps.{ShowsSymbols}
use Rattle.elf_write_symbol_tables.proofs.SymbolsStay.{dynamic_same}
use Rattle.elf_write_symbol_tables.proofs.dynamic.symbols_content.Goals as goal

pub content_as_named-requires-clause-same : goal.content_as_named-requires-clause-same
content_as_named-requires-clause-same c =
    dynamic_same c.args.read.now c.args.image.now c.requires.ready c.args.made.now c.requires.strings (section_model c.args.section.now) c.requires.at
    c.in-None.ensures.none

pub records_told-requires-clause-told : goal.records_told-requires-clause-told
records_told-requires-clause-told c = c.requires.strings.told c.args.section.now.sh_link c.in-Some.table.now c.in-Some.ensures.some

pub records_told-requires-clause-linked : goal.records_told-requires-clause-linked
records_told-requires-clause-linked c = number_found c.args.made.now c.args.section.now.sh_link c.in-Some.table.now c.in-Some.ensures.some

pub returns-in-None : goal.returns-in-None
returns-in-None c =
    let image = c.args.image.now in
    let finals = (final c.args.read.now image).dynamic_symbols in
    let strings = λ (v : StringValue) (l : List ℕ). ShowsSymbols image.form l finals v.bytes in
    if_ok c.content_as_named.result (λ v. strings v (content_read image c.args.section.now.sh_link))
    (λ v. strings v (strings_at image c.args.made.now c.args.section.now.sh_link))
    (λ v shows. subst (strings v) (strings_copied image c.args.made.now c.args.section.now.sh_link c.in-None.ensures.none) shows)
    c.content_as_named.ensures

pub returns-in_ok-bytes-in-Some : goal.returns-in_ok-bytes-in-Some
returns-in_ok-bytes-in-Some c =
    let image = c.args.image.now in
    let finals = (final c.args.read.now image).dynamic_symbols in
    subst (λ (v : StringValue). ShowsSymbols image.form (strings_at image c.args.made.now c.args.section.now.sh_link) finals v.bytes)
    (sym c.owned.ensures)
    (subst (λ (l : List ℕ). ShowsSymbols image.form l finals c.in_ok-bytes-in-Some.bytes.items)
    (strings_made image c.args.made.now c.args.section.now.sh_link c.in-Some.table.now c.in-Some.ensures.some) c.in_ok-bytes-in-Some.ensures)

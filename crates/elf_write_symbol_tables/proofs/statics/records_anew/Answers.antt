-- The strings are those that are told, or those that were read.
use Rattle.std.proofs.Common.{◌≡◌, ◌∙◌, ℕ, List, Some, sym, ap, subst}
use Rattle.elf_format.specs.declared.constants.TheConstants.{SHT_SYMTAB}
use Rattle.elf_image.specs.ImageModel.{section_model}
use Rattle.elf_image.specs.Kept.{link_of_type}
use Rattle.elf_write_symbols.specs.Final.{final}
use Rattle.elf_write_strings.specs.WrittenStrings.{content_read, strings_at}
use Rattle.elf_write_strings.proofs.ForCallers.Results.{if_ok}
use Rattle.elf_write_strings.proofs.ForCallers.VersionsShown.{number_found, strings_copied, strings_made}
use Rattle.elf_write_symbol_tables.specs.SymbolSteps.{ShowsSymbols}
use Rattle.elf_write_symbol_tables.proofs.NamesTold.{statics_told}
use Rattle.elf_write_symbol_tables.proofs.SymbolsStay.{static_left}
use Rattle.elf_write_symbol_tables.proofs.TablesRead.{static_link}
use Rattle.elf_write_symbol_tables.proofs.statics.records_anew.Goals as goal

pub records_as_named-requires-clause-same : goal.records_as_named-requires-clause-same
records_as_named-requires-clause-same c =
    static_left c.args.read.now c.args.image.now c.requires.ready c.args.made.now c.requires.strings (section_model c.args.section.now) c.requires.at
    c.in-None.ensures.none

pub records_told-requires-clause-told : goal.records_told-requires-clause-told
records_told-requires-clause-told c = c.requires.strings.told c.args.section.now.sh_link c.in-Some.table.now c.in-Some.ensures.some

pub records_told-requires-clause-named : goal.records_told-requires-clause-named
records_told-requires-clause-named c =
    let number : ℕ = c.args.section.now.sh_link in
    let image = c.args.image.now in
    let link : link_of_type SHT_SYMTAB image ≡ Some c.in-Some.table.now.number =
    static_link c.args.read.now image c.requires.ready (section_model c.args.section.now) c.requires.at
    ∙ ap (λ (n : ℕ). Some n) (sym (number_found c.args.made.now number c.in-Some.table.now c.in-Some.ensures.some)) in
    statics_told c.args.read.now image c.in-Some.table.now (c.requires.strings.told number c.in-Some.table.now c.in-Some.ensures.some) link

pub returns-in-None : goal.returns-in-None
returns-in-None c =
    let image = c.args.image.now in
    let finals = (final c.args.read.now image).symbols in
    let number : ℕ = c.args.section.now.sh_link in
    if_ok c.records_as_named.result (λ v. ShowsSymbols image.form (content_read image number) finals v.items)
    (λ v. ShowsSymbols image.form (strings_at image c.args.made.now number) finals v.items)
    (λ v shows. subst (λ (l : List ℕ). ShowsSymbols image.form l finals v.items)
    (strings_copied image c.args.made.now number c.in-None.ensures.none) shows)
    c.records_as_named.ensures

pub returns-in-Some : goal.returns-in-Some
returns-in-Some c =
    let image = c.args.image.now in
    let finals = (final c.args.read.now image).symbols in
    let number : ℕ = c.args.section.now.sh_link in
    if_ok c.records_told.result (λ v. ShowsSymbols image.form c.in-Some.table.now.table.bytes finals v.items)
    (λ v. ShowsSymbols image.form (strings_at image c.args.made.now number) finals v.items)
    (λ v shows. subst (λ (l : List ℕ). ShowsSymbols image.form l finals v.items)
    (strings_made image c.args.made.now number c.in-Some.table.now c.in-Some.ensures.some) shows)
    c.records_told.ensures

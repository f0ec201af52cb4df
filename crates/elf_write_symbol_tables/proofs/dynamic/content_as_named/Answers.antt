-- Where all sections are there, the bytes show the symbols as they were read.
use Rattle.std.proofs.Common.{◌∙◌, length, sym, subst}
use Rattle.std.proofs.lemmas.Bool.{eqb-true}
use Rattle.patch_bytes.specs.ByteString.{StringValue}
use Rattle.elf_image.specs.ImageModel.{section_model}
use Rattle.elf_write_symbols.specs.Final.{final}
use Rattle.elf_write_strings.specs.WrittenStrings.{content_read}
use Rattle.elf_write_symbol_tables.specs.SymbolSteps.{ShowsSymbols}
use Rattle.elf_write_symbol_tables.proofs.SymbolsStay.{dynamic_lent}
use Rattle.elf_write_symbol_tables.proofs.dynamic.content_as_named.Goals as goal

pub returns-then-are_sections_there : goal.returns-then-are_sections_there
returns-then-are_sections_there c =
    let read = c.args.read.now in
    let image = c.args.image.now in
    subst (λ (v : StringValue). ShowsSymbols image.form (content_read image c.args.section.now.sh_link) (final read image).dynamic_symbols v.bytes)
    (sym c.borrowed.ensures)
    (dynamic_lent read image c.requires.ready (section_model c.args.section.now) c.requires.at c.requires.same
    (eqb-true (length image.sections) (length read.sections) (sym c.are_sections_there.ensures ∙ c.if-are_sections_there.true)))

pub returns : goal.returns
returns c =
    let read = c.args.read.now in
    let image = c.args.image.now in
    subst (λ (v : StringValue). ShowsSymbols image.form (content_read image c.args.section.now.sh_link) (final read image).dynamic_symbols v.bytes)
    (sym c.owned.ensures) c.in_ok-bytes.ensures

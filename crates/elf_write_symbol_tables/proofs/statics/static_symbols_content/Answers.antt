-- Either the symbols and their strings are kept, and the bytes are those that were read, or they are spelled anew.
use Rattle.std.proofs.Common.{◌∙◌, ◌*◌, ℕ, List, length, sym, ap, subst}
use Rattle.std.specs.Prelude.{◌&&◌}
use Rattle.std.proofs.lemmas.Bool.{and_parts, both_ways}
use Rattle.patch_bytes.specs.ByteString.{StringValue}
use Rattle.elf_format.specs.Records.{symbol_size, symbols_in}
use Rattle.elf_image.specs.ImageModel.{section_model}
use Rattle.elf_write_strings.specs.Texts.{is_table_copied}
use Rattle.elf_write_symbols.specs.Contents.{AreSymbolsOf}
use Rattle.elf_write_symbols.specs.Final.{are_symbols_kept as are_kept, final}
use Rattle.elf_write_strings.specs.WrittenStrings.{strings_at}
use Rattle.elf_write_symbols.proofs.ForCallers.ReadyFacts.{facts}
use Rattle.elf_write_symbol_tables.proofs.SymbolsShown.{static_long}
use Rattle.elf_write_symbol_tables.proofs.SymbolsStay.{copied_strings, static_lent}
use Rattle.elf_write_symbol_tables.proofs.statics.static_symbols_content.Goals as goal

pub returns-then-is_table_kept-clause-sized : goal.returns-then-is_table_kept-clause-sized
returns-then-is_table_kept-clause-sized c =
    let read = c.args.read.now in
    let image = c.args.image.now in
    let both = and_parts (are_kept read image) (is_table_copied read image c.args.section.now.sh_link)
    (sym c.is_table_kept.ensures ∙ c.if-is_table_kept.true) in
    ap (λ (v : StringValue). length v.bytes) c.borrowed.ensures
    ∙ (static_lent read image c.requires.ready (section_model c.args.section.now) c.requires.at both.0).sized
    ∙ ap (λ (n : ℕ). n * symbol_size image.form) (static_long read image (facts read image c.requires.ready))

pub returns-then-is_table_kept-clause-symbols : goal.returns-then-is_table_kept-clause-symbols
returns-then-is_table_kept-clause-symbols c =
    let read = c.args.read.now in
    let image = c.args.image.now in
    let finals = (final read image).symbols in
    let both = and_parts (are_kept read image) (is_table_copied read image c.args.section.now.sh_link)
    (sym c.is_table_kept.ensures ∙ c.if-is_table_kept.true) in
    subst (λ (v : StringValue). AreSymbolsOf (strings_at image c.args.made.now c.args.section.now.sh_link) finals (symbols_in image.form v.bytes))
    (sym c.borrowed.ensures)
    (subst (λ (l : List ℕ). AreSymbolsOf l finals (symbols_in image.form (section_model c.args.section.now).content))
    (copied_strings read image c.requires.ready c.args.made.now c.requires.strings (section_model c.args.section.now) both.1)
    (static_lent read image c.requires.ready (section_model c.args.section.now) c.requires.at both.0).symbols)

pub returns-then-is_table_kept-clause-copied : goal.returns-then-is_table_kept-clause-copied
returns-then-is_table_kept-clause-copied c = λ _. ap (λ (v : StringValue). v.bytes) c.borrowed.ensures

pub returns-clause-sized : goal.returns-clause-sized
returns-clause-sized c =
    let read = c.args.read.now in
    let image = c.args.image.now in
    ap (λ (v : StringValue). length v.bytes) c.owned.ensures ∙ c.in_ok-bytes.ensures.sized
    ∙ ap (λ (n : ℕ). n * symbol_size image.form) (static_long read image (facts read image c.requires.ready))

pub returns-clause-symbols : goal.returns-clause-symbols
returns-clause-symbols c =
    let image = c.args.image.now in
    subst (λ (v : StringValue). AreSymbolsOf (strings_at image c.args.made.now c.args.section.now.sh_link) (final c.args.read.now image).symbols
    (symbols_in image.form v.bytes)) (sym c.owned.ensures) c.in_ok-bytes.ensures.symbols

pub returns-clause-copied : goal.returns-clause-copied
returns-clause-copied c = λ both.
    absurd (both_ways (are_kept c.args.read.now c.args.image.now && is_table_copied c.args.read.now c.args.image.now c.args.section.now.sh_link)
    (sym c.is_table_kept.ensures ∙ c.if-is_table_kept.false) both)

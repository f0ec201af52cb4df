-- The table tells each name; one that is made anew has them behind the texts of the dynamic list.
use Rattle.std.proofs.Common.{◌≡◌, ◌∙◌, ℕ, Some, sym, ap, subst}
use Rattle.elf_format.specs.declared.constants.TheConstants.{SHT_DYNSYM}
use Rattle.elf_image.specs.ImageModel.{section_model}
use Rattle.elf_image.specs.Kept.{link_of_type}
use Rattle.elf_write_symbols.proofs.ForCallers.ReadyFacts.{facts}
use Rattle.elf_write_symbol_tables.specs.NamePlaces.{HasNames}
use Rattle.elf_write_symbol_tables.proofs.NamesTold.{dynamic_told, named_in_order}
use Rattle.elf_write_symbol_tables.proofs.TablesRead.{dynamic_link}
use Rattle.elf_write_symbol_tables.proofs.dynamic.records_told.Goals as goal

pub told_records-requires-clause-named : goal.told_records-requires-clause-named
told_records-requires-clause-named c =
    let image = c.args.image.now in
    let link : link_of_type SHT_DYNSYM image ≡ Some c.args.made.now.number =
    dynamic_link c.args.read.now image c.requires.ready (section_model c.args.section.now) c.requires.at
    ∙ ap (λ (n : ℕ). Some n) (sym c.requires.linked) in
    dynamic_told c.args.read.now image c.args.made.now c.requires.told link

pub ordered_records-requires-clause-named : goal.ordered_records-requires-clause-named
ordered_records-requires-clause-named c =
    let read = c.args.read.now in
    let image = c.args.image.now in
    let link : link_of_type SHT_DYNSYM image ≡ Some c.args.made.now.number =
    dynamic_link read image c.requires.ready (section_model c.args.section.now) c.requires.at ∙ ap (λ (n : ℕ). Some n) (sym c.requires.linked) in
    subst (λ (n : ℕ). HasNames c.args.made.now.table n image.dynamic_symbols) (sym c.in_ok-before.ensures)
    (named_in_order read image (facts read image c.requires.ready) c.args.made.now c.requires.told link c.if-made.false)

-- Each symbol has a version, whose index was read or is 1.
use Rattle.std.proofs.Common.{ap, sym, ◌∙◌, subst, List}
use Rattle.std.specs.Prelude.{IsTrue, is_some}
use Rattle.std.specs.List.{All, list_any}
use Rattle.std.proofs.lemmas.Bool.{false≢true}
use Rattle.elf_format.specs.declared.form.Form.{Form}
use Rattle.elf_format.specs.Image.{Image}
use Rattle.elf_format.specs.Views.{NamedSymbol}
use Rattle.elf_hashes.specs.Found.{in_order}
use Rattle.elf_hashes.specs.Versions.{AreVersionsOf, versions_of}
use Rattle.elf_image.specs.ImageModel.{section_model}
use Rattle.elf_image_symbols.specs.Loan.{symbols_now}
use Rattle.elf_write_spec.specs.VersionRecords.{is_index_too_large}
use Rattle.elf_write_symbols.proofs.FinalOrder.{lent_places, lent_versions}
use Rattle.elf_write_symbols.proofs.ReadyFacts.{facts}
use Rattle.elf_write_symbols.proofs.VersionFacts.{all_have, have, none_large}
use Rattle.elf_write_symbols.proofs.versions.versions_by.Goals as goal

pub build_versym-requires-clause-places : goal.build_versym-requires-clause-places
build_versym-requires-clause-places c =
    let read : Image = c.args.read.now in
    let image : Image = c.args.image.now in
    lent_places read image c.requires.ready (facts read image c.requires.ready) (symbols_now c.dynamic_symbols.result) c.args.order.now
    c.dynamic_symbols.ensures.symbols c.requires.order

pub build_versym-requires-clause-versions : goal.build_versym-requires-clause-versions
build_versym-requires-clause-versions c =
    let read : Image = c.args.read.now in
    let image : Image = c.args.image.now in
    let s = section_model c.args.section.now in
    subst (λ (ys : List NamedSymbol). All (λ (y : NamedSymbol). IsTrue (is_some y.version)) ys) (sym c.dynamic_symbols.ensures.symbols)
    (all_have image.dynamic_symbols (have read image c.requires.ready s c.requires.at))

pub unreachable-requires : goal.unreachable-requires
unreachable-requires c =
    let read : Image = c.args.read.now in
    let image : Image = c.args.image.now in
    let s = section_model c.args.section.now in
    false≢true (sym (none_large image.dynamic_symbols c.args.order.now (have read image c.requires.ready s c.requires.at))
    ∙ sym (ap (λ (ys : List NamedSymbol). list_any is_index_too_large (versions_of (in_order ys c.args.order.now))) c.dynamic_symbols.ensures.symbols)
    ∙ c.in-Err-NumberTooLarge.ensures c.in-Err-NumberTooLarge.field-0-is)

pub returns-in-Ok : goal.returns-in-Ok
returns-in-Ok c =
    let read : Image = c.args.read.now in
    let image : Image = c.args.image.now in
    let lent : List NamedSymbol = symbols_now c.dynamic_symbols.result in
    lent_versions read image c.requires.ready (facts read image c.requires.ready) lent c.args.order.now c.in-Ok.bytes.items
    c.dynamic_symbols.ensures.symbols c.requires.order
    (subst (λ (form : Form). AreVersionsOf form (in_order lent c.args.order.now) c.in-Ok.bytes.items) c.form.ensures c.in-Ok.ensures.0)

-- The section has its names elsewhere, or they stand where the records tell.
use Rattle.std.proofs.Common.{◌∙◌, List, ℕ, refl, sym, subst}
use Rattle.elf_format.specs.declared.constants.TheConstants.{SHT_DYNSYM}
use Rattle.elf_format.specs.declared.records.SymbolNumbers.{SymbolNumbers}
use Rattle.elf_format.specs.Views.{NamedSymbol}
use Rattle.elf_image_symbols.specs.Loan.{symbols_now}
use Rattle.elf_layout_plan.specs.Texts.{texts_of_symbols}
use Rattle.elf_write_strings.specs.PlacedTexts.{AreSymbolsAt}
use Rattle.elf_write_strings.specs.VersionPlaces.{content_in}
use Rattle.elf_write_strings.proofs.ReadTables.{content_was, dynamic_symbols_stand, facts}
use Rattle.elf_write_strings.proofs.ToldTable.{told_nowhere}
use Rattle.elf_write_strings.proofs.told.tell_dynamic_symbols.Goals as goal

pub returns-in_default-clause-told : goal.returns-in_default-clause-told
returns-in_default-clause-told c =
    told_nowhere c.args.read.now SHT_DYNSYM c.args.number c.args.table.now (texts_of_symbols c.args.read.now.dynamic_symbols) c.in_default.ensures.none

pub place_symbols-requires : goal.place_symbols-requires
place_symbols-requires c =
    let strings : List ℕ = content_in c.args.read.now.sections c.args.number in
    let was =
    content_was c.args.read.now c.args.read.now (facts c.args.read.now c.requires.unedited) SHT_DYNSYM c.args.number c.in-Some.content.now refl c.in-Some.ensures.some in
    subst (λ (l : List ℕ). AreSymbolsAt l (symbols_now c.dynamic_symbols.result) c.deref.result.now) (sym c.requires.bytes)
    (subst (λ (ys : List NamedSymbol). AreSymbolsAt strings ys c.deref.result.now) (sym c.dynamic_symbols.ensures.symbols)
    (subst (λ (ns : List SymbolNumbers). AreSymbolsAt strings c.args.read.now.dynamic_symbols ns) (sym (c.deref.ensures.value ∙ c.in_ok-records.ensures))
    (dynamic_symbols_stand c.args.read.now c.requires.unedited c.args.number c.in-Some.content.now was)))

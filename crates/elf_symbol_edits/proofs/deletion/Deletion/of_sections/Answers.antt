-- The sections are those of the image, and the symbols go along with them.
use Rattle.std.proofs.Common.{◌≡◌, ◌∙◌, List, [], ℕ, ap, subst, sym}
use Rattle.std.specs.List.Sorted.{IsNonDecreasing}
use Rattle.elf_edits.specs.TextModel.{texts_model}
use Rattle.elf_format.specs.Image.{Image}
use Rattle.elf_image.specs.Along.{symbols_along}
use Rattle.elf_symbol_edits.specs.Named.{named_sections}
use Rattle.elf_symbol_edits.specs.SymbolEdit.{DeleteSections}
use Rattle.elf_symbol_edits.proofs.DeletionSteps.{deletion_same, is_deletion, rising_sections, sections_rise}
use Rattle.elf_symbol_edits.proofs.deletion.Deletion.of_sections.Goals as goal

pub symbols_along-requires : goal.symbols_along-requires
symbols_along-requires c =
    subst (λ (ns : List ℕ). IsNonDecreasing ns) (sym (c.deref.ensures.value ∙ c.in_ok-sections.ensures)) (sections_rise c.args.image.now c.source-source.ensures.edited (texts_model c.args.names.now))

pub returns : goal.returns
returns c =
    let image : Image = c.args.image.now in
    let gone : List ℕ = named_sections (texts_model c.args.names.now) image in
    let along : c.in_ok-symbols.symbols.items ≡ symbols_along image gone = c.in_ok-symbols.ensures.numbers ∙ ap (symbols_along image) (c.deref.ensures.value ∙ c.in_ok-sections.ensures) in
    is_deletion (DeleteSections (texts_model c.args.names.now)) image _
    (deletion_same c.in_ok-symbols.symbols.items c.new.result.items c.in_ok-sections.sections.items (symbols_along image gone) [] gone along c.new.ensures.items c.in_ok-sections.ensures)
    (rising_sections image c.source-source.ensures.edited (texts_model c.args.names.now))

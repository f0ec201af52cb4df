-- The list has its texts elsewhere, or they stand as they were read.
use Rattle.std.proofs.Common.{◌∙◌, ℕ, List, map, refl, sym, subst, Option}
use Rattle.elf_format.specs.declared.constants.TheConstants.{SHT_DYNAMIC}
use Rattle.elf_format.specs.declared.records.EntryNumbers.{EntryNumbers}
use Rattle.elf_format.specs.Dynamic.{Entry}
use Rattle.elf_format.specs.Options.{list_at}
use Rattle.elf_image.specs.ImageModel.{entry_model}
use Rattle.elf_layout_plan.specs.Texts.{texts_of_entries}
use Rattle.elf_write_strings.specs.PlacedTexts.{EntriesStand, numbers_in}
use Rattle.elf_write_strings.specs.VersionPlaces.{content_in}
use Rattle.elf_write_strings.proofs.ReadTables.{content_was, entries_stand, facts}
use Rattle.elf_write_strings.proofs.ToldTable.{told_nowhere}
use Rattle.elf_write_strings.proofs.told.tell_list.Goals as goal

pub returns-in_default-clause-told : goal.returns-in_default-clause-told
returns-in_default-clause-told c =
    told_nowhere c.args.read.now SHT_DYNAMIC c.args.number c.args.table.now (list_at texts_of_entries c.args.read.now.entries) c.in_default.ensures.none

pub place_entries-requires-clause-stand : goal.place_entries-requires-clause-stand
place_entries-requires-clause-stand c =
    let strings : List ℕ = content_in c.args.read.now.sections c.args.number in
    let es : List Entry = map entry_model c.in-Some-dynamic_data.entries.now in
    let xs : List EntryNumbers = numbers_in c.args.read.now c.in-Some.content.now in
    let was =
    content_was c.args.read.now c.args.read.now (facts c.args.read.now c.requires.unedited) SHT_DYNAMIC c.args.number c.in-Some.content.now refl
    c.in-Some.ensures.some in
    subst (λ (l : List ℕ). EntriesStand l es c.deref.result.now) (sym c.requires.bytes)
    (subst (λ (ns : List EntryNumbers). EntriesStand strings es ns) (sym (c.deref.ensures.value ∙ c.in_ok-numbers.ensures))
    (subst (λ (o : Option (List Entry)). EntriesStand strings (list_at (λ l. l) o) xs) (sym c.in-Some-dynamic_data.ensures)
    (entries_stand c.args.read.now c.requires.unedited c.args.number c.in-Some.content.now was)))

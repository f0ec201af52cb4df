-- No entry without a list, else one for each that stays.
use Rattle.std.proofs.Common.{◌≡◌, List, ℕ, map, sym, ap, ◌∙◌, subst}
use Rattle.elf_format.specs.Answers.{borrowed}
use Rattle.elf_format.specs.Dynamic.{Entry}
use Rattle.elf_format.specs.Image.{Image}
use Rattle.elf_format.specs.Options.{list_at}
use Rattle.elf_image.specs.ImageModel.{entry_model}
use Rattle.elf_layout_plan.specs.Staying.{staying_entries}
use Rattle.elf_layout_plan.specs.WrittenNeeds.{AreWritten}
use Rattle.elf_layout_plan.specs.Needs.{written_entries}
use Rattle.elf_layout_plan.specs.Plan.{resized}
use Rattle.elf_layout_plan.specs.Texts.{texts_of_entries}
use Rattle.elf_write_spec.specs.Contents.{table_value}
use Rattle.elf_write_symbol_tables.proofs.ForCallers.Results.{if_ok}
use Rattle.elf_write_contents.specs.EntrySteps.{numbers_with}
use Rattle.elf_write_contents.specs.Inner.{AreRaw}
use Rattle.elf_write_contents.proofs.EntriesRaw.{made_raw, none_listed, none_raw}
use Rattle.elf_write_contents.proofs.entries.raw_entries.Goals as goal

pub returns-in_default : goal.returns-in_default
returns-in_default c =
    none_raw c.args.image.now c.args.plan.now c.args.made.now c.requires.planned.ready.edited (sym c.in_default.ensures) c.new.result.items
    c.new.ensures.items

pub returns-in_default-dynamic_data : goal.returns-in_default-dynamic_data
returns-in_default-dynamic_data c =
    none_listed c.args.read.now c.args.image.now c.args.plan.now c.args.made.now c.args.staying.now c.requires.planned.ready c.requires.staying
    c.in-Some.list (sym c.in-Some.ensures)
    c.in_default-dynamic_data.ensures c.new-in_default-dynamic_data.result.items c.new-in_default-dynamic_data.ensures.items

pub list_texts-requires : goal.list_texts-requires
list_texts-requires c =
    subst (λ (r : Image). AreWritten r c.args.image.now c.args.staying.now) c.requires.planned.ready.at_read c.requires.staying

pub text_places-requires-clause-texts : goal.text_places-requires-clause-texts
text_places-requires-clause-texts c =
    ap (map borrowed) c.as_slice.ensures.value ∙ c.in_ok-texts.ensures
    ∙ ap (λ (r : Image). list_at texts_of_entries (written_entries r c.args.image.now)) (sym c.requires.planned.ready.at_read)

pub numbers_of-requires : goal.numbers_of-requires
numbers_of-requires c =
    subst (λ (r : Image). AreWritten r c.args.image.now c.args.staying.now) c.requires.planned.ready.at_read c.requires.staying

pub returns : goal.returns
returns c =
    let es : List Entry = map entry_model c.in-Some-dynamic_data.entries.now in
    let left : List Entry = staying_entries c.args.staying.now.are_gone es in
    let value : ℕ → ℕ = λ tag. table_value (resized c.args.image.now) c.args.plan.now tag in
    let texts : List (List ℕ) = map borrowed c.as_slice.result.now in
    let own : texts ≡ list_at texts_of_entries (written_entries c.args.read.now c.args.image.now) =
    ap (map borrowed) c.as_slice.ensures.value ∙ c.in_ok-texts.ensures
    ∙ ap (λ (r : Image). list_at texts_of_entries (written_entries r c.args.image.now)) (sym c.requires.planned.ready.at_read) in
    if_ok c.numbers_of.result (λ raw. raw.items ≡ numbers_with value c.as_slice-2.result.now left)
    (λ raw. AreRaw (resized c.args.image.now) c.args.plan.now c.args.made.now raw.items)
    (λ raw same. made_raw c.args.read.now c.args.image.now c.args.plan.now c.args.made.now c.args.staying.now c.requires.planned.ready
    c.requires.staying c.in-Some.list (sym c.in-Some.ensures) es c.in-Some-dynamic_data.ensures texts c.in_ok-places.places.items own
    c.in_ok-places.ensures raw.items
    (same ∙ ap (λ (places : List ℕ). numbers_with value places left) c.as_slice-2.ensures.value))
    c.numbers_of.ensures

pub text_places-requires-clause-ready : goal.text_places-requires-clause-ready
text_places-requires-clause-ready c = c.requires.planned.ready

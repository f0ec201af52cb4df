-- One value for each element.
use Rattle.std.proofs.Common.{◌≡◌, ◌++◌, ◌∷◌, [], map, Option, ap, ◌∙◌}
use Rattle.std.proofs.lemmas.List.{map_push}
use Rattle.std.proofs.lemmas.Result.{err_from_is_err_and}
use Rattle.elf_format.specs.Memory.{memory_of}
use Rattle.elf_format.specs.Options.{each}
use Rattle.elf_format.specs.Dynamic.{Entry, shown_entry}
use Rattle.elf_format.specs.declared.records.EntryNumbers.{EntryNumbers}
use Rattle.elf_image_headers.specs.PartModels.{entry_model}
use Rattle.elf_format.specs.Seen.{shown_entry_model}
use Rattle.elf_format.proofs.ForCallers.ReadingSteps.{no_entry}
use Rattle.elf_format.proofs.ForCallers.ReadingSteps.{each_done, each_ends, each_goes}
use Rattle.elf_image_headers.proofs.entries.kept_entries.Goals as goal

pub returns-in_err-one : goal.returns-in_err-one
returns-in_err-one c =
    let p = err_from_is_err_and c.from_residual.result c.from_residual.ensures.1 in
    let f : EntryNumbers → Option (Entry) = shown_entry c.args.room (memory_of c.args.texts.now) in
    rw (p.1, p.2) (each_ends f c.in_err-one.field-0.0 (map entry_model c.loop-entry.made.items) c.args.raw.now c.loop-entry.entry-index (no_entry) (each f c.args.raw.now) c.loop-entry-test.true c.in_err-one.ensures.shown c.loop-entry.invariant)

pub loop-entry-preserved : goal.loop-entry-preserved
loop-entry-preserved c =
    let f : EntryNumbers → Option (Entry) = shown_entry c.args.room (memory_of c.args.texts.now) in
    let made = c.in_ok-one.one in
    let e : map entry_model c.push.new.self.items ≡ map entry_model c.loop-entry.made.items ++ shown_entry_model made ∷ [] =
    ap (map entry_model) c.in_ok-push.ensures.items ∙ map_push entry_model c.loop-entry.made.items c.kept.result ∙ ap (λ (x : Entry). map entry_model c.loop-entry.made.items ++ x ∷ []) c.kept.ensures in
    rw e (each_goes f (map entry_model c.loop-entry.made.items) c.args.raw.now c.loop-entry.entry-index (no_entry) (shown_entry_model made) (each f c.args.raw.now) c.loop-entry-test.true c.in_ok-one.ensures.shown c.loop-entry.invariant)

pub returns : goal.returns
returns c =
    let f : EntryNumbers → Option (Entry) = shown_entry c.args.room (memory_of c.args.texts.now) in
    each_done f (map entry_model c.loop-entry.made.items) c.args.raw.now c.loop-entry.entry-index (each f c.args.raw.now) c.loop-entry-test.false c.loop-entry.invariant

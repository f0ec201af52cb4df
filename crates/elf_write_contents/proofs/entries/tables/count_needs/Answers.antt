-- What stays of the records is what is written.
use Rattle.std.proofs.Common.{List, length, map, sym, ap, ◌∙◌}
use Rattle.elf_format.specs.Versions.{VersionNeeds}
use Rattle.elf_image.specs.ImageModel.{needs_model}
use Rattle.elf_image.specs.Kept.{image_at_read}
use Rattle.elf_layout_plan.specs.Staying.{unmarked_needs}
use Rattle.elf_write_spec.proofs.ForCallers.WholeEdits.{needs_written}
use Rattle.elf_write_contents.proofs.entries.tables.count_needs.Goals as goal

pub returns : goal.returns
returns c =
    let count = λ (needs : List VersionNeeds). length (unmarked_needs c.args.staying.now.marks needs) in
    c.count_needs.ensures
    ∙ ap count (ap (map needs_model) c.deref.ensures.value ∙ c.versions.ensures.needs)
    ∙ ap length (c.requires.needs ∙ sym (needs_written (image_at_read c.args.image.now) c.args.image.now))

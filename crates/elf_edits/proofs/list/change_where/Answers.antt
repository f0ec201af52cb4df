-- Where the edit is about no entry, none changes.
use Rattle.std.proofs.Common.{◌∙◌, map, sym}
use Rattle.elf_image.specs.ImageModel.{entry_model}
use Rattle.elf_edits.specs.Changes.{change_model, test_model}
use Rattle.elf_edits.proofs.ListSteps.{none_changed}
use Rattle.elf_edits.proofs.list.change_where.Goals as goal

pub returns-else-holds_of_any : goal.returns-else-holds_of_any
returns-else-holds_of_any c =
    none_changed c.copy_list.result (test_model c.args.test.now) (change_model c.args.change.now) (map entry_model c.args.entries.now)
    (sym c.holds_of_any.ensures ∙ c.if-holds_of_any.false) c.copy_list.ensures

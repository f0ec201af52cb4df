-- One more directory is added.
use Rattle.std.proofs.Common.{◌+◌, ◌∙◌, ap, drop}
use Rattle.elf_edits.specs.TextModel.{texts_model}
use Rattle.elf_edits.specs.Entries.{with_directories, with_each_added}
use Rattle.elf_edits.proofs.TextSteps.{added_all, added_more}
use Rattle.elf_edits.proofs.texts.with_each_directory.Goals as goal

pub loop-added-preserved : goal.loop-added-preserved
loop-added-preserved c =
    let i = c.loop-added.added-index in
    let made = c.loop-added.made.items in
    ap (with_each_added (texts_model (drop (i + 1) c.args.directories.now))) (c.in_ok-add_directory.ensures ∙ ap (with_directories made) c.as_slice.ensures.value)
    ∙ added_more c.args.directories.now i c.added-item.result c.loop-added-test.true c.added-item.is made (with_each_added (texts_model c.args.directories.now) c.args.text.now) c.loop-added.invariant

pub returns : goal.returns
returns c =
    added_all c.args.directories.now c.loop-added.added-index c.loop-added-test.false c.loop-added.made.items (with_each_added (texts_model c.args.directories.now) c.args.text.now) c.loop-added.invariant

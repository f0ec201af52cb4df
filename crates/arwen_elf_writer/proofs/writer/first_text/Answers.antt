-- No entry so far has such a text, and the one that is looked at has one or not.
use Rattle.std.proofs.Common.{map, sym}
use Rattle.elf_image.specs.ImageModel.{entry_model}
use Rattle.elf_image.specs.Answers.{borrowed}
use Rattle.arwen_elf_writer.specs.Reads.{texts_tagged}
use Rattle.arwen_elf_writer.proofs.ReadSteps.{first_found, goes_past, none_found}
use Rattle.arwen_elf_writer.proofs.writer.first_text.Goals as goal

pub returns-in-Some : goal.returns-in-Some
returns-in-Some c =
    first_found c.args.tags.now c.args.entries.now c.loop-entry.entry-index c.entry-item.result c.loop-entry-test.true c.entry-item.is (borrowed c.in-Some.text) (sym c.in-Some.ensures)
    (texts_tagged c.args.tags.now (map entry_model c.args.entries.now)) c.loop-entry.invariant

pub loop-entry-preserved : goal.loop-entry-preserved
loop-entry-preserved c =
    goes_past c.args.tags.now c.args.entries.now c.loop-entry.entry-index c.entry-item.result c.loop-entry-test.true c.entry-item.is (sym c.in_default.ensures)
    (texts_tagged c.args.tags.now (map entry_model c.args.entries.now)) c.loop-entry.invariant

pub returns : goal.returns
returns c =
    none_found c.args.tags.now c.args.entries.now c.loop-entry.entry-index c.loop-entry-test.false
    (texts_tagged c.args.tags.now (map entry_model c.args.entries.now)) c.loop-entry.invariant

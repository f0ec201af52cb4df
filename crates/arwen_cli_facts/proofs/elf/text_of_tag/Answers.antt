-- No entry so far has such a text, and the one that is looked at has one or not.
use Rattle.std.proofs.Common.{◌∷◌, [], map, sym}
use Rattle.elf_image.specs.Answers.{borrowed}
use Rattle.elf_image.specs.ImageModel.{entry_model}
use Rattle.arwen_elf.specs.Reads.{text_if}
use Rattle.arwen_cli_facts.specs.ElfFacts.{text_tagged}
use Rattle.arwen_cli_facts.proofs.FirstSteps.{first_found, goes_past, none_found}
use Rattle.arwen_cli_facts.proofs.elf.text_of_tag.Goals as goal

pub returns-in-Some : goal.returns-in-Some
returns-in-Some c =
    first_found (text_if (c.args.tag ∷ [])) c.args.entries.now c.loop-entry.entry-index c.entry-item.result c.loop-entry-test.true c.entry-item.is (borrowed c.in-Some.text) (sym c.in-Some.ensures)
    (text_tagged c.args.tag (map entry_model c.args.entries.now)) c.loop-entry.invariant

pub loop-entry-preserved : goal.loop-entry-preserved
loop-entry-preserved c =
    goes_past (text_if (c.args.tag ∷ [])) c.args.entries.now c.loop-entry.entry-index c.entry-item.result c.loop-entry-test.true c.entry-item.is (sym c.in_default.ensures)
    (text_tagged c.args.tag (map entry_model c.args.entries.now)) c.loop-entry.invariant

pub returns : goal.returns
returns c =
    none_found (text_if (c.args.tag ∷ [])) c.args.entries.now c.loop-entry.entry-index c.loop-entry-test.false
    (text_tagged c.args.tag (map entry_model c.args.entries.now)) c.loop-entry.invariant

use Rattle.std.proofs.Common.{refl, codes, ◌∙◌}
use Rattle.elf_edits.specs.Edit.{ForceRpath}
use Rattle.elf_edits.specs.Facts.{facts_model}
use Rattle.elf_apply.proofs.TakenLaws.{plain_rpath, plain_refused, plain_taken, used_rpath}
use Rattle.elf_apply.proofs.steps.use_rpath.Goals as goal

pub returns-in-Some : goal.returns-in-Some
returns-in-Some c = (refl, plain_refused c.in-Some.cause ForceRpath (codes "change rpath") c.args.builder.now (facts_model c.image_facts.result) plain_rpath c.image_facts.ensures c.in-Some.ensures)

pub retag-requires : goal.retag-requires
retag-requires c = refl

pub returns : goal.returns
returns c =
    plain_taken ForceRpath (codes "change rpath") c.args.builder.now c.retag.new.builder (facts_model c.image_facts.result) plain_rpath c.image_facts.ensures c.in_default.ensures
    (c.retag.ensures ∙ used_rpath c.args.builder.now)

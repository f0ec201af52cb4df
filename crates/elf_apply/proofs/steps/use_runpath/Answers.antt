use Rattle.std.proofs.Common.{refl, codes, ◌∙◌}
use Rattle.elf_edits.specs.Edit.{ForceRunpath}
use Rattle.elf_edits.specs.Facts.{facts_model}
use Rattle.elf_apply.proofs.TakenLaws.{plain_runpath, plain_refused, plain_taken, used_runpath}
use Rattle.elf_apply.proofs.steps.use_runpath.Goals as goal

pub returns-in-Some : goal.returns-in-Some
returns-in-Some c = (refl, plain_refused c.in-Some.cause ForceRunpath (codes "change runpath") c.args.builder.now (facts_model c.image_facts.result) plain_runpath c.image_facts.ensures c.in-Some.ensures)

pub retag-requires : goal.retag-requires
retag-requires c = refl

pub returns : goal.returns
returns c =
    plain_taken ForceRunpath (codes "change runpath") c.args.builder.now c.retag.new.builder (facts_model c.image_facts.result) plain_runpath c.image_facts.ensures c.in_default.ensures
    (c.retag.ensures ∙ used_runpath c.args.builder.now)

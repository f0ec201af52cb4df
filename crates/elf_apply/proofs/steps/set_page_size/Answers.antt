use Rattle.std.proofs.Common.{refl}
use Rattle.elf_edits.specs.Facts.{facts_model}
use Rattle.elf_apply.proofs.TakenLaws.{page_size_refused, page_size_taken}
use Rattle.elf_apply.proofs.steps.set_page_size.Goals as goal

pub returns-in-Some : goal.returns-in-Some
returns-in-Some c = (refl, page_size_refused c.in-Some.cause c.args.size c.args.builder.now (facts_model c.image_facts.result) c.image_facts.ensures c.in-Some.ensures)

pub returns : goal.returns
returns c = page_size_taken c.args.size c.args.builder.now c.set_load_align.new.self (facts_model c.image_facts.result) c.image_facts.ensures c.in_default.ensures c.set_load_align.ensures

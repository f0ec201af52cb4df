-- The promises are laws of plans.
use Rattle.elf_layout.proofs.layout.promised.Goals as goal

pub returns-clause-promises : goal.returns-clause-promises
returns-clause-promises c = record {
  placed = c.plans_are_placed.ensures c.args.image.now c.args.plan c.source-source.ensures.edited c.requires;
  apart = c.plans_are_apart.ensures c.args.image.now c.args.plan c.source-source.ensures.edited c.requires;
  notes = c.plans_show_notes.ensures c.args.image.now c.args.plan c.source-source.ensures.edited c.requires;
  one = λ other is. c.plans_are_one.ensures c.args.image.now other c.args.plan is c.requires;
  fixed = c.fixed_sections_stay.ensures c.args.image.now c.args.plan c.requires;
}

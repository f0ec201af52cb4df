-- The edit that is looked at is refused, or the first refusal is behind it.
use Rattle.std.proofs.Common.{ap, option_map, sym, ◌∙◌}
use Rattle.elf_edits.specs.CauseModel.{cause_model}
use Rattle.elf_edits.specs.Decided.{first_refusal}
use Rattle.elf_edits.specs.Facts.{facts_model}
use Rattle.elf_apply.specs.Taken.{edits_model}
use Rattle.elf_apply.proofs.BatchSteps.{accepted_here, all_accepted, refused_here}
use Rattle.elf_apply.proofs.steps.first_refusal.Goals as goal

pub returns-in-Some : goal.returns-in-Some
returns-in-Some c =
    refused_here (facts_model c.args.facts.now) c.args.edits.now c.loop-index.index c.index-edits-index.result c.loop-index-test.true c.index-edits-index.is
    (cause_model c.in-Some.cause) (sym c.in_ok-found.ensures ∙ ap (option_map cause_model) c.in-Some.is)
    (first_refusal (facts_model c.args.facts.now) 0 (edits_model c.args.edits.now)) c.loop-index.invariant

pub loop-index-preserved : goal.loop-index-preserved
loop-index-preserved c =
    accepted_here (facts_model c.args.facts.now) c.args.edits.now c.loop-index.index c.index-edits-index.result c.loop-index-test.true c.index-edits-index.is (sym c.in_ok-found.ensures ∙ ap (option_map cause_model) c.in_default.is)
    (first_refusal (facts_model c.args.facts.now) 0 (edits_model c.args.edits.now)) c.loop-index.invariant

pub returns : goal.returns
returns c =
    all_accepted (facts_model c.args.facts.now) c.args.edits.now c.loop-index.index c.loop-index-test.false
    (first_refusal (facts_model c.args.facts.now) 0 (edits_model c.args.edits.now)) c.loop-index.invariant

-- The first cause is looked for in its order.
use Rattle.std.proofs.Common.{◌≡◌, ◌∙◌, Option, option_map, sym}
use Rattle.std.proofs.lemmas.Result.{IfOk-weaker}
use Rattle.elf_edits.specs.declared.cause.Cause.{Cause as CauseTold}
use Rattle.elf_edits.specs.Cause.{Facts, first_cause, own_cause}
use Rattle.elf_edits.specs.CauseModel.{cause_model}
use Rattle.elf_edits.specs.Edit.{Edit, edit_model}
use Rattle.elf_edits.specs.Facts.{facts_model}
use Rattle.elf_edits.proofs.CauseSteps.{for_its_own, for_mips, for_missing, for_nul}
use Rattle.elf_edits.proofs.cause.cause_of.Goals as goal

pub returns-then-facts-eq-EM_MIPS : goal.returns-then-facts-eq-EM_MIPS
returns-then-facts-eq-EM_MIPS c = for_mips (edit_model c.args.edit.now) (facts_model c.args.facts.now) c.if-facts-eq-EM_MIPS.true

pub returns-then-is_some : goal.returns-then-is_some
returns-then-is_some c =
    for_missing (edit_model c.args.edit.now) (facts_model c.args.facts.now) cause_model c.missing_part-missing.result c.if-facts-eq-EM_MIPS.false c.missing_part-missing.ensures
    (sym c.is_some.ensures ∙ c.if-is_some.true)

pub returns-then-holds_nul : goal.returns-then-holds_nul
returns-then-holds_nul c =
    for_nul (edit_model c.args.edit.now) (facts_model c.args.facts.now) cause_model c.missing_part-missing.result c.if-facts-eq-EM_MIPS.false c.missing_part-missing.ensures
    (sym c.is_some.ensures ∙ c.if-is_some.false) (sym c.holds_nul.ensures ∙ c.if-holds_nul.true)

pub returns : goal.returns
returns c =
    let edit : Edit = edit_model c.args.edit.now in
    let facts : Facts = facts_model c.args.facts.now in
    IfOk-weaker c.own_cause.result (λ (found : Option CauseTold). option_map cause_model found ≡ own_cause edit facts) (λ (found : Option CauseTold). option_map cause_model found ≡ first_cause edit facts)
    (λ found is.
    is
    ∙ for_its_own edit facts cause_model c.missing_part-missing.result c.if-facts-eq-EM_MIPS.false c.missing_part-missing.ensures (sym c.is_some.ensures ∙ c.if-is_some.false)
    (sym c.holds_nul.ensures ∙ c.if-holds_nul.false))
    c.own_cause.ensures

-- The step, or its refusal.
use Rattle.std.proofs.Common.{ap, refl, sym, subst, map, ◌∙◌}
use Rattle.elf_image.specs.Image.{Image}
use Rattle.elf_edits.specs.Facts.{facts_model}
use Rattle.elf_edits.specs.EditModel.{texts_model}
use Rattle.elf_edits_shrink.specs.ShrinkModel.{answer_model}
use Rattle.elf_edits.specs.Cause.{Facts, cause, first_cause}
use Rattle.elf_edits.specs.CauseModel.{cause_model}
use Rattle.elf_apply.specs.Drafted.{IsShrunkOf}
use Rattle.elf_apply.specs.Taken.{shrink_model}
use Rattle.elf_apply.proofs.ShrinkLaws.{can_put, found_none, none_gone, none_there, removed_are, some_gone, some_there}
use Rattle.elf_apply.proofs.TakenLaws.{refused}
use Rattle.elf_apply.proofs.steps.shrink_run_paths.Goals.{then-not-is_empty, else-not-is_empty}
use Rattle.elf_apply.proofs.steps.shrink_run_paths.Goals as goal

pub returns-in-Some-clause-takes : goal.returns-in-Some-clause-takes
unfolding cause
returns-in-Some-clause-takes c =
    let edit = shrink_model c.args.prefixes.now c.args.probe.now in (
      refl,
      refused edit c.args.builder.now c.cause_error.result (cause_model c.in-Some.cause) c.cause_error.ensures
          (sym (c.in-Some.ensures (map answer_model c.args.probe.now) ∙ ap (λ (f : Facts). first_cause edit f) c.image_facts.ensures)),
    )

pub set_dynamic-requires-clause-tables : goal.set_dynamic-requires-clause-tables
set_dynamic-requires-clause-tables c =
    let prefixes = texts_model c.args.prefixes.now in
    let answers = map answer_model c.args.probe.now in
    let edit = shrink_model c.args.prefixes.now c.args.probe.now in
    let none = found_none edit c.args.builder.now (facts_model c.image_facts.result) c.image_facts.ensures (c.in_default.ensures answers) in
    let is = subst (λ (i : Image). IsShrunkOf edit i c.in_ok-made.made) c.known_image.ensures.same c.in_ok-made.ensures in
    (can_put prefixes answers c.args.builder.now none c.in_ok-made.made c.known_image.ensures.lists is).tables

pub set_dynamic-requires-clause-entries : goal.set_dynamic-requires-clause-entries
set_dynamic-requires-clause-entries c =
    let prefixes = texts_model c.args.prefixes.now in
    let answers = map answer_model c.args.probe.now in
    let edit = shrink_model c.args.prefixes.now c.args.probe.now in
    let none = found_none edit c.args.builder.now (facts_model c.image_facts.result) c.image_facts.ensures (c.in_default.ensures answers) in
    let is = subst (λ (i : Image). IsShrunkOf edit i c.in_ok-made.made) c.known_image.ensures.same c.in_ok-made.ensures in
    (can_put prefixes answers c.args.builder.now none c.in_ok-made.made c.known_image.ensures.lists is).entries

pub returns-clause-takes : goal.returns-clause-takes
returns-clause-takes c =
    let prefixes = texts_model c.args.prefixes.now in
    let answers = map answer_model c.args.probe.now in
    let edit = shrink_model c.args.prefixes.now c.args.probe.now in
    let old = c.args.builder.now in
    let made = c.in_ok-made.made in
    let none = found_none edit old (facts_model c.image_facts.result) c.image_facts.ensures (c.in_default.ensures answers) in
    let is = subst (λ (i : Image). IsShrunkOf edit i made) c.known_image.ensures.same c.in_ok-made.ensures in
    elim c.if-not-is_empty.branch [
      | then-not-is_empty w ↦
          some_gone prefixes answers old none made c.if-not-is_empty.builder is
          (some_there made.removed.items made.removed.len made.removed.ok.0 (sym c.is_empty.ensures ∙ w.if-not-is_empty.true))
          (w.builder-is ∙ w.set_dynamic.ensures)
      | else-not-is_empty w ↦
          none_gone prefixes answers old none made c.if-not-is_empty.builder is
          (none_there made.removed.items made.removed.len made.removed.ok.0 (sym c.is_empty.ensures ∙ w.if-not-is_empty.false))
          w.builder-is
    ]

pub returns-clause-removed : goal.returns-clause-removed
returns-clause-removed c =
    let prefixes = texts_model c.args.prefixes.now in
    let answers = map answer_model c.args.probe.now in
    let edit = shrink_model c.args.prefixes.now c.args.probe.now in
    let none = found_none edit c.args.builder.now (facts_model c.image_facts.result) c.image_facts.ensures (c.in_default.ensures answers) in
    let is = subst (λ (i : Image). IsShrunkOf edit i c.in_ok-made.made) c.known_image.ensures.same c.in_ok-made.ensures in
    removed_are prefixes answers c.args.builder.now none c.in_ok-made.made is

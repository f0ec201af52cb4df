use Rattle.std.proofs.Common.{◌≡◌, ◌≤◌, ◌^◌, ◌∙◌, None, sym, ap, subst}
use Rattle.std.specs.Prelude.{slice_get}
use Rattle.elf_layout_plan.specs.Memory.{sized_sections}
use Rattle.elf_layout.specs.declared.slots.At.{At}
use Rattle.elf_layout.specs.Slots.{with_at}
use Rattle.elf_layout.proofs.SlotSteps.{behind_none, behind_one, found_none, found_some, one_missing, one_other, one_there, own_position, slots_none, slots_one}
use Rattle.elf_layout.proofs.slots.place_section.Goals as goal

pub returns-in_default-clause-end : goal.returns-in_default-clause-end
returns-in_default-clause-end c =
    let none : slice_get (sized_sections c.args.r.now) c.args.position ≡ None = found_none _ (sym c.in_default.is ∙ c.sized_at.ensures) in
    behind_none c.args.at _ (one_missing c.args.r.now c.args.flags c.args.position none)

pub returns-in_default-clause-slots : goal.returns-in_default-clause-slots
returns-in_default-clause-slots c =
    let none : slice_get (sized_sections c.args.r.now) c.args.position ≡ None = found_none _ (sym c.in_default.is ∙ c.sized_at.ensures) in
    slots_none c.args.slots.now c.args.at _ (one_missing c.args.r.now c.args.flags c.args.position none)

pub returns-then-flags_for-flags-clause-end : goal.returns-then-flags_for-flags-clause-end
returns-then-flags_for-flags-clause-end c =
    let found = found_some (slice_get (sized_sections c.args.r.now) c.args.position) c.in-Some.section
    (sym c.in-Some.is ∙ c.sized_at.ensures) in
    behind_none c.args.at _
    (one_other c.args.r.now c.args.flags c.args.position found.0 found.1
    (λ same. c.if-flags_for-flags.true (c.flags_for.ensures found.0 found.2 ∙ same)))

pub returns-then-flags_for-flags-clause-slots : goal.returns-then-flags_for-flags-clause-slots
returns-then-flags_for-flags-clause-slots c =
    let found = found_some (slice_get (sized_sections c.args.r.now) c.args.position) c.in-Some.section
    (sym c.in-Some.is ∙ c.sized_at.ensures) in
    slots_none c.args.slots.now c.args.at _
    (one_other c.args.r.now c.args.flags c.args.position found.0 found.1
    (λ same. c.if-flags_for-flags.true (c.flags_for.ensures found.0 found.2 ∙ same)))

pub returns-in_default-stand_behind-clause-far : goal.returns-in_default-stand_behind-clause-far
returns-in_default-stand_behind-clause-far c =
    let found = found_some (slice_get (sized_sections c.args.r.now) c.args.position) c.in-Some.section
    (sym c.in-Some.is ∙ c.sized_at.ensures) in
    let past = c.in_default-stand_behind.ensures.far found.0 found.2 in
    subst (λ (x : At). 2 ^ 64 ≤ x.offset)
    (behind_one c.args.at _ found.0 (one_there c.args.r.now c.args.flags c.args.position found.0 found.1
    (sym (c.flags_for.ensures found.0 found.2) ∙ c.if-flags_for-flags.false)))
    past

pub returns-clause-end : goal.returns-clause-end
returns-clause-end c =
    let found = found_some (slice_get (sized_sections c.args.r.now) c.args.position) c.in-Some.section
    (sym c.in-Some.is ∙ c.sized_at.ensures) in
    c.in-Some-stand_behind.ensures.end found.0 found.2
    ∙ behind_one c.args.at _ found.0 (one_there c.args.r.now c.args.flags c.args.position found.0 found.1
    (sym (c.flags_for.ensures found.0 found.2) ∙ c.if-flags_for-flags.false))

pub returns-clause-slots : goal.returns-clause-slots
returns-clause-slots c =
    let found = found_some (slice_get (sized_sections c.args.r.now) c.args.position) c.in-Some.section
    (sym c.in-Some.is ∙ c.sized_at.ensures) in
    c.keep_at.ensures ∙ ap (λ (x : At). with_at c.args.slots.now c.args.position x) (c.in-Some-stand_behind.ensures.start found.0 found.2)
    ∙ slots_one c.args.slots.now c.args.at _ found.0 c.args.position
    (one_there c.args.r.now c.args.flags c.args.position found.0 found.1
    (sym (c.flags_for.ensures found.0 found.2) ∙ c.if-flags_for-flags.false))
    (own_position c.args.r.now c.args.position found.0 found.1)

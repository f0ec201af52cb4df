use Rattle.std.proofs.Common.{◌≡◌, ◌+◌, ◌∙◌, ℕ, List, Some, ap, arith, map, min, subst, sym}
use Rattle.std.specs.Prelude.{slice_get}
use Rattle.std.proofs.lemmas.Bool.{eq-eqb, ne_eqb}
use Rattle.std.proofs.lemmas.List.{length-map}
use Rattle.std.proofs.lemmas.Option.{slice_get-get_or}
use Rattle.elf_format.specs.Image.{ImageSection}
use Rattle.elf_image.specs.ImageModel.{section_model}
use Rattle.elf_layout_plan.specs.Rounds.{flags_for}
use Rattle.elf_layout_plan.proofs.ForCallers.ApartLists.{at-map}
use Rattle.elf_layout_segments.proofs.FlagSteps.{IsFlagsLimitBelow, all_flagged, flagged_next, flagged_passed, needs_here, none_flagged}
use Rattle.elf_layout_segments.proofs.forecasts.flags_limit.Goals as goal
use Rattle.elf_layout_segments.proofs.forecasts.flags_limit.Goals.{then-flags_for-flags, else-flags_for-flags}

pub loop-position-init : goal.loop-position-init
loop-position-init c = none_flagged c.args.leave c.args.limits.now (map section_model c.args.sections.now) c.args.flags

pub loop-position-preserved : goal.loop-position-preserved
loop-position-preserved c =
    let sections : List ImageSection = map section_model c.args.sections.now in
    let limits : List ℕ = c.args.limits.now in
    let flags : ℕ = c.args.flags in
    let k : ℕ = c.loop-position.position in
    let x = c.index-sections-position.result in
    let at : slice_get sections k ≡ Some (section_model x) =
    at-map section_model c.args.sections.now k x (slice_get-get_or c.args.sections.now k x c.loop-position-test.true ∙ ap Some (sym c.index-sections-position.is)) in
    elim c.if-flags_for-flags.branch [
      | then-flags_for-flags w ↦
          let value = w.least-is ∙ w.min-least.ensures ∙ ap (λ (n : ℕ). min c.loop-position.least n) w.limit_at.ensures in
          subst (λ (n : ℕ). IsFlagsLimitBelow c.args.leave limits sections flags (k + 1) n) (sym value)
          (flagged_next c.args.leave limits sections flags k c.loop-position.least (needs_here c.args.leave sections flags k (section_model x) at ∙ eq-eqb (flags_for c.args.leave (section_model x)) flags (sym c.flags_for.ensures ∙ w.if-flags_for-flags.true)) c.loop-position.invariant)
      | else-flags_for-flags w ↦
          subst (λ (n : ℕ). IsFlagsLimitBelow c.args.leave limits sections flags (k + 1) n) (sym w.least-is)
          (flagged_passed c.args.leave limits sections flags k c.loop-position.least (needs_here c.args.leave sections flags k (section_model x) at ∙ ne_eqb (flags_for c.args.leave (section_model x)) flags (λ same. w.if-flags_for-flags.false (c.flags_for.ensures ∙ same))) c.loop-position.invariant)
    ]

pub returns : goal.returns
returns c =
    all_flagged c.args.leave c.args.limits.now (map section_model c.args.sections.now) c.args.flags c.loop-position.position c.loop-position.least
    (omega (arith, length-map c.args.sections.now section_model, c.loop-position-test.false, c.loop-position.auto.position-end)) c.loop-position.invariant

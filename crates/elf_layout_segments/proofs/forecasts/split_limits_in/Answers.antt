use Rattle.std.proofs.Common.{◌≡◌, ◌-◌, ◌∙◌, ℕ, List, ap, length, map, subst, sym}
use Rattle.std.proofs.lemmas.List.{length-map}
use Rattle.elf_layout_moves.specs.declared.limits.TheConstants.{NEVER}
use Rattle.elf_layout_segments.specs.declared.forecasts.Limited.{Limited}
use Rattle.elf_layout_segments.specs.declared.leasts.Stretch.{Stretch}
use Rattle.elf_layout_segments.specs.AnchorPositions.{anchor_model}
use Rattle.elf_layout_segments.specs.Forecasts.{parts_of}
use Rattle.elf_layout_segments.specs.Leasts.{AreStretchesOf}
use Rattle.elf_layout_segments.proofs.ForecastSteps.{joins_seen, leasts_seen, split_limits_are, stretch_ends}
use Rattle.elf_layout_segments.proofs.forecasts.split_limits_in.Goals as goal

-- stretches of a list of limits end by its end
ends_there : (f : Limited → ℕ) (begins : List Limited) (numbers : List ℕ) (asked seen : List Stretch) → numbers ≡ map f begins → seen ≡ asked → AreStretchesOf (length begins) asked → AreStretchesOf (length numbers) seen
ends_there f begins numbers asked seen are same ends =
    let many : length begins ≡ length numbers = sym (ap length are ∙ length-map begins f) in
    subst (λ (l : List Stretch). AreStretchesOf (length numbers) l) (sym same) (subst (λ (n : ℕ). AreStretchesOf n asked) many ends)

pub leasts_in-requires : goal.leasts_in-requires
leasts_in-requires c =
    ends_there (λ (b : Limited). b.limit) c.args.begins.now c.in_ok-limits_of.field-0.items c.in_ok-asked.asked.items c.deref.result.now c.in_ok-limits_of.ensures c.deref.ensures.value
    (stretch_ends c.args.begins.now (parts_of (map anchor_model c.args.anchors.now)) c.in_ok-asked.asked.items c.in_ok-asked.ensures)

pub leasts_in-requires-2 : goal.leasts_in-requires-2
leasts_in-requires-2 c =
    ends_there (λ (b : Limited). NEVER - b.limit) c.args.begins.now c.in_ok-mirrored_limits_of.field-0.items c.in_ok-asked.asked.items c.deref-2.result.now c.in_ok-mirrored_limits_of.ensures c.deref-2.ensures.value
    (stretch_ends c.args.begins.now (parts_of (map anchor_model c.args.anchors.now)) c.in_ok-asked.asked.items c.in_ok-asked.ensures)

pub returns : goal.returns
returns c = λ limits sections same.
    split_limits_are limits sections c.args.begins.now (map anchor_model c.args.anchors.now) c.in_ok-asked.asked.items c.in_ok-splits.splits.items c.in_ok-mirrored.mirrored.items c.in_ok-joins.joins.items same c.in_ok-asked.ensures
    (leasts_seen c.in_ok-limits_of.field-0.items (map (λ (b : Limited). b.limit) c.args.begins.now) c.deref.result.now c.in_ok-asked.asked.items c.in_ok-splits.splits.items c.in_ok-limits_of.ensures c.deref.ensures.value c.in_ok-splits.ensures)
    (leasts_seen c.in_ok-mirrored_limits_of.field-0.items (map (λ (b : Limited). NEVER - b.limit) c.args.begins.now) c.deref-2.result.now c.in_ok-asked.asked.items c.in_ok-mirrored.mirrored.items c.in_ok-mirrored_limits_of.ensures c.deref-2.ensures.value c.in_ok-mirrored.ensures)
    (joins_seen c.deref-3.result.now c.in_ok-splits.splits.items c.deref-4.result.now c.in_ok-mirrored.mirrored.items c.in_ok-joins.joins.items c.deref-3.ensures.value c.deref-4.ensures.value c.in_ok-joins.ensures)

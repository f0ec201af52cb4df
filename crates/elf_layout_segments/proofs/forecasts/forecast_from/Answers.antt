use Rattle.std.proofs.Common.{◌≡◌, ◌∙◌, ℕ, Bool, List, ap, map, subst}
use Rattle.std.proofs.lemmas.Result.{err_from_is_err_and}
use Rattle.elf_image.specs.ImageModel.{section_model}
use Rattle.elf_format.specs.Image.{ImageSection}
use Rattle.elf_layout_plan.specs.Memory.{Resized}
use Rattle.elf_layout_moves.specs.Inner.{IsResized}
use Rattle.elf_layout_moves.proofs.ForCallers.{stuck_at}
use Rattle.elf_layout_segments.specs.declared.forecasts.Forecast.{Forecast}
use Rattle.elf_layout_segments.specs.Sections.{indexed_sections}
use Rattle.elf_layout_segments.specs.declared.sections.SectionAt.{SectionAt}
use Rattle.elf_layout_segments.specs.AnchorPositions.{AnchorPosition, anchor_model}
use Rattle.elf_layout_segments.specs.Forecasts.{AreFlagsLimits, AreSplitLimits}
use Rattle.elf_layout_segments.proofs.ForecastLaws.{forecast_is}
use Rattle.elf_layout_segments.proofs.forecasts.forecast_from.Goals as goal

pub returns-in_err-found-clause-fault : goal.returns-in_err-found-clause-fault
returns-in_err-found-clause-fault c =
    let is : IsResized c.args.r.now = let P : Resized → Type 0 = IsResized in subst P c.r.view_is c.r.invariant in
    let p = err_from_is_err_and c.from_residual.result c.from_residual.ensures.1 in
    rw (p.1, p.2) (stuck_at c.args.r.now is c.args.added _ c.in_err-found.ensures.fault)

-- what is seen of the leave, of limits and of sections
flags_seen : (leave told : Bool) (limits seen : List ℕ) (sections also : List ImageSection) (flags : List ℕ) → leave ≡ told → limits ≡ seen → sections ≡ also
    → AreFlagsLimits leave limits sections flags → AreFlagsLimits told seen also flags
flags_seen leave told limits seen sections also flags alike same too are =
    subst (λ (b : Bool). AreFlagsLimits b seen also flags) alike
    (subst (λ (l : List ℕ). AreFlagsLimits leave l also flags) same (subst (λ (s : List ImageSection). AreFlagsLimits leave limits s flags) too are))

splits_seen : (limits seen : List ℕ) (sections also : List SectionAt) (anchors : List AnchorPosition) (splits joins : List ℕ) → limits ≡ seen → sections ≡ also → AreSplitLimits limits sections anchors splits joins
    → AreSplitLimits seen also anchors splits joins
splits_seen limits seen sections also anchors splits joins same too are =
    subst (λ (l : List ℕ). AreSplitLimits l also anchors splits joins) same (subst (λ (s : List SectionAt). AreSplitLimits limits s anchors splits joins) too are)

pub returns-clause-is : goal.returns-clause-is
returns-clause-is c =
    let r : Resized = c.args.r.now in
    let limits : List ℕ = c.in_ok-found.found.limits.items in
    let anchors : List AnchorPosition = map anchor_model c.args.anchors.now in
    let f : Forecast = record { from = c.args.added; bound = c.in_ok-found.found.bound; flags = c.of.result; splits = c.of-2.result; joins = c.of-3.result } in
    let sections = c.sections.ensures ∙ ap (λ (q : Resized). q.image.sections) c.r.view_is in
    let leave = c.may_dynamic_move.ensures ∙ ap (λ (q : Resized). q.image.moves_dynamic) c.r.view_is in
    let indexed = c.deref.ensures.value ∙ c.in_ok-sections.ensures ∙ ap (λ (q : Resized). indexed_sections q.image) c.r.view_is in
    forecast_is r c.sections_have_sizes.ensures f limits anchors c.in_ok-flags.flags.items c.in_ok-split.split.splits.items c.in_ok-split.split.joins.items c.in_ok-found.ensures.limits c.requires
    (flags_seen c.may_dynamic_move.result r.image.moves_dynamic c.deref-3.result.now limits (map section_model c.sections.result.now) r.image.sections c.in_ok-flags.flags.items leave c.deref-3.ensures.value sections c.in_ok-flags.ensures)
    (splits_seen c.deref-2.result.now limits c.deref.result.now (indexed_sections r.image) anchors c.in_ok-split.split.splits.items c.in_ok-split.split.joins.items c.deref-2.ensures.value indexed c.in_ok-split.ensures)
    c.of.ensures c.of-2.ensures c.of-3.ensures

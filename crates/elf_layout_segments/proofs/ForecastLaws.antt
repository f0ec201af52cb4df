-- A forecast tells how many program headers more are needed.
use Rattle.std.proofs.Common.{◌≡◌, Bool, ℕ, ◌+◌, ◌-◌, ◌<◌, List, length, map, sym, ap, ◌∙◌, true}
use Rattle.std.specs.Prelude.{IsPermutation, count_by, nat_lt}
use Rattle.elf_layout_plan.specs.Anchors.{anchor_of, is_split}
use Rattle.elf_layout_plan.specs.Memory.{Resized}
use Rattle.elf_layout_plan.specs.Rounds.{added_flags, are_chosen, do_move, headers_needed}
use Rattle.elf_layout_moves.specs.Limits.{AreLimits, Covers, end_with}
use Rattle.elf_layout_moves.specs.declared.limits.TheConstants.{NEVER}
use Rattle.elf_layout_segments.specs.declared.forecasts.Forecast.{Forecast}
use Rattle.elf_layout_segments.specs.AnchorPositions.{AnchorPosition, anchor_position}
use Rattle.elf_layout_segments.specs.Forecasts.{AreFlagsLimits, AreSplitLimits, IsForecast, count_up_to, needed_at, splits_with}
use Rattle.elf_layout_segments.specs.Sections.{AreSized, indexed_sections}
use Rattle.elf_layout_segments.proofs.CountLaws.{count-permutation}
use Rattle.elf_layout_segments.proofs.FlagSteps.{flags_told}
use Rattle.elf_layout_segments.proofs.ForecastSteps.{splits_told}

needed_is : (r : Resized) (moved : List ℕ) (flags splits : ℕ) → flags ≡ length (added_flags r moved) → splits ≡ count_by (is_split r moved) r.image.segments → flags + splits ≡ headers_needed r moved
unfolding headers_needed
needed_is r moved flags splits a b = ap (λ (n : ℕ). n + splits) a ∙ ap (λ (n : ℕ). length (added_flags r moved) + n) b

pub forecast_is : (r : Resized) → AreSized r → (f : Forecast) (limits : List ℕ) (anchors : List AnchorPosition) (flags splits joins : List ℕ) → AreLimits r f.from f.bound limits
    → anchors ≡ map (λ p. anchor_position p (anchor_of r.read r.image p)) r.image.segments → AreFlagsLimits r.image.moves_dynamic limits r.image.sections flags → AreSplitLimits limits (indexed_sections r.image) anchors splits joins
    → IsPermutation flags f.flags.numbers.items → IsPermutation splits f.splits.numbers.items → IsPermutation joins f.joins.numbers.items → IsForecast r f
forecast_is r sized f limits anchors flags splits joins are same flags_are splits_are p q s = record {
  near = are.near;
  lists = are.lists;
  needs = needs;
}
  where
    needs : (added : ℕ) (moved : List ℕ) → Covers r f.from f.bound added → do_move r added moved ≡ true → are_chosen r added moved ≡ true → needed_at f (end_with r added) ≡ headers_needed r moved
    needs added moved covers move chosen =
        let end : ℕ = end_with r added in
        let near : end < NEVER = are.near added covers in
        let tells = are.tells added moved covers move chosen in
        let test : ℕ → Bool = λ n. nat_lt n (end + 1) in
        let a : count_up_to f.flags.numbers.items end ≡ length (added_flags r moved) =
        count-permutation test flags f.flags.numbers.items p ∙ flags_are.tells end near ∙ sym (flags_told r sized limits moved end tells) in
        let b = count-permutation test splits f.splits.numbers.items q in
        let c = count-permutation test joins f.joins.numbers.items s in
        let d = splits_are.tells end near ∙ ap (count_by (splits_with limits (indexed_sections r.image) end)) same ∙ splits_told r sized limits moved end near are.many tells r.image.segments in
        let e : count_up_to f.splits.numbers.items end - count_up_to f.joins.numbers.items end ≡ count_by (is_split r moved) r.image.segments =
        ap (λ (n : ℕ). n - count_up_to f.joins.numbers.items end) b ∙ ap (λ (n : ℕ). count_up_to splits end - n) c ∙ d in
        needed_is r moved (count_up_to f.flags.numbers.items end) (count_up_to f.splits.numbers.items end - count_up_to f.joins.numbers.items end) a e

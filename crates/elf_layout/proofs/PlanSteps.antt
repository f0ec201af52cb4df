-- What follows from the sections that move in the last round: a plan, or none.
use Rattle.std.proofs.Common.{◌≡◌, ℕ, ◌+◌, ◌<◌, List, true, false, length, map, refl, sym, ap, subst, ◌∙◌}
use Rattle.std.specs.Prelude.{All}
use Rattle.std.proofs.lemmas.Bool.{not_from_false}
use Rattle.elf_format.specs.declared.records.SegmentHeader.{SegmentHeader}
use Rattle.elf_format.specs.Places.{Place}
use Rattle.elf_layout_plan.specs.Memory.{Resized}
use Rattle.elf_layout_plan.specs.Plan.{IsPlan, IsTooLarge, Plan, does_plan_fit, plan_for}
use Rattle.elf_layout_plan.specs.PlanModel.{place_model}
use Rattle.elf_layout_plan.specs.Rounds.{AreRounds}
use Rattle.elf_layout_plan.specs.Standing.{places, table_offset}
use Rattle.elf_layout_plan.specs.Written.{written_segments}
use Rattle.elf_layout_segments.specs.declared.rounds.Rounds.{Rounds}
use Rattle.elf_layout.specs.declared.standing.Standing.{Standing}
use Rattle.elf_layout_segments.specs.AnchorPositions.{IsEnded}
use Rattle.elf_layout.specs.Inner.{AreParts, AreWritten, IsStanding}
use Rattle.elf_layout_segments.proofs.ForCallers.{moved_within}

abbrev pub made : List Place → List SegmentHeader → ℕ → ℕ → ℕ → ℕ → Plan
made places segments e_phoff e_shoff rounds looked =
    record { places = places; segments = segments; e_phoff = e_phoff; e_shoff = e_shoff; rounds = rounds; looked = looked }

-- the parts that were found are those of the layout
pub parts_are : (r : Resized) (moved : List ℕ) (rounds looked : ℕ) (s : Standing) (segments : List SegmentHeader) → IsStanding r moved s → AreWritten r moved segments
    → made (map place_model s.places.items) segments s.e_phoff s.e_shoff rounds looked ≡ plan_for r rounds looked moved
unfolding plan_for
parts_are r moved rounds looked s segments stands written =
    let all : List Place = places r moved in
    let headers : List SegmentHeader = written_segments r moved in
    ap (λ places. made places segments s.e_phoff s.e_shoff rounds looked) stands.places
    ∙ ap (λ ps. made all ps s.e_phoff s.e_shoff rounds looked) written.are
    ∙ ap (λ at. made all headers at s.e_shoff rounds looked) stands.e_phoff
    ∙ ap (λ at. made all headers (table_offset r moved) at rounds looked) stands.e_shoff

pub parts_found : (r : Resized) (rounds : Rounds) (moved : List ℕ) (s : Standing) (segments : List SegmentHeader) → moved ≡ rounds.moved.items → IsStanding r moved s
    → AreWritten r moved segments → AreParts r rounds (made (map place_model s.places.items) segments s.e_phoff s.e_shoff rounds.count rounds.looked)
parts_found r rounds moved s segments same stands written =
    let P : List ℕ → Type 0 = λ ms. IsStanding r ms s in
    let Q : List ℕ → Type 0 = λ ms. AreWritten r ms segments in
    let all : AreWritten r rounds.moved.items segments = subst Q same written in
    record { are = parts_are r rounds.moved.items rounds.count rounds.looked s segments (subst P same stands) all }

-- ## A plan, or none

pub ended_within : (r : Resized) (rounds : Rounds) → IsEnded r rounds → All (λ p. p < length r.image.sections) rounds.moved.items
ended_within r rounds ended = moved_within r rounds.looked rounds.moved.items ended.1.move

is_plan_for : (r : Resized) (rounds looked : ℕ) (moved : List ℕ) (before : List (List ℕ)) → AreRounds r before looked moved → rounds ≡ length before + 1
    → does_plan_fit r.image.form (plan_for r rounds looked moved) ≡ true → IsPlan r (plan_for r rounds looked moved)
unfolding plan_for
is_plan_for r rounds looked moved before ended count fits = record { before = before; moved = moved; ended = ended; counted = count; follows = refl; fits = fits }

pub planned : (r : Resized) (rounds : Rounds) (parts : Plan) → IsEnded r rounds → AreParts r rounds parts → does_plan_fit r.image.form parts ≡ true → IsPlan r parts
planned r rounds parts ended found fit =
    let moved : List ℕ = rounds.moved.items in
    let P : Plan → Type 0 = λ plan. does_plan_fit r.image.form plan ≡ true → IsPlan r plan in
    subst P (sym found.are) (is_plan_for r rounds.count rounds.looked moved ended.0 ended.1 ended.2) fit

too_large_for : (r : Resized) (rounds looked : ℕ) (moved : List ℕ) (before : List (List ℕ)) → AreRounds r before looked moved → rounds ≡ length before + 1
    → does_plan_fit r.image.form (plan_for r rounds looked moved) ≡ false → IsTooLarge r
too_large_for r rounds looked moved before ended count no_fit =
    let P : ℕ → Type 0 = λ n. does_plan_fit r.image.form (plan_for r n looked moved) ≡ false in
    record { before = before; moved = moved; looked = looked; ended = ended; too_large = not_from_false _ (subst P count no_fit) }

pub not_planned : (r : Resized) (rounds : Rounds) (parts : Plan) → IsEnded r rounds → AreParts r rounds parts → does_plan_fit r.image.form parts ≡ false → IsTooLarge r
not_planned r rounds parts ended found no_fit =
    let moved : List ℕ = rounds.moved.items in
    let P : Plan → Type 0 = λ plan. does_plan_fit r.image.form plan ≡ false in
    too_large_for r rounds.count rounds.looked moved ended.0 ended.1 ended.2 (subst P found.are no_fit)

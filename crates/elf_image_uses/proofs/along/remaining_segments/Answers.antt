-- Each program header is deserted by where sections begin.
use Rattle.std.proofs.Common.{◌≡◌, List, ℕ, Bool, true, false, ap, map, not, refl, subst, sym, ◌∙◌}
use Rattle.std.specs.Prelude.{filter}
use Rattle.std.specs.List.Sorted.{IsPermutation}
use Rattle.std.proofs.lemmas.Result.{IfOk-weaker}
use Rattle.elf_format.specs.declared.records.SegmentHeader.{SegmentHeader}
use Rattle.elf_format.specs.Image.{Image}
use Rattle.elf_format.specs.Options.{is_one_of, is_some_and}
use Rattle.elf_image.specs.Deleted.{segments_left}
use Rattle.elf_image.specs.ImageModel.{segment_model}
use Rattle.elf_image_uses.specs.Along.{is_deserted}
use Rattle.elf_image_uses.specs.Steps.{begins_of, deserted_by}
use Rattle.elf_image_uses.proofs.AlongSteps.{deserted_same, filter_same_test, filter_seen}
use Rattle.elf_image_uses.proofs.along.remaining_segments.Goals as goal

pub returns : goal.returns
returns c =
    let image : Image = c.args.image.now in
    let gone : List ℕ = c.args.gone.now in
    let going : List ℕ = c.deref.result.now in
    let staying : List ℕ = c.deref-2.result.now in
    let interpreter : Bool = c.does_go-interpreter.result in
    let go : IsPermutation (begins_of true gone image) going = subst (λ (xs : List ℕ). IsPermutation (begins_of true gone image) xs) (sym c.deref.ensures.value) c.in_ok-going.ensures.same in
    let stay : IsPermutation (begins_of false gone image) staying = subst (λ (xs : List ℕ). IsPermutation (begins_of false gone image) xs) (sym c.deref-2.ensures.value) c.in_ok-staying.ensures.same in
    let same = deserted_same image gone going staying interpreter go stay (c.does_go-interpreter.ensures ∙ ap (is_some_and (is_one_of gone)) c.interpreter_number.ensures) in
    let by_places : SegmentHeader → Bool = λ p. not (deserted_by going staying interpreter p) in
    let by_sections : SegmentHeader → Bool = λ p. not (is_deserted image gone p) in
    IfOk-weaker c.left_of.result (λ v. v.items ≡ filter (λ p. by_places (segment_model p)) c.segments.result.now) (λ v. map segment_model v.items ≡ segments_left gone image)
    (λ v is. ap (map segment_model) is
    ∙ filter_seen segment_model (λ p. by_places (segment_model p)) by_places (λ p. refl) c.segments.result.now
    ∙ ap (filter by_places) c.segments.ensures
    ∙ filter_same_test by_places by_sections (λ p. ap not (same p)) image.segments)
    c.left_of.ensures

-- Each program header is deserted by where sections begin.
use Rattle.std.proofs.Common.{◌≡◌, List, ℕ, Bool, true, false, ap, map, subst, sym, ◌∙◌}
use Rattle.std.specs.List.Sorted.{IsPermutation}
use Rattle.std.proofs.lemmas.Result.{IfOk-weaker}
use Rattle.elf_format.specs.Image.{Image}
use Rattle.elf_format.specs.Options.{is_one_of, is_some_and}
use Rattle.elf_image.specs.ImageModel.{segment_model}
use Rattle.elf_image_uses.specs.Along.{is_deserted}
use Rattle.elf_image_uses.specs.Steps.{begins_of, deserted_by}
use Rattle.elf_image_uses.proofs.AlongSteps.{deserted_same, map_same}
use Rattle.elf_image_uses.proofs.along.deserted_segments.Goals as goal

pub returns : goal.returns
returns c =
    let image : Image = c.args.image.now in
    let gone : List ℕ = c.args.gone.now in
    let going : List ℕ = c.deref.result.now in
    let staying : List ℕ = c.deref-2.result.now in
    let interpreter : Bool = c.does_go-interpreter.result in
    let go : IsPermutation (begins_of true gone image) going = subst (λ (xs : List ℕ). IsPermutation (begins_of true gone image) xs) (sym c.deref.ensures.value) c.in_ok-going.ensures.same in
    let stay : IsPermutation (begins_of false gone image) staying = subst (λ (xs : List ℕ). IsPermutation (begins_of false gone image) xs) (sym c.deref-2.ensures.value) c.in_ok-staying.ensures.same in
    IfOk-weaker c.deserted_of.result (λ v. v.items ≡ map (λ p. deserted_by going staying interpreter (segment_model p)) c.segments.result.now) (λ v. v.items ≡ map (is_deserted image gone) image.segments)
    (λ v is. is
    ∙ map_same segment_model (deserted_by going staying interpreter) (is_deserted image gone)
    (deserted_same image gone going staying interpreter go stay (c.does_go-interpreter.ensures ∙ ap (is_some_and (is_one_of gone)) c.interpreter_number.ensures))
    c.segments.result.now
    ∙ ap (map (is_deserted image gone)) c.segments.ensures)
    c.deserted_of.ensures

-- One value for each element.
use Rattle.std.proofs.Common.{◌≡◌, ◌++◌, ◌∷◌, [], ℕ, List, Option, ap, ◌∙◌}
use Rattle.std.proofs.lemmas.List.{map_push}
use Rattle.std.proofs.lemmas.Result.{err_from_is_err_and}
use Rattle.patch_bytes.specs.ByteString.{StringValue, bytes_of_each}
use Rattle.patch_bytes.specs.Memory.{memory_of, text_at}
use Rattle.elf_format.specs.Options.{each}
use Rattle.elf_format.proofs.ForCallers.ReadingSteps.{each_done, each_ends, each_goes}
use Rattle.elf_image_versions.proofs.kept.kept_texts.Goals as goal

pub returns-in_err-one : goal.returns-in_err-one
returns-in_err-one c =
    let p = err_from_is_err_and c.from_residual.result c.from_residual.ensures.1 in
    let f : ℕ → Option (List ℕ) = text_at c.args.room (memory_of c.args.texts.now) in
    rw (p.1, p.2) (each_ends f c.in_err-one.field-0.0 (bytes_of_each c.loop-place.made.items) c.args.places.now c.loop-place.place-index (0) (each f c.args.places.now) c.loop-place-test.true c.in_err-one.ensures.shown c.loop-place.invariant)

pub loop-place-preserved : goal.loop-place-preserved
loop-place-preserved c =
    let f : ℕ → Option (List ℕ) = text_at c.args.room (memory_of c.args.texts.now) in
    let made = c.in_ok-one.one in
    let shown : StringValue → List ℕ = λ x. x.bytes in
    let e : bytes_of_each c.push.new.self.items ≡ bytes_of_each c.loop-place.made.items ++ c.in_ok-one.one.now ∷ [] =
    ap bytes_of_each c.in_ok-push.ensures.items
    ∙ map_push shown c.loop-place.made.items c.borrowed.result
    ∙ ap (λ (x : StringValue). bytes_of_each c.loop-place.made.items ++ x.bytes ∷ []) c.borrowed.ensures in
    rw e (each_goes f (bytes_of_each c.loop-place.made.items) c.args.places.now c.loop-place.place-index (0) made.now (each f c.args.places.now) c.loop-place-test.true c.in_ok-one.ensures.shown c.loop-place.invariant)

pub returns : goal.returns
returns c =
    let f : ℕ → Option (List ℕ) = text_at c.args.room (memory_of c.args.texts.now) in
    each_done f (bytes_of_each c.loop-place.made.items) c.args.places.now c.loop-place.place-index (each f c.args.places.now) c.loop-place-test.false c.loop-place.invariant

-- One value for each element.
use Rattle.std.proofs.Common.{◌≡◌, ◌++◌, ◌∷◌, [], map, sym, ap, subst, ◌∙◌}
use Rattle.std.proofs.lemmas.List.{map_push}
use Rattle.std.proofs.lemmas.Result.{err_from_is_err_and}
use Rattle.elf_format.specs.Options.{each}
use Rattle.elf_format.specs.Answers.{Fails}
use Rattle.elf_format.proofs.ReadingSteps.{each_done, each_ends, each_goes}
use Rattle.test_elf_plain.specs.PlainViews.{source_model}
use Rattle.test_elf_plain.proofs.names.show_each.Goals as goal

pub returns-in_err-one : goal.returns-in_err-one
returns-in_err-one g c =
    let p = err_from_is_err_and c.from_residual.result c.from_residual.ensures.1 in
    let f = g.S.Shown.shown c.args.room (source_model c.args.texts.now) in
    let shape = g.S.Shown.shape in
    rw (p.1, p.2) (each_ends f c.in_err-one.field-0.0 (map shape c.loop-raw.shown.items) c.args.raws.now c.loop-raw.raw-index c.raw-item.result (each f c.args.raws.now) c.loop-raw-test.true
    (subst (λ e. Fails c.in_err-one.field-0.0 (f e)) c.raw-item.is c.in_err-one.ensures) c.loop-raw.invariant)

pub loop-raw-preserved : goal.loop-raw-preserved
loop-raw-preserved g c =
    let f = g.S.Shown.shown c.args.room (source_model c.args.texts.now) in
    let shape = g.S.Shown.shape in
    let made = c.in_ok-one.one in
    let e : map shape c.push.new.self.items ≡ map shape c.loop-raw.shown.items ++ shape made ∷ [] = rw c.in_ok-push.ensures.items (map_push shape c.loop-raw.shown.items made) in
    rw e (each_goes f (map shape c.loop-raw.shown.items) c.args.raws.now c.loop-raw.raw-index c.raw-item.result (shape made) (each f c.args.raws.now) c.loop-raw-test.true
    (ap f (sym c.raw-item.is) ∙ c.in_ok-one.ensures) c.loop-raw.invariant)

pub returns : goal.returns
returns g c =
    let f = g.S.Shown.shown c.args.room (source_model c.args.texts.now) in
    each_done f (map g.S.Shown.shape c.loop-raw.shown.items) c.args.raws.now c.loop-raw.raw-index (each f c.args.raws.now) c.loop-raw-test.false c.loop-raw.invariant

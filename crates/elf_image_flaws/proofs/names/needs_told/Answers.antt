-- One library after another.
use Rattle.std.proofs.Common.{ℕ, Bool, sym, ap, ◌∙◌}
use Rattle.std.specs.Prelude.{nat_lt}
use Rattle.elf_format.specs.Versions.{NeedNumbers}
use Rattle.elf_image_flaws.specs.Flaws.{need_places, needs_told, place_told}
use Rattle.elf_image_flaws.proofs.FlawSteps.{place_goes, place_here}
use Rattle.elf_image_flaws.proofs.names.needs_told.Goals as goal

pub returns-in-Some : goal.returns-in-Some
returns-in-Some c =
    let there : ℕ → Bool = λ place. nat_lt place c.args.end in
    place_here there need_places c.args.needs.now c.loop-need.need-index c.need-item.result c.in-Some.flaw (needs_told there c.args.needs.now) c.loop-need-test.true
    (ap (λ (n : NeedNumbers). place_told there (need_places n)) (sym c.need-item.is) ∙ sym c.need_told.ensures ∙ c.in-Some.is) c.loop-need.invariant

pub loop-need-preserved : goal.loop-need-preserved
loop-need-preserved c =
    let there : ℕ → Bool = λ place. nat_lt place c.args.end in
    place_goes there need_places c.args.needs.now c.loop-need.need-index c.need-item.result (needs_told there c.args.needs.now) c.loop-need-test.true
    (ap (λ (n : NeedNumbers). place_told there (need_places n)) (sym c.need-item.is) ∙ sym c.need_told.ensures ∙ c.in_default.is) c.loop-need.invariant

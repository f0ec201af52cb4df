-- One definition after another.
use Rattle.std.proofs.Common.{◌≡◌, ℕ, Bool, sym, ap, ◌∙◌}
use Rattle.std.specs.Prelude.{nat_lt}
use Rattle.elf_format.specs.Versions.{DefinitionNumbers}
use Rattle.elf_image_flaws.specs.Flaws.{definitions_told, place_told}
use Rattle.elf_image_flaws.proofs.FlawSteps.{place_goes, place_here}
use Rattle.elf_image_flaws.proofs.names.definitions_told.Goals as goal

pub returns-in-Some : goal.returns-in-Some
returns-in-Some c =
    let there : ℕ → Bool = λ place. nat_lt place c.args.end in
    let names : c.deref.result.now ≡ c.definition-item.result.names = c.deref.ensures.value ∙ ap (λ (d : DefinitionNumbers). d.names) c.definition.view_is in
    place_here there (λ (d : DefinitionNumbers). d.names) c.args.definitions.now c.loop-definition.definition-index c.definition-item.result c.in-Some.flaw (definitions_told there c.args.definitions.now)
    c.loop-definition-test.true
    (ap (λ (d : DefinitionNumbers). place_told there d.names) (sym c.definition-item.is) ∙ sym (ap (place_told there) names) ∙ sym c.place_told.ensures ∙ c.in-Some.is)
    c.loop-definition.invariant

pub loop-definition-preserved : goal.loop-definition-preserved
loop-definition-preserved c =
    let there : ℕ → Bool = λ place. nat_lt place c.args.end in
    let names : c.deref.result.now ≡ c.definition-item.result.names = c.deref.ensures.value ∙ ap (λ (d : DefinitionNumbers). d.names) c.definition.view_is in
    place_goes there (λ (d : DefinitionNumbers). d.names) c.args.definitions.now c.loop-definition.definition-index c.definition-item.result (definitions_told there c.args.definitions.now)
    c.loop-definition-test.true
    (ap (λ (d : DefinitionNumbers). place_told there d.names) (sym c.definition-item.is) ∙ sym (ap (place_told there) names) ∙ sym c.place_told.ensures ∙ c.in_default.is)
    c.loop-definition.invariant

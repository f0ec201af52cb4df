use Rattle.std.proofs.Common.{◌≡◌, List, [], ◌∷◌, length, map, subst, ap, arith}
use Rattle.std.proofs.lemmas.List.{length-append, length-map}
use Rattle.std.proofs.lemmas.Option.{slice_get_within}
use Rattle.elf_format.specs.Image.{ImageSection}
use Rattle.elf_image.specs.ImageModel.{section_model}
use Rattle.test_slow_layout.specs.Plain.{AreParts}
use Rattle.test_slow_layout.proofs.Parts.{parts_more}
use Rattle.test_slow_layout.proofs.plain.parts_of.Goals as goal

pub loop-position-preserved : goal.loop-position-preserved
loop-position-preserved c = (
  omega (arith, ap length c.in_ok-push.ensures.items, length-append c.loop-position.parts.items (c.part_of.result ∷ []), c.loop-position.invariant.0),
  parts_more section_model c.args.image.now c.args.sizes.now c.sections-sections.result.now c.loop-position.parts.items c.push.new.self.items c.loop-position.position
      c.read_section-number.result c.size_at-size.result c.index-sections-position.result c.part_of.result c.loop-position.invariant.0 c.loop-position-test.true
      c.index-sections-position.is c.part_of.ensures c.read_section-number.ensures c.size_at-size.ensures c.in_ok-push.ensures.items c.loop-position.invariant.1,
)

pub returns : goal.returns
returns c =
    let sections : List ImageSection = map section_model c.sections-sections.result.now in
    let long : length sections ≡ length c.sections-sections.result.now = length-map c.sections-sections.result.now section_model in
    subst (λ (l : List ImageSection). AreParts (record c.args.image.now { sections = l }) c.args.sizes.now c.loop-position.parts.items) c.sections-sections.ensures (record {
      many = omega (arith, c.loop-position.invariant.0, long);
      each = λ i s at. c.loop-position.invariant.1 i s (omega (arith, long, slice_get_within sections i s at)) at;
    })

-- One section after another.
use Rattle.std.proofs.Common.{◌≡◌, ◌<◌, ℕ, List, Some, length, refl, sym, ap, ◌∙◌, arith}
use Rattle.std.specs.List.{slice_get}
use Rattle.std.proofs.lemmas.List.{length-map, length-set}
use Rattle.elf_format.specs.Image.{Image}
use Rattle.elf_image.specs.ImageModel.{section_model}
use Rattle.elf_write_symbols.proofs.NumberFacts.{numbered_more}
use Rattle.elf_write_symbols.proofs.ReadyFacts.{facts}
use Rattle.elf_write_symbols.proofs.SectionFacts.{few_sections, number_here, section_below, sections_apart, sections_told}
use Rattle.elf_write_symbols.proofs.section_numbers.number_sections.Goals as goal

pub overflow_cast-numbers : goal.overflow_cast-numbers
overflow_cast-numbers c =
    let read : Image = c.args.read.now in
    let image : Image = c.args.image.now in
    omega (
      arith,
      c.loop-i-test.true,
      few_sections read image (facts read image c.requires.ready),
      length-map c.sections-i-end.result.now section_model,
      ap length c.sections-i-end.ensures,
    )

pub offset_bounds-numbers-number : goal.offset_bounds-numbers-number
offset_bounds-numbers-number c =
    let read : Image = c.args.read.now in
    let image : Image = c.args.image.now in
    let f = facts read image c.requires.ready in
    let n : ℕ = c.read_section-number.result in
    let less : c.loop-i.i < length image.sections =
    omega (arith, c.loop-i-test.true, length-map c.sections-i-end.result.now section_model, ap length c.sections-i-end.ensures) in
    let number : slice_get image.section_numbers c.loop-i.i ≡ Some n = number_here read image f c.loop-i.i n less c.read_section-number.ensures in
    let within : n < length c.loop-i.numbers = omega (arith, section_below read image f c.loop-i.i n number, c.loop-i.invariant.0) in
    grind arith

pub bounds-numbers-number : goal.bounds-numbers-number
bounds-numbers-number c =
    let read : Image = c.args.read.now in
    let image : Image = c.args.image.now in
    let f = facts read image c.requires.ready in
    let n : ℕ = c.read_section-number.result in
    let less : c.loop-i.i < length image.sections =
    omega (arith, c.loop-i-test.true, length-map c.sections-i-end.result.now section_model, ap length c.sections-i-end.ensures) in
    let number : slice_get image.section_numbers c.loop-i.i ≡ Some n = number_here read image f c.loop-i.i n less c.read_section-number.ensures in
    omega (arith, section_below read image f c.loop-i.i n number, c.loop-i.invariant.0)

pub loop-i-preserved : goal.loop-i-preserved
loop-i-preserved c =
    let read : Image = c.args.read.now in
    let image : Image = c.args.image.now in
    let f = facts read image c.requires.ready in
    let n : ℕ = c.read_section-number.result in
    let less : c.loop-i.i < length image.sections =
    omega (arith, c.loop-i-test.true, length-map c.sections-i-end.result.now section_model, ap length c.sections-i-end.ensures) in
    let number : slice_get image.section_numbers c.loop-i.i ≡ Some n = number_here read image f c.loop-i.i n less c.read_section-number.ensures in
    let within : n < length c.loop-i.numbers = omega (arith, section_below read image f c.loop-i.i n number, c.loop-i.invariant.0) in (
      length-set c.loop-i.numbers n c.loop-i.i ∙ c.loop-i.invariant.0,
      numbered_more image.section_numbers c.loop-i.i n c.loop-i.numbers _ (sections_apart read image f) number within c.loop-i.invariant.1 refl,
    )

pub returns : goal.returns
returns c =
    let read : Image = c.args.read.now in
    let image : Image = c.args.image.now in
    sections_told read image (facts read image c.requires.ready) c.loop-i.numbers c.loop-i.i c.loop-i.invariant.0
    (omega (arith, c.loop-i-test.false, length-map c.sections-i-end.result.now section_model, ap length c.sections-i-end.ensures))
    c.loop-i.invariant.1

use Rattle.std.proofs.Common.{◌≡◌, ◌∙◌, List, length, sym, ap, arith}
use Rattle.std.proofs.lemmas.List.{length-map}
use Rattle.elf_format.specs.Image.{ImageSection}
use Rattle.elf_image.specs.ImageModel.{section_model}
use Rattle.elf_write_strings.specs.PlacedTexts.{names_of_sections}
use Rattle.elf_write_strings.specs.WrittenStrings.{are_section_names_left}
use Rattle.elf_write_strings.proofs.NamesLeft.{left_all, left_on, left_out}
use Rattle.elf_write_strings.proofs.left.are_section_names_left.Goals as goal

pub loop-i-preserved : goal.loop-i-preserved
loop-i-preserved c =
    let ss : List ImageSection = c.args.image.now.sections in
    let long : length (names_of_sections ss) ≡ length ss = length-map ss (λ (s : ImageSection). s.name) in
    left_on (names_of_sections c.args.read.now.sections) c.args.image.now.section_numbers (names_of_sections ss) c.loop-i.i
    (are_section_names_left c.args.read.now c.args.image.now)
    (omega (arith, long, c.loop-i-test.true, c.loop-i.auto.i-end, ap length c.sections-i-end.ensures, length-map c.sections-i-end.result.now section_model))
    (sym c.is_section_left.ensures ∙ c.if-not-is_section_left.false) c.loop-i.invariant

pub returns-then-not-is_section_left : goal.returns-then-not-is_section_left
returns-then-not-is_section_left c =
    let ss : List ImageSection = c.args.image.now.sections in
    let long : length (names_of_sections ss) ≡ length ss = length-map ss (λ (s : ImageSection). s.name) in
    left_out (names_of_sections c.args.read.now.sections) c.args.image.now.section_numbers (names_of_sections ss) c.loop-i.i
    (are_section_names_left c.args.read.now c.args.image.now)
    (omega (arith, long, c.loop-i-test.true, c.loop-i.auto.i-end, ap length c.sections-i-end.ensures, length-map c.sections-i-end.result.now section_model))
    (sym c.is_section_left.ensures ∙ c.if-not-is_section_left.true) c.loop-i.invariant

pub returns : goal.returns
returns c =
    let ss : List ImageSection = c.args.image.now.sections in
    let long : length (names_of_sections ss) ≡ length ss = length-map ss (λ (s : ImageSection). s.name) in
    left_all (names_of_sections c.args.read.now.sections) c.args.image.now.section_numbers (names_of_sections ss) c.loop-i.i
    (are_section_names_left c.args.read.now c.args.image.now)
    (omega (arith, long, c.loop-i-test.false, c.loop-i.auto.i-end, ap length c.sections-i-end.ensures, length-map c.sections-i-end.result.now section_model))
    c.loop-i.invariant

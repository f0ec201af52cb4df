-- One section after another.
use Rattle.std.proofs.Common.{refl, ap, arith}
use Rattle.std.specs.Prelude.{◌==◌}
use Rattle.std.specs.Option.{option_map}
use Rattle.elf_format.specs.Image.{Image}
use Rattle.elf_image.specs.ImageModel.{section_model}
use Rattle.elf_image.specs.Kept.{KeptSection, kept_of_type, kept_sections}
use Rattle.std.proofs.lemmas.Bool.{eq-eqb, ne_eqb}
use Rattle.elf_image_uses.specs.Steps.{kept_as}
use Rattle.elf_image_uses.proofs.ListSteps.{first_done, first_ends, first_goes}
use Rattle.elf_image_uses.proofs.kept.table_number.Goals as goal

pub returns-then-section-kind : goal.returns-then-section-kind
returns-then-section-kind c =
    let image : Image = c.args.image.now in
    let s : KeptSection = kept_as c.loop-i.i c.kept_at-number.result.0 (section_model c.kept_at-number.result.1.now) in
    ap (option_map (λ (k : KeptSection). k.number))
    (first_ends (λ k. k.section.sh_type == c.args.kind) (kept_sections image) c.loop-i.i s (s.section.sh_type == c.args.kind) (kept_of_type c.args.kind image)
    c.kept_at-number.ensures refl (eq-eqb s.section.sh_type c.args.kind c.if-section-kind.true) c.loop-i.invariant)

pub loop-i-preserved : goal.loop-i-preserved
loop-i-preserved c =
    let image : Image = c.args.image.now in
    let s : KeptSection = kept_as c.loop-i.i c.kept_at-number.result.0 (section_model c.kept_at-number.result.1.now) in
    first_goes (λ k. k.section.sh_type == c.args.kind) (kept_sections image) c.loop-i.i s (s.section.sh_type == c.args.kind) (kept_of_type c.args.kind image)
    c.kept_at-number.ensures refl (ne_eqb s.section.sh_type c.args.kind c.if-section-kind.false) c.loop-i.invariant

pub returns : goal.returns
returns c =
    ap (option_map (λ (k : KeptSection). k.number))
    (first_done (λ k. k.section.sh_type == c.args.kind) (kept_sections c.args.image.now) c.loop-i.i (kept_of_type c.args.kind c.args.image.now) (omega arith) c.loop-i.invariant)

-- One section after another.
use Rattle.std.proofs.Common.{ap, ◌∙◌, arith}
use Rattle.std.specs.Prelude.{◌&&◌, not}
use Rattle.std.specs.List.{list_any}
use Rattle.elf_format.specs.Options.{is_one_of}
use Rattle.elf_image.specs.ImageModel.{section_model}
use Rattle.elf_image.specs.Kept.{KeptSection, kept_sections}
use Rattle.elf_image_uses.specs.Needed.{names_section}
use Rattle.elf_image_uses.specs.Staying.{staying, stays}
use Rattle.elf_image_uses.specs.Steps.{kept_as}
use Rattle.elf_image_uses.proofs.ListSteps.{some_done, some_ends, some_goes}
use Rattle.elf_image_uses.proofs.NameSteps.{section_named}
use Rattle.elf_image_uses.proofs.needed.is_gone_named.Goals as goal

pub returns-then-is_staying_user : goal.returns-then-is_staying_user
returns-then-is_staying_user c =
    let s : KeptSection = kept_as c.loop-i.i c.kept_at-number.result.0 (section_model c.kept_at-number.result.1.now) in
    some_ends (stays c.args.gone.now) (λ k. list_any (names_section k.section) c.args.gone.now) (kept_sections c.args.image.now) c.loop-i.i s c.is_staying_user.result
    (list_any (λ k. list_any (names_section k.section) c.args.gone.now) (staying c.args.gone.now c.args.image.now)) c.kept_at-number.ensures
    (c.is_staying_user.ensures ∙ ap (λ b. not (is_one_of c.args.gone.now s.number) && b) (section_named c.args.gone.now s.section)) c.if-is_staying_user.true c.loop-i.invariant

pub loop-i-preserved : goal.loop-i-preserved
loop-i-preserved c =
    let s : KeptSection = kept_as c.loop-i.i c.kept_at-number.result.0 (section_model c.kept_at-number.result.1.now) in
    some_goes (stays c.args.gone.now) (λ k. list_any (names_section k.section) c.args.gone.now) (kept_sections c.args.image.now) c.loop-i.i s c.is_staying_user.result
    (list_any (λ k. list_any (names_section k.section) c.args.gone.now) (staying c.args.gone.now c.args.image.now)) c.kept_at-number.ensures
    (c.is_staying_user.ensures ∙ ap (λ b. not (is_one_of c.args.gone.now s.number) && b) (section_named c.args.gone.now s.section)) c.if-is_staying_user.false c.loop-i.invariant

pub returns : goal.returns
returns c =
    some_done (stays c.args.gone.now) (λ k. list_any (names_section k.section) c.args.gone.now) (kept_sections c.args.image.now) c.loop-i.i
    (list_any (λ k. list_any (names_section k.section) c.args.gone.now) (staying c.args.gone.now c.args.image.now)) (omega arith) c.loop-i.invariant

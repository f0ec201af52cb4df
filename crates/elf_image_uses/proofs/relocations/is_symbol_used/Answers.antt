-- One section after another.
use Rattle.std.proofs.Common.{ap, ◌∙◌, arith}
use Rattle.std.specs.Prelude.{◌&&◌, ◌==◌, not}
use Rattle.std.specs.List.{list_any}
use Rattle.elf_format.specs.declared.form.Form.{Form}
use Rattle.elf_format.specs.Options.{is_one_of}
use Rattle.elf_image.specs.ImageModel.{section_model}
use Rattle.elf_image.specs.Kept.{KeptSection, kept_sections}
use Rattle.elf_image_uses.specs.Relocated.{is_symbol_used, names_symbol}
use Rattle.elf_image_uses.specs.Staying.{staying, stays}
use Rattle.elf_image_uses.specs.Steps.{kept_as}
use Rattle.elf_image_uses.proofs.ListSteps.{some_done, some_ends, some_goes}
use Rattle.elf_image_uses.proofs.NameSteps.{symbol_named}
use Rattle.elf_image_uses.proofs.relocations.is_symbol_used.Goals as goal

pub returns-then-is_staying_user : goal.returns-then-is_staying_user
returns-then-is_staying_user c =
    let form : Form = c.form-form.result in
    let s : KeptSection = kept_as c.loop-i.i c.kept_at-number.result.0 (section_model c.kept_at-number.result.1.now) in
    some_ends (stays c.args.gone.now) (λ k. list_any (λ n. not (n == 0) && names_symbol form c.args.table n k.section) c.args.numbers.now) (kept_sections c.args.image.now) c.loop-i.i s
    c.is_staying_user.result (is_symbol_used form c.args.table c.args.numbers.now (staying c.args.gone.now c.args.image.now)) c.kept_at-number.ensures
    (c.is_staying_user.ensures ∙ ap (λ b. not (is_one_of c.args.gone.now s.number) && b) (symbol_named form c.args.table c.args.numbers.now s.section)) c.if-is_staying_user.true c.loop-i.invariant
    ∙ ap (λ (f : Form). is_symbol_used f c.args.table c.args.numbers.now (staying c.args.gone.now c.args.image.now)) c.form-form.ensures

pub loop-i-preserved : goal.loop-i-preserved
loop-i-preserved c =
    let form : Form = c.form-form.result in
    let s : KeptSection = kept_as c.loop-i.i c.kept_at-number.result.0 (section_model c.kept_at-number.result.1.now) in
    some_goes (stays c.args.gone.now) (λ k. list_any (λ n. not (n == 0) && names_symbol form c.args.table n k.section) c.args.numbers.now) (kept_sections c.args.image.now) c.loop-i.i s
    c.is_staying_user.result (is_symbol_used form c.args.table c.args.numbers.now (staying c.args.gone.now c.args.image.now)) c.kept_at-number.ensures
    (c.is_staying_user.ensures ∙ ap (λ b. not (is_one_of c.args.gone.now s.number) && b) (symbol_named form c.args.table c.args.numbers.now s.section)) c.if-is_staying_user.false c.loop-i.invariant

pub returns : goal.returns
returns c =
    let form : Form = c.form-form.result in
    some_done (stays c.args.gone.now) (λ k. list_any (λ n. not (n == 0) && names_symbol form c.args.table n k.section) c.args.numbers.now) (kept_sections c.args.image.now) c.loop-i.i
    (is_symbol_used form c.args.table c.args.numbers.now (staying c.args.gone.now c.args.image.now)) (omega arith) c.loop-i.invariant
    ∙ ap (λ (f : Form). is_symbol_used f c.args.table c.args.numbers.now (staying c.args.gone.now c.args.image.now)) c.form-form.ensures

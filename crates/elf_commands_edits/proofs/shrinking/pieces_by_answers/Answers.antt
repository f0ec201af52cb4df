use Rattle.std.proofs.Common.{List, Result, Ok, Err, map, string_bytes, subst, ◌∙◌, ap, inl, inr}
use Rattle.std.specs.Prelude.{IfOk}
use Rattle.std.proofs.lemmas.Result.{IfErr-weaker, IfOk-weaker}
use Rattle.arwen_elf.specs.Told.{Refuses}
use Rattle.elf_edits_shrink.specs.ShrinkModel.{answer_model}
use Rattle.elf_edits.specs.Edit.{ShrinkRpath}
use Rattle.elf_edits.specs.Edited.{step}
use Rattle.elf_edits_shrink.specs.declared.probe.ProbeAnswer.{ProbeAnswer}
use Rattle.elf_commands_edits.specs.ShrunkImages.{Steps}
use Rattle.elf_commands_edits.specs.Shrinking.{removal_lines}
use Rattle.elf_commands_edits.proofs.shrinking.pieces_by_answers.Goals as goal

all_three : {A E : Type 0} (P Q R : A → Type 0) (r : Result A E) → IfOk r P → IfOk r Q → IfOk r R → IfOk r (λ x. P x × Q x × R x)
all_three P Q R (Ok x) p q r = (p, q, r)
all_three P Q R (Err e) p q r = tt

pub returns-in-Ok-clause-shrunk : goal.returns-in-Ok-clause-shrunk
returns-in-Ok-clause-shrunk c =
    let prefixes = map string_bytes c.args.prefixes.now in
    let At : List ProbeAnswer → Type 0 = λ l. Steps (ShrinkRpath prefixes (map answer_model l)) c.args.elf.inner c.shrink_image-removed.new.elf.inner c.in-Ok.removed in
    let steps = subst At c.as_slice.ensures.value c.in-Ok.ensures.ok in
    let made = c.shrunk_of.result in
    IfOk-weaker made _ _ (λ shrunk all. record {
      made = c.shrink_image-removed.new.elf.inner;
      makes = steps.makes;
      makeable = all.0;
      written = all.1;
      told = all.2 ∙ ap removal_lines steps.are;
    }) (all_three _ _ _ made c.shrunk_of.ensures.makeable c.shrunk_of.ensures.bytes c.shrunk_of.ensures.told)

pub returns-in-Ok-clause-err : goal.returns-in-Ok-clause-err
returns-in-Ok-clause-err c =
    let prefixes = map string_bytes c.args.prefixes.now in
    let At : List ProbeAnswer → Type 0 = λ l. Steps (ShrinkRpath prefixes (map answer_model l)) c.args.elf.inner c.shrink_image-removed.new.elf.inner c.in-Ok.removed in
    let steps = subst At c.as_slice.ensures.value c.in-Ok.ensures.ok in
    IfErr-weaker c.shrunk_of.result _ _ (λ e told. (told.0, inr (c.shrink_image-removed.new.elf.inner, steps.makes, told.1), told.2)) c.shrunk_of.ensures.err

pub returns-in-Err-clause-err : goal.returns-in-Err-clause-err
returns-in-Err-clause-err c =
    let prefixes = map string_bytes c.args.prefixes.now in
    let e = c.in-Err.error in
    let At : List ProbeAnswer → Type 0 = λ l. Refuses e (step (ShrinkRpath prefixes (map answer_model l)) c.args.elf.inner) in
    let refuses = subst At c.as_slice.ensures.value c.in-Err.ensures.err in
    (e, inl refuses, c.from.ensures)

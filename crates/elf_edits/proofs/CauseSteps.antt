-- Steps of looking for a cause.
use Rattle.std.proofs.Common.{◌≡◌, true, false, refl, sym, ap, ◌∙◌, Option, Some, None, is_some, option_map}
use Rattle.std.specs.Prelude.{◌==◌}
use Rattle.std.specs.List.{list_any}
use Rattle.std.proofs.lemmas.Bool.{cond-true, cond-false, eq-eqb, ne_eqb, true≢false}
use Rattle.elf_format.specs.declared.constants.TheConstants.{EM_MIPS}
use Rattle.elf_image.specs.Options.{first_there}
use Rattle.elf_edits.specs.Cause.{Cause, Facts, MipsImage, NulInText, cause_if, first_cause, interpreter_missing, list_missing, own_cause}
use Rattle.elf_edits.specs.Edit.{Edit, task_of, texts_of}
use Rattle.elf_edits.specs.Texts.{holds_nul}
use Rattle.elf_edits.proofs.ListLaws.{first_of_three}

-- what is missing comes before the others
module _ (edit : Edit) (facts : Facts) where
  what_is_missing : Option Cause
  what_is_missing = first_there (list_missing (task_of edit) facts) (interpreter_missing edit facts)

  the_others : Option Cause
  the_others = first_there (cause_if (list_any holds_nul (texts_of edit)) NulInText) (own_cause edit facts)

  pub for_mips : facts.machine ≡ EM_MIPS → Some MipsImage ≡ first_cause edit facts
  unfolding first_cause
  for_mips h = sym (ap (λ o. first_there o (first_there (list_missing (task_of edit) facts) (first_there (interpreter_missing edit facts) (first_there (cause_if (list_any holds_nul (texts_of edit)) NulInText) (own_cause edit facts)))))
      (cond-true (facts.machine == EM_MIPS) (Some MipsImage) None (eq-eqb facts.machine EM_MIPS h)))

  not_for_mips : (facts.machine ≡ EM_MIPS → ⊥) → first_cause edit facts ≡ first_there what_is_missing the_others
  unfolding first_cause what_is_missing the_others
  not_for_mips h =
      ap (λ o. first_there o (first_there (list_missing (task_of edit) facts) (first_there (interpreter_missing edit facts) (first_there (cause_if (list_any holds_nul (texts_of edit)) NulInText) (own_cause edit facts)))))
      (cond-false (facts.machine == EM_MIPS) (Some MipsImage) None (ne_eqb facts.machine EM_MIPS h))
      ∙ sym (first_of_three (list_missing (task_of edit) facts) (interpreter_missing edit facts) (first_there (cause_if (list_any holds_nul (texts_of edit)) NulInText) (own_cause edit facts)))

  is_there : {T : Type 0} (f : T → Cause) (found : Option T) (rest : Option Cause) → is_some found ≡ true → first_there (option_map f found) rest ≡ option_map f found
  is_there f None rest h = absurd (true≢false (sym h))
  is_there f (Some x) rest h = refl

  is_not_there : {T : Type 0} (f : T → Cause) (found : Option T) (rest : Option Cause) → is_some found ≡ false → first_there (option_map f found) rest ≡ rest
  is_not_there f None rest h = refl
  is_not_there f (Some x) rest h = absurd (true≢false h)

  pub for_missing : {T : Type 0} (f : T → Cause) (found : Option T) → (facts.machine ≡ EM_MIPS → ⊥) → option_map f found ≡ first_there (list_missing (task_of edit) facts) (interpreter_missing edit facts)
      → is_some found ≡ true → option_map f found ≡ first_cause edit facts
  unfolding what_is_missing
  for_missing f found h e there = sym (not_for_mips h ∙ ap (λ o. first_there o the_others) (sym e) ∙ is_there f found the_others there)

  none_missing : {T : Type 0} (f : T → Cause) (found : Option T) → (facts.machine ≡ EM_MIPS → ⊥) → option_map f found ≡ first_there (list_missing (task_of edit) facts) (interpreter_missing edit facts)
      → is_some found ≡ false → first_cause edit facts ≡ the_others
  unfolding what_is_missing
  none_missing f found h e there = not_for_mips h ∙ ap (λ o. first_there o the_others) (sym e) ∙ is_not_there f found the_others there

  pub for_nul : {T : Type 0} (f : T → Cause) (found : Option T) → (facts.machine ≡ EM_MIPS → ⊥) → option_map f found ≡ first_there (list_missing (task_of edit) facts) (interpreter_missing edit facts)
      → is_some found ≡ false → list_any holds_nul (texts_of edit) ≡ true → Some NulInText ≡ first_cause edit facts
  unfolding the_others
  for_nul f found h e there nul = sym (none_missing f found h e there ∙ ap (λ o. first_there o (own_cause edit facts)) (cond-true (list_any holds_nul (texts_of edit)) (Some NulInText) None nul))

  pub for_its_own : {T : Type 0} (f : T → Cause) (found : Option T) → (facts.machine ≡ EM_MIPS → ⊥) → option_map f found ≡ first_there (list_missing (task_of edit) facts) (interpreter_missing edit facts)
      → is_some found ≡ false → list_any holds_nul (texts_of edit) ≡ false → own_cause edit facts ≡ first_cause edit facts
  unfolding the_others
  for_its_own f found h e there nul = sym (none_missing f found h e there ∙ ap (λ o. first_there o (own_cause edit facts)) (cond-false (list_any holds_nul (texts_of edit)) (Some NulInText) None nul))

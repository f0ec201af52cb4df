-- The run, or its refusal.
use Rattle.std.proofs.Common.{ap, length, option_map, refl, sym, ◌∙◌}
use Rattle.std.proofs.lemmas.Bool.{eqb-true}
use Rattle.std.proofs.lemmas.List.{nil_from_length}
use Rattle.elf_edits.specs.Cause.{Facts}
use Rattle.elf_edits.specs.CauseModel.{cause_model}
use Rattle.elf_edits.specs.Decided.{first_refusal}
use Rattle.elf_apply.specs.Taken.{edits_model}
use Rattle.elf_apply.specs.Told.{refusal_model}
use Rattle.elf_apply.proofs.TakenLaws.{batch_refused, batch_taken, no_edits_taken}
use Rattle.elf_apply.proofs.steps.apply.Goals as goal

pub returns-then-is_empty-clause-takes : goal.returns-then-is_empty-clause-takes
returns-then-is_empty-clause-takes c =
    no_edits_taken c.args.edits.now c.args.builder.now (nil_from_length c.args.edits.now (eqb-true (length c.args.edits.now) 0 (sym c.if-is_empty.ensures)))

pub returns-in-Some-clause-takes : goal.returns-in-Some-clause-takes
returns-in-Some-clause-takes c = (refl, batch_refused c.args.edits.now c.args.builder.now c.cause_error-fault.result c.in-Some.index (cause_model c.in-Some.cause) c.cause_error-fault.ensures (sym (sym (ap (option_map refusal_model) c.in-Some.is) ∙ c.in_ok-refusal.ensures ∙ ap (λ (f : Facts). first_refusal f 0 (edits_model c.args.edits.now)) c.image_facts.ensures)))

pub draft_of-requires : goal.draft_of-requires
draft_of-requires c = sym (sym (ap (option_map refusal_model) c.in_default.is) ∙ c.in_ok-refusal.ensures ∙ ap (λ (f : Facts). first_refusal f 0 (edits_model c.args.edits.now)) c.image_facts.ensures)

pub put_in_place-requires : goal.put_in_place-requires
put_in_place-requires c = c.in_ok-draft.ensures.draft

pub returns-clause-takes : goal.returns-clause-takes
returns-clause-takes c = batch_taken c.args.edits.now c.args.builder.now c.put_in_place.new.builder c.in_ok-draft.draft (sym (sym (ap (option_map refusal_model) c.in_default.is) ∙ c.in_ok-refusal.ensures ∙ ap (λ (f : Facts). first_refusal f 0 (edits_model c.args.edits.now)) c.image_facts.ensures)) c.in_ok-draft.ensures c.in_ok-put_in_place.ensures

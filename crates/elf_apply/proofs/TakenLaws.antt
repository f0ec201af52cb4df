-- What edits leave, by what was written, and what their errors tell.
use Rattle.std.proofs.Common.{◌≡◌, ℕ, ◌+◌, Bool, true, false, not, ◌||◌, List, [], ◌∷◌, refl, sym, ap, subst, ◌∙◌, Option, Some, None, option_map, Result, Ok, Err}
use Rattle.std.specs.Prelude.{codes, ◌==◌, unwrap_or}
use Rattle.elf_format.specs.declared.constants.TheConstants.{DT_RPATH, DT_RUNPATH, EM_MIPS}
use Rattle.elf_image.specs.Dynamic.{Entry}
use Rattle.elf_image.specs.Image.{Image, lists_tag}
use Rattle.elf_image.specs.Options.{first_there}
use Rattle.elf_edits.specs.declared.edit.ElfEdit.{ElfEdit}
use Rattle.elf_edits.specs.Batch.{Refusal, answer_at, run, run_from, then_on}
use Rattle.elf_edits.specs.Cause.{BadPageSize, Cause, Facts, MipsImage, NoDynamic, cause, cause_if, facts_of, first_cause, is_page_size}
use Rattle.elf_edits.specs.Decided.{all_edited, first_refusal, unless_refused}
use Rattle.elf_edits.specs.Edit.{Edit, SetPageSize, ForceRpath, ForceRunpath, edited_entries, touches_entries}
use Rattle.elf_edits.specs.EditModel.{edit_model}
use Rattle.elf_edits.specs.Edited.{edited_image, is_list_with, step, with_load_align}
use Rattle.elf_edits.proofs.ForCallers.{batch_decided, step_is, step_refused}
use Rattle.elf_apply.specs.declared.draft.Draft.{Draft}
use Rattle.elf_apply.specs.declared.error.ElfError.{ElfError}
use Rattle.elf_apply.specs.declared.error.ElfError.TheVariants.{InvalidDtNeededEncoding, Io, Memory, Modify, Parse, Write}
use Rattle.elf_apply.specs.declared.error.ModifyCause.{ModifyCause}
use Rattle.elf_apply.specs.Drafted.{OnlyShows, drafted, with_retagged}
use Rattle.elf_apply.specs.Taken.{edits_model}
use Rattle.elf_apply.specs.Told.{IsRefusedAt, IsRefusedFor, Refuses, RefusesAt, cause_told}
use Rattle.elf_apply.proofs.DraftLaws.{image_with, or_true, page_size_edit}

-- ## One edit

pub refused : (edit : Edit) (old : Image) (e : ElfError) (reason : Cause) → Refuses e (Err reason) → cause edit old ≡ Some reason → Refuses e (step edit old)
refused edit old e reason tells some = subst (λ (answer : Result Image Cause). Refuses e answer) (sym (step_refused edit old reason some)) tells

-- ## Batches

-- no edits leave the image
pub no_edits_taken : (edits : List ElfEdit) (old : Image) → edits ≡ [] → run (edits_model edits) old ≡ Ok old
unfolding run_from
no_edits_taken [] old none = refl
no_edits_taken (edit ∷ edits) old none = absurd (cc)

pub batch_taken : (edits : List ElfEdit) (old new : Image) (d : Draft) → first_refusal (facts_of old) 0 (edits_model edits) ≡ None → OnlyShows old (all_edited (edits_model edits) old) d → new ≡ drafted d old → run (edits_model edits) old ≡ Ok new
batch_taken edits old new d none only put =
    batch_decided edits 0 old ∙ ap (λ o. unless_refused o (all_edited (edits_model edits) old)) none ∙ ap Ok (sym (put ∙ only.shows))

told_at : (e : ElfError) (index : ℕ) (reason : Cause) → Refuses e (Err reason) → RefusesAt index e (Err (record { index = index; cause = reason }))
told_at Memory index reason h = tt
told_at (Modify c) index reason h = by_cause (cause_told c) h
  where
    by_cause : (o : Option Cause) → IsRefusedFor o (Err reason) → IsRefusedAt index o (Err (record { index = index; cause = reason }))
    by_cause None k = k
    by_cause (Some other) k = let same : reason ≡ other = cc in ap (λ (r : Cause). Err (record { index = index; cause = r })) same
told_at (Io fault) index reason h = h
told_at (Parse fault) index reason h = h
told_at (Write fault) index reason h = h
told_at InvalidDtNeededEncoding index reason h = h

pub batch_refused : (edits : List ElfEdit) (old : Image) (e : ElfError) (index : ℕ) (reason : Cause) → Refuses e (Err reason) → first_refusal (facts_of old) 0 (edits_model edits) ≡ Some (record { index = index; cause = reason }) → RefusesAt index e (run (edits_model edits) old)
batch_refused edits old e index reason tells some =
    subst (λ (answer : Result Image Refusal). RefusesAt index e answer)
    (sym (batch_decided edits 0 old ∙ ap (λ o. unless_refused o (all_edited (edits_model edits) old)) some))
    (told_at e index reason tells)

-- ## One edit, a batch of one

behind : ℕ → Result Image Cause → Result Image Refusal
behind done answer = then_on (answer_at done answer) (run_from (done + 1) [])

step_taken : (answer : Result Image Cause) (new : Image) → behind 0 answer ≡ Ok new → answer ≡ Ok new
unfolding behind run_from
step_taken (Ok image) new h = cc
step_taken (Err cause) new h = absurd (cc)

step_refused_for : (told : Option Cause) (index : ℕ) (answer : Result Image Cause) → IsRefusedAt index told (behind 0 answer) → IsRefusedFor told answer
unfolding behind run_from
step_refused_for None index answer h = h
step_refused_for (Some cause) index (Ok image) h = absurd (cc)
step_refused_for (Some cause) index (Err reason) h =
    let same : record { index = 0; cause = reason } ≡ record { index = index; cause = cause } = cc in
    ap (λ (refusal : Refusal). Err refusal.cause) same

step_refuses : (e : ElfError) (index : ℕ) (answer : Result Image Cause) → RefusesAt index e (behind 0 answer) → Refuses e answer
step_refuses Memory index answer h = tt
step_refuses (Modify c) index answer h = step_refused_for (cause_told c) index answer h
step_refuses (Io fault) index answer h = h
step_refuses (Parse fault) index answer h = h
step_refuses (Write fault) index answer h = h
step_refuses InvalidDtNeededEncoding index answer h = h

run_of_one : (edits : List ElfEdit) (edit : ElfEdit) (old : Image) → edits ≡ edit ∷ [] → run (edits_model edits) old ≡ behind 0 (step (edit_model edit) old)
unfolding behind run_from
run_of_one edits edit old one = ap (λ l. run (edits_model l) old) one

pub one_taken : (edits : List ElfEdit) (edit : ElfEdit) (old new : Image) → edits ≡ edit ∷ [] → run (edits_model edits) old ≡ Ok new → step (edit_model edit) old ≡ Ok new
one_taken edits edit old new one taken = step_taken (step (edit_model edit) old) new (sym (run_of_one edits edit old one) ∙ taken)

pub one_refused : (edits : List ElfEdit) (edit : ElfEdit) (old : Image) (e : ElfError) (index : ℕ) → edits ≡ edit ∷ [] → RefusesAt index e (run (edits_model edits) old) → Refuses e (step (edit_model edit) old)
one_refused edits edit old e index one tells =
    step_refuses e index (step (edit_model edit) old) (subst (λ (answer : Result Image Refusal). RefusesAt index e answer) (run_of_one edits edit old one) tells)

-- ## In place

told_in_place : (c : ModifyCause) (found : Option Cause) (edit : Edit) (old : Image) → Some (cause_told c) ≡ option_map Some found → cause edit old ≡ found → IsRefusedFor (cause_told c) (step edit old)
told_in_place c None edit old h is = absurd (cc)
told_in_place c (Some reason) edit old h is =
    let told : cause_told c ≡ Some reason = cc in
    subst (λ (o : Option Cause). IsRefusedFor o (step edit old)) (sym told) (step_refused edit old reason is)

pub none_found : (found : Option Cause) → None ≡ option_map {U = Option Cause} Some found → found ≡ None
none_found None h = refl
none_found (Some reason) h = absurd (cc)

pub or_nothing : (o : Option Cause) → first_there o None ≡ o
or_nothing None = refl
or_nothing (Some reason) = refl

-- the mark of a list that is there, or is not
test_listed : (test : List Entry → Bool) → test [] ≡ false → (o : Option (List Entry)) → is_list_with test o ≡ test (unwrap_or o [])
test_listed test none None = sym none
test_listed test none (Some es) = refl

pub used_runpath : (old : Image) → with_retagged DT_RPATH DT_RUNPATH old ≡ edited_image ForceRunpath old
unfolding edited_image touches_entries edited_entries
used_runpath old =
    ap (λ b. record old { changed = old.changed || b; entries = option_map (edited_entries old.header.e_machine ForceRunpath) old.entries }) (sym (test_listed (lists_tag DT_RPATH) refl old.entries))

pub used_rpath : (old : Image) → with_retagged DT_RUNPATH DT_RPATH old ≡ edited_image ForceRpath old
unfolding edited_image touches_entries edited_entries
used_rpath old =
    ap (λ b. record old { changed = old.changed || b; entries = option_map (edited_entries old.header.e_machine ForceRpath) old.entries }) (sym (test_listed (lists_tag DT_RUNPATH) refl old.entries))

pub sized : (size : ℕ) (old : Image) → record old { changed = true; segments = with_load_align size old.segments; page_size = Some size } ≡ edited_image (SetPageSize size) old
unfolding image_with
sized size old = ap (λ b. record old { changed = b; segments = with_load_align size old.segments; page_size = Some size }) (sym (or_true old.changed)) ∙ sym (page_size_edit size old)

-- ## What the causes in place tell

size_causes : ℕ → Facts → Option Cause
size_causes size facts = first_there (cause_if (facts.machine == EM_MIPS) MipsImage) (cause_if (not (is_page_size size)) (BadPageSize size))

pub page_size_refused : (told : ModifyCause) (size : ℕ) (old : Image) (facts : Facts) → facts ≡ facts_of old
    → option_map cause_told (Some told) ≡ option_map Some (first_there (cause_if (facts.machine == EM_MIPS) MipsImage) (cause_if (not (is_page_size size)) (BadPageSize size))) → IsRefusedFor (cause_told told) (step (SetPageSize size) old)
unfolding cause first_cause size_causes
page_size_refused told size old facts same h = told_in_place told (size_causes size (facts_of old)) (SetPageSize size) old (h ∙ ap (λ (f : Facts). option_map {U = Option Cause} Some (size_causes size f)) same) refl

pub page_size_taken : (size : ℕ) (old new : Image) (facts : Facts) → facts ≡ facts_of old
    → None ≡ option_map {U = Option Cause} Some (first_there (cause_if (facts.machine == EM_MIPS) MipsImage) (cause_if (not (is_page_size size)) (BadPageSize size)))
    → new ≡ record old { changed = true; segments = with_load_align size old.segments; page_size = Some size } → step (SetPageSize size) old ≡ Ok new
unfolding cause first_cause size_causes
page_size_taken size old new facts same h put =
    let none : size_causes size (facts_of old) ≡ None = none_found (size_causes size (facts_of old)) (h ∙ ap (λ (f : Facts). option_map {U = Option Cause} Some (size_causes size f)) same) in
    step_is (SetPageSize size) old none ∙ ap Ok (sym (put ∙ sized size old))

task_causes : List ℕ → Facts → Option Cause
task_causes task facts = first_there (cause_if (facts.machine == EM_MIPS) MipsImage) (cause_if (not facts.has_list) (NoDynamic task))

-- an edit of the list that has no texts and no cause of its own
pub record IsPlain (edit : Edit) (task : List ℕ) : Type 0 where
  pub is : (old : Image) → cause edit old ≡ first_there (cause_if ((facts_of old).machine == EM_MIPS) MipsImage) (cause_if (not (facts_of old).has_list) (NoDynamic task))

pub plain_rpath : IsPlain ForceRpath (codes "change rpath")
unfolding cause first_cause
plain_rpath = record { is = λ old. ap (first_there (cause_if ((facts_of old).machine == EM_MIPS) MipsImage)) (or_nothing (cause_if (not (facts_of old).has_list) (NoDynamic (codes "change rpath")))) }

pub plain_runpath : IsPlain ForceRunpath (codes "change runpath")
unfolding cause first_cause
plain_runpath = record { is = λ old. ap (first_there (cause_if ((facts_of old).machine == EM_MIPS) MipsImage)) (or_nothing (cause_if (not (facts_of old).has_list) (NoDynamic (codes "change runpath")))) }

pub plain_refused : (told : ModifyCause) (edit : Edit) (task : List ℕ) (old : Image) (facts : Facts) → IsPlain edit task → facts ≡ facts_of old
    → option_map cause_told (Some told) ≡ option_map Some (first_there (cause_if (facts.machine == EM_MIPS) MipsImage) (cause_if (not facts.has_list) (NoDynamic task))) → IsRefusedFor (cause_told told) (step edit old)
unfolding task_causes
plain_refused told edit task old facts plain same h = told_in_place told (task_causes task (facts_of old)) edit old (h ∙ ap (λ (f : Facts). option_map {U = Option Cause} Some (task_causes task f)) same) (plain.is old)

pub plain_taken : (edit : Edit) (task : List ℕ) (old new : Image) (facts : Facts) → IsPlain edit task → facts ≡ facts_of old
    → None ≡ option_map {U = Option Cause} Some (first_there (cause_if (facts.machine == EM_MIPS) MipsImage) (cause_if (not facts.has_list) (NoDynamic task)))
    → new ≡ edited_image edit old → step edit old ≡ Ok new
unfolding task_causes
plain_taken edit task old new facts plain same h put =
    let none : task_causes task (facts_of old) ≡ None = none_found (task_causes task (facts_of old)) (h ∙ ap (λ (f : Facts). option_map {U = Option Cause} Some (task_causes task f)) same) in
    step_is edit old (plain.is old ∙ none) ∙ ap Ok (sym put)

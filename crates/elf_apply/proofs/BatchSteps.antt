-- Steps through the edits of a batch, and through a list of batches.
use Rattle.std.proofs.Common.{◌≡◌, ◌<◌, ◌≤◌, ◌+◌, ℕ, zero, suc, List, [], ◌∷◌, ◌++◌, length, drop, take, get_or, refl, sym, ap, subst, ◌∙◌, Option, Some, None, Result, Ok, Err, IsOk, add-one, drop-cons, arith}
use Rattle.std.proofs.lemmas.List.{drop_all, map_more}
use Rattle.elf_image.specs.Image.{Image}
use Rattle.elf_edits.specs.declared.edit.ElfEdit.{ElfEdit}
use Rattle.elf_edits.specs.Batch.{Refusal, run}
use Rattle.elf_edits.specs.EditModel.{edit_model}
use Rattle.elf_edits.specs.Cause.{Cause, Facts, first_cause}
use Rattle.elf_edits.specs.Decided.{all_edited, first_refusal, refusal_or}
use Rattle.elf_edits.specs.Edit.{Edit}
use Rattle.elf_edits.specs.Edited.{edited_image}
use Rattle.elf_edits.proofs.ForCallers.{all_edited-push}
use Rattle.elf_apply.specs.declared.batch.ElfBatchError.{ElfBatchError}
use Rattle.elf_apply.specs.declared.draft.Draft.{Draft}
use Rattle.elf_apply.specs.Drafted.{OnlyShows, Writes}
use Rattle.elf_apply.specs.Taken.{AnswersAll, AnswersBatch, TakesBatch, edits_model, left_upon, left_upon_all}

-- ## The first refused edit

module _ (facts : Facts) (xs : List ElfEdit) (i : ℕ) (x : ElfEdit) where
  -- the first refusal from an edit on
  from_here : Option Refusal
  from_here = first_refusal facts i (edits_model (drop i xs))

  at_edit : i < length xs → x ≡ get_or xs i x → from_here ≡ refusal_or (first_cause (edit_model x) facts) i (first_refusal facts (i + 1) (edits_model (drop (i + 1) xs)))
  unfolding from_here first_refusal
  at_edit here e = ap (λ ys. first_refusal facts i (edits_model ys)) (drop_here ∙ ap (λ y. y ∷ drop (i + 1) xs) (sym e))
    where
      drop_here : drop i xs ≡ get_or xs i x ∷ drop (i + 1) xs
      drop_here = rw (add-one, drop-cons xs i x)

  pub accepted_here : i < length xs → x ≡ get_or xs i x → first_cause (edit_model x) facts ≡ None → (all : Option Refusal) → first_refusal facts i (edits_model (drop i xs)) ≡ all → first_refusal facts (i + 1) (edits_model (drop (i + 1) xs)) ≡ all
  unfolding from_here
  accepted_here here e none all h = sym (at_edit here e ∙ ap (λ o. refusal_or o i (first_refusal facts (i + 1) (edits_model (drop (i + 1) xs)))) none) ∙ h

  pub refused_here : i < length xs → x ≡ get_or xs i x → (reason : Cause) → first_cause (edit_model x) facts ≡ Some reason → (all : Option Refusal) → first_refusal facts i (edits_model (drop i xs)) ≡ all → Some (record { index = i; cause = reason }) ≡ all
  unfolding from_here
  refused_here here e reason some all h = sym (at_edit here e ∙ ap (λ o. refusal_or o i (first_refusal facts (i + 1) (edits_model (drop (i + 1) xs)))) some) ∙ h

-- no refusal is left behind the last edit
pub all_accepted : (facts : Facts) (xs : List ElfEdit) (i : ℕ) → length xs ≤ i → (all : Option Refusal) → first_refusal facts i (edits_model (drop i xs)) ≡ all → None ≡ all
unfolding first_refusal
all_accepted facts xs i end all h =
    let e : first_refusal facts i (edits_model (drop i xs)) ≡ None = ap (λ ys. first_refusal facts i (edits_model ys)) (drop_all i xs end) in
    sym e ∙ h

neither_refused : (found : Option Cause) (index : ℕ) (later : Option Refusal) → refusal_or found index later ≡ None → (found ≡ None) × (later ≡ None)
neither_refused None index later h = (refl, h)
neither_refused (Some reason) index later h = absurd (cc)

-- no edit of a batch that is not refused is
pub accepted_at : (facts : Facts) (xs : List ElfEdit) (done i : ℕ) (x : ElfEdit) → i < length xs → x ≡ get_or xs i x → first_refusal facts done (edits_model xs) ≡ None → first_cause (edit_model x) facts ≡ None
unfolding first_refusal
accepted_at facts [] done i x here e none = absurd (omega arith)
accepted_at facts (y ∷ ys) done zero x here e none =
    ap (λ z. first_cause (edit_model z) facts) e ∙ (neither_refused (first_cause (edit_model y) facts) done (first_refusal facts (done + 1) (edits_model ys)) none).0
accepted_at facts (y ∷ ys) done (suc i) x here e none =
    accepted_at facts ys (done + 1) i x (omega arith) e (neither_refused (first_cause (edit_model y) facts) done (first_refusal facts (done + 1) (edits_model ys)) none).1

-- ## What the edits write

-- one more edit is written
pub one_more : (xs : List ElfEdit) (i : ℕ) (x : ElfEdit) (image : Image) (old new : Draft) → i < length xs → x ≡ get_or xs i x → OnlyShows image (all_edited (edits_model (take i xs)) image) old → Writes (edit_model x) image old new
    → OnlyShows image (all_edited (edits_model (take (i + 1) xs)) image) new
one_more xs i x image old new here e before wrote =
    let next : edits_model (take (i + 1) xs) ≡ edits_model (take i xs) ++ edit_model x ∷ [] = map_more edit_model xs i x here ∙ ap (λ y. edits_model (take i xs) ++ edit_model y ∷ []) (sym e) in
    record {
      shows =
          wrote.shows
          ∙ ap (edited_image (edit_model x)) before.shows
          ∙ sym (all_edited-push (edits_model (take i xs)) (edit_model x) image)
          ∙ sym (ap (λ l. all_edited l image) next);
      draft = wrote.draft;
    }

pub none_yet : (image : Image) (d : Draft) → OnlyShows image image d → OnlyShows image (all_edited [] image) d
unfolding all_edited
none_yet image d only = only

-- ## Lists of batches

left_refused : (old : Image) (answer : Result Image Refusal) (e : ElfBatchError) → left_upon old answer (Err e) ≡ old
left_refused old (Ok new) e = refl
left_refused old (Err refusal) e = refl

-- a batch that is taken is answered, and leaves what its answer says
pub taken_is : (edits : List Edit) (old new : Image) (answer : Result (Unit {0}) ElfBatchError) → TakesBatch edits old new answer → AnswersBatch edits old answer × (new ≡ left_upon old (run edits old) answer)
taken_is edits old new (Ok done) taken =
    let Answered : Result Image Refusal → Type 0 = λ r. IsOk r × (new ≡ left_upon old r (Ok done)) in
    subst Answered (sym taken) (refl, refl)
taken_is edits old new (Err e) taken = (taken.1, taken.0 ∙ sym (left_refused old (run edits old) e))

-- a list of batches with one more, and its answer
pub answers_more : (batches : List (List Edit)) (answers : List (Result (Unit {0}) ElfBatchError)) (edits : List Edit) (answer : Result (Unit {0}) ElfBatchError) (old : Image) → AnswersAll batches answers old → AnswersBatch edits (left_upon_all batches answers old) answer
    → AnswersAll (batches ++ (edits ∷ [])) (answers ++ (answer ∷ [])) old
answers_more [] [] edits answer old all here = (here, tt)
answers_more [] (other ∷ answers) edits answer old all here = elim all [ ]
answers_more (batch ∷ batches) [] edits answer old all here = elim all [ ]
answers_more (batch ∷ batches) (other ∷ answers) edits answer old all here =
    (all.0, answers_more batches answers edits answer (left_upon old (run batch old) other) all.1 here)

pub left_more : (batches : List (List Edit)) (answers : List (Result (Unit {0}) ElfBatchError)) (edits : List Edit) (answer : Result (Unit {0}) ElfBatchError) (old : Image) → AnswersAll batches answers old
    → left_upon_all (batches ++ (edits ∷ [])) (answers ++ (answer ∷ [])) old ≡ left_upon (left_upon_all batches answers old) (run edits (left_upon_all batches answers old)) answer
left_more [] [] edits answer old all = refl
left_more [] (other ∷ answers) edits answer old all = elim all [ ]
left_more (batch ∷ batches) [] edits answer old all = elim all [ ]
left_more (batch ∷ batches) (other ∷ answers) edits answer old all =
    left_more batches answers edits answer (left_upon old (run batch old) other) all.1

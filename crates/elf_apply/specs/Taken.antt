-- What the answers to edits say, and what they leave.
use Rattle.std.specs.Prelude.{◌≡◌, List, [], ◌∷◌, map, Result, Ok, Err, MatchResult, IsOk, ⊤}
use Rattle.std.specs.declared.alloc.Global.{Global}
use Rattle.std.specs.declared.vec.Vec.{Vec}
use Rattle.elf_image.specs.Image.{Image}
use Rattle.elf_edits.specs.declared.edit.ElfEdit.{ElfEdit}
use Rattle.elf_edits.specs.Batch.{Refusal, run}
use Rattle.elf_edits.specs.EditModel.{Bytes, edit_model, texts_model}
use Rattle.elf_edits.specs.Cause.{Cause}
use Rattle.elf_edits.specs.Edit.{Edit, ShrinkRpath}
use Rattle.elf_edits.specs.Edited.{step}
use Rattle.elf_edits_shrink.specs.declared.probe.ProbeAnswer.{ProbeAnswer}
use Rattle.elf_edits_shrink.specs.declared.removal.Removed.{Removed}
use Rattle.elf_edits_shrink.specs.Removals.{removed_by}
use Rattle.elf_edits_shrink.specs.ShrinkModel.{answer_model, removal_model}
use Rattle.elf_apply.specs.declared.batch.ElfBatchError.{ElfBatchError}
use Rattle.elf_apply.specs.declared.error.ElfError.{ElfError}
use Rattle.elf_apply.specs.Told.{Refuses, RefusesBatch, TellsCause}

-- ## One edit

-- an answer to an edit, and what it leaves: the step's image; or what was there, and an error of which `tells` says
-- what it tells of the refused step
abbrev pub Takes : {T : Type 0} → (ElfError → Result Image Cause → Type 0) → Edit → Image → Image → Result T ElfError → Type 0
Takes tells edit old new answer = MatchResult answer (λ _. step edit old ≡ Ok new) (λ e. (new ≡ old) × tells e (step edit old))

-- an edit that may want memory
abbrev pub TakesEdit : {T : Type 0} → Edit → Image → Image → Result T ElfError → Type 0
TakesEdit edit old new answer = Takes Refuses edit old new answer

-- an edit that takes none
abbrev pub TakesInPlace : Edit → Image → Image → Result (Unit {0}) ElfError → Type 0
TakesInPlace edit old new answer = Takes TellsCause edit old new answer

-- the directories that are told are just those that the edit removes, in order
abbrev pub RemovedAre : Edit → Image → Vec Removed Global → Type 0
RemovedAre edit old removed = map removal_model removed.items ≡ removed_by edit old

-- the edit that shrinks run paths by these prefixes and what was found
abbrev pub shrink_model : List Bytes → List ProbeAnswer → Edit
shrink_model prefixes probe = ShrinkRpath (texts_model prefixes) (map answer_model probe)

-- ## Batches

abbrev pub edits_model : List ElfEdit → List Edit
edits_model edits = map edit_model edits

-- an answer to a batch, and what it leaves: all its edits, one after the other; or what was there, and the first edit
-- that is refused
abbrev pub TakesBatch : List Edit → Image → Image → Result (Unit {0}) ElfBatchError → Type 0
TakesBatch edits old new answer = MatchResult answer (λ _. run edits old ≡ Ok new) (λ e. (new ≡ old) × RefusesBatch e (run edits old))

-- ## Lists of batches

-- an answer to a batch, apart from what it leaves
abbrev pub AnswersBatch : List Edit → Image → Result (Unit {0}) ElfBatchError → Type 0
AnswersBatch edits old answer = MatchResult answer (λ _. IsOk (run edits old)) (λ e. RefusesBatch e (run edits old))

-- what a batch leaves by its answer: an accepted one its run, any other what was there
abbrev pub left_upon : Image → Result Image Refusal → Result (Unit {0}) ElfBatchError → Image
left_upon old (Ok new) (Ok tt') = new
left_upon old (Ok new) (Err e) = old
left_upon old (Err refusal) answer = old

-- what a list of batches leaves by their answers
abbrev pub left_upon_all : List (List Edit) → List (Result (Unit {0}) ElfBatchError) → Image → Image
left_upon_all [] answers image = image
left_upon_all (edits ∷ batches) [] image = image
left_upon_all (edits ∷ batches) (answer ∷ answers) image = left_upon_all batches answers (left_upon image (run edits image) answer)

-- each answer is the one of its batch upon what those before it left
abbrev pub AnswersAll : List (List Edit) → List (Result (Unit {0}) ElfBatchError) → Image → Type 0
AnswersAll [] [] image = ⊤
AnswersAll [] (answer ∷ answers) image = ⊥
AnswersAll (edits ∷ batches) [] image = ⊥
AnswersAll (edits ∷ batches) (answer ∷ answers) image = AnswersBatch edits image answer × AnswersAll batches answers (left_upon image (run edits image) answer)

-- answers in a `Vec` are each that of its batch upon what the batches before it left, and leave this
abbrev pub AnswersEach : List (List Edit) → Image → Vec (Result (Unit {0}) ElfBatchError) Global → Type 0
AnswersEach batches old answers = AnswersAll batches answers.items old

abbrev pub LeavesEach : List (List Edit) → Image → Image → Vec (Result (Unit {0}) ElfBatchError) Global → Type 0
LeavesEach batches old new answers = new ≡ left_upon_all batches answers.items old

-- the edits of a list of batches
abbrev pub batches_model : List (Vec ElfEdit Global) → List (List Edit)
batches_model batches = map (λ batch. edits_model batch.items) batches

-- Batches of edits: all of them or none. And lists of batches.
use Rattle.std.specs.Prelude.{ℕ, ◌+◌, List, [], ◌∷◌, Option, Some, None, Result, Ok, Err}
use Rattle.elf_image.specs.Image.{Image}
use Rattle.elf_edits.specs.Cause.{Cause}
use Rattle.elf_edits.specs.Edit.{Edit}
use Rattle.elf_edits.specs.Edited.{step}

-- Which edit of a batch is refused, counted from 0, and why.
pub record Refusal : Type 0 where
  pub index : ℕ
  pub cause : Cause

-- what the edit with this number answers
abbrev pub answer_at : ℕ → Result Image Cause → Result Image Refusal
answer_at index (Ok image) = Ok image
answer_at index (Err cause) = Err (record { index = index; cause = cause })

-- what follows upon an answer
abbrev pub then_on : Result Image Refusal → (Image → Result Image Refusal) → Result Image Refusal
then_on (Ok image) next = next image
then_on (Err refusal) next = Err refusal

-- the edits one after the other, each on what the one before it left; `done` edits came before
unfoldable pub run_from : ℕ → List Edit → Image → Result Image Refusal
run_from done [] image = Ok image
run_from done (edit ∷ edits) image = then_on (answer_at done (step edit image)) (run_from (done + 1) edits)

-- A batch: the image after all its edits, or the first that is refused.
abbrev pub run : List Edit → Image → Result Image Refusal
run edits image = run_from 0 edits image

-- a refused batch leaves the image as it was
abbrev pub left_by : Result Image Refusal → Image → Image
left_by (Ok next) image = next
left_by (Err refusal) image = image

-- why a batch was refused, none where it was not
abbrev pub refusal_in : Result Image Refusal → Option Refusal
refusal_in (Ok next) = None
refusal_in (Err refusal) = Some refusal

-- the answers to a list of batches, each on what those before it left
unfoldable pub answers : List (List Edit) → Image → List (Option Refusal)
answers [] image = []
answers (edits ∷ batches) image = refusal_in (run edits image) ∷ answers batches (left_by (run edits image) image)

-- what a list of batches leaves
unfoldable pub left_by_all : List (List Edit) → Image → Image
left_by_all [] image = image
left_by_all (edits ∷ batches) image = left_by_all batches (left_by (run edits image) image)

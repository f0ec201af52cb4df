-- A Mach-O file of either shape under edits.
use Rattle.std.specs.Prelude.{ℕ, ◌≡◌, Bool, List, [], ◌∷◌, Result, Ok, Err, map, MatchResult, IsOk, ⊤, if◌then◌else◌}
use Rattle.std.specs.declared.alloc.Global.{Global}
use Rattle.std.specs.declared.vec.Vec.{Vec}
use Rattle.macho_edits.specs.declared.batch.MachoBatchError.{MachoBatchError}
use Rattle.macho_edits.specs.declared.batch.MachoEdit.{MachoEdit}
use Rattle.macho_edits.specs.declared.error.MachoError.{MachoError}
use Rattle.arwen_macho.specs.declared.macho.MachoType.{MachoType}
use Rattle.arwen_macho.specs.declared.macho.MachoType.TheVariants.{Fat, SingleArch}
use Rattle.macho_edits.specs.Batch.{RefusedAt, calls_of}
use Rattle.macho_edits.specs.Call.{Call}
use Rattle.arwen_macho.specs.FatHeld.{fat_held_at_read}
use Rattle.arwen_macho.specs.FatState.{FatState, fat_laid_bytes, fat_step}
use Rattle.arwen_macho.specs.Found.{begins_fat}
use Rattle.macho_edits.specs.Held.{RefusedBy, held_at_read, is_edited_by}
use Rattle.macho_edits.specs.State.{Refusal, State, laid_bytes, step}

-- a file as it was parsed
abbrev pub first_container : List ℕ → MachoType
first_container old = if begins_fat old then Fat (fat_held_at_read old) else SingleArch (held_at_read old)

-- the bytes of a file under edits
abbrev pub container_bytes : MachoType → List ℕ
container_bytes (SingleArch held) = laid_bytes held.state
container_bytes (Fat held) = fat_laid_bytes held.state

-- whether the bytes of a file are a copy that was edited
abbrev pub is_edited_file : MachoType → Bool
is_edited_file (SingleArch held) = held.is_edited
is_edited_file (Fat held) = held.is_edited

-- what a batch makes of a file: all of its edits, or none and why
abbrev pub as_thin : Bool → Result State Refusal → Result MachoType Refusal
as_thin is_edited (Ok state) = Ok (SingleArch (record { state = state; is_edited = is_edited }))
as_thin is_edited (Err refusal) = Err refusal

abbrev pub as_fat : Bool → Result FatState Refusal → Result MachoType Refusal
as_fat is_edited (Ok state) = Ok (Fat (record { state = state; is_edited = is_edited }))
as_fat is_edited (Err refusal) = Err refusal

unfoldable pub container_step : List Call → MachoType → Result MachoType Refusal
container_step calls (SingleArch held) = as_thin (is_edited_by calls held.is_edited) (step calls held.state)
container_step calls (Fat held) = as_fat (is_edited_by calls held.is_edited) (fat_step calls held.state)

-- an error tells the refusal that a batch meets in a file
abbrev pub FileRefuses : List Call → MachoType → MachoBatchError → Type 0
FileRefuses calls file e = RefusedAt e (container_step calls file)

-- an answer to a batch, and what it leaves: what the step gives; or what was there, and an error that
-- tells of the refused step what `tells` says
abbrev pub Takes : {E : Type 0} → (E → Result MachoType Refusal → Type 0) → List Call → MachoType → MachoType → Result (Unit {0}) E → Type 0
Takes tells calls old new answer =
    MatchResult answer (λ _. container_step calls old ≡ Ok new) (λ e. (new ≡ old) × tells e (container_step calls old))

-- to one edit, which is a batch of one, and to a batch
abbrev pub TakesOnce : Call → MachoType → MachoType → Result (Unit {0}) MachoError → Type 0
TakesOnce call old new answer = Takes RefusedBy (call ∷ []) old new answer

abbrev pub TakesBatch : List Call → MachoType → MachoType → Result (Unit {0}) MachoBatchError → Type 0
TakesBatch calls old new answer = Takes RefusedAt calls old new answer

-- an answer to a batch, apart from what it leaves
abbrev pub AnswersBatch : List Call → MachoType → Result (Unit {0}) MachoBatchError → Type 0
AnswersBatch calls old answer =
    MatchResult answer (λ _. IsOk (container_step calls old)) (λ e. RefusedAt e (container_step calls old))

-- what a batch leaves by its answer: an accepted batch its step, any other what was there
abbrev pub left_by : MachoType → Result MachoType Refusal → Result (Unit {0}) MachoBatchError → MachoType
left_by old (Ok new) (Ok tt') = new
left_by old (Ok new) (Err e) = old
left_by old (Err refusal) answer = old

-- what a list of batches leaves by their answers, and that each answer is the one of its batch upon what
-- those before it left
abbrev pub left_by_all : List (List Call) → List (Result (Unit {0}) MachoBatchError) → MachoType → MachoType
left_by_all [] answers file = file
left_by_all (calls ∷ batches) [] file = file
left_by_all (calls ∷ batches) (answer ∷ answers) file = left_by_all batches answers (left_by file (container_step calls file) answer)

abbrev pub AnswersAll : List (List Call) → List (Result (Unit {0}) MachoBatchError) → MachoType → Type 0
AnswersAll [] [] file = ⊤
AnswersAll [] (answer ∷ answers) file = ⊥
AnswersAll (calls ∷ batches) [] file = ⊥
AnswersAll (calls ∷ batches) (answer ∷ answers) file =
    AnswersBatch calls file answer × AnswersAll batches answers (left_by file (container_step calls file) answer)

-- answers in a `Vec` are each that of its batch upon what the batches before it left, and leave this
abbrev pub AnswersEach : List (List Call) → MachoType → Vec (Result (Unit {0}) MachoBatchError) Global → Type 0
AnswersEach batches old answers = AnswersAll batches answers.items old

abbrev pub LeavesEach : List (List Call) → MachoType → MachoType → Vec (Result (Unit {0}) MachoBatchError) Global → Type 0
LeavesEach batches old new answers = new ≡ left_by_all batches answers.items old

-- the calls of a list of batches
abbrev pub all_calls : List (Vec MachoEdit Global) → List (List Call)
all_calls batches = map (λ batch. calls_of batch.items) batches

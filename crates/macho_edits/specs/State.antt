-- A thin file under edits: the bytes as read, its list of commands, and how far commands ever reached;
-- and what a batch of edits makes of it.
use Rattle.std.specs.Prelude.{ℕ, ◌+◌, max, nat_le, List, [], ◌∷◌, length, Result, Ok, Err, if◌then◌else◌}
use Rattle.std.specs.List.{concat}
use Rattle.macho_image.specs.declared.format.Ctx.{Ctx}
use Rattle.macho_image.specs.Commands.{commands_of, first_content_of}
use Rattle.macho_image.specs.Form.{commands_end, ctx_of, header_size}
use Rattle.macho_image.specs.Image.{with_area}
use Rattle.macho_edits.specs.Call.{Call, Cause}
use Rattle.macho_edits.specs.Call.Cause.{no_room}
use Rattle.macho_edits.specs.Edited.{edited_list}

pub record State : Type 0 where
  -- the bytes as read
  pub old : List ℕ
  -- the load commands now
  pub list : List (List ℕ)
  -- the furthest offset where commands ever ended
  pub high : ℕ

-- a file as it is read
unfoldable pub first_state : List ℕ → State
first_state old = record { old = old; list = commands_of old; high = commands_end (ctx_of old) old }

-- where commands end that begin behind the header
abbrev pub end_of : Ctx → List (List ℕ) → ℕ
end_of ctx list = header_size ctx.container + length (concat list)

-- the bytes of a state: as many as were read; the header with the two counts of the list, the list, zeros
-- up to the furthest end, and the bytes as read behind it
unfoldable pub laid_bytes : State → List ℕ
laid_bytes s = with_area (ctx_of s.old) s.old (length s.list) (concat s.list) s.high

-- why a batch is refused: the number of the edit, counted from 0, and the cause. Want of room is found
-- behind the last edit.
pub record Refusal : Type 0 where
  pub index : ℕ
  pub cause : Cause

-- the answer of the edit with this number
abbrev pub answer_at : ℕ → Result (List (List ℕ)) Cause → Result (List (List ℕ)) Refusal
answer_at index (Ok list) = Ok list
answer_at index (Err cause) = Err (record { index = index; cause = cause })

-- what follows upon an answer
abbrev pub then_on : Result (List (List ℕ)) Refusal → (List (List ℕ) → Result (List (List ℕ)) Refusal) → Result (List (List ℕ)) Refusal
then_on (Ok list) next = next list
then_on (Err refusal) next = Err refusal

-- the list that a batch makes, each edit upon what the one before it left; `done` edits came before
abbrev pub edited_by : Ctx → ℕ → List Call → List (List ℕ) → Result (List (List ℕ)) Refusal
edited_by ctx done [] list = Ok list
edited_by ctx done (call ∷ calls) list = then_on (answer_at done (edited_list ctx call list)) (λ next. edited_by ctx (done + 1) calls next)

-- the greatest offset where the commands of these bytes may end: where they do, or where content begins
abbrev pub available_in : List ℕ → ℕ
available_in bytes = max (commands_end (ctx_of bytes) bytes) (first_content_of bytes)

-- the greatest offset where the commands of a state may end
abbrev pub available : State → ℕ
available s = max (end_of (ctx_of s.old) s.list) (first_content_of s.old)

-- the state with another list, where that list ends no later than it may
unfoldable pub fitted_state : ℕ → State → Result (List (List ℕ)) Refusal → Result State Refusal
fitted_state count s (Err refusal) = Err refusal
fitted_state count s (Ok list) =
    if nat_le (end_of (ctx_of s.old) list) (available s)
    then Ok (record { old = s.old; list = list; high = max s.high (end_of (ctx_of s.old) list) })
    else Err (record { index = count; cause = no_room (end_of (ctx_of s.old) list) (available s) })

-- what a batch of edits makes of a state: all of them, or none and why
unfoldable pub step : List Call → State → Result State Refusal
step calls s = fitted_state (length calls) s (edited_by (ctx_of s.old) 0 calls s.list)

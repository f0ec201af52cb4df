-- What a caller in C finds in an answer.
use Rattle.std.specs.Prelude.{ℕ, ◌≡◌, List, []}
use Rattle.arwen_c.specs.Causes.{cause_of, edit_of, status_of}
use Rattle.arwen_c.specs.declared.answer.Answer.{Answer}
use Rattle.arwen_c.specs.declared.error.CallError.{CallError}
use Rattle.arwen_c.specs.declared.status.TheConstants.{ARWEN_MEMORY, NO_EDIT}

-- the answer has these bytes and this text, and no cause
pub record Hands (bytes text : List ℕ) (answer : Answer) : Type 0 where
  pub bytes_are : answer.bytes.now ≡ bytes
  pub text_is : answer.text.now ≡ text
  pub no_cause : answer.cause ≡ 0
  pub no_edit : answer.edit ≡ NO_EDIT

-- bytes and a text that this is true of, and no cause
pub record Gives (is_made : List ℕ → List ℕ → Type 0) (answer : Answer) : Type 0 where
  pub made : is_made answer.bytes.now answer.text.now
  pub no_cause : answer.cause ≡ 0
  pub no_edit : answer.edit ≡ NO_EDIT

-- An error that this is true of, with its cause and the edit that it stands against, and no bytes. What the call returns stands for
-- it too. Where there was no memory, there is no text.
pub record Refuses (tells : CallError → Type 0) (status : ℕ) (answer : Answer) : Type 0 where
  pub error : CallError
  pub told : tells error
  pub status_is : status ≡ status_of error
  pub cause_is : answer.cause ≡ cause_of error
  pub edit_is : answer.edit ≡ edit_of error
  pub no_bytes : answer.bytes.now ≡ []
  pub silent : status ≡ ARWEN_MEMORY → answer.text.now ≡ []

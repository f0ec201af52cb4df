-- The line of a fault has the path that the words name.
use Rattle.std.proofs.Common.{◌≡◌, ◌∙◌, ℕ, List, Option, Some, None, Bool, true, false, Result, Ok, Err, ap, refl, subst, sym}
use Rattle.std.specs.Prelude.{IfOk, String, if◌then◌else◌, string_bytes}
use Rattle.std.specs.declared.alloc.Global.{Global}
use Rattle.command_words.specs.Rows.{Text}
use Rattle.arwen_cli.specs.Meaning.{Meaning}
use Rattle.arwen_cli.specs.Telling.{IsLineWith, is_of_line, path_for, path_in}
use Rattle.arwen_cli_faults.specs.Causes.{AreCauses}
use Rattle.arwen_cli_faults.specs.declared.error.ArwenError.{ArwenError}

module _ (contents : Text → Option (List ℕ)) (error : ArwenError) (meaning : Option Meaning) where
  -- a line without a path
  plain_line : (path : Option Text) (line : Text) → path ≡ None → AreCauses error line → IsLineWith contents path meaning error line
  plain_line path line none are =
      let P : Option Text → Type 0 = λ p. IsLineWith contents p meaning error line in
      subst P (sym none) are

  -- a fault of the line itself names none
  pub of_line : (line : Text) → is_of_line error ≡ true → AreCauses error line → IsLineWith contents (path_for error meaning) meaning error line
  of_line line is are =
      plain_line (path_for error meaning) line (ap (λ (b : Bool). if b then None else path_in meaning) is) are

  no_meaning : (m : Option Meaning) → ((it : Meaning) → m ≡ Some it → ⊥) → m ≡ None
  no_meaning None none = refl
  no_meaning (Some it) none = absurd (none it refl)

  -- words that mean no command name none: their line, unless there was no memory for it
  pub of_unread : {E Plain Unread : Type 0} (r : Result (String Global) E) → is_of_line error ≡ false → (Plain → (m : Meaning) → meaning ≡ Some m → Unread) → IfOk r (λ line. Unread → ⊥)
      → IfOk r (λ line. AreCauses error (string_bytes line)) → IfOk r (λ line. Plain → IsLineWith contents (path_for error meaning) meaning error (string_bytes line))
  of_unread (Ok line) isnt refused read are = λ plain. plain_line (path_for error meaning) (string_bytes line)
      (ap (λ (b : Bool). if b then None else path_in meaning) isnt ∙ ap path_in (no_meaning meaning (λ m is. read (refused plain m is)))) are
  of_unread (Err e) isnt refused read are = tt

-- What callers in C lend, as lists of bytes.
use Rattle.std.specs.Prelude.{ℕ, ◌≡◌, ◌==◌, ◌%◌, List, [], ◌∷◌, Option, Some, None, Result, Ok, Err, if◌then◌else◌, length, map, ⊤}
use Rattle.std.specs.Str.{is_utf8}
use Rattle.arwen_c_edits.specs.declared.fault.ReadError.{ReadError}
use Rattle.arwen_c_edits.specs.declared.fault.ReadError.TheVariants.{Memory, Wrong}
use Rattle.arwen_c_edits.specs.declared.fault.WrongEdit.{WrongEdit}
use Rattle.arwen_c_edits.specs.declared.fault.WrongEdit.TheVariants.{NoText, UnknownKind, WrongCount}
use Rattle.arwen_c_edits.specs.declared.lent.LentEdit.{LentEdit}
use Rattle.arwen_c_edits.specs.declared.lent.LentText.{LentText}

abbrev pub Text : Type 0
Text = List ℕ

abbrev pub text_model : LentText → Text
text_model text = text.bytes.now

abbrev pub texts_model : List LentText → List Text
texts_model texts = map text_model texts

-- An edit: the number of its kind, and its texts.
pub record GivenEdit : Type 0 where
  pub kind : ℕ
  pub texts : List Text

abbrev pub edit_model : LentEdit → GivenEdit
edit_model edit = record { kind = edit.kind; texts = texts_model edit.texts.now }

-- ## Texts of an edit

-- what is read, or what is wrong
abbrev pub Read : Type 0 → Type 0
Read E = Result E WrongEdit

-- what is read next
abbrev pub then_read : {A B : Type 0} → (A → Read B) → Read A → Read B
then_read next (Ok before) = next before
then_read next (Err wrong) = Err wrong

-- of a number that is known
abbrev pub known : {E : Type 0} → Option E → Read E
known None = Err UnknownKind
known (Some edit) = Ok edit

-- a number that takes no text has none
abbrev pub by_none : List Text → Read (Unit {0})
by_none [] = Ok tt
by_none (text ∷ texts) = Err WrongCount

-- a number that takes one text has one
abbrev pub one_in : List Text → Read Text
one_in [] = Err WrongCount
one_in (text ∷ []) = Ok text
one_in (text ∷ another ∷ texts) = Err WrongCount

-- there are two
abbrev pub two_in : List Text → Read (Text × Text)
two_in [] = Err WrongCount
two_in (text ∷ []) = Err WrongCount
two_in (old ∷ new ∷ []) = Ok (old, new)
two_in (old ∷ new ∷ another ∷ texts) = Err WrongCount

-- texts by two; of an odd number the last is left out
abbrev pub pairs_in : List Text → List (Text × Text)
pairs_in [] = []
pairs_in (last ∷ []) = []
pairs_in (old ∷ new ∷ rest) = (old, new) ∷ pairs_in rest

-- there is an even number
abbrev pub even_in : List Text → Read (List (Text × Text))
even_in texts = if length texts % 2 == 0 then Ok (pairs_in texts) else Err WrongCount

-- bytes that are UTF-8
abbrev pub word_in : Text → Read Text
word_in text = if is_utf8 text then Ok text else Err NoText

-- what a call answers that reads; want of memory may be answered in any case
abbrev pub TellsWord : {E : Type 0} → Read E → ReadError → Type 0
TellsWord read (Wrong wrong) = read ≡ Err wrong
TellsWord read Memory = ⊤

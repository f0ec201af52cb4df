-- What is wrong with a list of edits.
use Rattle.std.specs.Prelude.{ℕ, ◌≡◌, Result, Err, ⊤}
use Rattle.arwen_c_edits.specs.declared.fault.ListError.{ListError}
use Rattle.arwen_c_edits.specs.declared.fault.ListError.TheVariants as list
use Rattle.arwen_c_edits.specs.declared.fault.ListFault.{ListFault}
use Rattle.arwen_c_edits.specs.declared.fault.ReadError.{ReadError}
use Rattle.arwen_c_edits.specs.declared.fault.ReadError.TheVariants.{Memory, Wrong}
use Rattle.arwen_c_edits.specs.declared.fault.WrongEdit.{WrongEdit}

-- the fault of the edit of this number
abbrev pub fault_at : ℕ → WrongEdit → ListFault
fault_at index wrong = record { index = index; wrong = wrong }

abbrev pub list_error : ℕ → ReadError → ListError
list_error index (Wrong wrong) = list.Fault (fault_at index wrong)
list_error index Memory = list.Memory

-- the error is the fault that a list has, or want of memory
abbrev pub TellsList : {E : Type 0} → Result E ListFault → ListError → Type 0
TellsList read (list.Fault fault) = read ≡ Err fault
TellsList read list.Memory = ⊤

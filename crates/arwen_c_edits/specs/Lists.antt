-- Lists of edits, read one after the other.
use Rattle.std.specs.Prelude.{ℕ, ◌+◌, List, [], ◌∷◌, Result, Ok, Err}
use Rattle.arwen_c_edits.specs.Faults.{fault_at}
use Rattle.arwen_c_edits.specs.Lent.{GivenEdit, Read}
use Rattle.arwen_c_edits.specs.declared.fault.ListFault.{ListFault}

module _ {E : Type 0} where
  -- the edits behind one more edit
  abbrev pub behind : E → Result (List E) ListFault → Result (List E) ListFault
  behind edit (Ok edits) = Ok (edit ∷ edits)
  behind edit (Err fault) = Err fault

  -- the first fault counts
  abbrev pub then_edits : ℕ → Read E → Result (List E) ListFault → Result (List E) ListFault
  then_edits index (Ok edit) rest = behind edit rest
  then_edits index (Err wrong) rest = Err (fault_at index wrong)

  -- the edits that are given, of which the first has this number, where each is read so
  unfoldable pub edits_from : (GivenEdit → Read E) → ℕ → List GivenEdit → Result (List E) ListFault
  edits_from read index [] = Ok []
  edits_from read index (edit ∷ rest) = then_edits index (read edit) (edits_from read (index + 1) rest)

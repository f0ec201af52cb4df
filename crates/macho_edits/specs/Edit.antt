-- Which call an edit with lent or owned texts makes, and what the answer of an edit of a list says.
use Rattle.std.specs.Prelude.{ℕ, ◌≡◌, All, List, map, Result, Ok, MatchResult}
use Rattle.std.specs.declared.alloc.Global.{Global}
use Rattle.std.specs.declared.vec.Vec.{Vec}
use Rattle.macho_image.specs.declared.format.Ctx.{Ctx}
use Rattle.macho_edits.specs.declared.draft.Edit.{Edit}
use Rattle.macho_edits.specs.declared.draft.Edit.TheVariants.{AddRpath, ChangeInstallId, ChangeInstallName, ChangeRpath, RemoveRpath}
use Rattle.macho_edits.specs.declared.error.MachoError.{MachoError}
use Rattle.macho_edits.specs.Call.{Call, Cause}
use Rattle.macho_edits.specs.Call.Call.{add_rpath, change_install_id, change_install_name, change_rpath, remove_rpath}
use Rattle.macho_edits.specs.Edited.{edited_list}
use Rattle.macho_edits.specs.Refused.{Refuses, cause_of}
use Rattle.macho_edits.specs.Whole.{TextsAreBytes}

abbrev pub call_of : Edit → Call
call_of (AddRpath new) = add_rpath new.now
call_of (ChangeRpath old new) = change_rpath old.now new.now
call_of (RemoveRpath old) = remove_rpath old.now
call_of (ChangeInstallId new) = change_install_id new.now
call_of (ChangeInstallName old new) = change_install_name old.now new.now

-- the calls that edits with lent texts make
abbrev pub calls_lent : List Edit → List Call
calls_lent edits = map call_of edits

-- the new texts of edits are bytes
abbrev pub AreTexts : List Edit → Type 0
AreTexts edits = All TextsAreBytes (calls_lent edits)

-- a built command, or why there is none, memory apart
abbrev pub GivesBuilt : Result (List ℕ) Cause → Result (Vec ℕ Global) MachoError → Type 0
GivesBuilt built answer = MatchResult answer (λ made. built ≡ Ok made.items) (λ e. Refuses (cause_of e) built)

-- an answer to a call on a list, and the list that it leaves: the edited one, or the cause that the
-- definition gives, memory apart
abbrev pub Edits : Ctx → Call → List (List ℕ) → List (List ℕ) → Result (Unit {0}) MachoError → Type 0
Edits ctx call old new answer =
    MatchResult answer (λ _. edited_list ctx call old ≡ Ok new) (λ e. Refuses (cause_of e) (edited_list ctx call old))

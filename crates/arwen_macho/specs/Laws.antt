-- Laws of the edits of a thin file, of every state that edits of an accepted file can lead to.
use Rattle.std.specs.Prelude.{ℕ, ◌≡◌, ◌≤◌, ◌<◌, ◌-◌, ◌↔◌, false, List, [], ◌∷◌, ◌++◌, length, take, drop, replicate, position, get_or, slice_set, All, Some, Ok, Err, IsOk, IsOkAnd}
use Rattle.macho_image.specs.declared.format.Ctx.{Ctx}
use Rattle.macho_image.specs.Command.{dylib_of}
use Rattle.macho_image.specs.Form.{ctx_of}
use Rattle.macho_edits.specs.Built.{dylib_built, rpath_built}
use Rattle.macho_edits.specs.Call.{Call}
use Rattle.macho_edits.specs.Call.Call.{add_rpath, change_install_id, change_install_name, change_rpath, remove_rpath}
use Rattle.macho_edits.specs.Call.Cause.{no_room}
use Rattle.macho_edits.specs.Edited.{is_id, is_library_named, is_rpath_named}
use Rattle.macho_edits.specs.State.{State, available, edited_by, end_of, laid_bytes, step}
use Rattle.macho_edits.specs.Whole.{IsState}

-- no rpath command of the list has this text
abbrev pub LacksRpath : State → List ℕ → Type 0
LacksRpath s text = All (λ c. is_rpath_named (ctx_of s.old).le text c ≡ false) s.list

-- how many bytes a list takes of the pad behind another one's commands, and these bytes
abbrev pub taken_size : State → List (List ℕ) → ℕ
taken_size s list = end_of (ctx_of s.old) list - end_of (ctx_of s.old) s.list

abbrev pub pad_taken : State → List (List ℕ) → List ℕ
pad_taken s list = take (taken_size s list) (drop (end_of (ctx_of s.old) s.list) (laid_bytes s))

-- what is left where something was added to a state and removed again: the list is as it was, and so are
-- the bytes, exactly if those that the list took meanwhile were zeros
pub record GivesBack (s added removed : State) : Type 0 where
  pub list : removed.list ≡ s.list
  pub bytes : (laid_bytes removed ≡ laid_bytes s) ↔ (pad_taken s added.list ≡ replicate (taken_size s added.list) 0)

-- an rpath that was not there is added in one call, and removed in another
abbrev pub RemoveGivesBack : Type 0
RemoveGivesBack =
    (s added : State) (text : List ℕ) → IsState s → LacksRpath s text → step (add_rpath text ∷ []) s ≡ Ok added
    → IsOkAnd (step (remove_rpath text ∷ []) added) (GivesBack s added)

-- an rpath that was not there is added and removed in one batch: nothing changes, whatever the pad holds
abbrev pub BatchGivesBack : Type 0
BatchGivesBack =
    (s : State) (text c : List ℕ) → IsState s → LacksRpath s text → rpath_built (ctx_of s.old) text ≡ Ok c
    → step (add_rpath text ∷ remove_rpath text ∷ []) s ≡ Ok s

-- a call changes the name in the command at this place of a list, for which this command is built
abbrev pub ChangesAt : Ctx → Call → List (List ℕ) → ℕ → List ℕ → Type 0
ChangesAt ctx (add_rpath new) list i c = ⊥
ChangesAt ctx (change_rpath old new) list i c =
    (position (is_rpath_named ctx.le old) list ≡ Some i) × (rpath_built ctx new ≡ Ok c)
ChangesAt ctx (remove_rpath old) list i c = ⊥
ChangesAt ctx (change_install_id new) list i c =
    (position (is_id ctx.le) list ≡ Some i) × (dylib_built ctx new (dylib_of ctx.le (get_or list i [])) ≡ Ok c)
ChangesAt ctx (change_install_name old new) list i c =
    (position (is_library_named ctx.le old) list ≡ Some i) × (dylib_built ctx new (dylib_of ctx.le (get_or list i [])) ≡ Ok c)

-- a change whose command is no longer than the one in its place is never refused for room, and commands
-- reach no further than before
abbrev pub ShorterFits : Type 0
ShorterFits =
    (s : State) (call : Call) (i : ℕ) (c : List ℕ) → IsState s → ChangesAt (ctx_of s.old) call s.list i c → length c ≤ length (get_or s.list i [])
    → step (call ∷ []) s ≡ Ok (record { old = s.old; list = slice_set s.list i c; high = s.high })

-- where no edit of a batch is refused by itself, its last list alone decides whether there is room
abbrev pub LastDecides : Type 0
LastDecides =
    (s : State) (calls : List Call) (list : List (List ℕ)) → edited_by (ctx_of s.old) 0 calls s.list ≡ Ok list
    → IsOk (step calls s) ↔ (end_of (ctx_of s.old) list ≤ available s)

-- edits that would be refused for room by themselves may begin a batch that is accepted
abbrev pub MiddleMayOverflow : Type 0
MiddleMayOverflow =
    (s : State) (calls more : List Call) (middle list : List (List ℕ)) → edited_by (ctx_of s.old) 0 calls s.list ≡ Ok middle
    → available s < end_of (ctx_of s.old) middle → edited_by (ctx_of s.old) (length calls) more middle ≡ Ok list → end_of (ctx_of s.old) list ≤ available s
    → (step calls s ≡ Err (record { index = length calls; cause = no_room (end_of (ctx_of s.old) middle) (available s) })) × IsOk (step (calls ++ more) s)

-- An edit of a list, once its place in the list is known.
use Rattle.std.proofs.Common.{◌≡◌, ◌≤◌, ◌<◌, ℕ, List, [], length, get_or, Option, Some, None, IfSome, Result, Ok, Err, refl, sym, ap}
use Rattle.std.specs.List.{position, remove}
use Rattle.std.proofs.lemmas.List.Quantifiers.{position-Some}
use Rattle.macho_image.specs.declared.format.Ctx.{Ctx}
use Rattle.macho_image.specs.Command.{dylib_of}
use Rattle.macho_edits.specs.Built.{dylib_built, rpath_built}
use Rattle.macho_edits.specs.Call.{Cause}
use Rattle.macho_edits.specs.Call.Call.{add_rpath, change_install_id, change_install_name, change_rpath, remove_rpath}
use Rattle.macho_edits.specs.Call.Cause.{id_missing, name_missing, rpath_missing}
use Rattle.macho_edits.specs.Edited.{list_with_last, edited_list, is_id, is_library_named, is_rpath_named, list_with_at, list_rebuilt_at, list_without_at}
use Rattle.macho_edits.specs.Refused.{Refuses}
use Rattle.macho_edits.proofs.EditLaws.{id_found, library_found}

pub add_rpath-edited : (ctx : Ctx) (new : List ℕ) (list : List (List ℕ)) → edited_list ctx (add_rpath new) list ≡ list_with_last (rpath_built ctx new) list
unfolding edited_list
add_rpath-edited ctx new list = refl

pub change_rpath-none : (ctx : Ctx) (old new : List ℕ) (list : List (List ℕ)) → position (is_rpath_named ctx.le old) list ≡ None → edited_list ctx (change_rpath old new) list ≡ Err (rpath_missing old)
unfolding edited_list
change_rpath-none ctx old new list e = ap (λ (o : Option ℕ). list_rebuilt_at o (rpath_missing old) (λ c. rpath_built ctx new) list) e

pub change_rpath-some : (ctx : Ctx) (old new : List ℕ) (list : List (List ℕ)) (i : ℕ) → position (is_rpath_named ctx.le old) list ≡ Some i → edited_list ctx (change_rpath old new) list ≡ list_with_at i (rpath_built ctx new) list
unfolding edited_list
change_rpath-some ctx old new list i e = ap (λ (o : Option ℕ). list_rebuilt_at o (rpath_missing old) (λ c. rpath_built ctx new) list) e

pub remove_rpath-none : (ctx : Ctx) (old : List ℕ) (list : List (List ℕ)) → position (is_rpath_named ctx.le old) list ≡ None → edited_list ctx (remove_rpath old) list ≡ Err (rpath_missing old)
unfolding edited_list
remove_rpath-none ctx old list e = ap (λ (o : Option ℕ). list_without_at o (rpath_missing old) list) e

pub remove_rpath-some : (ctx : Ctx) (old : List ℕ) (list : List (List ℕ)) (i : ℕ) → position (is_rpath_named ctx.le old) list ≡ Some i → edited_list ctx (remove_rpath old) list ≡ Ok (remove list i)
unfolding edited_list
remove_rpath-some ctx old list i e = ap (λ (o : Option ℕ). list_without_at o (rpath_missing old) list) e

pub change_install_id-none : (ctx : Ctx) (new : List ℕ) (list : List (List ℕ)) → position (is_id ctx.le) list ≡ None → edited_list ctx (change_install_id new) list ≡ Err id_missing
unfolding edited_list
change_install_id-none ctx new list e = ap (λ (o : Option ℕ). list_rebuilt_at o id_missing (λ c. dylib_built ctx new (dylib_of ctx.le c)) list) e

pub change_install_id-some : (ctx : Ctx) (new : List ℕ) (list : List (List ℕ)) (i : ℕ) → position (is_id ctx.le) list ≡ Some i → edited_list ctx (change_install_id new) list ≡ list_with_at i (dylib_built ctx new (dylib_of ctx.le (get_or list i []))) list
unfolding edited_list
change_install_id-some ctx new list i e = ap (λ (o : Option ℕ). list_rebuilt_at o id_missing (λ c. dylib_built ctx new (dylib_of ctx.le c)) list) e

pub change_install_name-none : (ctx : Ctx) (old new : List ℕ) (list : List (List ℕ)) → position (is_library_named ctx.le old) list ≡ None → edited_list ctx (change_install_name old new) list ≡ Err (name_missing old)
unfolding edited_list
change_install_name-none ctx old new list e = ap (λ (o : Option ℕ). list_rebuilt_at o (name_missing old) (λ c. dylib_built ctx new (dylib_of ctx.le c)) list) e

pub change_install_name-some : (ctx : Ctx) (old new : List ℕ) (list : List (List ℕ)) (i : ℕ) → position (is_library_named ctx.le old) list ≡ Some i → edited_list ctx (change_install_name old new) list ≡ list_with_at i (dylib_built ctx new (dylib_of ctx.le (get_or list i []))) list
unfolding edited_list
change_install_name-some ctx old new list i e = ap (λ (o : Option ℕ). list_rebuilt_at o (name_missing old) (λ c. dylib_built ctx new (dylib_of ctx.le c)) list) e

-- the places of library commands that were found hold their fixed part
pub id_place : (ctx : Ctx) (list : List (List ℕ)) (i : ℕ) → position (is_id ctx.le) list ≡ Some i → (i < length list) × (24 ≤ length (get_or list i []))
id_place ctx list i e =
    let found = position-Some (is_id ctx.le) list i [] e in
    (found.0, (id_found ctx.le (get_or list i []) found.1).0)

pub library_place : (ctx : Ctx) (text : List ℕ) (list : List (List ℕ)) (i : ℕ) → position (is_library_named ctx.le text) list ≡ Some i → (i < length list) × (24 ≤ length (get_or list i []))
library_place ctx text list i e =
    let found = position-Some (is_library_named ctx.le text) list i [] e in
    (found.0, (library_found ctx.le text (get_or list i []) found.1).0)

-- a refused build refuses the edit
pub appended-Refuses : (cause : Option Cause) (built : Result (List ℕ) Cause) (list : List (List ℕ)) → Refuses cause built → Refuses cause (list_with_last built list)
appended-Refuses None built list refuses = tt
appended-Refuses (Some cause) built list refuses = ap (λ (r : Result (List ℕ) Cause). list_with_last r list) refuses

pub placed-Refuses : (cause : Option Cause) (i : ℕ) (built : Result (List ℕ) Cause) (list : List (List ℕ)) → Refuses cause built → Refuses cause (list_with_at i built list)
placed-Refuses None i built list refuses = tt
placed-Refuses (Some cause) i built list refuses = ap (λ (r : Result (List ℕ) Cause). list_with_at i r list) refuses

-- an error that names this cause, or none, refuses by it
pub known-Refuses : (found : Option Cause) (cause : Cause) → IfSome found (λ c. c ≡ cause) → Refuses {X = List (List ℕ)} found (Err cause)
known-Refuses None cause is = tt
known-Refuses (Some other) cause is = ap (λ (c : Cause). Err c) (sym is)

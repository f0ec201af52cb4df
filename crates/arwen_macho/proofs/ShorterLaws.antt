-- Changes that take no more room, and batches of which the last list alone decides about room.
use Rattle.std.proofs.Common.{◌≡◌, ◌≤◌, ◌+◌, ℕ, zero, suc, max, List, [], ◌∷◌, ◌++◌, length, get_or, set, Some, Result, Ok, Err, IsOk, refl, ap, ◌∙◌, inl, inr, arith}
use Rattle.std.specs.List.{concat, position}
use Rattle.std.proofs.lemmas.Bool.{cases_lt, false≢true}
use Rattle.std.proofs.lemmas.List.{length-append}
use Rattle.macho_image.specs.declared.format.Ctx.{Ctx}
use Rattle.macho_image.specs.Command.{dylib_of}
use Rattle.macho_image.specs.Form.{ctx_of}
use Rattle.macho_edits.specs.Built.{dylib_built, rpath_built}
use Rattle.macho_edits.specs.Call.{Call, Cause}
use Rattle.macho_edits.specs.Call.Call.{add_rpath, change_install_id, change_install_name, change_rpath, remove_rpath}
use Rattle.macho_edits.specs.Call.Cause.{no_room}
use Rattle.macho_edits.specs.Edited.{edited_list, is_id, is_library_named, is_rpath_named}
use Rattle.arwen_macho.specs.Laws.{ChangesAt, LastDecides, MiddleMayOverflow, ShorterFits}
use Rattle.macho_edits.specs.State.{Refusal, State, answer_at, available, edited_by, end_of, step, then_on}
use Rattle.arwen_macho.proofs.StateLaws.{edited_by-one, step-fits, step-no_room}

-- a shorter command in the place of another makes a list no longer
length-concat-set : (list : List (List ℕ)) (i : ℕ) (c : List ℕ) → length c ≤ length (get_or list i []) → length (concat (set list i c)) ≤ length (concat list)
length-concat-set [] i c less = omega arith
length-concat-set (x ∷ list) zero c less = omega (arith, length-append c (concat list), length-append x (concat list))
length-concat-set (x ∷ list) (suc i) c less =
    let rest = length-concat-set list i c less in
    omega (arith, length-append x (concat (set list i c)), length-append x (concat list))

-- what such a call makes of the list
changes : (ctx : Ctx) (call : Call) (list : List (List ℕ)) (i : ℕ) (c : List ℕ) → ChangesAt ctx call list i c → edited_list ctx call list ≡ Ok (set list i c)
unfolding edited_list
changes ctx (add_rpath new) list i c at = absurd at
changes ctx (change_rpath old new) list i c at =
    let place : position (is_rpath_named ctx.le old) list ≡ Some i = at.0 in
    let built : rpath_built ctx new ≡ Ok c = at.1 in
    rw (place, built) refl
changes ctx (remove_rpath old) list i c at = absurd at
changes ctx (change_install_id new) list i c at =
    let place : position (is_id ctx.le) list ≡ Some i = at.0 in
    let built : dylib_built ctx new (dylib_of ctx.le (get_or list i [])) ≡ Ok c = at.1 in
    rw (place, built) refl
changes ctx (change_install_name old new) list i c at =
    let place : position (is_library_named ctx.le old) list ≡ Some i = at.0 in
    let built : dylib_built ctx new (dylib_of ctx.le (get_or list i [])) ≡ Ok c = at.1 in
    rw (place, built) refl

pub shorter_fits : ShorterFits
shorter_fits s call i c is at less =
    let low = is.low in
    let shorter = length-concat-set s.list i c less in
    let same : max s.high (end_of (ctx_of s.old) (set s.list i c)) ≡ s.high = omega arith in
    step-fits (call ∷ []) s (set s.list i c) (edited_by-one (ctx_of s.old) call s.list (set s.list i c) (changes (ctx_of s.old) call s.list i c at)) (omega arith)
    ∙ ap (λ (n : ℕ). Ok (record { old = s.old; list = set s.list i c; high = n })) same

is_ok : {X E : Type 0} (answer : Result X E) (x : X) → answer ≡ Ok x → IsOk answer
is_ok answer x e = rw e refl

not_ok : {X E : Type 0} (answer : Result X E) (x : E) → answer ≡ Err x → IsOk answer → ⊥
not_ok answer x e ok = let refused = rw e at ok in false≢true refused

-- where a batch with this last list is accepted
fits_ok : (s : State) (calls : List Call) (list : List (List ℕ)) → edited_by (ctx_of s.old) 0 calls s.list ≡ Ok list → end_of (ctx_of s.old) list ≤ available s → IsOk (step calls s)
fits_ok s calls list made room =
    is_ok (step calls s) (record { old = s.old; list = list; high = max s.high (end_of (ctx_of s.old) list) }) (step-fits calls s list made room)

pub last_decides : LastDecides
last_decides s calls list made = (room, fits_ok s calls list made)
  where
    room : IsOk (step calls s) → end_of (ctx_of s.old) list ≤ available s
    room ok =
        elim (cases_lt (available s) (end_of (ctx_of s.old) list)) [
          | inl past ↦ absurd (not_ok (step calls s) (record { index = length calls; cause = no_room (end_of (ctx_of s.old) list) (available s) }) (step-no_room calls s list made past) ok)
          | inr within ↦ within
        ]

-- a batch goes on with what its beginning left
edited_by-append : (ctx : Ctx) (done : ℕ) (calls more : List Call) (list : List (List ℕ)) → edited_by ctx done (calls ++ more) list ≡ then_on (edited_by ctx done calls list) (λ next. edited_by ctx (done + length calls) more next)
edited_by-append ctx done [] more list =
    let same : done + 0 ≡ done = omega arith in
    rw same refl
edited_by-append ctx done (call ∷ calls) more list =
    let same : done + length (call ∷ calls) ≡ (done + 1) + length calls = omega arith in
    rw same (after (edited_list ctx call list) (λ next. edited_by-append ctx (done + 1) calls more next))
  where
    after : (answer : Result (List (List ℕ)) Cause)
        → ((next : List (List ℕ)) → edited_by ctx (done + 1) (calls ++ more) next ≡ then_on (edited_by ctx (done + 1) calls next) (λ next. edited_by ctx ((done + 1) + length calls) more next))
        → then_on (answer_at done answer) (λ next. edited_by ctx (done + 1) (calls ++ more) next) ≡ then_on (then_on (answer_at done answer) (λ next. edited_by ctx (done + 1) calls next)) (λ next. edited_by ctx ((done + 1) + length calls) more next)
    after (Err cause) rest = refl
    after (Ok next) rest = rest next

pub middle_may_overflow : MiddleMayOverflow
middle_may_overflow s calls more middle list first past rest room =
    let place : 0 + length calls ≡ length calls = omega arith in
    let made : edited_by (ctx_of s.old) 0 (calls ++ more) s.list ≡ Ok list =
    edited_by-append (ctx_of s.old) 0 calls more s.list
    ∙ ap (λ (answer : Result (List (List ℕ)) Refusal). then_on answer (λ next. edited_by (ctx_of s.old) (0 + length calls) more next)) first
    ∙ ap (λ (n : ℕ). edited_by (ctx_of s.old) n more middle) place
    ∙ rest in
    (step-no_room calls s middle first past, fits_ok s (calls ++ more) list made room)

-- An edit of load commands keeps those that tell of a code signature.
use Rattle.std.proofs.Common.{◌≡◌, ◌<◌, ◌+◌, ◌-◌, ◌^◌, ◌==◌, ◌||◌, ◌&&◌, nat_lt, nat_le, ℕ, Bool, true, false, List, [], ◌∷◌, ◌++◌, length, take, drop, get_or, set, filter, Option, Some, None, Result, Ok, Err, refl, sym, ap, ◌∙◌, subst, add-one, inl, inr, arith}
use Rattle.std.specs.List.{position, remove}
use Rattle.std.specs.Str.{bytes_eq}
use Rattle.std.proofs.lemmas.Bool.{and_parts, cases_Bool, eqb-true, or_cases, or_left}
use Rattle.std.proofs.lemmas.List.{append-nil, append_assoc, drop_more, set_split, take-append-drop}
use Rattle.std.proofs.lemmas.List.Elements.{filter-append}
use Rattle.std.proofs.lemmas.List.Quantifiers.{position-Some}
use Rattle.patch_bytes.specs.declared.number.ByteOrder2.{ByteOrder2}
use Rattle.patch_bytes.specs.Number.{bytes_of}
use Rattle.patch_bytes.proofs.NumberLaws.{number_at-bytes_of}
use Rattle.macho_image.specs.declared.command.DylibCommand.{DylibCommand}
use Rattle.macho_image.specs.declared.command.TheConstants.{LC_ID_DYLIB, LC_LAZY_LOAD_DYLIB, LC_LOAD_DYLIB, LC_LOAD_UPWARD_DYLIB, LC_LOAD_WEAK_DYLIB, LC_REEXPORT_DYLIB, LC_RPATH}
use Rattle.macho_image.specs.declared.format.Ctx.{Ctx}
use Rattle.macho_image.specs.Command.{cmd_of, dylib_of, is_dylib_kind, is_load_kind, text_of}
use Rattle.macho_edits.specs.Built.{built_dylib, built_size, dylib_built, fields, nul_position, padded_text, rpath_built, sized_command, unless_nul}
use Rattle.macho_edits.specs.Call.{Call, Cause}
use Rattle.macho_edits.specs.Call.Call.{add_rpath, change_install_id, change_install_name, change_rpath, remove_rpath}
use Rattle.macho_edits.specs.Call.Cause.{id_missing, name_missing, rpath_missing}
use Rattle.macho_edits.specs.Edited.{edited_list, is_id, is_library_named, is_rpath_named, list_rebuilt_at, list_with_at, list_with_last, list_without_at}
use Rattle.macho_edits.specs.State.{answer_at, edited_by, then_on}
use Rattle.macho_edits.proofs.ForCallers.{HoldsText-rpath_built}
use Rattle.macho_signing.specs.Place.{signature_commands}
use Rattle.macho_signing.specs.declared.place.TheConstants.{LC_CODE_SIGNATURE}

-- ## Lists, of which one command changes that doesn't pass a test

skip_one : (p : List ℕ → Bool) (xs ys : List (List ℕ)) (c : List ℕ) → p c ≡ false → filter p (xs ++ (c ∷ ys)) ≡ filter p (xs ++ ys)
skip_one p xs ys c unmet =
    let head : filter p (c ∷ ys) ≡ filter p ys = rw unmet refl in
    filter-append p xs (c ∷ ys) ∙ ap (λ (r : List (List ℕ)). filter p xs ++ r) head ∙ sym (filter-append p xs ys)

around : (xs : List (List ℕ)) (i : ℕ) → i < length xs → take i xs ++ (get_or xs i [] ∷ drop (i + 1) xs) ≡ xs
around xs i h = ap (λ (r : List (List ℕ)). take i xs ++ r) (sym (drop_more xs i [] h)) ∙ take-append-drop i xs

without_one : (p : List ℕ → Bool) (xs : List (List ℕ)) (i : ℕ) → i < length xs → p (get_or xs i []) ≡ false → filter p (take i xs ++ drop (i + 1) xs) ≡ filter p xs
without_one p xs i h unmet = sym (skip_one p (take i xs) (drop (i + 1) xs) (get_or xs i []) unmet) ∙ ap (filter p) (around xs i h)

-- what is built doesn't pass it
abbrev BuildsNone : (List ℕ → Bool) → Result (List ℕ) Cause → Type 0
BuildsNone p built = (c : List ℕ) → built ≡ Ok c → p c ≡ false

-- the command at the place that was found doesn't pass either
abbrev FindsNone : (List ℕ → Bool) → List (List ℕ) → Option ℕ → Type 0
FindsNone p old place = (i : ℕ) → place ≡ Some i → (i < length old) × (p (get_or old i []) ≡ false)

appended : (p : List ℕ → Bool) (built : Result (List ℕ) Cause) (old new : List (List ℕ)) → BuildsNone p built → list_with_last built old ≡ Ok new → filter p new ≡ filter p old
appended p (Err cause) old new none e = absurd (cc)
appended p (Ok c) old new none e =
    let same : old ++ (c ∷ []) ≡ new = cc in
    ap (filter p) (sym same) ∙ skip_one p old [] c (none c refl) ∙ ap (filter p) (append-nil old)

placed : (p : List ℕ → Bool) (i : ℕ) (built : Result (List ℕ) Cause) (old new : List (List ℕ)) → i < length old → p (get_or old i []) ≡ false → BuildsNone p built → list_with_at i built old ≡ Ok new → filter p new ≡ filter p old
placed p i (Err cause) old new inside unmet none e = absurd (cc)
placed p i (Ok c) old new inside unmet none e =
    let same : set old i c ≡ new = cc in
    let parts : set old i c ≡ take i old ++ (c ∷ drop (i + 1) old) = rw add-one (set_split old i c inside) in
    ap (filter p) (sym same ∙ parts) ∙ skip_one p (take i old) (drop (i + 1) old) c (none c refl) ∙ without_one p old i inside unmet

rebuilt : (p : List ℕ → Bool) (place : Option ℕ) (cause : Cause) (build : List ℕ → Result (List ℕ) Cause) (old new : List (List ℕ)) → FindsNone p old place → ((i : ℕ) → place ≡ Some i → BuildsNone p (build (get_or old i []))) → list_rebuilt_at place cause build old ≡ Ok new → filter p new ≡ filter p old
rebuilt p None cause build old new at none e = absurd (cc)
rebuilt p (Some i) cause build old new at none e =
    let found = at i refl in
    placed p i (build (get_or old i [])) old new found.0 found.1 (none i refl) e

removed : (p : List ℕ → Bool) (place : Option ℕ) (cause : Cause) (old new : List (List ℕ)) → FindsNone p old place → list_without_at place cause old ≡ Ok new → filter p new ≡ filter p old
removed p None cause old new at e = absurd (cc)
removed p (Some i) cause old new at e =
    let found = at i refl in
    let same : remove old i ≡ new = cc in
    let parts : remove old i ≡ take i old ++ drop (i + 1) old = rw add-one refl in
    ap (filter p) (sym same ∙ parts) ∙ without_one p old i found.0 found.1

-- ## The kinds of commands that edits change

abbrev is_signs : ByteOrder2 → List ℕ → Bool
is_signs order c = cmd_of order c == LC_CODE_SIGNATURE

-- a kind of libraries is another one, and fits its field
record IsOther (cmd : ℕ) : Type 0 where
  pub small : cmd < 2 ^ 32
  pub other : (cmd == LC_CODE_SIGNATURE) ≡ false

is_other : (cmd kind : ℕ) → (cmd == kind) ≡ true → IsOther kind → IsOther cmd
is_other cmd kind same is = subst IsOther (sym (eqb-true cmd kind same)) is

load_is_other : (cmd : ℕ) → is_load_kind cmd ≡ true → IsOther cmd
load_is_other cmd kind =
    elim (or_cases (cmd == LC_LOAD_DYLIB || cmd == LC_LOAD_UPWARD_DYLIB || cmd == LC_REEXPORT_DYLIB || cmd == LC_LOAD_WEAK_DYLIB) (cmd == LC_LAZY_LOAD_DYLIB) kind) [
      | inr e ↦ is_other cmd LC_LAZY_LOAD_DYLIB e (record { small = omega arith; other = refl })
      | inl four ↦ elim (or_cases (cmd == LC_LOAD_DYLIB || cmd == LC_LOAD_UPWARD_DYLIB || cmd == LC_REEXPORT_DYLIB) (cmd == LC_LOAD_WEAK_DYLIB) four) [
        | inr d ↦ is_other cmd LC_LOAD_WEAK_DYLIB d (record { small = omega arith; other = refl })
        | inl three ↦ elim (or_cases (cmd == LC_LOAD_DYLIB || cmd == LC_LOAD_UPWARD_DYLIB) (cmd == LC_REEXPORT_DYLIB) three) [
          | inr c ↦ is_other cmd LC_REEXPORT_DYLIB c (record { small = omega arith; other = refl })
          | inl two ↦ elim (or_cases (cmd == LC_LOAD_DYLIB) (cmd == LC_LOAD_UPWARD_DYLIB) two) [
            | inr b ↦ is_other cmd LC_LOAD_UPWARD_DYLIB b (record { small = omega arith; other = refl })
            | inl a ↦ is_other cmd LC_LOAD_DYLIB a (record { small = omega arith; other = refl })
          ]
        ]
      ]
    ]

dylib_is_other : (cmd : ℕ) → is_dylib_kind cmd ≡ true → IsOther cmd
dylib_is_other cmd kind =
    elim (or_cases (is_load_kind cmd) (cmd == LC_ID_DYLIB) kind) [
      | inl load ↦ load_is_other cmd load
      | inr id ↦ is_other cmd LC_ID_DYLIB id (record { small = omega arith; other = refl })
    ]

built_rpath_signs_none : (ctx : Ctx) (text : List ℕ) → BuildsNone (is_signs ctx.le) (rpath_built ctx text)
built_rpath_signs_none ctx text c built =
    let kind : cmd_of ctx.le c ≡ LC_RPATH = (HoldsText-rpath_built ctx text c built).kind in
    rw kind refl

-- a build that gives a command gives the one with its fields
unless_nul-ok : (nul : Option ℕ) (size : ℕ) (command c : List ℕ) → unless_nul nul (sized_command size command) ≡ Ok c → c ≡ command
unless_nul-ok (Some i) size command c built = absurd (cc)
unless_nul-ok None size command c built =
    elim (cases_Bool (nat_lt (2 ^ 32 - 1) size)) [
      | inl long ↦ let refused = rw long at built in absurd (cc)
      | inr fits ↦ let same = rw fits at built in cc
    ]

dylib_built-is : (ctx : Ctx) (text : List ℕ) (old : DylibCommand) (c : List ℕ) → dylib_built ctx text old ≡ Ok c → c ≡ built_dylib ctx text old
unfolding dylib_built
dylib_built-is ctx text old c built = unless_nul-ok (nul_position text) (built_size ctx.container 24 text) (built_dylib ctx text old) c built

cmd_of-built : (ctx : Ctx) (text : List ℕ) (old : DylibCommand) → old.cmd < 2 ^ 32 → cmd_of ctx.le (built_dylib ctx text old) ≡ old.cmd
unfolding built_dylib
cmd_of-built ctx text old small =
    let size : ℕ = built_size ctx.container 24 text in
    let rest : List ℕ = fields ctx.le (size ∷ 24 ∷ old.dylib.timestamp ∷ old.dylib.current_version ∷ old.dylib.compatibility_version ∷ []) in
    ap (cmd_of ctx.le) (append_assoc (bytes_of ctx.le 4 old.cmd) rest (padded_text size 24 text))
    ∙ number_at-bytes_of ctx.le 4 old.cmd (rest ++ padded_text size 24 text) small

built_dylib_signs_none : (ctx : Ctx) (text : List ℕ) (old : DylibCommand) → is_dylib_kind old.cmd ≡ true → BuildsNone (is_signs ctx.le) (dylib_built ctx text old)
built_dylib_signs_none ctx text old is c built =
    let other = dylib_is_other old.cmd is in
    let kind : cmd_of ctx.le c ≡ old.cmd = ap (cmd_of ctx.le) (dylib_built-is ctx text old c built) ∙ cmd_of-built ctx text old other.small in
    rw kind other.other

-- ## Edits

-- the kinds that tests of commands tell
rpath_found : (order : ByteOrder2) (text c : List ℕ) → is_rpath_named order text c ≡ true → cmd_of order c ≡ LC_RPATH
unfolding is_rpath_named
rpath_found order text c is =
    let named = and_parts (nat_le 12 (length c)) (cmd_of order c == LC_RPATH && bytes_eq (text_of order c) text) is in
    eqb-true (cmd_of order c) LC_RPATH (and_parts (cmd_of order c == LC_RPATH) (bytes_eq (text_of order c) text) named.1).0

rpath_signs_none : (order : ByteOrder2) (text : List ℕ) (old : List (List ℕ)) → FindsNone (is_signs order) old (position (is_rpath_named order text) old)
rpath_signs_none order text old i at =
    let found = position-Some (is_rpath_named order text) old i [] at in
    let kind = rpath_found order text (get_or old i []) found.1 in
    (found.0, rw kind refl)

library_signs_none : (order : ByteOrder2) (test : List ℕ → Bool) (old : List (List ℕ)) → ((c : List ℕ) → test c ≡ true → is_dylib_kind (cmd_of order c) ≡ true) → FindsNone (is_signs order) old (position test old)
library_signs_none order test old tells i at =
    let found = position-Some test old i [] at in
    (found.0, (dylib_is_other (cmd_of order (get_or old i [])) (tells (get_or old i []) found.1)).other)

library_builds_none : (ctx : Ctx) (text : List ℕ) (test : List ℕ → Bool) (old : List (List ℕ)) → ((c : List ℕ) → test c ≡ true → is_dylib_kind (cmd_of ctx.le c) ≡ true) → (i : ℕ) → position test old ≡ Some i → BuildsNone (is_signs ctx.le) (dylib_built ctx text (dylib_of ctx.le (get_or old i [])))
library_builds_none ctx text test old tells i at =
    let found = position-Some test old i [] at in
    built_dylib_signs_none ctx text (dylib_of ctx.le (get_or old i [])) (tells (get_or old i []) found.1)

id_tells : (order : ByteOrder2) (c : List ℕ) → is_id order c ≡ true → is_dylib_kind (cmd_of order c) ≡ true
unfolding is_id
id_tells order c is =
    let kind = eqb-true (cmd_of order c) LC_ID_DYLIB (and_parts (nat_le 24 (length c)) (cmd_of order c == LC_ID_DYLIB) is).1 in
    rw kind refl

library_tells : (order : ByteOrder2) (text c : List ℕ) → is_library_named order text c ≡ true → is_dylib_kind (cmd_of order c) ≡ true
unfolding is_library_named
library_tells order text c is =
    let named = and_parts (nat_le 24 (length c)) (is_load_kind (cmd_of order c) && bytes_eq (text_of order c) text) is in
    or_left (is_load_kind (cmd_of order c)) (cmd_of order c == LC_ID_DYLIB) (and_parts (is_load_kind (cmd_of order c)) (bytes_eq (text_of order c) text) named.1).0

pub edited_signs : (ctx : Ctx) (call : Call) (old new : List (List ℕ)) → edited_list ctx call old ≡ Ok new → signature_commands ctx.le new ≡ signature_commands ctx.le old
unfolding edited_list
edited_signs ctx (add_rpath text) old new e = appended (is_signs ctx.le) (rpath_built ctx text) old new (built_rpath_signs_none ctx text) e
edited_signs ctx (change_rpath from text) old new e =
    rebuilt (is_signs ctx.le) (position (is_rpath_named ctx.le from) old) (rpath_missing from) (λ c. rpath_built ctx text) old new
    (rpath_signs_none ctx.le from old) (λ i at. built_rpath_signs_none ctx text) e
edited_signs ctx (remove_rpath from) old new e =
    removed (is_signs ctx.le) (position (is_rpath_named ctx.le from) old) (rpath_missing from) old new (rpath_signs_none ctx.le from old) e
edited_signs ctx (change_install_id text) old new e =
    rebuilt (is_signs ctx.le) (position (is_id ctx.le) old) id_missing (λ c. dylib_built ctx text (dylib_of ctx.le c)) old new
    (library_signs_none ctx.le (is_id ctx.le) old (id_tells ctx.le)) (library_builds_none ctx text (is_id ctx.le) old (id_tells ctx.le)) e
edited_signs ctx (change_install_name from text) old new e =
    rebuilt (is_signs ctx.le) (position (is_library_named ctx.le from) old) (name_missing from) (λ c. dylib_built ctx text (dylib_of ctx.le c)) old new
    (library_signs_none ctx.le (is_library_named ctx.le from) old (library_tells ctx.le from))
    (library_builds_none ctx text (is_library_named ctx.le from) old (library_tells ctx.le from)) e

-- a batch of them
pub edited_by_signs : (ctx : Ctx) (done : ℕ) (calls : List Call) (old new : List (List ℕ)) → edited_by ctx done calls old ≡ Ok new → signature_commands ctx.le new ≡ signature_commands ctx.le old
edited_by_signs ctx done [] old new e = let same : old ≡ new = cc in ap (signature_commands ctx.le) (sym same)
edited_by_signs ctx done (call ∷ calls) old new e =
    after ctx done calls old new (edited_list ctx call old) (edited_signs ctx call old) (λ next. edited_by_signs ctx (done + 1) calls next new) e
  where
    after : (ctx : Ctx) (done : ℕ) (calls : List Call) (old new : List (List ℕ)) (answer : Result (List (List ℕ)) Cause)
        → ((next : List (List ℕ)) → answer ≡ Ok next → signature_commands ctx.le next ≡ signature_commands ctx.le old)
        → ((next : List (List ℕ)) → edited_by ctx (done + 1) calls next ≡ Ok new → signature_commands ctx.le new ≡ signature_commands ctx.le next)
        → then_on (answer_at done answer) (λ next. edited_by ctx (done + 1) calls next) ≡ Ok new → signature_commands ctx.le new ≡ signature_commands ctx.le old
    after ctx done calls old new (Err cause) here rest e = absurd (cc)
    after ctx done calls old new (Ok next) here rest e = rest next e ∙ here next refl

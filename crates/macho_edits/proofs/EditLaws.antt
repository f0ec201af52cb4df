-- What an edit keeps of a list of load commands: that they are commands, that they are bytes, and the
-- contents that they name.
use Rattle.std.proofs.Common.{◌≡◌, ◌≤◌, ◌<◌, ◌+◌, ℕ, suc, Bool, true, List, [], ◌∷◌, ◌++◌, length, take, drop, get_or, set, Option, Some, None, Result, Ok, Err, refl, sym, ap, ◌∙◌, subst, add-one}
use Rattle.std.specs.List.{All, flat_map, position, remove}
use Rattle.std.proofs.lemmas.List.{append-nil, drop_more, set_split, take-append-drop}
use Rattle.std.proofs.lemmas.List.Concat.{flat_map-append}
use Rattle.std.proofs.lemmas.List.Elements.{All-append, All-drop, All-get_or, All-push, All-set, All-take}
use Rattle.std.proofs.lemmas.List.Quantifiers.{position-Some}
use Rattle.std.proofs.lemmas.Bool.{and_parts, eqb-true, leb-true, or_left, or_right}
use Rattle.std.specs.Prelude.{◌==◌, ◌&&◌, nat_le}
use Rattle.std.specs.Str.{bytes_eq}
use Rattle.patch_bytes.specs.declared.number.ByteOrder2.{ByteOrder2}
use Rattle.patch_bytes.specs.Bytes.{AreBytes}
use Rattle.macho_image.specs.declared.command.TheConstants.{LC_ID_DYLIB, LC_RPATH}
use Rattle.macho_image.specs.declared.format.Ctx.{Ctx}
use Rattle.macho_image.specs.Command.{cmd_of, contents_of, dylib_of, is_dylib_kind, is_load_kind, text_of}
use Rattle.macho_image.proofs.ForCallers.{contents_of-text}
use Rattle.macho_edits.specs.Built.{dylib_built, rpath_built}
use Rattle.macho_edits.specs.Call.{Call, Cause}
use Rattle.macho_edits.specs.Call.Call.{add_rpath, change_install_id, change_install_name, change_rpath, remove_rpath}
use Rattle.macho_edits.specs.Call.Cause.{id_missing, name_missing, rpath_missing}
use Rattle.macho_edits.specs.Edited.{list_with_last, edited_list, is_id, is_library_named, is_rpath_named, list_with_at, list_rebuilt_at, list_without_at}
use Rattle.macho_edits.specs.Whole.{IsWhole, KeepsContents, TextsAreBytes}
use Rattle.macho_edits.proofs.BuiltLaws.{AreBytes-dylib_built, AreBytes-rpath_built, AreWords-dylib_of, HoldsText-dylib_built, HoldsText-rpath_built}

-- what a new command brings into a list: it is whole, and names no content
pub record IsPlain (order : ByteOrder2) (c : List ℕ) : Type 0 where
  pub whole : IsWhole order c
  pub no_content : contents_of order c ≡ []

-- a list around one of its places
around : (xs : List (List ℕ)) (i : ℕ) → i < length xs → take i xs ++ (get_or xs i [] ∷ drop (i + 1) xs) ≡ xs
around xs i h = ap (λ (r : List (List ℕ)). take i xs ++ r) (sym (drop_more xs i [] h)) ∙ take-append-drop i xs

-- the contents around a command that names none
contents_around : (order : ByteOrder2) (xs ys : List (List ℕ)) (c : List ℕ) → contents_of order c ≡ [] → flat_map (contents_of order) (xs ++ (c ∷ ys)) ≡ flat_map (contents_of order) (xs ++ ys)
contents_around order xs ys c none =
    flat_map-append (contents_of order) xs (c ∷ ys)
    ∙ ap (λ (r : List ℕ). flat_map (contents_of order) xs ++ (r ++ flat_map (contents_of order) ys)) none
    ∙ sym (flat_map-append (contents_of order) xs ys)

-- the contents of a list without one of its commands that names none
contents_without : (order : ByteOrder2) (xs : List (List ℕ)) (i : ℕ) → i < length xs → contents_of order (get_or xs i []) ≡ [] → flat_map (contents_of order) (take i xs ++ drop (i + 1) xs) ≡ flat_map (contents_of order) xs
contents_without order xs i h none =
    sym (contents_around order (take i xs) (drop (i + 1) xs) (get_or xs i []) none) ∙ ap (flat_map (contents_of order)) (around xs i h)

-- the list with a plain command behind it
appended_keeps : (order : ByteOrder2) (built : Result (List ℕ) Cause) (old new : List (List ℕ)) → ((c : List ℕ) → built ≡ Ok c → IsPlain order c) → All (IsWhole order) old → list_with_last built old ≡ Ok new → KeepsContents order old new
appended_keeps order (Err cause) old new plain whole e = absurd (cc)
appended_keeps order (Ok c) old new plain whole e =
    let same : old ++ (c ∷ []) ≡ new = cc in
    let is = plain c refl in
    let kept : KeepsContents order old (old ++ (c ∷ [])) = record {
      whole = All-push (IsWhole order) old c whole is.whole;
      contents = contents_around order old [] c is.no_content ∙ ap (flat_map (contents_of order)) (append-nil old);
    } in
    let P : List (List ℕ) → Type 0 = KeepsContents order old in
    subst P same kept

-- the list with a plain command in the place of one that names no content
placed_keeps : (order : ByteOrder2) (i : ℕ) (built : Result (List ℕ) Cause) (old new : List (List ℕ)) → i < length old → contents_of order (get_or old i []) ≡ [] → ((c : List ℕ) → built ≡ Ok c → IsPlain order c) → All (IsWhole order) old → list_with_at i built old ≡ Ok new → KeepsContents order old new
placed_keeps order i (Err cause) old new inside none plain whole e = absurd (cc)
placed_keeps order i (Ok c) old new inside none plain whole e =
    let same : set old i c ≡ new = cc in
    let is = plain c refl in
    let parts : set old i c ≡ take i old ++ (c ∷ drop (i + 1) old) = rw add-one (set_split old i c inside) in
    let kept : KeepsContents order old (set old i c) = record {
      whole = All-set (IsWhole order) old i c is.whole whole;
      contents = ap (flat_map (contents_of order)) parts ∙ contents_around order (take i old) (drop (i + 1) old) c is.no_content ∙ contents_without order old i inside none;
    } in
    let P : List (List ℕ) → Type 0 = KeepsContents order old in
    subst P same kept

-- the list with the command at the place found built anew
rebuilt_keeps : (order : ByteOrder2) (place : Option ℕ) (missing : Cause) (build : List ℕ → Result (List ℕ) Cause) (old new : List (List ℕ)) → ((i : ℕ) → place ≡ Some i → (i < length old) × (contents_of order (get_or old i []) ≡ []) × ((c : List ℕ) → build (get_or old i []) ≡ Ok c → IsPlain order c)) → All (IsWhole order) old → list_rebuilt_at place missing build old ≡ Ok new → KeepsContents order old new
rebuilt_keeps order None missing build old new at whole e = absurd (cc)
rebuilt_keeps order (Some i) missing build old new at whole e =
    let found = at i refl in
    placed_keeps order i (build (get_or old i [])) old new found.0 found.1 found.2 whole e

-- the list without the command at the place found
without_keeps : (order : ByteOrder2) (place : Option ℕ) (missing : Cause) (old new : List (List ℕ)) → ((i : ℕ) → place ≡ Some i → (i < length old) × (contents_of order (get_or old i []) ≡ [])) → All (IsWhole order) old → list_without_at place missing old ≡ Ok new → KeepsContents order old new
without_keeps order None missing old new at whole e = absurd (cc)
without_keeps order (Some i) missing old new at whole e =
    let found = at i refl in
    let same : remove old i ≡ new = cc in
    let parts : remove old i ≡ take i old ++ drop (i + 1) old = rw add-one refl in
    let kept : KeepsContents order old (remove old i) = record {
      whole = All-append (IsWhole order) (take i old) (drop (suc i) old) (All-take (IsWhole order) i old whole) (All-drop (IsWhole order) (suc i) old whole);
      contents = ap (flat_map (contents_of order)) parts ∙ contents_without order old i found.0 found.1;
    } in
    let P : List (List ℕ) → Type 0 = KeepsContents order old in
    subst P same kept

-- what the tests of commands tell: the kind, and that the fixed part is there
pub rpath_found : (order : ByteOrder2) (text c : List ℕ) → is_rpath_named order text c ≡ true → cmd_of order c ≡ LC_RPATH
unfolding is_rpath_named
rpath_found order text c e = eqb-true (cmd_of order c) LC_RPATH (and_parts (cmd_of order c == LC_RPATH) (bytes_eq (text_of order c) text) (and_parts (nat_le 12 (length c)) (cmd_of order c == LC_RPATH && bytes_eq (text_of order c) text) e).1).0

pub library_found : (order : ByteOrder2) (text c : List ℕ) → is_library_named order text c ≡ true → (24 ≤ length c) × (is_load_kind (cmd_of order c) ≡ true)
unfolding is_library_named
library_found order text c e =
    let parts = and_parts (nat_le 24 (length c)) (is_load_kind (cmd_of order c) && bytes_eq (text_of order c) text) e in
    (leb-true 24 (length c) parts.0, (and_parts (is_load_kind (cmd_of order c)) (bytes_eq (text_of order c) text) parts.1).0)

pub id_found : (order : ByteOrder2) (c : List ℕ) → is_id order c ≡ true → (24 ≤ length c) × (cmd_of order c ≡ LC_ID_DYLIB)
unfolding is_id
id_found order c e =
    let parts = and_parts (nat_le 24 (length c)) (cmd_of order c == LC_ID_DYLIB) e in
    (leb-true 24 (length c) parts.0, eqb-true (cmd_of order c) LC_ID_DYLIB parts.1)

-- an rpath command with a text that was found, and what is built in its place
rpath_place : (order : ByteOrder2) (ctx : Ctx) (text new : List ℕ) (old : List (List ℕ)) (i : ℕ) → position (is_rpath_named order text) old ≡ Some i → (i < length old) × (contents_of order (get_or old i []) ≡ [])
rpath_place order ctx text new old i e =
    let found = position-Some (is_rpath_named order text) old i [] e in
    let kind : cmd_of order (get_or old i []) ≡ LC_RPATH = rpath_found order text (get_or old i []) found.1 in
    (found.0, contents_of-text order (get_or old i []) (rw kind refl))

-- a built rpath command is plain
plain_rpath : (ctx : Ctx) (text c : List ℕ) → AreBytes text → rpath_built ctx text ≡ Ok c → IsPlain ctx.le c
plain_rpath ctx text c bytes e =
    let holds = HoldsText-rpath_built ctx text c e in
    record {
      whole = record { command = holds.is_command; bytes = AreBytes-rpath_built ctx text c bytes e };
      no_content = holds.no_content;
    }

-- a library command that is built for another is plain
plain_dylib : (ctx : Ctx) (text old c : List ℕ) → AreBytes text → AreBytes old → 24 ≤ length old → is_dylib_kind (cmd_of ctx.le old) ≡ true → dylib_built ctx text (dylib_of ctx.le old) ≡ Ok c → IsPlain ctx.le c
plain_dylib ctx text old c bytes old_bytes long kind e =
    let holds = HoldsText-dylib_built ctx text (dylib_of ctx.le old) c (AreWords-dylib_of ctx.le old old_bytes long) kind e in
    record {
      whole = record { command = holds.is_command; bytes = AreBytes-dylib_built ctx text (dylib_of ctx.le old) c bytes e };
      no_content = holds.no_content;
    }

-- the place of a library command that a test found
library_place : (ctx : Ctx) (test : List ℕ → Bool) (new : List ℕ) (old : List (List ℕ)) (i : ℕ) → ((c : List ℕ) → test c ≡ true → (24 ≤ length c) × (is_dylib_kind (cmd_of ctx.le c) ≡ true)) → AreBytes new → All (IsWhole ctx.le) old → position test old ≡ Some i → (i < length old) × (contents_of ctx.le (get_or old i []) ≡ []) × ((c : List ℕ) → dylib_built ctx new (dylib_of ctx.le (get_or old i [])) ≡ Ok c → IsPlain ctx.le c)
library_place ctx test new old i tells bytes whole e =
    let found = position-Some test old i [] e in
    let is = tells (get_or old i []) found.1 in
    let command = All-get_or (IsWhole ctx.le) old i [] found.0 whole in
    (found.0, contents_of-text ctx.le (get_or old i []) (or_right (cmd_of ctx.le (get_or old i []) == LC_RPATH) (is_dylib_kind (cmd_of ctx.le (get_or old i []))) is.1), λ c built. plain_dylib ctx new (get_or old i []) c bytes command.bytes is.0 is.1 built)

-- an edit keeps that the commands are commands, that they are bytes, and the contents that they name
pub edited_keeps : (ctx : Ctx) (call : Call) (old new : List (List ℕ)) → TextsAreBytes call → All (IsWhole ctx.le) old → edited_list ctx call old ≡ Ok new → KeepsContents ctx.le old new
unfolding edited_list
edited_keeps ctx (add_rpath text) old new bytes whole e =
    appended_keeps ctx.le (rpath_built ctx text) old new (λ c. plain_rpath ctx text c bytes) whole e
edited_keeps ctx (change_rpath from text) old new bytes whole e =
    rebuilt_keeps ctx.le (position (is_rpath_named ctx.le from) old) (rpath_missing from) (λ c. rpath_built ctx text) old new
    (λ i at. let place = rpath_place ctx.le ctx from text old i at in (place.0, place.1, λ c. plain_rpath ctx text c bytes)) whole e
edited_keeps ctx (remove_rpath from) old new bytes whole e =
    without_keeps ctx.le (position (is_rpath_named ctx.le from) old) (rpath_missing from) old new (λ i at. rpath_place ctx.le ctx from [] old i at) whole e
edited_keeps ctx (change_install_id text) old new bytes whole e =
    rebuilt_keeps ctx.le (position (is_id ctx.le) old) id_missing (λ c. dylib_built ctx text (dylib_of ctx.le c)) old new
    (λ i at. library_place ctx (is_id ctx.le) text old i (λ c is. let found = id_found ctx.le c is in (found.0, rw found.1 refl)) bytes whole at) whole e
edited_keeps ctx (change_install_name from text) old new bytes whole e =
    rebuilt_keeps ctx.le (position (is_library_named ctx.le from) old) (name_missing from) (λ c. dylib_built ctx text (dylib_of ctx.le c)) old new
    (λ i at. library_place ctx (is_library_named ctx.le from) text old i (λ c is. let found = library_found ctx.le from c is in (found.0, or_left (is_load_kind (cmd_of ctx.le c)) (cmd_of ctx.le c == LC_ID_DYLIB) found.1)) bytes whole at) whole e

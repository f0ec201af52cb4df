-- What holds of every state of a thin file under edits, and what its bytes show.
use Rattle.std.proofs.Common.{◌≡◌, ◌≤◌, ◌<◌, ◌+◌, ◌^◌, ℕ, max, min, Bool, true, false, nat_le, List, [], ◌∷◌, ◌++◌, length, drop, None, Result, Ok, Err, refl, ap, ◌∙◌, subst, arith}
use Rattle.std.specs.List.{All, concat, flat_map}
use Rattle.std.proofs.lemmas.List.{drop_at, length-append, take_at}
use Rattle.std.proofs.lemmas.List.Elements.{All-cons, All-head, All-nil, All-tail, All-weaker}
use Rattle.std.proofs.lemmas.Bool.{le-leb, leb-true}
use Rattle.patch_bytes.specs.declared.number.ByteOrder2.{ByteOrder2}
use Rattle.patch_bytes.specs.Bytes.{AreBytes}
use Rattle.patch_bytes.proofs.NumberLaws.{AreBytes-drop, AreBytes-take}
use Rattle.macho_image.specs.Stored.{Fits, IsStored}
use Rattle.macho_image.specs.declared.format.Ctx.{Ctx}
use Rattle.macho_image.specs.Checks.{file_fault}
use Rattle.macho_image.specs.Command.{IsCommand, contents_of}
use Rattle.macho_image.specs.Commands.{commands_of, first_content_of, least}
use Rattle.macho_image.specs.Form.{area_of, ctx_of, header_size, sizeofcmds_of}
use Rattle.macho_image.specs.Image.{with_area}
use Rattle.macho_image.proofs.ForCallers.{area_fault-concat, commands_of-with_area, concat-commands_of, ctx_of-with_area, cut-concat, file_fault-with_area, first_content_of-with_area, found, length-with_area, with_area-same, with_area-with_area}
use Rattle.macho_edits.specs.Call.{Call, Cause}
use Rattle.macho_edits.specs.Call.Cause.{no_room}
use Rattle.macho_edits.specs.Edited.{edited_list}
use Rattle.macho_edits.specs.State.{Refusal, State, answer_at, available, edited_by, end_of, first_state, fitted_state, laid_bytes, step, then_on}
use Rattle.arwen_macho.specs.Shown.{Shows}
use Rattle.macho_edits.specs.Whole.{IsState, IsWhole, KeepsContents, TextsAreBytes}
use Rattle.macho_edits.proofs.ForCallers.{edited_keeps}

-- the least of a number and others is at most that number
pub least-le : (n : ℕ) (xs : List ℕ) → least n xs ≤ n
least-le n [] = omega arith
least-le n (x ∷ xs) = let rest = least-le (min n x) xs in omega arith

-- content begins at the file's end at the latest
pub first_content-le : (bytes : List ℕ) → first_content_of bytes ≤ length bytes
unfolding first_content_of
first_content-le bytes = least-le (length bytes) (flat_map (contents_of (ctx_of bytes).le) (commands_of bytes))

-- there are no more commands than bytes in them
pub counted : (ctx : Ctx) (list : List (List ℕ)) → All (IsWhole ctx.le) list → length list ≤ length (concat list)
counted ctx [] whole = omega arith
counted ctx (c ∷ list) whole =
    let here = (All-head (IsWhole ctx.le) c list whole).command.header in
    let rest = counted ctx list (All-tail (IsWhole ctx.le) c list whole) in
    omega (arith, length-append c (concat list))

are_commands : (s : State) → IsState s → All (IsCommand (ctx_of s.old).le) s.list
are_commands s is = All-weaker (IsWhole (ctx_of s.old).le) (IsCommand (ctx_of s.old).le) (λ c h. h.command) s.list is.whole

-- an accepted file has less than 2 ^ 32 bytes
short : (s : State) → IsState s → length s.old < 2 ^ 32
short s is = (found s.old is.accepted).short

-- a state's list can be stored over the bytes as read
pub stored : (s : State) → IsState s → IsStored s.old (length s.list) (concat s.list) s.high
stored s is =
    let few = counted (ctx_of s.old) s.list is.whole in
    let small = short s is in
    let low = is.low in
    let inside = is.inside in
    record {
      accepted = is.accepted;
      commands = area_fault-concat (ctx_of s.old).le s.list (are_commands s is);
      counted = omega arith;
      room = low;
      inside = inside;
    }

fits : (s : State) → IsState s → Fits (ctx_of s.old) s.old (concat s.list) s.high
fits s is = record { room = is.low; inside = is.inside }

first_content_of-laid : (s : State) → IsState s → least (length s.old) (flat_map (contents_of (ctx_of s.old).le) s.list) ≡ first_content_of s.old
unfolding first_content_of
first_content_of-laid s is = ap (least (length s.old)) is.contents

pub laid_shows : (s : State) → IsState s → Shows s (laid_bytes s)
unfolding laid_bytes
laid_shows s is =
    let over = stored s is in
    let cut_is = cut-concat (ctx_of s.old).le s.list (are_commands s is) in
    record {
      accepted = file_fault-with_area s.old (length s.list) (concat s.list) s.high over;
      form = ctx_of-with_area (ctx_of s.old) s.old (length s.list) (concat s.list) s.high (fits s is);
      commands = commands_of-with_area s.old (length s.list) (concat s.list) s.high over ∙ cut_is;
      first = first_content_of-with_area s.old (length s.list) (concat s.list) s.high over
          ∙ ap (λ (cs : List (List ℕ)). least (length s.old) (flat_map (contents_of (ctx_of s.old).le) cs)) cut_is
          ∙ first_content_of-laid s is;
      long = length-with_area (ctx_of s.old) s.old (length s.list) (concat s.list) s.high (fits s is);
    }

-- the list that is stored over the bytes of a state is another, as far as commands ever reached
pub relaid : (s : State) (list : List (List ℕ)) (high : ℕ) → IsState s → s.high ≤ high → with_area (ctx_of s.old) (laid_bytes s) (length list) (concat list) high ≡ laid_bytes (record { old = s.old; list = list; high = high })
unfolding laid_bytes
relaid s list high is further = with_area-with_area (ctx_of s.old) s.old (length s.list) (concat s.list) s.high (length list) (concat list) high (fits s is) further

-- commands that are bytes together are bytes
both : (order : ByteOrder2) (list : List (List ℕ)) → All (IsCommand order) list → AreBytes (concat list) → All (IsWhole order) list
both order [] commands bytes = All-nil (IsWhole order)
both order (c ∷ list) commands bytes =
    let front : AreBytes c = rw (← take_at c (concat list) (length c) refl) (AreBytes-take (length c) (c ++ concat list) bytes) in
    let rest : AreBytes (concat list) = rw (← drop_at c (concat list) (length c) refl) (AreBytes-drop (length c) (c ++ concat list) bytes) in
    All-cons (IsWhole order) c list (record { command = All-head (IsCommand order) c list commands; bytes = front })
    (both order list (All-tail (IsCommand order) c list commands) rest)

-- the commands of an accepted file are whole
commands_whole : (old : List ℕ) → file_fault old ≡ None → AreBytes old → All (IsWhole (ctx_of old).le) (commands_of old)
commands_whole old accepted bytes =
    let area : AreBytes (area_of (ctx_of old) old) = AreBytes-take (sizeofcmds_of (ctx_of old) old) (drop (header_size (ctx_of old).container) old) (AreBytes-drop (header_size (ctx_of old).container) old bytes) in
    both (ctx_of old).le (commands_of old) (found old accepted).each (rw (concat-commands_of old accepted) area)

-- a file as it is read is a state, with its own bytes
pub first_is : (old : List ℕ) → file_fault old ≡ None → AreBytes old → IsState (first_state old)
unfolding first_state
first_is old accepted bytes =
    let file = found old accepted in
    let size = file.size in
    let room = file.room in
    record {
      accepted = accepted;
      bytes = bytes;
      whole = commands_whole old accepted bytes;
      low = omega arith;
      inside = omega arith;
      contents = refl;
    }

pub first_laid : (old : List ℕ) → file_fault old ≡ None → AreBytes old → laid_bytes (first_state old) ≡ old
unfolding first_state laid_bytes
first_laid old accepted bytes =
    let file = found old accepted in
    let size = file.size in
    let room = file.room in
    rw (← file.count, concat-commands_of old accepted) (with_area-same (ctx_of old) old bytes (omega arith))

-- a list of edits keeps what each edit keeps
pub edited_by_keeps : (ctx : Ctx) (done : ℕ) (calls : List Call) (old new : List (List ℕ)) → All TextsAreBytes calls → All (IsWhole ctx.le) old → edited_by ctx done calls old ≡ Ok new → KeepsContents ctx.le old new
edited_by_keeps ctx done [] old new texts whole e =
    let same : old ≡ new = cc in
    let kept : KeepsContents ctx.le old old = record { whole = whole; contents = refl } in
    let P : List (List ℕ) → Type 0 = KeepsContents ctx.le old in
    subst P same kept
edited_by_keeps ctx done (call ∷ calls) old new texts whole e =
    after ctx done calls old new (edited_list ctx call old) (λ next was. edited_keeps ctx call old next (All-head TextsAreBytes call calls texts) whole was)
    (λ next kept was. edited_by_keeps ctx (done + 1) calls next new (All-tail TextsAreBytes call calls texts) kept was) e
  where
    after : (ctx : Ctx) (done : ℕ) (calls : List Call) (old new : List (List ℕ)) (answer : Result (List (List ℕ)) Cause)
        → ((next : List (List ℕ)) → answer ≡ Ok next → KeepsContents ctx.le old next)
        → ((next : List (List ℕ)) → All (IsWhole ctx.le) next → edited_by ctx (done + 1) calls next ≡ Ok new → KeepsContents ctx.le next new)
        → then_on (answer_at done answer) (λ next. edited_by ctx (done + 1) calls next) ≡ Ok new → KeepsContents ctx.le old new
    after ctx done calls old new (Err cause) here rest e = absurd (cc)
    after ctx done calls old new (Ok next) here rest e =
        let first = here next refl in
        let last = rest next first.whole e in
        record { whole = last.whole; contents = last.contents ∙ first.contents }

-- the commands may end within the file at the furthest
pub available-le : (s : State) → IsState s → available s ≤ length s.old
available-le s is =
    let first = first_content-le s.old in
    let low = is.low in
    let inside = is.inside in
    omega arith

-- a list that keeps what a state has, and that ends where it may, makes a state
pub next_is : (s : State) (list : List (List ℕ)) → IsState s → KeepsContents (ctx_of s.old).le s.list list → end_of (ctx_of s.old) list ≤ available s → IsState (record { old = s.old; list = list; high = max s.high (end_of (ctx_of s.old) list) })
next_is s list is keeps room =
    let most = available-le s is in
    let inside = is.inside in
    record {
      accepted = is.accepted;
      bytes = is.bytes;
      whole = keeps.whole;
      low = omega arith;
      inside = omega arith;
      contents = keeps.contents ∙ is.contents;
    }

-- a batch whose last list ends where it may is accepted
pub step-fits : (calls : List Call) (s : State) (list : List (List ℕ)) → edited_by (ctx_of s.old) 0 calls s.list ≡ Ok list → end_of (ctx_of s.old) list ≤ available s → step calls s ≡ Ok (record { old = s.old; list = list; high = max s.high (end_of (ctx_of s.old) list) })
unfolding step fitted_state
step-fits calls s list made room =
    let yes : nat_le (end_of (ctx_of s.old) list) (available s) ≡ true = le-leb (end_of (ctx_of s.old) list) (available s) room in
    rw (made, yes) refl

is_false : (test : Bool) → (test ≡ true → ⊥) → test ≡ false
is_false true h = absurd (h refl)
is_false false h = refl

not_le : (a b : ℕ) → b < a → nat_le a b ≡ false
not_le a b past = is_false (nat_le a b) (λ e. let below : a ≤ b = leb-true a b e in omega arith)

-- a batch whose last list ends past it is refused
pub step-no_room : (calls : List Call) (s : State) (list : List (List ℕ)) → edited_by (ctx_of s.old) 0 calls s.list ≡ Ok list → available s < end_of (ctx_of s.old) list → step calls s ≡ Err (record { index = length calls; cause = no_room (end_of (ctx_of s.old) list) (available s) })
unfolding step fitted_state
step-no_room calls s list made past =
    let no : nat_le (end_of (ctx_of s.old) list) (available s) ≡ false = not_le (end_of (ctx_of s.old) list) (available s) past in
    rw (made, no) refl

-- a batch with a refused edit is refused
pub step-refused : (calls : List Call) (s : State) (refusal : Refusal) → edited_by (ctx_of s.old) 0 calls s.list ≡ Err refusal → step calls s ≡ Err refusal
unfolding step fitted_state
step-refused calls s refusal made = rw made refl

-- a single edit is a batch of one
pub edited_by-one : (ctx : Ctx) (call : Call) (list new : List (List ℕ)) → edited_list ctx call list ≡ Ok new → edited_by ctx 0 (call ∷ []) list ≡ Ok new
edited_by-one ctx call list new made = rw made refl

-- no edits change nothing
pub step-nil : (s : State) → IsState s → step [] s ≡ Ok s
step-nil s is =
    let low = is.low in
    let same : max s.high (end_of (ctx_of s.old) s.list) ≡ s.high = omega arith in
    step-fits [] s s.list refl (omega arith) ∙ ap (λ (n : ℕ). Ok (record { old = s.old; list = s.list; high = n })) same

-- an accepted edit goes on with what it left
pub edited_by-more : (ctx : Ctx) (done : ℕ) (call : Call) (calls : List Call) (list next : List (List ℕ)) → edited_list ctx call list ≡ Ok next → edited_by ctx done (call ∷ calls) list ≡ edited_by ctx (done + 1) calls next
edited_by-more ctx done call calls list next made = rw made refl

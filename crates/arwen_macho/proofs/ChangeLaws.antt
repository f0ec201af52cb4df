-- A change that was decided for a file can be carried out, and leaves the file that it describes.
use Rattle.std.proofs.Common.{◌≡◌, ◌≤◌, ◌<◌, ◌+◌, ◌^◌, ℕ, max, true, List, length, None, refl, sym, ap, ◌∙◌, subst, arith}
use Rattle.std.specs.List.{concat}
use Rattle.std.proofs.lemmas.List.Elements.{All-weaker}
use Rattle.macho_image.specs.declared.format.Ctx.{Ctx}
use Rattle.macho_image.specs.Checks.{area_fault}
use Rattle.macho_image.specs.Command.{IsCommand}
use Rattle.macho_image.specs.Commands.{commands_of, cut_commands, first_content_of}
use Rattle.macho_image.specs.Form.{commands_end, ctx_of, header_size, sizeofcmds_of}
use Rattle.macho_image.specs.Image.{with_area}
use Rattle.macho_image.specs.Prepared.{IsMadeFor}
use Rattle.macho_image.proofs.ForCallers.{area_fault-concat, cut-concat, found, length-cut}
use Rattle.arwen_macho.specs.declared.change.Change.{Change}
use Rattle.arwen_macho.specs.Change.{IsChangeOf, changed_file, list_of}
use Rattle.macho_edits.specs.Held.{Held, image_model}
use Rattle.macho_edits.specs.State.{State, available, end_of, laid_bytes}
use Rattle.macho_edits.specs.Whole.{IsState, IsWhole, KeepsContents}
use Rattle.arwen_macho.proofs.StateLaws.{available-le, counted, laid_shows, next_is, relaid}

-- the state that the change leaves is one
pub changed_is : (held : Held) (change : Change) → IsState held.state → IsChangeOf held change → IsState (changed_file held change).state
changed_is held change is of =
    let next = next_is held.state (list_of held change) is of.keeps of.room in
    let P : ℕ → Type 0 = λ high. IsState (record { old = held.state.old; list = list_of held change; high = high }) in
    subst P (sym of.high) next

-- there is room for it
pub change_room : (held : Held) (change : Change) → IsState held.state → IsChangeOf held change → header_size (ctx_of (laid_bytes held.state)).container + length change.prepared.area ≤ change.high
change_room held change is of =
    let form = (laid_shows held.state is).form in
    let high = of.high in
    rw (form, of.area) (omega arith)

-- inside the file
pub change_inside : (held : Held) (change : Change) → IsState held.state → IsChangeOf held change → change.high ≤ length (laid_bytes held.state)
change_inside held change is of =
    let long = (laid_shows held.state is).long in
    let inside = is.inside in
    let most = available-le held.state is in
    let room = of.room in
    let high = of.high in
    omega arith

-- the bytes that are stored are those of the state that it leaves
pub change_bytes : (held : Held) (change : Change) → IsState held.state → IsChangeOf held change → with_area (ctx_of (laid_bytes held.state)) (laid_bytes held.state) change.prepared.count change.prepared.area change.high ≡ laid_bytes (changed_file held change).state
change_bytes held change is of =
    let form = (laid_shows held.state is).form in
    let further : held.state.high ≤ change.high = let high = of.high in omega arith in
    let count : length (list_of held change) ≡ change.prepared.count = length-cut (ctx_of held.state.old).le change.prepared.count change.prepared.area in
    let over = relaid held.state (list_of held change) change.high is further in
    ap (λ (ctx : Ctx). with_area ctx (laid_bytes held.state) change.prepared.count change.prepared.area change.high) form
    ∙ ap (λ (area : List ℕ). with_area (ctx_of held.state.old) (laid_bytes held.state) change.prepared.count area change.high) of.area
    ∙ ap (λ (n : ℕ). with_area (ctx_of held.state.old) (laid_bytes held.state) n (concat (list_of held change)) change.high) (sym count)
    ∙ over

-- the bytes that are stored show the new list, and so the file as it is then
pub changed_held : (held : Held) (change : Change) (bytes : List ℕ) → IsState held.state → IsChangeOf held change → bytes ≡ laid_bytes (changed_file held change).state → (record { state = record { old = held.state.old; list = commands_of bytes; high = change.high }; is_edited = true }) ≡ changed_file held change
changed_held held change bytes is of same =
    let shown : commands_of bytes ≡ list_of held change = ap commands_of same ∙ (laid_shows (changed_file held change).state (changed_is held change is of)).commands in
    ap (λ (list : List (List ℕ)). record { state = record { old = held.state.old; list = list; high = change.high }; is_edited = true }) shown

-- where the commands of a state's bytes may end
pub available_shown : (s : State) → IsState s → max (commands_end (ctx_of (laid_bytes s)) (laid_bytes s)) (first_content_of (laid_bytes s)) ≡ available s
available_shown s is =
    let shows = laid_shows s is in
    let size = (found (laid_bytes s) shows.accepted).size in
    let same : sizeofcmds_of (ctx_of (laid_bytes s)) (laid_bytes s) ≡ length (concat s.list) = size ∙ ap (λ (list : List (List ℕ)). length (concat list)) shows.commands in
    let form : header_size (ctx_of (laid_bytes s)).container ≡ header_size (ctx_of s.old).container = ap (λ (ctx : Ctx). header_size ctx.container) shows.form in
    let first = shows.first in
    omega arith

-- a list that is kept, with its counts, is a change where it ends in time
pub change_of : (held : Held) (commands : List (List ℕ)) (change : Change) → IsMadeFor (image_model held) (length commands) (concat commands) change.prepared → KeepsContents (ctx_of held.state.old).le held.state.list commands → end_of (ctx_of held.state.old) commands ≤ available held.state → change.high ≡ max held.state.high (end_of (ctx_of held.state.old) commands) → IsChangeOf held change × (list_of held change ≡ commands)
change_of held commands change made keeps room high =
    let list : list_of held change ≡ commands =
    ap (λ (n : ℕ). cut_commands (ctx_of held.state.old).le n change.prepared.area) made.same_count
    ∙ ap (cut_commands (ctx_of held.state.old).le (length commands)) made.same_area
    ∙ cut-concat (ctx_of held.state.old).le commands (All-weaker (IsWhole (ctx_of held.state.old).le) (IsCommand (ctx_of held.state.old).le) (λ c h. h.command) commands keeps.whole) in
    let Kept : List (List ℕ) → Type 0 = λ l. KeepsContents (ctx_of held.state.old).le held.state.list l in
    let Room : List (List ℕ) → Type 0 = λ l. end_of (ctx_of held.state.old) l ≤ available held.state in
    let High : List (List ℕ) → Type 0 = λ l. change.high ≡ max held.state.high (end_of (ctx_of held.state.old) l) in (
      record {
        made = record { same_form = made.same_form; same_count = refl; same_area = refl; same_copy = made.same_copy };
        area = made.same_area ∙ ap concat (sym list);
        keeps = subst Kept (sym list) keeps;
        room = subst Room (sym list) room;
        high = subst High (sym list) high;
      },
      list,
    )

-- a kept list has no fault, and few commands
pub kept_fault : (ctx : Ctx) (old commands : List (List ℕ)) → KeepsContents ctx.le old commands → area_fault ctx.le (length commands) (concat commands) ≡ None
kept_fault ctx old commands keeps = area_fault-concat ctx.le commands (All-weaker (IsWhole ctx.le) (IsCommand ctx.le) (λ c h. h.command) commands keeps.whole)

pub kept_count : (s : State) (commands : List (List ℕ)) → IsState s → KeepsContents (ctx_of s.old).le s.list commands → end_of (ctx_of s.old) commands ≤ available s → length commands < 2 ^ 32
kept_count s commands is keeps room =
    let few = counted (ctx_of s.old) commands keeps.whole in
    let most = available-le s is in
    let short = (found s.old is.accepted).short in
    omega arith

-- the area of a change has no fault
pub change_fault : (held : Held) (change : Change) → IsState held.state → IsChangeOf held change → area_fault (ctx_of (laid_bytes held.state)).le change.prepared.count change.prepared.area ≡ None
change_fault held change is of =
    let form = (laid_shows held.state is).form in
    let count : length (list_of held change) ≡ change.prepared.count = length-cut (ctx_of held.state.old).le change.prepared.count change.prepared.area in
    ap (λ (ctx : Ctx). area_fault ctx.le change.prepared.count change.prepared.area) form
    ∙ ap (λ (n : ℕ). area_fault (ctx_of held.state.old).le n change.prepared.area) (sym count)
    ∙ ap (area_fault (ctx_of held.state.old).le (length (list_of held change))) of.area
    ∙ kept_fault (ctx_of held.state.old) held.state.list (list_of held change) of.keeps

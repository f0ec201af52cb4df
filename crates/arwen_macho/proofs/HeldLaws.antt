-- The fields of a thin file under edits, as it is parsed and after a change.
use Rattle.std.proofs.Common.{◌≡◌, ◌≤◌, ◌+◌, ℕ, max, nat_le, List, length, Bool, true, false, None, ap, sym, ◌∙◌, subst, arith}
use Rattle.std.specs.List.{concat}
use Rattle.std.proofs.lemmas.Bool.{leb-true}
use Rattle.macho_image.specs.declared.format.Ctx.{Ctx}
use Rattle.macho_image.specs.Checks.{file_fault}
use Rattle.macho_image.specs.Commands.{commands_of, first_content_of}
use Rattle.macho_image.specs.Form.{commands_end, ctx_of, header_size}
use Rattle.macho_image.specs.Image.{Image, with_area}
use Rattle.patch_bytes.specs.Bytes.{AreBytes}
use Rattle.arwen_macho.specs.declared.change.Change.{Change}
use Rattle.arwen_macho.specs.declared.macho.SingleMachO.TheInside.{Inside}
use Rattle.arwen_macho.specs.Change.{IsChangeOf, changed_file}
use Rattle.macho_edits.specs.Held.{Held, held_at_read}
use Rattle.arwen_macho.specs.HeldBy.{IsHeld, held_of}
use Rattle.macho_edits.specs.State.{available, end_of, first_state, laid_bytes}
use Rattle.macho_edits.specs.Whole.{IsState}
use Rattle.arwen_macho.proofs.ChangeLaws.{available_shown, change_bytes, changed_held, changed_is}
use Rattle.arwen_macho.proofs.StateLaws.{first_is, first_laid, laid_shows}

-- the fields with another parsed file and another furthest end
abbrev pub with_image : Inside → Image → ℕ → Inside
with_image s image high = record s { inner = image; high = high }

-- what is true of fields that show a state with these bytes
is_held : (s : Inside) (held : Held) → held_of s ≡ held → IsState held.state → s.inner.bytes ≡ laid_bytes held.state → IsHeld s
is_held s held same is bytes =
    let P : Held → Type 0 = λ h. IsState h.state in
    record {
      is_state = subst P (sym same) is;
      bytes = bytes ∙ ap (λ (h : Held). laid_bytes h.state) (sym same);
    }

-- after a change is stored, the fields show the changed file
pub changed_fields : (s : Inside) (change : Change) (new : Image) → IsHeld s → IsChangeOf (held_of s) change → new ≡ record { bytes = with_area (ctx_of s.inner.bytes) s.inner.bytes change.prepared.count change.prepared.area change.high; is_edited = true } → (held_of (with_image s new change.high) ≡ changed_file (held_of s) change) × IsHeld (with_image s new change.high)
changed_fields s change new is of stored =
    let over : with_area (ctx_of s.inner.bytes) s.inner.bytes change.prepared.count change.prepared.area change.high ≡ laid_bytes (changed_file (held_of s) change).state =
    ap (λ (bytes : List ℕ). with_area (ctx_of bytes) bytes change.prepared.count change.prepared.area change.high) is.bytes ∙ change_bytes (held_of s) change is.is_state of in
    let bytes : new.bytes ≡ laid_bytes (changed_file (held_of s) change).state = ap (λ (i : Image). i.bytes) stored ∙ over in
    let edited : new.is_edited ≡ true = ap (λ (i : Image). i.is_edited) stored in
    let same : held_of (with_image s new change.high) ≡ changed_file (held_of s) change =
    ap (λ (e : Bool). record { state = record { old = s.source.now; list = commands_of new.bytes; high = change.high }; is_edited = e }) edited
    ∙ changed_held (held_of s) change new.bytes is.is_state of bytes in
    (same, is_held (with_image s new change.high) (changed_file (held_of s) change) same (changed_is (held_of s) change is.is_state of) bytes)

-- a file as it is parsed
pub first_fields : (s : Inside) → file_fault s.source.now ≡ None → AreBytes s.source.now → s.inner ≡ record { bytes = s.source.now; is_edited = false } → s.high ≡ commands_end (ctx_of s.source.now) s.source.now → (held_of s ≡ held_at_read s.source.now) × IsHeld s
unfolding first_state
first_fields s accepted are parsed high =
    let bytes : s.inner.bytes ≡ s.source.now = ap (λ (i : Image). i.bytes) parsed in
    let edited : s.inner.is_edited ≡ false = ap (λ (i : Image). i.is_edited) parsed in
    let same : held_of s ≡ held_at_read s.source.now =
    ap (λ (e : Bool). record { state = record { old = s.source.now; list = commands_of s.inner.bytes; high = s.high }; is_edited = e }) edited
    ∙ ap (λ (b : List ℕ). record { state = record { old = s.source.now; list = commands_of b; high = s.high }; is_edited = false }) bytes
    ∙ ap (λ (n : ℕ). record { state = record { old = s.source.now; list = commands_of s.source.now; high = n }; is_edited = false }) high in
    (same, is_held s (held_at_read s.source.now) same (first_is s.source.now accepted are) (bytes ∙ sym (first_laid s.source.now accepted are)))

-- the end of a list, by the numbers that the file shows
pub end_is : (s : Inside) (ctx : Ctx) (header size : ℕ) (commands : List (List ℕ)) → IsHeld s → ctx ≡ ctx_of s.inner.bytes → header ≡ header_size ctx.container → size ≡ length (concat commands) → header + size ≡ end_of (ctx_of (held_of s).state.old) commands
end_is s ctx header size commands is form header_is size_is =
    let same : ctx ≡ ctx_of s.source.now = form ∙ ap ctx_of is.bytes ∙ (laid_shows (held_of s).state is.is_state).form in
    let wide : header_size ctx.container ≡ header_size (ctx_of s.source.now).container = ap (λ (c : Ctx). header_size c.container) same in
    omega arith

-- the greatest offset where commands may end, by the numbers that the file shows
pub available_is : (s : Inside) → IsHeld s → max (commands_end (ctx_of s.inner.bytes) s.inner.bytes) (first_content_of s.inner.bytes) ≡ available (held_of s).state
available_is s is =
    ap (λ (bytes : List ℕ). max (commands_end (ctx_of bytes) bytes) (first_content_of bytes)) is.bytes ∙ available_shown (held_of s).state is.is_state

-- a list that the test lets pass ends in time
pub ends_inside : (s : Inside) (ctx : Ctx) (header size : ℕ) (commands : List (List ℕ)) → IsHeld s → ctx ≡ ctx_of s.inner.bytes → header ≡ header_size ctx.container → size ≡ length (concat commands) → true ≡ nat_le (header + size) (max (commands_end (ctx_of s.inner.bytes) s.inner.bytes) (first_content_of s.inner.bytes)) → end_of (ctx_of (held_of s).state.old) commands ≤ available (held_of s).state
ends_inside s ctx header size commands is form header_is size_is passes =
    let end = end_is s ctx header size commands is form header_is size_is in
    let most = available_is s is in
    let inside = leb-true (header + size) (max (commands_end (ctx_of s.inner.bytes) s.inner.bytes) (first_content_of s.inner.bytes)) (sym passes) in
    omega arith

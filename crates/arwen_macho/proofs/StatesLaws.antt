-- What a batch makes of a state that edits can lead to is one again, and its bytes show it.
use Rattle.std.proofs.Common.{◌≡◌, ◌≤◌, ℕ, Bool, true, false, if◌then◌else◌, nat_le, List, [], ◌∷◌, length, map, max, None, Result, Ok, Err, IfOk, OnOk, ap, sym, refl, ◌∙◌, subst, inl, inr}
use Rattle.std.specs.List.{All}
use Rattle.std.proofs.lemmas.Bool.{cases_Bool, leb-true}
use Rattle.std.proofs.lemmas.List.Elements.{All-cons, All-head, All-nil, All-tail}
use Rattle.patch_bytes.specs.Bytes.{AreBytes}
use Rattle.macho_image.specs.declared.fat.FatArch.{FatArch}
use Rattle.macho_image.specs.Checks.{file_fault}
use Rattle.macho_image.specs.Form.{ctx_of}
use Rattle.arwen_macho.specs.declared.macho.MachoType.{MachoType}
use Rattle.arwen_macho.specs.declared.macho.MachoType.TheVariants.{Fat, SingleArch}
use Rattle.macho_edits.specs.Call.{Call}
use Rattle.arwen_macho.specs.Container.{as_fat, as_thin, container_step}
use Rattle.arwen_macho.specs.ContainerShown.{IsFileState, StepShows}
use Rattle.arwen_macho.specs.FatHeld.{FatHeld, IsFatState, IsSlice, fat_held_at_read}
use Rattle.arwen_macho.specs.FatState.{FatState, Slice, fat_laid_bytes, fat_step, joined_step, step_slices, with_slices}
use Rattle.arwen_macho.specs.FileLaws.{FatBytesShow, FileBytesShow, FreshHasItsBytes, FreshIsState, StepIsState, ThinBytesShow}
use Rattle.arwen_macho.specs.Found.{begins_fat, container_found, fat_found, found_fault}
use Rattle.macho_edits.specs.Held.{Held, held_at_read, is_edited_by}
use Rattle.macho_edits.specs.State.{Refusal, State, available, edited_by, end_of, fitted_state, laid_bytes, step}
use Rattle.macho_edits.specs.Whole.{IsState, KeepsContents, TextsAreBytes}
use Rattle.arwen_macho.proofs.FatLaws.{fat_laid_shows, none_fault}
use Rattle.arwen_macho.proofs.FatStepLaws.{first_fat_is}
use Rattle.arwen_macho.proofs.LeadLaws.{first_bytes}
use Rattle.arwen_macho.proofs.ShapeLaws.{fat_shows, thin_shows}
use Rattle.arwen_macho.proofs.StateLaws.{edited_by_keeps, first_is, laid_shows, next_is}

-- the next state of a thin file, of the same bytes as read
abbrev Next : State → State → Type 0
Next s t = IsState t × (t.old ≡ s.old)

fitted_is : (count : ℕ) (s t : State) (made : Result (List (List ℕ)) Refusal) → IsState s → ((list : List (List ℕ)) → made ≡ Ok list → KeepsContents (ctx_of s.old).le s.list list) → fitted_state count s made ≡ Ok t → Next s t
unfolding fitted_state
fitted_is count s t (Err refusal) is keeps e = absurd (cc)
fitted_is count s t (Ok list) is keeps e =
    elim (cases_Bool (nat_le (end_of (ctx_of s.old) list) (available s))) [
      | inl fits ↦
          let accepted = rw fits at e in
          let next : State = record { old = s.old; list = list; high = max s.high (end_of (ctx_of s.old) list) } in
          let same : next ≡ t = cc in
          let room : end_of (ctx_of s.old) list ≤ available s = leb-true (end_of (ctx_of s.old) list) (available s) fits in
          let P : State → Type 0 = λ u. IsState u × (u.old ≡ s.old) in
          subst P same (next_is s list is (keeps list refl) room, refl)
      | inr past ↦ let refused = rw past at e in absurd (cc)
    ]

pub step_is : (calls : List Call) (s t : State) → IsState s → All TextsAreBytes calls → step calls s ≡ Ok t → IsState t × (t.old ≡ s.old)
unfolding step
step_is calls s t is texts e =
    fitted_is (length calls) s t (edited_by (ctx_of s.old) 0 calls s.list) is
    (λ list made. edited_by_keeps (ctx_of s.old) 0 calls s.list list texts is.whole made) e

pub step_thin : (calls : List Call) (s : State) → IsState s → All TextsAreBytes calls → IfOk (step calls s) IsState
step_thin calls s is texts = go (step calls s) refl
  where
    go : (answer : Result State Refusal) → step calls s ≡ answer → IfOk answer IsState
    go (Err refusal) e = tt
    go (Ok t) e = (step_is calls s t is texts e).0

-- the next states of slices
abbrev Nexts : List ℕ → List Slice → List Slice → Type 0
Nexts old slices next = All (IsSlice old) next × (map (λ s. s.arch) next ≡ map (λ s. s.arch) slices)

slices_are : (old : List ℕ) (calls : List Call) (slices next : List Slice) → All (IsSlice old) slices → All TextsAreBytes calls → step_slices calls slices ≡ Ok next → Nexts old slices next
slices_are old calls [] next are texts e =
    let same : [] ≡ next = cc in
    let P : List Slice → Type 0 = Nexts old [] in
    subst P same (All-nil (IsSlice old), refl)
slices_are old calls (s ∷ slices) next are texts e =
    go (step calls s.state) (step_slices calls slices) refl refl (λ ts. slices_are old calls slices ts (All-tail (IsSlice old) s slices are) texts) e
  where
    here : IsSlice old s
    here = All-head (IsSlice old) s slices are

    go : (a : Result State Refusal) (b : Result (List Slice) Refusal) → step calls s.state ≡ a → step_slices calls slices ≡ b → ((ts : List Slice) → step_slices calls slices ≡ Ok ts → Nexts old slices ts) → joined_step s a b ≡ Ok next → Nexts old (s ∷ slices) next
    go (Err refusal) b ea eb behind e = absurd (cc)
    go (Ok t) (Err refusal) ea eb behind e = absurd (cc)
    go (Ok t) (Ok ts) ea eb behind e =
        let new : Slice = record { arch = s.arch; state = t } in
        let same : new ∷ ts ≡ next = cc in
        let one = step_is calls s.state t here.is_state texts ea in
        let rest = behind ts eb in
        let is : IsSlice old new = record { from = one.1 ∙ here.from; is_state = one.0 } in
        let P : List Slice → Type 0 = Nexts old (s ∷ slices) in
        subst P same (All-cons (IsSlice old) new ts is rest.0, ap (λ (archs : List FatArch). s.arch ∷ archs) rest.1)

pub fat_step_parts : (s t : FatState) (made : Result (List Slice) Refusal) → with_slices s.old made ≡ Ok t → (made ≡ Ok t.slices) × (t.old ≡ s.old)
fat_step_parts s t (Err refusal) e = absurd (cc)
fat_step_parts s t (Ok slices) e =
    let same : record { old = s.old; slices = slices } ≡ t = cc in
    (ap (λ (u : FatState). Ok u.slices) same, sym (ap (λ (u : FatState). u.old) same))

pub fat_step_made : (calls : List Call) (s t : FatState) → fat_step calls s ≡ Ok t → (step_slices calls s.slices ≡ Ok t.slices) × (t.old ≡ s.old)
unfolding fat_step
fat_step_made calls s t e = fat_step_parts s t (step_slices calls s.slices) e

pub fat_step_is : (calls : List Call) (s t : FatState) → IsFatState s → All TextsAreBytes calls → fat_step calls s ≡ Ok t → IsFatState t
fat_step_is calls s t is texts e =
    let made = fat_step_made calls s t e in
    let next = slices_are s.old calls s.slices t.slices is.slices texts made.0 in
    let P : List ℕ → Type 0 = λ old. IsFatState (record { old = old; slices = t.slices }) in
    subst P (sym made.1) (record { accepted = is.accepted; archs = next.1 ∙ is.archs; slices = next.0 })

pub step_fat : (calls : List Call) (s : FatState) → IsFatState s → All TextsAreBytes calls → IfOk (fat_step calls s) IsFatState
step_fat calls s is texts = go (fat_step calls s) refl
  where
    go : (answer : Result FatState Refusal) → fat_step calls s ≡ answer → IfOk answer IsFatState
    go (Err refusal) e = tt
    go (Ok t) e = fat_step_is calls s t is texts e

-- of a file of either shape
thin_made : (flag : Bool) (answer : Result State Refusal) (new : MachoType) → as_thin flag answer ≡ Ok new → (t : State) × (answer ≡ Ok t) × (new ≡ SingleArch (record { state = t; is_edited = flag }))
thin_made flag (Err refusal) new e = absurd (cc)
thin_made flag (Ok t) new e = (t, refl, let same : SingleArch (record { state = t; is_edited = flag }) ≡ new = cc in sym same)

fat_made : (flag : Bool) (answer : Result FatState Refusal) (new : MachoType) → as_fat flag answer ≡ Ok new → (t : FatState) × (answer ≡ Ok t) × (new ≡ Fat (record { state = t; is_edited = flag }))
fat_made flag (Err refusal) new e = absurd (cc)
fat_made flag (Ok t) new e = (t, refl, let same : Fat (record { state = t; is_edited = flag }) ≡ new = cc in sym same)

pub step_is_state : StepIsState
unfolding container_step
step_is_state calls (SingleArch held) new is texts e =
    let made = thin_made (is_edited_by calls held.is_edited) (step calls held.state) new e in
    let P : MachoType → Type 0 = IsFileState in
    subst P (sym made.2) (step_is calls held.state made.0 is texts made.1).0
step_is_state calls (Fat held) new is texts e =
    let made = fat_made (is_edited_by calls held.is_edited) (fat_step calls held.state) new e in
    let P : MachoType → Type 0 = IsFileState in
    subst P (sym made.2) (fat_step_is calls held.state made.0 is texts made.1)

pub thin_bytes_show : ThinBytesShow
thin_bytes_show s is = laid_shows s is

pub fat_bytes_show : FatBytesShow
fat_bytes_show s is = fat_laid_shows s is

pub file_bytes_show : FileBytesShow
file_bytes_show (SingleArch held) is = thin_shows held (laid_bytes held.state) is refl (laid_shows held.state is)
file_bytes_show (Fat held) is = fat_shows held (fat_laid_bytes held.state) (fat_laid_shows held.state is)

pub fresh_has_its_bytes : FreshHasItsBytes
fresh_has_its_bytes old are found = first_bytes old are found

fresh_either : (old : List ℕ) (is_fat : Bool) → AreBytes old → (if is_fat then fat_found old else found_fault (file_fault old)) ≡ None → IsFileState (if is_fat then Fat (fat_held_at_read old) else SingleArch (held_at_read old))
fresh_either old true are found = first_fat_is old found are
fresh_either old false are found = first_is old (none_fault (file_fault old) found) are

pub fresh_is_state : FreshIsState
unfolding container_found
fresh_is_state old are found = fresh_either old (begins_fat old) are found

-- what a batch makes of a state shows itself
pub shows_step : (calls : List Call) (old : MachoType) → IsFileState old → All TextsAreBytes calls → StepShows (container_step calls old)
shows_step calls old is texts = go (container_step calls old) refl
  where
    go : (answer : Result MachoType Refusal) → container_step calls old ≡ answer → StepShows answer
    go (Err refusal) e = tt
    go (Ok new) e = file_bytes_show new (step_is_state calls old new is texts e)

thin_step_shows : (flag : Bool) (answer : Result State Refusal) → IfOk answer IsState → StepShows (as_thin flag answer)
thin_step_shows flag (Err refusal) is = tt
thin_step_shows flag (Ok t) is = file_bytes_show (SingleArch (record { state = t; is_edited = flag })) is

fat_step_shows : (flag : Bool) (answer : Result FatState Refusal) → IfOk answer IsFatState → StepShows (as_fat flag answer)
fat_step_shows flag (Err refusal) is = tt
fat_step_shows flag (Ok t) is = file_bytes_show (Fat (record { state = t; is_edited = flag })) is

pub thin_shows_step : (calls : List Call) (held : Held) → IfOk (step calls held.state) IsState → StepShows (container_step calls (SingleArch held))
unfolding container_step
thin_shows_step calls held is = thin_step_shows (is_edited_by calls held.is_edited) (step calls held.state) is

pub fat_shows_step : (calls : List Call) (held : FatHeld) → IfOk (fat_step calls held.state) IsFatState → StepShows (container_step calls (Fat held))
unfolding container_step
fat_shows_step calls held is = fat_step_shows (is_edited_by calls held.is_edited) (fat_step calls held.state) is

-- a fact beside an accepted answer
pub on_ok : {X E : Type 0} (answer : Result X E) (P : Type 0) → P → OnOk answer P
on_ok (Ok x) P is = is
on_ok (Err e) P is = tt

pub on_ok-weaker : {X E : Type 0} (answer : Result X E) (P Q : Type 0) → (P → Q) → OnOk answer P → OnOk answer Q
on_ok-weaker (Ok x) P Q weaker is = weaker is
on_ok-weaker (Err e) P Q weaker is = tt

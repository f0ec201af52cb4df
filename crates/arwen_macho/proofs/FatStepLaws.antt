-- The steps of slices, the changes that they lead to, and a fat file as it is parsed.
use Rattle.std.proofs.Common.{◌≡◌, ◌≤◌, ◌+◌, ℕ, Bool, true, List, [], ◌∷◌, ◌++◌, length, take, drop, map, Option, Some, None, Result, Ok, Err, IsErrAnd, refl, sym, ap, ◌∙◌, subst, arith}
use Rattle.std.specs.List.{All, AllZip}
use Rattle.std.proofs.lemmas.List.{drop-drop, length-take-le, length-drop, take-append-drop}
use Rattle.std.proofs.lemmas.List.Elements.{All-cons, All-head, All-nil, All-tail}
use Rattle.patch_bytes.specs.Bytes.{AreBytes}
use Rattle.patch_bytes.proofs.NumberLaws.{AreBytes-drop, AreBytes-take}
use Rattle.macho_image.specs.declared.fat.FatArch.{FatArch}
use Rattle.macho_image.specs.Checks.{file_fault}
use Rattle.macho_image.specs.Fat.{archs_of, slice_of, table_fault}
use Rattle.arwen_macho.specs.declared.change.Change.{Change}
use Rattle.macho_edits.specs.declared.error.MachoError.{MachoError}
use Rattle.macho_edits.specs.declared.error.MachoError.TheVariants.{CommandBuilderError, DylibIdMissing, DylibNameMissing, Memory, NoRoom, Parsing, RpathMissing, UnixArchive}
use Rattle.macho_edits.specs.Batch.{RefusesAt}
use Rattle.macho_edits.specs.Call.{Call, Cause}
use Rattle.arwen_macho.specs.Change.{IsChangeOf, changed_file}
use Rattle.arwen_macho.specs.FatHeld.{IsSlice}
use Rattle.arwen_macho.specs.FatState.{FatState, Slice, fat_laid_bytes, fat_step, first_fat_state, first_slice, joined_step, bytes_laid_over, put_at, step_slices, with_slices}
use Rattle.arwen_macho.specs.Found.{Finds, Found, fat_found, found_fault, found_first, slice_found, slices_found}
use Rattle.macho_edits.specs.State.{Refusal, State, first_state, laid_bytes, step}
use Rattle.macho_edits.specs.Whole.{IsState}
use Rattle.arwen_macho.proofs.ChangeLaws.{changed_is}
use Rattle.arwen_macho.proofs.StateLaws.{first_is, first_laid, laid_shows}
use Rattle.arwen_macho.specs.FatChange.{changed_slice, changed_slices, held_slice}
use Rattle.arwen_macho.specs.FatHeld.{IsFatState}
use Rattle.arwen_macho.specs.FatSlice.{HeldSlice, IsReadyIn, IsStepIn, changed_macho, changed_machos, slice_model}
use Rattle.arwen_macho.proofs.FatLaws.{accepted_parts, none_first, slice_accepted}
use Rattle.arwen_macho.proofs.SliceLaws.{AreLaid}
use Rattle.macho_image.proofs.ForCallers.{table_passes}

-- two lists with one more element at the end of both
pub AllZip_push : {A B : Type 0} (R : A → B → Type 0) (xs : List A) (ys : List B) (x : A) (y : B) → AllZip R xs ys → R x y → AllZip R (xs ++ x ∷ []) (ys ++ y ∷ [])
AllZip_push R [] [] x y all here = (here, tt)
AllZip_push R [] (b ∷ ys) x y all here = absurd all
AllZip_push R (a ∷ xs) [] x y all here = absurd all
AllZip_push R (a ∷ xs) (b ∷ ys) x y all here = (all.0, AllZip_push R xs ys x y all.1 here)

-- changes that do what the calls do are the step of the slices
pub step_all : (calls : List Call) (slices : List HeldSlice) (changes : List Change) → AllZip (IsStepIn calls) slices changes → step_slices calls (map slice_model slices) ≡ Ok (map slice_model (changed_machos slices changes))
step_all calls [] [] steps = refl
step_all calls [] (change ∷ changes) steps = absurd steps
step_all calls (m ∷ slices) [] steps = absurd steps
step_all calls (m ∷ slices) (change ∷ changes) steps =
    ap (λ (r : Result State Refusal). joined_step (slice_model m) r (step_slices calls (map slice_model slices))) steps.0.steps
    ∙ ap (joined_step (slice_model m) (Ok (changed_file m.inner change).state)) (step_all calls slices changes steps.1)

-- a slice that refuses behind slices that don't refuses the step
refused_here : (s : Slice) (Q : Refusal → Type 0) (answer : Result State Refusal) (rest : Result (List Slice) Refusal) → IsErrAnd answer Q → IsErrAnd (joined_step s answer rest) Q
refused_here s Q (Ok state) rest refuses = absurd refuses
refused_here s Q (Err refusal) rest refuses = refuses

refused_behind : (s : Slice) (state : State) (Q : Refusal → Type 0) (rest : Result (List Slice) Refusal) → IsErrAnd rest Q → IsErrAnd (joined_step s (Ok state) rest) Q
refused_behind s state Q (Ok slices) refuses = absurd refuses
refused_behind s state Q (Err refusal) refuses = refuses

refused_at : (calls : List Call) (Q : Refusal → Type 0) (front : List HeldSlice) (changes : List Change) (m : HeldSlice) (rest : List HeldSlice) → AllZip (IsStepIn calls) front changes → IsErrAnd (step calls m.inner.state) Q → IsErrAnd (step_slices calls (map slice_model (front ++ m ∷ rest))) Q
refused_at calls Q [] changes m rest steps refuses =
    refused_here (slice_model m) Q (step calls m.inner.state) (step_slices calls (map slice_model rest)) refuses
refused_at calls Q (n ∷ front) [] m rest steps refuses = absurd steps
refused_at calls Q (n ∷ front) (change ∷ changes) m rest steps refuses =
    let P : Result State Refusal → Type 0 = λ r. IsErrAnd (joined_step (slice_model n) r (step_slices calls (map slice_model (front ++ m ∷ rest)))) Q in
    subst P (sym steps.0.steps)
    (refused_behind (slice_model n) (changed_file n.inner change).state Q (step_slices calls (map slice_model (front ++ m ∷ rest))) (refused_at calls Q front changes m rest steps.1 refuses))

is_err_and : {X : Type 0} (answer : Result X Refusal) (refusal : Refusal) → answer ≡ Err refusal → IsErrAnd answer (λ r. r ≡ refusal)
is_err_and (Ok x) refusal e = absurd (cc)
is_err_and (Err r) refusal e = cc

err_is : {X : Type 0} (answer : Result X Refusal) (refusal : Refusal) → IsErrAnd answer (λ r. r ≡ refusal) → answer ≡ Err refusal
err_is (Ok x) refusal is = absurd is
err_is (Err r) refusal is = ap (λ (r : Refusal). Err r) is

pub refuses_batch : (calls : List Call) (index : ℕ) (found : Option Cause) (front : List HeldSlice) (changes : List Change) (m : HeldSlice) (rest : List HeldSlice) → AllZip (IsStepIn calls) front changes → RefusesAt index found (step calls m.inner.state) → RefusesAt index found (step_slices calls (map slice_model (front ++ m ∷ rest)))
refuses_batch calls index None front changes m rest steps refuses = tt
refuses_batch calls index (Some cause) front changes m rest steps refuses =
    let refusal : Refusal = record { index = index; cause = cause } in
    err_is (step_slices calls (map slice_model (front ++ m ∷ rest))) refusal
    (refused_at calls (λ r. r ≡ refusal) front changes m rest steps (is_err_and (step calls m.inner.state) refusal refuses))

-- the step of a fat file, by that of its slices
pub fat_step_ok : (calls : List Call) (s : FatState) (slices : List Slice) → step_slices calls s.slices ≡ Ok slices → fat_step calls s ≡ Ok (record { old = s.old; slices = slices })
unfolding fat_step
fat_step_ok calls s slices steps = ap (with_slices s.old) steps

pub fat_batch_refused : (calls : List Call) (s : FatState) (index : ℕ) (found : Option Cause) → RefusesAt index found (step_slices calls s.slices) → RefusesAt index found (fat_step calls s)
unfolding fat_step
fat_batch_refused calls s index None refuses = tt
fat_batch_refused calls s index (Some cause) refuses = ap (with_slices s.old) refuses

-- a batch of no edits changes nothing
steps-nil : (old : List ℕ) (slices : List Slice) → ((s : State) → IsState s → step [] s ≡ Ok s) → All (IsSlice old) slices → step_slices [] slices ≡ Ok slices
steps-nil old [] none are = refl
steps-nil old (s ∷ slices) none are =
    let is = All-head (IsSlice old) s slices are in
    ap (λ (r : Result State Refusal). joined_step s r (step_slices [] slices)) (none s.state is.is_state)
    ∙ ap (joined_step s (Ok s.state)) (steps-nil old slices none (All-tail (IsSlice old) s slices are))

pub fat_step-nil : (s : FatState) → ((s : State) → IsState s → step [] s ≡ Ok s) → IsFatState s → fat_step [] s ≡ Ok s
fat_step-nil s none is = fat_step_ok [] s s.slices (steps-nil s.old s.slices none is.slices)

-- the changes as callers see them, and as the fields hold them
pub changes_shown : (calls : List Call) (is_edited : Bool) (slices : List HeldSlice) (changes : List Change) → All (λ m. m.inner.is_edited ≡ is_edited) slices → AllZip (IsStepIn calls) slices changes → AllZip (λ s change. IsChangeOf (held_slice is_edited s) change) (map slice_model slices) changes
changes_shown calls is_edited [] [] copies steps = tt
changes_shown calls is_edited [] (change ∷ changes) copies steps = absurd steps
changes_shown calls is_edited (m ∷ slices) [] copies steps = absurd steps
changes_shown calls is_edited (m ∷ slices) (change ∷ changes) copies steps =
    let here : m.inner.is_edited ≡ is_edited = All-head (λ (m : HeldSlice). m.inner.is_edited ≡ is_edited) m slices copies in
    let P : Bool → Type 0 = λ e. IsChangeOf (record { state = m.inner.state; is_edited = e }) change in
    (subst P here steps.0.of, changes_shown calls is_edited slices changes (All-tail (λ (m : HeldSlice). m.inner.is_edited ≡ is_edited) m slices copies) steps.1)

pub changes_ready : (old : List ℕ) (len : ℕ) (is_edited : Bool) (slices : List HeldSlice) (changes : List Change) → All (λ m. m.inner.is_edited ≡ is_edited) slices → All (IsSlice old) (map slice_model slices) → AreLaid len (map slice_model slices) → AllZip (λ s change. IsChangeOf (held_slice is_edited s) change) (map slice_model slices) changes → AllZip (IsReadyIn len) slices changes
changes_ready old len is_edited [] [] copies are lie of = tt
changes_ready old len is_edited [] (change ∷ changes) copies are lie of = absurd of
changes_ready old len is_edited (m ∷ slices) [] copies are lie of = absurd of
changes_ready old len is_edited (m ∷ slices) (change ∷ changes) copies are lie of =
    let rest : List Slice = map slice_model slices in
    let is : IsSlice old (slice_model m) = All-head (IsSlice old) (slice_model m) rest are in
    let same : m.inner.is_edited ≡ is_edited = All-head (λ (m : HeldSlice). m.inner.is_edited ≡ is_edited) m slices copies in
    let P : Bool → Type 0 = λ e. IsChangeOf (record { state = m.inner.state; is_edited = e }) change in
    let inside = lie.0.inside in
    let sized : length (laid_bytes m.inner.state) ≡ m.arch.size = lie.0.long in
    let long : length (laid_bytes m.inner.state) ≡ length m.inner.state.old = (laid_shows m.inner.state is.is_state).long in (
      record { of = subst P (sym same) of.0; is_state = is.is_state; inside = omega arith },
      changes_ready old len is_edited slices changes (All-tail (λ (m : HeldSlice). m.inner.is_edited ≡ is_edited) m slices copies) (All-tail (IsSlice old) (slice_model m) rest are) lie.1.1 of.1,
    )

pub changed_shown : (slices : List HeldSlice) (changes : List Change) → map slice_model (changed_machos slices changes) ≡ changed_slices (map slice_model slices) changes
changed_shown [] changes = refl
changed_shown (m ∷ slices) [] = refl
changed_shown (m ∷ slices) (change ∷ changes) = ap (λ (rest : List Slice). changed_slice (slice_model m) change ∷ rest) (changed_shown slices changes)

-- after all changes every slice's bytes are a copy
pub copies_changed : (len : ℕ) (slices : List HeldSlice) (changes : List Change) → AllZip (IsReadyIn len) slices changes → All (λ m. m.inner.is_edited ≡ true) (changed_machos slices changes)
copies_changed len [] changes ready = All-nil (λ (m : HeldSlice). m.inner.is_edited ≡ true)
copies_changed len (m ∷ slices) [] ready = absurd ready
copies_changed len (m ∷ slices) (change ∷ changes) ready =
    All-cons (λ (m : HeldSlice). m.inner.is_edited ≡ true) (changed_macho m change) (changed_machos slices changes) refl (copies_changed len slices changes ready.1)

-- the state with its changes carried out
archs_changed : (slices : List HeldSlice) (changes : List Change) → map (λ s. s.arch) (map slice_model (changed_machos slices changes)) ≡ map (λ s. s.arch) (map slice_model slices)
archs_changed [] changes = refl
archs_changed (m ∷ slices) [] = refl
archs_changed (m ∷ slices) (change ∷ changes) = ap (λ (archs : List FatArch). m.arch ∷ archs) (archs_changed slices changes)

slices_changed : (old : List ℕ) (len : ℕ) (slices : List HeldSlice) (changes : List Change) → All (IsSlice old) (map slice_model slices) → AllZip (IsReadyIn len) slices changes → All (IsSlice old) (map slice_model (changed_machos slices changes))
slices_changed old len [] changes are ready = All-nil (IsSlice old)
slices_changed old len (m ∷ slices) [] are ready = are
slices_changed old len (m ∷ slices) (change ∷ changes) are ready =
    let rest : List Slice = map slice_model slices in
    let is : IsSlice old (slice_model m) = All-head (IsSlice old) (slice_model m) rest are in
    All-cons (IsSlice old) (slice_model (changed_macho m change)) (map slice_model (changed_machos slices changes))
    (record { from = is.from; is_state = changed_is m.inner change is.is_state ready.0.of })
    (slices_changed old len slices changes (All-tail (IsSlice old) (slice_model m) rest are) ready.1)

pub fat_changed_is : (old : List ℕ) (len : ℕ) (slices : List HeldSlice) (changes : List Change) → IsFatState (record { old = old; slices = map slice_model slices }) → AllZip (IsReadyIn len) slices changes → IsFatState (record { old = old; slices = map slice_model (changed_machos slices changes) })
fat_changed_is old len slices changes is ready = record {
  accepted = is.accepted;
  archs = archs_changed slices changes ∙ is.archs;
  slices = slices_changed old len slices changes is.slices ready;
}

-- bytes with their own in their place
put_at-same : (at size : ℕ) (bytes : List ℕ) → at + size ≤ length bytes → put_at at (take size (drop at bytes)) bytes ≡ bytes
put_at-same at size bytes room =
    let part : List ℕ = take size (drop at bytes) in
    let long : length part ≡ size = length-take-le size (drop at bytes) (omega (arith, length-drop at bytes)) in
    ap (λ (n : ℕ). take at bytes ++ (part ++ drop (at + n) bytes)) long
    ∙ ap (λ (xs : List ℕ). take at bytes ++ (part ++ xs)) (sym (drop-drop size at bytes))
    ∙ ap (λ (xs : List ℕ). take at bytes ++ xs) (take-append-drop size (drop at bytes))
    ∙ take-append-drop at bytes

slice_bytes : (old : List ℕ) (a : FatArch) → AreBytes old → AreBytes (slice_of old a)
slice_bytes old a bytes = AreBytes-take a.size (drop a.offset old) (AreBytes-drop a.offset old bytes)

-- the slices of a file as it is read are its bytes
first_over : (old : List ℕ) (archs : List FatArch) → AreBytes old → All (λ a. a.offset + a.size ≤ length old) archs → slices_found (map (slice_of old) archs) ≡ None → bytes_laid_over (map (first_slice old) archs) old ≡ old
first_over old [] bytes inside none = refl
first_over old (a ∷ archs) bytes inside none =
    let parts = none_first (slice_found (slice_of old a)) (slices_found (map (slice_of old) archs)) none in
    let accepted : file_fault (slice_of old a) ≡ None = slice_accepted (slice_of old a) parts.0 in
    let own : laid_bytes (first_state (slice_of old a)) ≡ slice_of old a = first_laid (slice_of old a) accepted (slice_bytes old a bytes) in
    let room = All-head (λ (a : FatArch). a.offset + a.size ≤ length old) a archs inside in
    let same : put_at a.offset (laid_bytes (first_state (slice_of old a))) old ≡ old = ap (λ (part : List ℕ). put_at a.offset part old) own ∙ put_at-same a.offset a.size old room in
    ap (bytes_laid_over (map (first_slice old) archs)) same
    ∙ first_over old archs bytes (All-tail (λ (a : FatArch). a.offset + a.size ≤ length old) a archs inside) parts.1

first_archs : (old : List ℕ) (archs : List FatArch) → map (λ s. s.arch) (map (first_slice old) archs) ≡ archs
first_archs old [] = refl
first_archs old (a ∷ archs) = ap (λ (rest : List FatArch). a ∷ rest) (first_archs old archs)

first_slices : (old : List ℕ) (archs : List FatArch) → AreBytes old → slices_found (map (slice_of old) archs) ≡ None → All (IsSlice old) (map (first_slice old) archs)
unfolding first_state
first_slices old [] bytes none = All-nil (IsSlice old)
first_slices old (a ∷ archs) bytes none =
    let parts = none_first (slice_found (slice_of old a)) (slices_found (map (slice_of old) archs)) none in
    let accepted : file_fault (slice_of old a) ≡ None = slice_accepted (slice_of old a) parts.0 in
    All-cons (IsSlice old) (first_slice old a) (map (first_slice old) archs)
    (record { from = refl; is_state = first_is (slice_of old a) accepted (slice_bytes old a bytes) })
    (first_slices old archs bytes parts.1)

-- a fat file as it is read is a state, with its own bytes
pub first_fat_is : (old : List ℕ) → fat_found old ≡ None → AreBytes old → IsFatState (first_fat_state old)
unfolding first_fat_state
first_fat_is old accepted bytes = record {
  accepted = accepted;
  archs = first_archs old (archs_of old);
  slices = first_slices old (archs_of old) bytes (accepted_parts old accepted).1;
}

pub first_fat_laid : (old : List ℕ) → fat_found old ≡ None → AreBytes old → fat_laid_bytes (first_fat_state old) ≡ old
unfolding first_fat_state fat_laid_bytes
first_fat_laid old accepted bytes =
    let parts = accepted_parts old accepted in
    first_over old (archs_of old) bytes (table_passes old parts.0).3.inside parts.1

-- an error of the first slice is one of all
pub finds_first : (e : MachoError) (here rest : Option Found) → Finds e here → Finds e (found_first here rest)
finds_first (Parsing check) here rest finds = ap (λ (f : Option Found). found_first f rest) finds
finds_first UnixArchive here rest finds = ap (λ (f : Option Found). found_first f rest) finds
finds_first (CommandBuilderError error) here rest finds = finds
finds_first (RpathMissing text) here rest finds = finds
finds_first (DylibNameMissing text) here rest finds = finds
finds_first DylibIdMissing here rest finds = finds
finds_first (NoRoom needed available) here rest finds = finds
finds_first Memory here rest finds = tt

-- an error of the table, or of the slices, is one of the file
pub finds_table : (e : MachoError) (bytes : List ℕ) → Finds e (found_fault (table_fault bytes)) → Finds e (fat_found bytes)
unfolding fat_found
finds_table e bytes finds = finds_first e (found_fault (table_fault bytes)) (slices_found (map (slice_of bytes) (archs_of bytes))) finds

pub finds_slices : (e : MachoError) (bytes : List ℕ) → table_fault bytes ≡ None → Finds e (slices_found (map (slice_of bytes) (archs_of bytes))) → Finds e (fat_found bytes)
unfolding fat_found
finds_slices e bytes table finds =
    let P : Option Found → Type 0 = λ f. Finds e (found_first f (slices_found (map (slice_of bytes) (archs_of bytes)))) in
    subst P (sym (ap found_fault table)) finds

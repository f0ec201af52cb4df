-- The fields of a fat file under edits, as it is parsed and after its changes are carried out.
use Rattle.std.proofs.Common.{◌≡◌, ℕ, Bool, true, false, List, [], ◌∷◌, length, map, Option, Some, None, Ok, Vec, Global, ap, sym, refl, ◌∙◌, subst}
use Rattle.std.specs.Prelude.{is_some}
use Rattle.std.specs.List.{All, AllZip}
use Rattle.std.proofs.lemmas.List.Elements.{All-cons, All-nil}
use Rattle.patch_bytes.specs.Bytes.{AreBytes}
use Rattle.patch_bytes.specs.ByteString.{bytes_model}
use Rattle.macho_image.specs.declared.fat.FatArch.{FatArch}
use Rattle.macho_image.specs.Fat.{archs_of}
use Rattle.arwen_macho.specs.declared.change.Change.{Change}
use Rattle.arwen_macho.specs.declared.fat.FatMachoContainer.TheInside.{Inside}
use Rattle.macho_edits.specs.Call.{Call}
use Rattle.arwen_macho.specs.FatChange.{AreChangesOf, AreStepOf, changed_slices, fat_changed}
use Rattle.arwen_macho.specs.FatHeld.{FatHeld, IsFatState, fat_held_at_read}
use Rattle.arwen_macho.specs.FatHeldBy.{IsFatHeld, fat_held_of}
use Rattle.arwen_macho.specs.FatSlice.{HeldSlice, IsReadyIn, IsStepIn, changed_machos, first_macho, fronts_over, slice_model}
use Rattle.arwen_macho.specs.FatState.{FatState, Slice, fat_laid_bytes, first_fat_state, first_slice}
use Rattle.arwen_macho.specs.Found.{fat_found}
use Rattle.arwen_macho.proofs.FatLaws.{fat_laid_shows, lie_of}
use Rattle.arwen_macho.proofs.FatStepLaws.{changed_shown, changes_ready, changes_shown, copies_changed, fat_changed_is, fat_step_ok, first_fat_is, first_fat_laid, step_all}
use Rattle.arwen_macho.proofs.FrontLaws.{fronts_laid}

-- changes that do what the calls do are those of the file, and its step
pub changes_are : (calls : List Call) (s : Inside) (changes : List Change) → IsFatHeld s → AllZip (IsStepIn calls) s.archs.items changes → AreStepOf calls (fat_held_of s) changes
changes_are calls s changes is steps =
    let slices : List HeldSlice = s.archs.items in
    record {
      of = changes_shown calls (is_some s.edited) slices changes is.copies steps;
      steps =
          fat_step_ok calls (fat_held_of s).state (changed_slices (map slice_model slices) changes)
          (step_all calls slices changes steps ∙ ap (λ (l : List Slice). Ok l) (changed_shown slices changes));
    }

-- changes that do what the calls do can be carried out
pub ready_of : (s : Inside) (changes : List Change) → IsFatHeld s → AreChangesOf (fat_held_of s) changes → AllZip (IsReadyIn (length s.source.now)) s.archs.items changes
ready_of s changes is of =
    let state : FatState = (fat_held_of s).state in
    changes_ready s.source.now (length s.source.now) (is_some s.edited) s.archs.items changes is.copies is.is_state.slices (lie_of state is.is_state) of

pub shown_long : (s : Inside) → IsFatHeld s → length (bytes_model s.source.now s.edited) ≡ length s.source.now
shown_long s is = ap length is.bytes ∙ (fat_laid_shows (fat_held_of s).state is.is_state).long

-- the fronts over the bytes of a state
pub fronts_over_laid : (old : List ℕ) (slices : List HeldSlice) (changes : List Change) → IsFatState (record { old = old; slices = map slice_model slices }) → AllZip (IsReadyIn (length old)) slices changes → fronts_over slices changes (fat_laid_bytes (record { old = old; slices = map slice_model slices })) ≡ fat_laid_bytes (record { old = old; slices = map slice_model (changed_machos slices changes) })
unfolding fat_laid_bytes
fronts_over_laid old slices changes is ready =
    fronts_laid (length old) slices changes old refl ready (lie_of (record { old = old; slices = map slice_model slices }) is)

-- after the changes are carried out, the fields show the changed file
pub committed : (s new : Inside) (changes : List Change) (copy : Vec ℕ Global) → IsFatHeld s → AreChangesOf (fat_held_of s) changes → new.source.now ≡ s.source.now → new.archs.items ≡ changed_machos s.archs.items changes → new.edited ≡ Some copy → copy.items ≡ fronts_over s.archs.items changes (bytes_model s.source.now s.edited) → (fat_held_of new ≡ fat_changed (fat_held_of s) changes) × IsFatHeld new
committed s new changes copy is of source archs edited written =
    let old : List ℕ = s.source.now in
    let slices : List HeldSlice = s.archs.items in
    let next : List HeldSlice = changed_machos slices changes in
    let ready = ready_of s changes is of in
    let held : FatHeld = record { state = record { old = old; slices = map slice_model next }; is_edited = true } in
    let is_next : IsFatState held.state = fat_changed_is old (length old) slices changes is.is_state ready in
    let same : fat_held_of new ≡ held =
    ap (λ (b : List ℕ). record { state = record { old = b; slices = map slice_model new.archs.items }; is_edited = is_some new.edited }) source
    ∙ ap (λ (l : List HeldSlice). record { state = record { old = old; slices = map slice_model l }; is_edited = is_some new.edited }) archs
    ∙ ap (λ (e : Option (Vec ℕ Global)). record { state = record { old = old; slices = map slice_model next }; is_edited = is_some e }) edited in
    let bytes : bytes_model new.source.now new.edited ≡ fat_laid_bytes held.state =
    ap (bytes_model new.source.now) edited
    ∙ written
    ∙ ap (fronts_over slices changes) is.bytes
    ∙ fronts_over_laid old slices changes is.is_state ready in
    let State : FatHeld → Type 0 = λ h. IsFatState h.state in
    let Copies : List HeldSlice → Type 0 = λ l. All (λ m. m.inner.is_edited ≡ is_some new.edited) l in
    let Mark : Bool → Type 0 = λ e. All (λ m. m.inner.is_edited ≡ e) next in (
      same ∙ ap (λ (l : List Slice). record { state = record { old = old; slices = l }; is_edited = true }) (changed_shown slices changes),
      record {
        is_state = subst State (sym same) is_next;
        bytes = bytes ∙ ap (λ (h : FatHeld). fat_laid_bytes h.state) (sym same);
        copies = subst Copies (sym archs) (subst Mark (sym (ap is_some edited)) (copies_changed (length old) slices changes ready));
      },
    )

-- a file as it is parsed
first_held_slices : (old : List ℕ) (archs : List FatArch) → map slice_model (map (first_macho old) archs) ≡ map (first_slice old) archs
first_held_slices old [] = refl
first_held_slices old (a ∷ archs) = ap (λ (l : List Slice). first_slice old a ∷ l) (first_held_slices old archs)

first_copies : (old : List ℕ) (archs : List FatArch) → All (λ m. m.inner.is_edited ≡ false) (map (first_macho old) archs)
first_copies old [] = All-nil (λ (m : HeldSlice). m.inner.is_edited ≡ false)
first_copies old (a ∷ archs) =
    All-cons (λ (m : HeldSlice). m.inner.is_edited ≡ false) (first_macho old a) (map (first_macho old) archs) refl (first_copies old archs)

first_slices_of : (old : List ℕ) → record { old = old; slices = map (first_slice old) (archs_of old) } ≡ first_fat_state old
unfolding first_fat_state
first_slices_of old = refl

pub first_fat_fields : (s : Inside) → fat_found s.source.now ≡ None → AreBytes s.source.now → s.archs.items ≡ map (first_macho s.source.now) (archs_of s.source.now) → s.edited ≡ None → (fat_held_of s ≡ fat_held_at_read s.source.now) × IsFatHeld s
first_fat_fields s accepted are archs edited =
    let old : List ℕ = s.source.now in
    let same : fat_held_of s ≡ fat_held_at_read old =
    ap (λ (l : List HeldSlice). record { state = record { old = old; slices = map slice_model l }; is_edited = is_some s.edited }) archs
    ∙ ap (λ (l : List Slice). record { state = record { old = old; slices = l }; is_edited = is_some s.edited }) (first_held_slices old (archs_of old))
    ∙ ap (λ (e : Option (Vec ℕ Global)). record { state = record { old = old; slices = map (first_slice old) (archs_of old) }; is_edited = is_some e }) edited
    ∙ ap (λ (state : FatState). record { state = state; is_edited = false }) (first_slices_of old) in
    let State : FatHeld → Type 0 = λ h. IsFatState h.state in
    let Copies : List HeldSlice → Type 0 = λ l. All (λ m. m.inner.is_edited ≡ is_some s.edited) l in
    let Mark : Bool → Type 0 = λ e. All (λ m. m.inner.is_edited ≡ e) (map (first_macho old) (archs_of old)) in (
      same,
      record {
        is_state = subst State (sym same) (first_fat_is old accepted are);
        bytes = ap (bytes_model old) edited ∙ sym (first_fat_laid old accepted are) ∙ ap (λ (h : FatHeld). fat_laid_bytes h.state) (sym same);
        copies = subst Copies (sym archs) (subst Mark (sym (ap is_some edited)) (first_copies old (archs_of old)));
      },
    )

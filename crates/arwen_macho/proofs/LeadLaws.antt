-- The fronts that a batch asks for lead on to the bytes that it leaves.
use Rattle.std.proofs.Common.{◌≡◌, ◌≤◌, ◌+◌, if◌then◌else◌, ℕ, Bool, true, false, None, List, [], ◌∷◌, ◌++◌, length, take, drop, refl, sym, ap, ◌∙◌, subst, arith}
use Rattle.std.specs.List.{All, AllZip}
use Rattle.std.proofs.lemmas.List.{append-nil, drop_all, length-take-le, take_all}
use Rattle.std.proofs.lemmas.List.Elements.{All-cons, All-head, All-nil, All-tail}
use Rattle.patch_bytes.specs.Bytes.{AreBytes}
use Rattle.macho_image.specs.Checks.{file_fault}
use Rattle.arwen_macho.specs.declared.change.Change.{Change}
use Rattle.arwen_macho.specs.declared.fat.FatMachoContainer.TheInside.{Inside}
use Rattle.arwen_macho.specs.declared.front.Front.{Front}
use Rattle.arwen_macho.specs.declared.macho.MachoType.TheVariants.{Fat, SingleArch}
use Rattle.macho_edits.specs.Call.{Call}
use Rattle.arwen_macho.specs.Change.{changed_file}
use Rattle.arwen_macho.specs.Container.{as_fat, as_thin, container_bytes, container_step, first_container}
use Rattle.arwen_macho.specs.FatChange.{fat_changed}
use Rattle.arwen_macho.specs.FatHeld.{FatHeld, fat_held_at_read}
use Rattle.arwen_macho.specs.FatHeldBy.{IsFatHeld, fat_held_of}
use Rattle.arwen_macho.specs.FatSlice.{HeldSlice, IsReadyIn, IsStepIn, front_of, fronts_over}
use Rattle.arwen_macho.specs.FatState.{Slice, fat_laid_bytes, fat_step, put_at}
use Rattle.arwen_macho.specs.Found.{begins_fat, container_found, fat_found, found_fault}
use Rattle.arwen_macho.specs.Fronts.{IsFrontAt, IsFrontOf, LeadOn, LiesIn, fronts_on}
use Rattle.macho_edits.specs.Held.{Held, held_at_read, is_edited_by}
use Rattle.macho_edits.specs.State.{laid_bytes, step}
use Rattle.macho_edits.specs.Whole.{IsState}
use Rattle.arwen_macho.proofs.ChangeLaws.{change_inside}
use Rattle.arwen_macho.proofs.FatHeldLaws.{changes_are, fronts_over_laid, ready_of}
use Rattle.arwen_macho.proofs.FatLaws.{fat_laid_shows, none_fault}
use Rattle.arwen_macho.proofs.FatStepLaws.{changed_shown, first_fat_laid}
use Rattle.arwen_macho.proofs.FrontLaws.{same_behind, same_length}
use Rattle.arwen_macho.proofs.PutLaws.{put_front}
use Rattle.arwen_macho.proofs.StateLaws.{first_laid, laid_shows}

-- the last front is the first that is laid
pub fronts_on-push : (fronts : List Front) (front : Front) (bytes : List ℕ) → fronts_on (fronts ++ front ∷ []) bytes ≡ fronts_on fronts (put_at front.offset front.bytes.items bytes)
fronts_on-push [] front bytes = refl
fronts_on-push (f ∷ fronts) front bytes = ap (put_at f.offset f.bytes.items) (fronts_on-push fronts front bytes)

pub All-pushed : {X : Type 0} (P : X → Type 0) (xs : List X) (x : X) → All P (xs ++ x ∷ []) → All P xs × P x
All-pushed P [] x all = (All-nil P, All-head P x [] all)
All-pushed P (y ∷ xs) x all =
    let rest = All-pushed P xs x (All-tail P y (xs ++ x ∷ []) all) in
    (All-cons P y xs (All-head P y (xs ++ x ∷ []) all) rest.0, rest.1)

-- the front of a thin file, over its bytes
pub lead_thin : (calls : List Call) (held : Held) (front : Front) → IsState held.state → IsFrontAt calls held 0 front → LeadOn laid_bytes held.state (step calls held.state) (front ∷ [])
lead_thin calls held front is at =
    let change : Change = at.change in
    let old : List ℕ = laid_bytes held.state in
    let new : List ℕ = laid_bytes (changed_file held change).state in
    let high : ℕ = change.high in
    let same : length new ≡ length old = same_length held change is at.of.of in
    let short : high ≤ length old = change_inside held change is at.of.of in
    let long : length (take high new) ≡ high = length-take-le high new (omega arith) in
    let goes_on : drop high new ≡ drop high (take (length new) old) =
    same_behind held change is at.of.of ∙ ap (drop high) (sym (take_all (length new) old (omega arith))) in
    let none : drop (length new) old ≡ [] = drop_all (length new) old (omega arith) in
    let whole : put_at 0 new old ≡ new =
    ap (λ (n : ℕ). new ++ drop n old) (omega arith) ∙ ap (λ (rest : List ℕ). new ++ rest) none ∙ append-nil new in
    let Lies : ℕ → Type 0 = λ n. n + length front.bytes.items ≤ length old in
    let sized : length front.bytes.items ≡ high = ap length at.bytes ∙ long in
    record {
      new = (changed_file held change).state;
      is = at.of.steps;
      inside = All-cons (LiesIn (length old)) front [] (subst Lies (sym at.offset) (omega arith)) (All-nil (LiesIn (length old)));
      after =
          ap (λ (n : ℕ). put_at n front.bytes.items old) at.offset
          ∙ ap (λ (part : List ℕ). put_at 0 part old) at.bytes
          ∙ put_front 0 high new old (omega arith) (omega arith) goes_on
          ∙ whole;
    }

-- the changes behind the fronts of slices
abbrev changes_in : (calls : List Call) (slices : List HeldSlice) (fronts : List Front) → AllZip (IsFrontOf calls) slices fronts → List Change
changes_in calls [] [] all = []
changes_in calls [] (front ∷ fronts) all = absurd all
changes_in calls (m ∷ slices) [] all = absurd all
changes_in calls (m ∷ slices) (front ∷ fronts) all = all.0.change ∷ changes_in calls slices fronts all.1

steps_in : (calls : List Call) (slices : List HeldSlice) (fronts : List Front) (all : AllZip (IsFrontOf calls) slices fronts) → AllZip (IsStepIn calls) slices (changes_in calls slices fronts all)
steps_in calls [] [] all = tt
steps_in calls [] (front ∷ fronts) all = absurd all
steps_in calls (m ∷ slices) [] all = absurd all
steps_in calls (m ∷ slices) (front ∷ fronts) all = (all.0.of, steps_in calls slices fronts all.1)

over_in : (calls : List Call) (slices : List HeldSlice) (fronts : List Front) (all : AllZip (IsFrontOf calls) slices fronts) (bytes : List ℕ) → fronts_on fronts bytes ≡ fronts_over slices (changes_in calls slices fronts all) bytes
over_in calls [] [] all bytes = refl
over_in calls [] (front ∷ fronts) all bytes = absurd all
over_in calls (m ∷ slices) [] all bytes = absurd all
over_in calls (m ∷ slices) (front ∷ fronts) all bytes =
    ap (put_at front.offset front.bytes.items) (over_in calls slices fronts all.1 bytes)
    ∙ ap (λ (part : List ℕ). put_at front.offset part (fronts_over slices (changes_in calls slices fronts all.1) bytes)) all.0.bytes
    ∙ ap (λ (n : ℕ). put_at n (front_of m all.0.change) (fronts_over slices (changes_in calls slices fronts all.1) bytes)) all.0.offset

inside_in : (calls : List Call) (len : ℕ) (slices : List HeldSlice) (fronts : List Front) (all : AllZip (IsFrontOf calls) slices fronts) → AllZip (IsReadyIn len) slices (changes_in calls slices fronts all) → All (LiesIn len) fronts
inside_in calls len [] [] all ready = All-nil (LiesIn len)
inside_in calls len [] (front ∷ fronts) all ready = absurd all
inside_in calls len (m ∷ slices) [] all ready = absurd all
inside_in calls len (m ∷ slices) (front ∷ fronts) all ready =
    let change : Change = all.0.change in
    let new : List ℕ = laid_bytes (changed_file m.inner change).state in
    let same : length new ≡ length (laid_bytes m.inner.state) = same_length m.inner change ready.0.is_state all.0.of.of in
    let old : length (laid_bytes m.inner.state) ≡ length m.inner.state.old = (laid_shows m.inner.state ready.0.is_state).long in
    let short : change.high ≤ length (laid_bytes m.inner.state) = change_inside m.inner change ready.0.is_state all.0.of.of in
    let sized : length front.bytes.items ≡ change.high = ap length all.0.bytes ∙ length-take-le change.high new (omega arith) in
    let room = ready.0.inside in
    let at : front.offset ≡ m.arch.offset = all.0.offset in
    All-cons (LiesIn len) front fronts (omega arith) (inside_in calls len slices fronts all.1 ready.1)

-- the slices before the one that refuses an edit refuse nothing
pub stepped_in : (calls : List Call) (slices : List HeldSlice) (fronts : List Front) → AllZip (IsFrontOf calls) slices fronts → (changes : List Change) × AllZip (IsStepIn calls) slices changes
stepped_in calls slices fronts all = (changes_in calls slices fronts all, steps_in calls slices fronts all)

-- the fronts of all slices, over the bytes of a fat file
pub lead_fat : (calls : List Call) (s : Inside) (fronts : List Front) → IsFatHeld s → AllZip (IsFrontOf calls) s.archs.items fronts → LeadOn fat_laid_bytes (fat_held_of s).state (fat_step calls (fat_held_of s).state) fronts
lead_fat calls s fronts is all =
    let slices : List HeldSlice = s.archs.items in
    let old : List ℕ = s.source.now in
    let held : FatHeld = fat_held_of s in
    let changes : List Change = changes_in calls slices fronts all in
    let are = changes_are calls s changes is (steps_in calls slices fronts all) in
    let ready = ready_of s changes is are.of in
    let long : length (fat_laid_bytes held.state) ≡ length old = (fat_laid_shows held.state is.is_state).long in
    let Inside : ℕ → Type 0 = λ n. All (LiesIn n) fronts in
    record {
      new = (fat_changed held changes).state;
      is = are.steps;
      inside = subst Inside (sym long) (inside_in calls (length old) slices fronts all ready);
      after =
          over_in calls slices fronts all (fat_laid_bytes held.state)
          ∙ fronts_over_laid old slices changes is.is_state ready
          ∙ ap (λ (l : List Slice). fat_laid_bytes (record { old = old; slices = l })) (changed_shown slices changes);
    }

-- a file that was parsed shows the bytes as they were read
first_either : (old : List ℕ) (is_fat : Bool) → AreBytes old → (if is_fat then fat_found old else found_fault (file_fault old)) ≡ None → container_bytes (if is_fat then Fat (fat_held_at_read old) else SingleArch (held_at_read old)) ≡ old
first_either old true are found = first_fat_laid old found are
first_either old false are found = first_laid old (none_fault (file_fault old) found) are

pub first_bytes : (old : List ℕ) → AreBytes old → container_found old ≡ None → container_bytes (first_container old) ≡ old
unfolding container_found
first_bytes old are found = first_either old (begins_fat old) are found

-- where fronts lead a thin file's state, they lead the thin file as a container
pub lead_on_thin : (calls : List Call) (held : Held) (fronts : List Front) → LeadOn laid_bytes held.state (step calls held.state) fronts → LeadOn container_bytes (SingleArch held) (container_step calls (SingleArch held)) fronts
unfolding container_step
lead_on_thin calls held fronts lead = record {
  new = SingleArch (record { state = lead.new; is_edited = is_edited_by calls held.is_edited });
  is = ap (as_thin (is_edited_by calls held.is_edited)) lead.is;
  inside = lead.inside;
  after = lead.after;
}

pub lead_on_fat : (calls : List Call) (held : FatHeld) (fronts : List Front) → LeadOn fat_laid_bytes held.state (fat_step calls held.state) fronts → LeadOn container_bytes (Fat held) (container_step calls (Fat held)) fronts
unfolding container_step
lead_on_fat calls held fronts lead = record {
  new = Fat (record { state = lead.new; is_edited = is_edited_by calls held.is_edited });
  is = ap (as_fat (is_edited_by calls held.is_edited)) lead.is;
  inside = lead.inside;
  after = lead.after;
}

-- What is added to all slices of a fat file and removed again; and a shorter name in each.
use Rattle.std.proofs.Common.{◌≡◌, ℕ, List, [], ◌∷◌, set, Result, Ok, Err, IsOkAnd, ap, sym, refl, ◌∙◌, subst}
use Rattle.std.specs.List.{All, AllZip}
use Rattle.std.proofs.lemmas.List.Elements.{All-cons, All-head, All-nil, All-tail}
use Rattle.macho_image.specs.declared.fat.FatArch.{FatArch}
use Rattle.macho_image.specs.Fat.{slice_of}
use Rattle.macho_edits.specs.Call.{Call}
use Rattle.macho_edits.specs.Call.Call.{add_rpath, remove_rpath}
use Rattle.arwen_macho.specs.FatHeld.{IsFatState, IsSlice}
use Rattle.arwen_macho.specs.FatLaws.{FatGivesBack, FatRemoveGivesBack, FatShorterFits, GiveBack, IsShortened, PadsAreZeros, Shortens}
use Rattle.arwen_macho.specs.FatState.{FatState, Slice, fat_laid_bytes, fat_step, joined_step, bytes_laid_over, put_at, step_slices}
use Rattle.arwen_macho.specs.Laws.{GivesBack, LacksRpath}
use Rattle.macho_edits.specs.State.{Refusal, State, laid_bytes, step}
use Rattle.macho_edits.specs.Whole.{TextsAreBytes}
use Rattle.arwen_macho.proofs.FatLaws.{fat_laid_shows}
use Rattle.arwen_macho.proofs.FatStepLaws.{fat_step_ok}
use Rattle.arwen_macho.proofs.GiveBackLaws.{remove_gives_back}
use Rattle.arwen_macho.proofs.ShorterLaws.{shorter_fits}
use Rattle.arwen_macho.proofs.StatesLaws.{fat_step_is, fat_step_made}

-- an accepted answer, and what holds of its value
ok_and : {X E : Type 0} (answer : Result X E) (P : X → Type 0) → IsOkAnd answer P → (x : X) × (answer ≡ Ok x) × P x
ok_and (Ok x) P is = (x, refl, is)
ok_and (Err e) P is = absurd is

-- the steps of a slice and of the slices behind it
joined_ok : (calls : List Call) (s : Slice) (slices next : List Slice) (t : State) → step calls s.state ≡ Ok t → step_slices calls slices ≡ Ok next → step_slices calls (s ∷ slices) ≡ Ok (record { arch = s.arch; state = t } ∷ next)
joined_ok calls s slices next t one rest =
    ap (λ (r : Result State Refusal). joined_step s r (step_slices calls slices)) one ∙ ap (joined_step s (Ok t)) rest

-- where the slices were added to, they can be removed from
pub record Removed (calls : List Call) (slices added : List Slice) : Type 0 where
  pub removed : List Slice
  pub steps : step_slices calls added ≡ Ok removed
  pub back : GiveBack slices added removed

removed_from : (old text : List ℕ) (slices added : List Slice) → All (IsSlice old) slices → All (λ slice. LacksRpath slice.state text) slices → step_slices (add_rpath text ∷ []) slices ≡ Ok added → Removed (remove_rpath text ∷ []) slices added
removed_from old text [] added are lacks e =
    let none : [] ≡ added = cc in
    let P : List Slice → Type 0 = Removed (remove_rpath text ∷ []) [] in
    subst P none (record { removed = []; steps = refl; back = tt })
removed_from old text (s ∷ slices) added are lacks e =
    go (step (add_rpath text ∷ []) s.state) (step_slices (add_rpath text ∷ []) slices) refl refl
    (λ ts. removed_from old text slices ts (All-tail (IsSlice old) s slices are) (All-tail (λ (slice : Slice). LacksRpath slice.state text) s slices lacks)) e
  where
    go : (a : Result State Refusal) (b : Result (List Slice) Refusal) → step (add_rpath text ∷ []) s.state ≡ a → step_slices (add_rpath text ∷ []) slices ≡ b → ((ts : List Slice) → step_slices (add_rpath text ∷ []) slices ≡ Ok ts → Removed (remove_rpath text ∷ []) slices ts) → joined_step s a b ≡ Ok added → Removed (remove_rpath text ∷ []) (s ∷ slices) added
    go (Err refusal) b ea eb behind e = absurd (cc)
    go (Ok t) (Err refusal) ea eb behind e = absurd (cc)
    go (Ok t) (Ok ts) ea eb behind e =
        let new : Slice = record { arch = s.arch; state = t } in
        let same : new ∷ ts ≡ added = cc in
        let is = (All-head (IsSlice old) s slices are).is_state in
        let lack = All-head (λ (slice : Slice). LacksRpath slice.state text) s slices lacks in
        let one = ok_and (step (remove_rpath text ∷ []) t) (GivesBack s.state t) (remove_gives_back s.state t text is lack ea) in
        let rest = behind ts eb in
        let P : List Slice → Type 0 = Removed (remove_rpath text ∷ []) (s ∷ slices) in
        subst P same (record {
          removed = record { arch = s.arch; state = one.0 } ∷ rest.removed;
          steps = joined_ok (remove_rpath text ∷ []) new ts rest.removed one.0 one.1 rest.steps;
          back = (refl, (one.2, rest.back));
        })

-- slices whose bytes are the same, in bytes that are the same
pads_from : (bytes : List ℕ) (slices added removed : List Slice) → GiveBack slices added removed → All (λ s. slice_of bytes s.arch ≡ laid_bytes s.state) slices → All (λ s. slice_of bytes s.arch ≡ laid_bytes s.state) removed → PadsAreZeros slices added
pads_from bytes [] [] [] back shown after = tt
pads_from bytes [] [] (r ∷ removed) back shown after = absurd back
pads_from bytes [] (a ∷ added) removed back shown after = absurd back
pads_from bytes (s ∷ slices) [] removed back shown after = absurd back
pads_from bytes (s ∷ slices) (a ∷ added) [] back shown after = absurd back
pads_from bytes (s ∷ slices) (a ∷ added) (r ∷ removed) back shown after =
    let Is : Slice → Type 0 = λ s. slice_of bytes s.arch ≡ laid_bytes s.state in
    let was : slice_of bytes s.arch ≡ laid_bytes s.state = All-head Is s slices shown in
    let now : slice_of bytes r.arch ≡ laid_bytes r.state = All-head Is r removed after in
    let same : laid_bytes r.state ≡ laid_bytes s.state = sym now ∙ ap (slice_of bytes) back.0 ∙ was in
    (back.1.0.bytes.0 same, pads_from bytes slices added removed back.1.1 (All-tail Is s slices shown) (All-tail Is r removed after))

over_same : (slices added removed : List Slice) (bytes : List ℕ) → GiveBack slices added removed → PadsAreZeros slices added → bytes_laid_over removed bytes ≡ bytes_laid_over slices bytes
over_same [] [] [] bytes back zeros = refl
over_same [] [] (r ∷ removed) bytes back zeros = absurd back
over_same [] (a ∷ added) removed bytes back zeros = absurd back
over_same (s ∷ slices) [] removed bytes back zeros = absurd back
over_same (s ∷ slices) (a ∷ added) [] bytes back zeros = absurd back
over_same (s ∷ slices) (a ∷ added) (r ∷ removed) bytes back zeros =
    let same : laid_bytes r.state ≡ laid_bytes s.state = back.1.0.bytes.1 zeros.0 in
    ap (λ (arch : FatArch). bytes_laid_over removed (put_at arch.offset (laid_bytes r.state) bytes)) back.0
    ∙ ap (λ (part : List ℕ). bytes_laid_over removed (put_at s.arch.offset part bytes)) same
    ∙ over_same slices added removed (put_at s.arch.offset (laid_bytes s.state) bytes) back.1.1 zeros.1

back_to : (old : List ℕ) (slices added removed : List Slice) → GiveBack slices added removed → PadsAreZeros slices added → fat_laid_bytes (record { old = old; slices = removed }) ≡ fat_laid_bytes (record { old = old; slices = slices })
unfolding fat_laid_bytes
back_to old slices added removed back zeros = over_same slices added removed old back zeros

pub fat_remove_gives_back : FatRemoveGivesBack
fat_remove_gives_back s added text is bytes lack e =
    let made = fat_step_made (add_rpath text ∷ []) s added e in
    let r = removed_from s.old text s.slices added.slices is.slices lack made.0 in
    let last : FatState = record { old = added.old; slices = r.removed } in
    let steps : fat_step (remove_rpath text ∷ []) added ≡ Ok last = fat_step_ok (remove_rpath text ∷ []) added r.removed r.steps in
    let first_is : IsFatState added = fat_step_is (add_rpath text ∷ []) s added is (All-cons TextsAreBytes (add_rpath text) [] bytes (All-nil TextsAreBytes)) e in
    let last_is : IsFatState last = fat_step_is (remove_rpath text ∷ []) added last first_is (All-cons TextsAreBytes (remove_rpath text) [] tt (All-nil TextsAreBytes)) steps in
    let was = (fat_laid_shows s is).slices in
    let now = (fat_laid_shows last last_is).slices in
    let forth : fat_laid_bytes last ≡ fat_laid_bytes s → PadsAreZeros s.slices added.slices =
    λ (same : fat_laid_bytes last ≡ fat_laid_bytes s).
    let P : List ℕ → Type 0 = λ b. All (λ s. slice_of b s.arch ≡ laid_bytes s.state) r.removed in
    pads_from (fat_laid_bytes s) s.slices added.slices r.removed r.back was (subst P same now) in
    let back : PadsAreZeros s.slices added.slices → fat_laid_bytes last ≡ fat_laid_bytes s =
    λ (zeros : PadsAreZeros s.slices added.slices).
    ap (λ (old : List ℕ). fat_laid_bytes (record { old = old; slices = r.removed })) made.1 ∙ back_to s.old s.slices added.slices r.removed r.back zeros in
    let Back : Result FatState Refusal → Type 0 = λ answer. IsOkAnd answer (FatGivesBack s added) in
    subst Back (sym steps) (record { slices = r.back; bytes = (forth, back) })

-- the slices with a shorter name in each
pub record Shortened (call : Call) (slices : List Slice) : Type 0 where
  pub next : List Slice
  pub steps : step_slices (call ∷ []) slices ≡ Ok next
  pub each : AllZip (IsShortened call) slices next

shortened_all : (old : List ℕ) (call : Call) (slices : List Slice) → All (IsSlice old) slices → All (λ slice. Shortens call slice.state) slices → Shortened call slices
shortened_all old call [] are shorter = record { next = []; steps = refl; each = tt }
shortened_all old call (s ∷ slices) are shorter =
    let is = (All-head (IsSlice old) s slices are).is_state in
    let at : Shortens call s.state = All-head (λ (slice : Slice). Shortens call slice.state) s slices shorter in
    let rest = shortened_all old call slices (All-tail (IsSlice old) s slices are) (All-tail (λ (slice : Slice). Shortens call slice.state) s slices shorter) in
    let t : State = record { old = s.state.old; list = set s.state.list at.place at.command; high = s.state.high } in
    let one : step (call ∷ []) s.state ≡ Ok t = shorter_fits s.state call at.place at.command is at.changes at.short in
    record {
      next = record { arch = s.arch; state = t } ∷ rest.next;
      steps = joined_ok (call ∷ []) s slices rest.next t one rest.steps;
      each = (record { arch = refl; steps = one; high = refl }, rest.each);
    }

pub fat_shorter_fits : FatShorterFits
fat_shorter_fits s call is shorter =
    let all = shortened_all s.old call s.slices is.slices shorter in
    let steps = fat_step_ok (call ∷ []) s all.next all.steps in
    let Fits : Result FatState Refusal → Type 0 = λ answer. IsOkAnd answer (λ t. AllZip (IsShortened call) s.slices t.slices) in
    subst Fits (sym steps) all.each

-- What a batch of edits keeps of a file: the commands that tell of a signature, and all bytes behind the load commands.
use Rattle.std.proofs.Common.{◌≡◌, ◌≤◌, ◌+◌, ℕ, Bool, true, false, if◌then◌else◌, nat_le, List, [], ◌∷◌, length, map, max, take, drop, Some, None, Result, Ok, Err, refl, sym, ap, ◌∙◌, subst, inl, inr, arith}
use Rattle.std.specs.List.{All, concat}
use Rattle.std.proofs.lemmas.Bool.{cases_Bool, leb-true}
use Rattle.std.proofs.lemmas.List.{take_all}
use Rattle.std.proofs.lemmas.List.Elements.{All-cons, All-head, All-map, All-nil, All-tail}
use Rattle.macho_image.specs.declared.fat.FatArch.{FatArch}
use Rattle.macho_image.specs.declared.format.Ctx.{Ctx}
use Rattle.macho_image.specs.Checks.{file_fault}
use Rattle.macho_image.specs.Commands.{commands_of, first_content_of}
use Rattle.macho_image.specs.Fat.{archs_of, slice_of}
use Rattle.macho_image.specs.Form.{commands_end, ctx_of, header_size}
use Rattle.macho_image.proofs.ForCallers.{drop-with_area_high, first_content_is, found}
use Rattle.macho_edits.specs.Call.{Call}
use Rattle.macho_edits.specs.Held.{held_at_read, is_edited_by}
use Rattle.macho_edits.specs.State.{Refusal, State, available, edited_by, end_of, first_state, fitted_state, laid_bytes, step}
use Rattle.arwen_macho.specs.declared.macho.MachoType.{MachoType}
use Rattle.arwen_macho.specs.declared.macho.MachoType.TheVariants.{Fat, SingleArch}
use Rattle.arwen_macho.specs.Container.{as_fat, as_thin, container_bytes, container_step, first_container}
use Rattle.arwen_macho.specs.ContainerShown.{ShowsFile}
use Rattle.arwen_macho.specs.FatHeld.{fat_held_at_read}
use Rattle.arwen_macho.specs.FatShown.{FatShows}
use Rattle.arwen_macho.specs.FatState.{FatState, Slice, fat_step, first_fat_state, first_slice, joined_step, step_slices, with_slices}
use Rattle.arwen_macho.specs.Shown.{Shows}
use Rattle.macho_signing.specs.File.{begins_fat, part_bytes, parts_of, slice_part}
use Rattle.macho_signing.specs.Place.{place_in, signature_commands, signature_place}
use Rattle.macho_signing.specs.declared.file.Part.{Part}
use Rattle.macho_signing.specs.declared.place.Place.{Place}
use Rattle.macho_commands_stores.specs.Kept.{InEachPart, TellsSamePlace}
use Rattle.macho_commands_stores.proofs.EditedSignature.{edited_by_signs}

-- ## What is kept

-- what an edit keeps of a thin file: where its commands say that its signature lies, and of an accepted one all bytes from where its
-- load commands ended and end; these end no later than they did, or where content begins
pub record IsKept (old new : List ℕ) : Type 0 where
  pub long : length new ≡ length old
  pub accepted : file_fault new ≡ None
  pub place : TellsSamePlace old new
  pub behind : file_fault old ≡ None → (n : ℕ) → commands_end (ctx_of old) old ≤ n → commands_end (ctx_of new) new ≤ n → drop n new ≡ drop n old
  pub room : file_fault old ≡ None → commands_end (ctx_of new) new ≤ max (commands_end (ctx_of old) old) (first_content_of old)

-- the load commands of a thin file end where its signature begins, or before
abbrev pub EndsBeforeSignature : List ℕ → Type 0
EndsBeforeSignature bytes = (place : Place) → signature_place bytes ≡ Ok (Some place) → commands_end (ctx_of bytes) bytes ≤ place.dataoff

-- ## A thin file

-- the next state, with a list that fits
pub record IsNext (s t : State) : Type 0 where
  pub old : t.old ≡ s.old
  pub signs : signature_commands (ctx_of s.old).le t.list ≡ signature_commands (ctx_of s.old).le s.list
  pub high : t.high ≡ max s.high (end_of (ctx_of s.old) t.list)
  pub room : end_of (ctx_of s.old) t.list ≤ available s

fitted_next : (count : ℕ) (s t : State) (made : Result (List (List ℕ)) Refusal) → ((list : List (List ℕ)) → made ≡ Ok list → signature_commands (ctx_of s.old).le list ≡ signature_commands (ctx_of s.old).le s.list) → fitted_state count s made ≡ Ok t → IsNext s t
unfolding fitted_state
fitted_next count s t (Err refusal) signs e = absurd (cc)
fitted_next count s t (Ok list) signs e =
    elim (cases_Bool (nat_le (end_of (ctx_of s.old) list) (available s))) [
      | inl fits ↦
          let accepted = rw fits at e in
          let next : State = record { old = s.old; list = list; high = max s.high (end_of (ctx_of s.old) list) } in
          let same : next ≡ t = cc in
          let P : State → Type 0 = λ u. IsNext s u in
          subst P same (record {
            old = refl;
            signs = signs list refl;
            high = refl;
            room = leb-true (end_of (ctx_of s.old) list) (available s) fits;
          })
      | inr past ↦ let refused = rw past at e in absurd (cc)
    ]

step_next : (calls : List Call) (s t : State) → step calls s ≡ Ok t → IsNext s t
unfolding step
step_next calls s t e =
    fitted_next (length calls) s t (edited_by (ctx_of s.old) 0 calls s.list) (λ list made. edited_by_signs (ctx_of s.old) 0 calls s.list list made) e

-- where the load commands of an accepted file end
end_is : (bytes : List ℕ) → file_fault bytes ≡ None → commands_end (ctx_of bytes) bytes ≡ end_of (ctx_of bytes) (commands_of bytes)
end_is bytes pass = ap (λ (n : ℕ). header_size (ctx_of bytes).container + n) (found bytes pass).size

laid_behind : (t : State) (n : ℕ) → end_of (ctx_of t.old) t.list ≤ t.high → t.high ≤ length t.old → t.high ≤ n → drop n (laid_bytes t) ≡ drop n t.old
unfolding laid_bytes
laid_behind t n room inside behind =
    drop-with_area_high (ctx_of t.old) t.old (length t.list) (concat t.list) t.high n (record { room = room; inside = inside }) behind

-- content begins at the file's end at the latest
content_inside : (bytes : List ℕ) → first_content_of bytes ≤ length bytes
content_inside bytes = (first_content_is bytes).most

module _ (old new : List ℕ) (t : State) (next : IsNext (first_state old) t) (is : new ≡ laid_bytes t) (shows : Shows t new) where
  same_old : t.old ≡ old
  unfolding first_state
  same_old = next.old

  form : ctx_of new ≡ ctx_of old
  form = shows.form ∙ ap ctx_of same_old

  same_signs : signature_commands (ctx_of old).le t.list ≡ signature_commands (ctx_of old).le (commands_of old)
  unfolding first_state
  same_signs = next.signs

  same_place : signature_place new ≡ signature_place old
  unfolding signature_place
  same_place =
      ap (λ (c : Ctx). place_in c.le (signature_commands c.le (commands_of new))) form
      ∙ ap (λ (l : List (List ℕ)). place_in (ctx_of old).le (signature_commands (ctx_of old).le l)) shows.commands
      ∙ ap (place_in (ctx_of old).le) same_signs

  new_end : commands_end (ctx_of new) new ≡ end_of (ctx_of old) t.list
  new_end =
      end_is new shows.accepted ∙ ap (λ (c : Ctx). end_of c (commands_of new)) form ∙ ap (end_of (ctx_of old)) shows.commands

  fits : file_fault old ≡ None → end_of (ctx_of old) t.list ≤ max (commands_end (ctx_of old) old) (first_content_of old)
  unfolding first_state
  fits pass =
      let room : end_of (ctx_of old) t.list ≤ max (end_of (ctx_of old) (commands_of old)) (first_content_of old) = next.room in
      let P : ℕ → Type 0 = λ n. end_of (ctx_of old) t.list ≤ max n (first_content_of old) in
      subst P (sym (end_is old pass)) room

  new_high : t.high ≡ max (commands_end (ctx_of old) old) (end_of (ctx_of old) t.list)
  unfolding first_state
  new_high = next.high

  old_inside : file_fault old ≡ None → commands_end (ctx_of old) old ≤ length old
  old_inside pass =
      let file = found old pass in
      let size = file.size in
      let room = file.room in
      omega (arith, size, room)

  same_behind : file_fault old ≡ None → (n : ℕ) → commands_end (ctx_of old) old ≤ n → commands_end (ctx_of new) new ≤ n → drop n new ≡ drop n old
  same_behind pass n first second =
      let end : ℕ = end_of (ctx_of old) t.list in
      let high = new_high in
      let ends = new_end in
      let within = fits pass in
      let content = content_inside old in
      let inside = old_inside pass in
      let P : List ℕ → Type 0 = λ l. end_of (ctx_of l) t.list ≤ t.high in
      let Q : List ℕ → Type 0 = λ l. t.high ≤ length l in
      let low : end ≤ t.high = omega (arith, high) in
      let long : t.high ≤ length old = omega (arith, high, within, content, inside) in
      ap (drop n) is
      ∙ laid_behind t n (subst P (sym same_old) low) (subst Q (sym same_old) long) (omega (arith, high, ends, first, second))
      ∙ ap (drop n) same_old

  pub next_keeps : IsKept old new
  next_keeps = record {
    long = shows.long ∙ ap length same_old;
    accepted = shows.accepted;
    place = same_place;
    behind = same_behind;
    room = λ pass. let ends = new_end in let within = fits pass in omega (arith, ends, within);
  }

-- ## The slices of a fat file

abbrev HasBytes : List ℕ → Slice → Type 0
HasBytes new s = slice_of new s.arch ≡ laid_bytes s.state

abbrev ShowsSlice : List ℕ → Slice → Type 0
ShowsSlice new s = Shows s.state (slice_of new s.arch)

abbrev KeepsSlice : List ℕ → List ℕ → FatArch → Type 0
KeepsSlice old new a = IsKept (slice_of old a) (slice_of new a)

slices_kept : (calls : List Call) (old new : List ℕ) (archs : List FatArch) (next : List Slice) → step_slices calls (map (first_slice old) archs) ≡ Ok next → All (HasBytes new) next → All (ShowsSlice new) next → All (KeepsSlice old new) archs
slices_kept calls old new [] next e has shown = All-nil (KeepsSlice old new)
slices_kept calls old new (a ∷ archs) next e has shown =
    go (step calls (first_state (slice_of old a))) (step_slices calls (map (first_slice old) archs)) refl refl (λ ts. slices_kept calls old new archs ts) e
  where
    go : (x : Result State Refusal) (y : Result (List Slice) Refusal) → step calls (first_state (slice_of old a)) ≡ x → step_slices calls (map (first_slice old) archs) ≡ y → ((ts : List Slice) → step_slices calls (map (first_slice old) archs) ≡ Ok ts → All (HasBytes new) ts → All (ShowsSlice new) ts → All (KeepsSlice old new) archs) → joined_step (first_slice old a) x y ≡ Ok next → All (KeepsSlice old new) (a ∷ archs)
    go (Err refusal) y ex ey behind e = absurd (cc)
    go (Ok t) (Err refusal) ex ey behind e = absurd (cc)
    go (Ok t) (Ok ts) ex ey behind e =
        let one : Slice = record { arch = a; state = t } in
        let same : one ∷ ts ≡ next = cc in
        let P : List Slice → Type 0 = All (HasBytes new) in
        let Q : List Slice → Type 0 = All (ShowsSlice new) in
        let all_has = subst P (sym same) has in
        let all_shown = subst Q (sym same) shown in
        All-cons (KeepsSlice old new) a archs
        (next_keeps (slice_of old a) (slice_of new a) t (step_next calls (first_state (slice_of old a)) t ex) (All-head (HasBytes new) one ts all_has) (All-head (ShowsSlice new) one ts all_shown))
        (behind ts ey (All-tail (HasBytes new) one ts all_has) (All-tail (ShowsSlice new) one ts all_shown))

-- ## A file of either shape

thin_made : (flag : Bool) (answer : Result State Refusal) (new : MachoType) → as_thin flag answer ≡ Ok new → (t : State) × (answer ≡ Ok t) × (new ≡ SingleArch (record { state = t; is_edited = flag }))
thin_made flag (Err refusal) new e = absurd (cc)
thin_made flag (Ok t) new e = (t, refl, let same : SingleArch (record { state = t; is_edited = flag }) ≡ new = cc in sym same)

fat_made : (flag : Bool) (answer : Result FatState Refusal) (new : MachoType) → as_fat flag answer ≡ Ok new → (t : FatState) × (answer ≡ Ok t) × (new ≡ Fat (record { state = t; is_edited = flag }))
fat_made flag (Err refusal) new e = absurd (cc)
fat_made flag (Ok t) new e = (t, refl, let same : Fat (record { state = t; is_edited = flag }) ≡ new = cc in sym same)

pub fat_parts_made : (old : List ℕ) (t : FatState) (made : Result (List Slice) Refusal) → with_slices old made ≡ Ok t → (made ≡ Ok t.slices) × (t.old ≡ old)
fat_parts_made old t (Err refusal) e = absurd (cc)
fat_parts_made old t (Ok slices) e =
    let same : record { old = old; slices = slices } ≡ t = cc in
    (ap (λ (u : FatState). Ok u.slices) same, sym (ap (λ (u : FatState). u.old) same))

fat_step_made : (calls : List Call) (s t : FatState) → fat_step calls s ≡ Ok t → (step_slices calls s.slices ≡ Ok t.slices) × (t.old ≡ s.old)
unfolding fat_step
fat_step_made calls s t e = fat_parts_made s.old t (step_slices calls s.slices) e

pub thin_parts : (bytes : List ℕ) → begins_fat bytes ≡ false → parts_of bytes ≡ record { offset = 0; size = length bytes } ∷ []
unfolding parts_of
thin_parts bytes thin = rw thin refl

pub fat_parts : (bytes : List ℕ) → begins_fat bytes ≡ true → parts_of bytes ≡ map slice_part (archs_of bytes)
unfolding parts_of
fat_parts bytes fat = rw fat refl

abbrev KeepsPart : List ℕ → List ℕ → Part → Type 0
KeepsPart old new p = IsKept (part_bytes old p) (part_bytes new p)

thin_keeps : (calls : List Call) (old new : List ℕ) (t : State) → begins_fat old ≡ false → begins_fat new ≡ false → step calls (first_state old) ≡ Ok t → new ≡ laid_bytes t → Shows t new → InEachPart IsKept old new
thin_keeps calls old new t thin thin_too e is shows =
    let kept : IsKept old new = next_keeps old new t (step_next calls (first_state old) t e) is shows in
    let long : length new ≡ length old = kept.long in
    let whole : Part = record { offset = 0; size = length old } in
    let old_all : take (length old) old ≡ old = take_all (length old) old (omega arith) in
    let new_all : take (length old) new ≡ new = take_all (length old) new (omega (arith, long)) in
    let P : List ℕ → Type 0 = λ l. IsKept l (take (length old) new) in
    let Q : List ℕ → Type 0 = λ l. IsKept old l in
    let R : List Part → Type 0 = λ l. All (KeepsPart old new) l in
    let both : KeepsPart old new whole = subst P (sym old_all) (subst Q (sym new_all) kept) in
    record {
      parts = thin_parts new thin_too ∙ ap (λ (n : ℕ). record { offset = 0; size = n } ∷ []) long ∙ sym (thin_parts old thin);
      each = subst R (sym (thin_parts old thin)) (All-cons (KeepsPart old new) whole [] both (All-nil (KeepsPart old new)));
    }

fat_keeps : (calls : List Call) (old new : List ℕ) (t : FatState) → begins_fat old ≡ true → begins_fat new ≡ true → step_slices calls (map (first_slice old) (archs_of old)) ≡ Ok t.slices → t.old ≡ old → FatShows t new → InEachPart IsKept old new
fat_keeps calls old new t fat fat_too e is shows =
    let archs : archs_of new ≡ archs_of old = shows.archs ∙ ap archs_of is in
    let R : List Part → Type 0 = λ l. All (KeepsPart old new) l in
    record {
      parts = fat_parts new fat_too ∙ ap (map slice_part) archs ∙ sym (fat_parts old fat);
      each = subst R (sym (fat_parts old fat))
          (All-map (KeepsPart old new) slice_part (archs_of old) (slices_kept calls old new (archs_of old) t.slices e shows.slices shows.shown));
    }

keeps_either : (fat : Bool) (calls : List Call) (old new : List ℕ) (made : MachoType) → begins_fat old ≡ fat → container_step calls (if fat then Fat (fat_held_at_read old) else SingleArch (held_at_read old)) ≡ Ok made → new ≡ container_bytes made → ShowsFile made new → InEachPart IsKept old new
unfolding container_step first_fat_state
keeps_either false calls old new made thin e is shows =
    let t = thin_made (is_edited_by calls false) (step calls (first_state old)) made e in
    let P : MachoType → Type 0 = λ m. new ≡ container_bytes m in
    let Q : MachoType → Type 0 = λ m. ShowsFile m new in
    let shown = subst Q t.2 shows in
    thin_keeps calls old new t.0 thin shown.shape t.1 (subst P t.2 is) shown.state
keeps_either true calls old new made fat e is shows =
    let t = fat_made (is_edited_by calls false) _ made e in
    let Q : MachoType → Type 0 = λ m. ShowsFile m new in
    let shown = subst Q t.2 shows in
    let steps = fat_step_made calls (first_fat_state old) t.0 t.1 in
    fat_keeps calls old new t.0 fat shown.shape steps.0 steps.1 shown.state

-- an accepted batch keeps of each part what it keeps of a thin file
pub edit_keeps : (calls : List Call) (old new : List ℕ) (made : MachoType) → container_step calls (first_container old) ≡ Ok made → new ≡ container_bytes made → ShowsFile made new → InEachPart IsKept old new
edit_keeps calls old new made e is shows = keeps_either (begins_fat old) calls old new made refl e is shows

-- an accepted batch keeps the file's length
long_either : (fat : Bool) (calls : List Call) (old new : List ℕ) (made : MachoType) → container_step calls (if fat then Fat (fat_held_at_read old) else SingleArch (held_at_read old)) ≡ Ok made → ShowsFile made new → length new ≡ length old
unfolding container_step first_fat_state first_state
long_either false calls old new made e shows =
    let t = thin_made (is_edited_by calls false) (step calls (first_state old)) made e in
    let Q : MachoType → Type 0 = λ m. ShowsFile m new in
    let next = step_next calls (first_state old) t.0 t.1 in
    (subst Q t.2 shows).state.long ∙ ap length next.old
long_either true calls old new made e shows =
    let t = fat_made (is_edited_by calls false) _ made e in
    let Q : MachoType → Type 0 = λ m. ShowsFile m new in
    (subst Q t.2 shows).state.long ∙ ap length (fat_step_made calls (first_fat_state old) t.0 t.1).1

pub edit_long : (calls : List Call) (old new : List ℕ) (made : MachoType) → container_step calls (first_container old) ≡ Ok made → ShowsFile made new → length new ≡ length old
edit_long calls old new made e shows = long_either (begins_fat old) calls old new made e shows

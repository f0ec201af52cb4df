-- What edits make of a thin file depends on its front and its length alone.
use Rattle.std.proofs.Common.{◌≡◌, ◌≤◌, ◌<◌, ◌^◌, ◌+◌, ◌-◌, inl, inr, if◌then◌else◌, ℕ, Bool, true, false, max, min, List, [], ◌∷◌, ◌++◌, length, take, drop, None, Result, Ok, Err, refl, sym, ap, ◌∙◌, subst, arith}
use Rattle.std.specs.List.{concat}
use Rattle.std.proofs.lemmas.Bool.{cases_lt, le-leb, lt-leb}
use Rattle.std.proofs.lemmas.List.{append_assoc, drop-append-le, length-append, length-drop, take-append-le}
use Rattle.patch_bytes.specs.declared.number.ByteOrder2.TheVariants.{Big}
use Rattle.patch_bytes.proofs.NumberLaws.{number_at-append_left}
use Rattle.macho_image.specs.declared.format.Ctx.{Ctx}
use Rattle.macho_image.specs.Checks.{file_fault}
use Rattle.macho_image.specs.Commands.{commands_of, first_content_of, least, load_commands_of, named_contents}
use Rattle.macho_image.specs.Fat.{has_fat_magic}
use Rattle.macho_image.specs.File.{IsFile}
use Rattle.macho_image.specs.Form.{commands_end, ctx_of, header_size}
use Rattle.macho_image.specs.Image.{with_area}
use Rattle.macho_image.proofs.ForCallers.{accepts, commands_end-longer, found, header_size-least, least_length}
use Rattle.macho_edits.specs.Call.{Call}
use Rattle.macho_edits.specs.Held.{held_at_read, is_edited_by}
use Rattle.macho_edits.specs.State.{Refusal, State, available, edited_by, end_of, first_state, fitted_state, laid_bytes, step}
use Rattle.arwen_macho.specs.Container.{as_thin, container_bytes, container_step, first_container}
use Rattle.arwen_macho.specs.Found.{begins_fat, container_found}
use Rattle.arwen_macho.specs.declared.macho.MachoType.TheVariants.{SingleArch}
use Rattle.arwen_macho.specs.ContainerShown.{ShowsFile}
use Rattle.arwen_macho.specs.Shown.{Shows}
use Rattle.arwen_macho.specs.declared.macho.MachoType.{MachoType}
use Rattle.arwen_macho.proofs.ForCallers.{first_bytes}
use Rattle.macho_commands_stores.specs.Signed.{is_signed_file}
use Rattle.macho_commands.specs.Engine.{AreAsked, Asked, Outcome, ShowsEdited, edited_file, written}
use Rattle.macho_commands.specs.Engine.Asked.{one, several}
use Rattle.macho_commands.specs.Engine.Outcome.{bytes, refused, refused_batch}
use Rattle.macho_commands_stores.specs.Loading.{IsThinFront}
use Rattle.macho_commands.specs.Loading.{FrontDecides, with_rest}

-- ---- a file that begins as an accepted one

-- the least of a greater bound, where something below the first was found
least_longer : (n m : ℕ) (xs : List ℕ) → n ≤ m → least n xs < n → least m xs ≡ least n xs
least_longer n m [] within below = absurd (omega arith)
least_longer n m (x ∷ xs) within below = elim (cases_lt x n) [
  | inl small ↦
      let a : min n x ≡ x = omega arith in
      let b : min m x ≡ x = omega arith in
      rw (a, b) refl
  | inr large ↦
      let a : min n x ≡ n = omega arith in
      let step = rw a at below in
      rw a (least_longer n (min m x) xs (omega arith) step)
]

pub same_content : (front rest : List ℕ) → length (front ++ rest) < 2 ^ 32 → file_fault front ≡ None → first_content_of front < length front → first_content_of (front ++ rest) ≡ first_content_of front
unfolding first_content_of
same_content front rest short ok content =
    let same = accepts front rest short ok in
    rw (same.1, same.2) (least_longer (length front) (length (front ++ rest)) (named_contents front) (omega (arith, length-append front rest)) content)

-- a file isn't fat either where its front isn't
pub same_shape : (front rest : List ℕ) → 4 ≤ length front → begins_fat (front ++ rest) ≡ begins_fat front
same_shape front rest four =
    let more : 4 ≤ length (front ++ rest) = omega (arith, length-append front rest) in
    rw (le-leb 4 (length (front ++ rest)) more, le-leb 4 (length front) four) (ap_magic front rest four)
  where
    ap_magic : (front rest : List ℕ) → 4 ≤ length front → has_fat_magic (front ++ rest) ≡ has_fat_magic front
    ap_magic front rest four = rw (number_at-append_left Big 4 0 front rest four) refl

-- ---- edits of it

abbrev pub longer_state : List ℕ → State → State
longer_state rest s = record { old = s.old ++ rest; list = s.list; high = s.high }

abbrev pub longer_answer : List ℕ → Result State Refusal → Result State Refusal
longer_answer rest (Ok s) = Ok (longer_state rest s)
longer_answer rest (Err refusal) = Err refusal

chosen : (b : Bool) (rest : List ℕ) (s : State) (refusal : Refusal) → (if b then Ok (longer_state rest s) else Err refusal) ≡ longer_answer rest (if b then Ok s else Err refusal)
chosen true rest s refusal = refl
chosen false rest s refusal = refl

fitted_longer : (count : ℕ) (s : State) (rest : List ℕ) (edited : Result (List (List ℕ)) Refusal) → ctx_of (s.old ++ rest) ≡ ctx_of s.old → first_content_of (s.old ++ rest) ≡ first_content_of s.old → fitted_state count (longer_state rest s) edited ≡ longer_answer rest (fitted_state count s edited)
unfolding fitted_state
fitted_longer count s rest (Err refusal) form content = refl
fitted_longer count s rest (Ok list) form content = rw (form, content) (chosen _ rest _ _)

step_longer : (calls : List Call) (s : State) (rest : List ℕ) → ctx_of (s.old ++ rest) ≡ ctx_of s.old → first_content_of (s.old ++ rest) ≡ first_content_of s.old → step calls (longer_state rest s) ≡ longer_answer rest (step calls s)
unfolding step
step_longer calls s rest form content = rw form (fitted_longer (length calls) s rest (edited_by (ctx_of s.old) 0 calls s.list) form content)

-- what an edit makes of a state fits in the front
fits_front : (count : ℕ) (s new : State) (edited : Result (List (List ℕ)) Refusal) → fitted_state count s edited ≡ Ok new → s.high ≤ length s.old → available s ≤ length s.old → (new.old ≡ s.old) × (new.high ≤ length s.old)
unfolding fitted_state
fits_front count s new (Err refusal) is high room = cc
fits_front count s new (Ok list) is high room = elim (cases_lt (available s) (end_of (ctx_of s.old) list)) [
  | inl beyond ↦
      let no = rw (lt-leb (end_of (ctx_of s.old) list) (available s) beyond) at is in
      absurd cc
  | inr within ↦
      let yes = rw (le-leb (end_of (ctx_of s.old) list) (available s) within) at is in
      let same : new ≡ record { old = s.old; list = list; high = max s.high (end_of (ctx_of s.old) list) } = cc in
      rw same (refl, omega arith)
]

pub step_fits : (calls : List Call) (s new : State) → step calls s ≡ Ok new → s.high ≤ length s.old → available s ≤ length s.old → (new.old ≡ s.old) × (new.high ≤ length s.old)
unfolding step
step_fits calls s new is high room = fits_front (length calls) s new (edited_by (ctx_of s.old) 0 calls s.list) is high room

with_area-longer : (ctx : Ctx) (old rest : List ℕ) (count : ℕ) (area : List ℕ) (high : ℕ) → header_size ctx.container ≤ length old → 28 ≤ header_size ctx.container → high ≤ length old → with_area ctx (old ++ rest) count area high ≡ with_area ctx old count area high ++ rest
unfolding with_area
with_area-longer ctx old rest count area high header least inside =
    let front : take 16 (old ++ rest) ≡ take 16 old = take-append-le 16 old rest (omega arith) in
    let behind : length (drop 24 old) ≡ length old - 24 = length-drop 24 old in
    let fields : take (header_size ctx.container - 24) (drop 24 old ++ rest) ≡ take (header_size ctx.container - 24) (drop 24 old) = take-append-le (header_size ctx.container - 24) (drop 24 old) rest (omega arith) in
    rw (front, drop-append-le 24 old rest (omega arith), fields, drop-append-le high old rest inside) (simp append_assoc)

laid_longer : (s : State) (rest : List ℕ) → ctx_of (s.old ++ rest) ≡ ctx_of s.old → header_size (ctx_of s.old).container ≤ length s.old → s.high ≤ length s.old → laid_bytes (longer_state rest s) ≡ laid_bytes s ++ rest
unfolding laid_bytes
laid_longer s rest form header inside =
    rw form (with_area-longer (ctx_of s.old) s.old rest (length s.list) (concat s.list) s.high header (header_size-least (ctx_of s.old).container) inside)

-- ---- as it is read

end_is : (front : List ℕ) → file_fault front ≡ None → commands_end (ctx_of front) front ≡ end_of (ctx_of front) (commands_of front)
end_is front ok =
    let is : IsFile front (ctx_of front) (commands_of front) = found front ok in
    ap (λ (n : ℕ). header_size (ctx_of front).container + n) is.size

pub first_longer : (front rest : List ℕ) → length (front ++ rest) < 2 ^ 32 → file_fault front ≡ None → first_state (front ++ rest) ≡ longer_state rest (first_state front)
unfolding first_state
first_longer front rest short ok =
    let same = accepts front rest short ok in
    let ends : commands_end (ctx_of front) (front ++ rest) ≡ commands_end (ctx_of front) front = commands_end-longer front rest ok in
    rw (same.1, same.2, ends) refl

-- a state as it is read ends in the front
pub record FirstFits (front : List ℕ) : Type 0 where
  pub header : header_size (ctx_of front).container ≤ length front
  pub high : (first_state front).high ≤ length front
  pub room : available (first_state front) ≤ length front

pub first_fits : (front : List ℕ) → IsThinFront front → FirstFits front
unfolding first_state
first_fits front is =
    let least = least_length front is.accepted in
    let content : first_content_of front < length front = is.content in
    record {
      header = omega (arith, least.1);
      high = omega (arith, least.1, end_is front is.accepted);
      room = omega (arith, least.1, content);
    }

pub found_longer : (front rest : List ℕ) → length (front ++ rest) < 2 ^ 32 → file_fault front ≡ None → begins_fat front ≡ false → (begins_fat (front ++ rest) ≡ false) × (container_found (front ++ rest) ≡ None) × (container_found front ≡ None)
unfolding container_found
found_longer front rest short ok thin =
    let least = least_length front ok in
    let shape : begins_fat (front ++ rest) ≡ false = same_shape front rest (omega (arith, least.0, least.1)) ∙ thin in
    let same = accepts front rest short ok in
    (shape, rw (shape, same.0) refl, rw (thin, ok) refl)

pub thin_container : (bytes' : List ℕ) → begins_fat bytes' ≡ false → first_container bytes' ≡ SingleArch (held_at_read bytes')
thin_container bytes' thin = rw thin refl

-- ---- what edits make of it

written_longer : (refusing : Refusal → Outcome) (rest : List ℕ) (is_edited : Bool) (answer : Result State Refusal) → ((refusal : Refusal) → with_rest rest (refusing refusal) ≡ refusing refusal) → ((s : State) → answer ≡ Ok s → laid_bytes (longer_state rest s) ≡ laid_bytes s ++ rest) → written refusing (as_thin is_edited (longer_answer rest answer)) ≡ with_rest rest (written refusing (as_thin is_edited answer))
written_longer refusing rest is_edited (Ok s) keeps laid = ap (λ (l : List ℕ). bytes l) (laid s refl)
written_longer refusing rest is_edited (Err refusal) keeps laid = sym (keeps refusal)

pub stepped : (calls : List Call) (front rest : List ℕ) → IsThinFront front → length (front ++ rest) < 2 ^ 32 → step calls (longer_state rest (first_state front)) ≡ longer_answer rest (step calls (first_state front))
unfolding first_state
stepped calls front rest is short =
    let same = accepts front rest short is.accepted in
    step_longer calls (first_state front) rest same.1 (same_content front rest short is.accepted is.content)

pub laid_made : (calls : List Call) (front rest : List ℕ) (s : State) → IsThinFront front → length (front ++ rest) < 2 ^ 32 → step calls (first_state front) ≡ Ok s → laid_bytes (longer_state rest s) ≡ laid_bytes s ++ rest
unfolding first_state
laid_made calls front rest s is short made =
    let fits : FirstFits front = first_fits front is in
    let same = accepts front rest short is.accepted in
    let ends = step_fits calls (first_state front) s made fits.high fits.room in
    let is_front : s.old ≡ front = ends.0 in
    laid_longer s rest (rw is_front same.1) (rw is_front fits.header) (rw ends.0 ends.1)

edited_longer : (refusing : Refusal → Outcome) (calls : List Call) (front rest : List ℕ) → IsThinFront front → length (front ++ rest) < 2 ^ 32 → ((refusal : Refusal) → with_rest rest (refusing refusal) ≡ refusing refusal) → edited_file refusing calls (front ++ rest) (container_found (front ++ rest)) ≡ with_rest rest (edited_file refusing calls front (container_found front))
unfolding container_step
edited_longer refusing calls front rest is short keeps =
    let f = found_longer front rest short is.accepted is.thin in
    rw (f.1, f.2, thin_container (front ++ rest) f.0, thin_container front is.thin, first_longer front rest short is.accepted, stepped calls front rest is short)
    (written_longer refusing rest (is_edited_by calls false) (step calls (first_state front)) keeps (λ s made. laid_made calls front rest s is short made))

pub front_decides : FrontDecides
front_decides (one call) front rest is short = edited_longer refused (call ∷ []) front rest is short (λ refusal. refl)
front_decides (several (Ok calls)) front rest is short = edited_longer refused_batch calls front rest is short (λ refusal. refl)
front_decides (several (Err wrong)) front rest is short = refl

-- ---- what it shows

pub thin_step : (calls : List Call) (front : List ℕ) → begins_fat front ≡ false → container_step calls (first_container front) ≡ as_thin (is_edited_by calls false) (step calls (first_state front))
unfolding container_step
thin_step calls front thin = rw (thin_container front thin) refl

-- bytes that show a state that fits show that of a longer file with the rest behind them
pub state_longer : (s : State) (rest new : List ℕ) → length (s.old ++ rest) < 2 ^ 32 → IsThinFront s.old → begins_fat new ≡ false → Shows s new → Shows (longer_state rest s) (new ++ rest)
state_longer s rest new short is thin shows =
    let long : length new ≡ length s.old = shows.long in
    let room : length (new ++ rest) < 2 ^ 32 = omega (arith, length-append new rest, length-append s.old rest) in
    let content : first_content_of s.old < length s.old = is.content in
    let first : first_content_of new ≡ first_content_of s.old = shows.first in
    let now = accepts new rest room shows.accepted in
    let then' = accepts s.old rest short is.accepted in
    record {
      accepted = now.0;
      form = now.1 ∙ shows.form ∙ sym then'.1;
      commands = now.2 ∙ shows.commands;
      first = same_content new rest room shows.accepted (omega (arith, first, long, content)) ∙ first ∙ sym (same_content s.old rest short is.accepted content);
      long = omega (arith, length-append new rest, length-append s.old rest, long);
    }

-- bytes that show a file that fits show that of a longer file with the rest behind them
file_longer : (s : State) (is_edited : Bool) (rest new : List ℕ) → length (s.old ++ rest) < 2 ^ 32 → IsThinFront s.old → ShowsFile (SingleArch (record { state = s; is_edited = is_edited })) new → ShowsFile (SingleArch (record { state = longer_state rest s; is_edited = is_edited })) (new ++ rest)
file_longer s is_edited rest new short is shows =
    let state : Shows s new = shows.state in
    let room : length (new ++ rest) < 2 ^ 32 = omega (arith, state.long, length-append new rest, length-append s.old rest) in
    let f = found_longer new rest room state.accepted shows.shape in
    record { accepted = f.1; shape = f.0; state = state_longer s rest new short is shows.shape state }

shows_by : (a : Asked) (calls : List Call) (front rest new : List ℕ) (made : MachoType) (answer : Result State Refusal) → IsThinFront front → length (front ++ rest) < 2 ^ 32 → AreAsked a calls → step calls (first_state front) ≡ answer → as_thin (is_edited_by calls false) answer ≡ Ok made → new ≡ container_bytes made → ShowsFile made new → ShowsEdited a (front ++ rest) (new ++ rest)
unfolding first_state
shows_by a calls front rest new made (Err refusal) is short are stepped_to is_made same shows = cc
shows_by a calls front rest new made (Ok s) is short are stepped_to is_made same shows =
    let fits : FirstFits front = first_fits front is in
    let ends = step_fits calls (first_state front) s stepped_to fits.high fits.room in
    let f = found_longer front rest short is.accepted is.thin in
    let file : MachoType = SingleArch (record { state = s; is_edited = is_edited_by calls false }) in
    let made_is : made ≡ file = cc in
    let Short : List ℕ → Type 0 = λ l. length (l ++ rest) < 2 ^ 32 in
    let Made : MachoType → Type 0 = λ m. ShowsFile m new in
    let now : step calls (first_state (front ++ rest)) ≡ Ok (longer_state rest s) =
    ap (step calls) (first_longer front rest short is.accepted) ∙ stepped calls front rest is short ∙ ap (longer_answer rest) stepped_to in
    record {
      calls = calls;
      are = are;
      made = SingleArch (record { state = longer_state rest s; is_edited = is_edited_by calls false });
      step = thin_step calls (front ++ rest) f.0 ∙ ap (as_thin (is_edited_by calls false)) now;
      bytes = ap (λ (l : List ℕ). l ++ rest) (same ∙ ap container_bytes made_is) ∙ sym (laid_made calls front rest s is short stepped_to);
      shows = file_longer s (is_edited_by calls false) rest new (subst Short (sym ends.0) short) (subst IsThinFront (sym ends.0) is) (subst Made made_is shows);
    }

pub shows_longer : (a : Asked) (front rest new : List ℕ) → IsThinFront front → length (front ++ rest) < 2 ^ 32 → ShowsEdited a front new → ShowsEdited a (front ++ rest) (new ++ rest)
shows_longer a front rest new is short shows =
    shows_by a shows.calls front rest new shows.made (step shows.calls (first_state front)) is short shows.are refl (sym (thin_step shows.calls front is.thin) ∙ shows.step) shows.bytes shows.shows

-- ---- whether it is signed

listed_longer : (front rest : List ℕ) → length (front ++ rest) < 2 ^ 32 → file_fault front ≡ None → load_commands_of (front ++ rest) ≡ load_commands_of front
unfolding load_commands_of
listed_longer front rest short ok =
    let same = accepts front rest short ok in
    rw (same.1, same.2) refl

laid_first : (front rest : List ℕ) → IsThinFront front → length (front ++ rest) < 2 ^ 32 → laid_bytes (first_state (front ++ rest)) ≡ laid_bytes (first_state front) ++ rest
unfolding first_state
laid_first front rest is short =
    let fits : FirstFits front = first_fits front is in
    let same = accepts front rest short is.accepted in
    ap laid_bytes (first_longer front rest short is.accepted) ∙ laid_longer (first_state front) rest same.1 fits.header fits.high

pub signed_longer : (front rest : List ℕ) → IsThinFront front → length (front ++ rest) < 2 ^ 32 → is_signed_file (first_container (front ++ rest)) ≡ is_signed_file (first_container front)
signed_longer front rest is short =
    let f = found_longer front rest short is.accepted is.thin in
    let read : laid_bytes (first_state front) ≡ front = ap container_bytes (sym (thin_container front is.thin)) ∙ first_bytes front is.bytes f.2 in
    let all_read : laid_bytes (first_state (front ++ rest)) ≡ front ++ rest = laid_first front rest is short ∙ ap (λ (l : List ℕ). l ++ rest) read in
    rw (thin_container (front ++ rest) f.0, thin_container front is.thin, all_read, read, listed_longer front rest short is.accepted) refl

-- What comes of a fat file, told by the fronts of its slices.
use Rattle.std.proofs.Common.{◌≡◌, ◌≤◌, ◌<◌, ◌^◌, ◌+◌, ◌-◌, ◌∙◌, ℕ, inl, inr, Bool, true, false, List, [], ◌∷◌, ◌++◌, length, take, drop, map, get_or, append_assoc, None, Option, Result, Ok, Err, refl, sym, ap, subst, arith}
use Rattle.std.specs.List.{All, AllZip, list_any}
use Rattle.std.specs.Prelude.{⊤}
use Rattle.std.proofs.Math.Seq.{drop-append-add, take-append-add}
use Rattle.std.proofs.lemmas.List.{drop-drop, length-append, length-drop, length-take-le, take-append-drop}
use Rattle.std.proofs.lemmas.List.Elements.{All-append, All-cons, All-head, All-map, All-nil, All-tail}
use Rattle.byte_store.proofs.LaidLaws.{laid-append as laid-both, length-laid, tail_lies}
use Rattle.byte_store.proofs.StandLaws.{stands_shifted}
use Rattle.byte_store.specs.Composed.{Stands}
use Rattle.byte_store.specs.Known.{put_at}
use Rattle.byte_store.specs.Laid.{LiesIn, Patch, laid}
use Rattle.byte_store.specs.Shown.{shifted}
use Rattle.macho_commands.proofs.FrontLaws.{first_fits, first_longer, found_longer, laid_made, longer_answer, longer_state, signed_longer, state_longer, step_fits, stepped, thin_container, thin_step}
use Rattle.macho_commands.proofs.LoadedLaws.{laid-append, put_at-append, short_joined, stand_longer}
use Rattle.macho_commands.specs.Engine.{AreAsked, Asked, Outcome, ShowsEdited, Tells, outcome_of, written}
use Rattle.macho_commands.specs.Engine.Asked.{one, several}
use Rattle.macho_commands.specs.Engine.Outcome.{bytes as new_bytes, no_edits, not_signed, refused, refused_batch}
use Rattle.macho_commands.specs.declared.error.MachoCommandError.{MachoCommandError}
use Rattle.macho_commands.specs.declared.error.MachoCommandError.TheVariants.{Edits, Io, Macho, MachoBatch, Memory, Signing as signing, Unfit}
use Rattle.macho_commands.specs.Sliced.{MakesFront, MakesFronts, RefusesFronts, is_signed_front}
use Rattle.macho_commands_stores.specs.Loading.{IsFrontOf, IsThinFront}
use Rattle.macho_commands_stores.specs.Signed.{is_signed, is_signed_file, is_signed_slice}
use Rattle.macho_commands_stores.specs.declared.slices.SliceFront.{SliceFront}
use Rattle.arwen_macho.proofs.ForCallers.{ApartFrom, AreLaid, AreShown, OutsideAll, SameTable, accepted_slice, accepted_whole, archs_same, behind_slices, fat_shows, fat_step_ok, get_or-laid_over, length-laid_over, length-put_at, shown-laid_over, slice-put_at_apart, table_same, take-laid_over}
use Rattle.arwen_macho.specs.Container.{as_fat, as_thin, container_bytes, container_step, first_container}
use Rattle.arwen_macho.specs.ContainerShown.{ShowsFile}
use Rattle.arwen_macho.specs.declared.macho.MachoType.{MachoType}
use Rattle.arwen_macho.specs.declared.macho.MachoType.TheVariants.{Fat, SingleArch}
use Rattle.arwen_macho.specs.FatShown.{FatShows, IsOutside}
use Rattle.arwen_macho.specs.Found.{Found, begins_fat, container_found, found_first, slice_found, slices_found}
use Rattle.arwen_macho.specs.Shown.{Shows}
use Rattle.arwen_macho.specs.FatState.{FatState, Slice, bytes_laid_over, fat_laid_bytes, fat_step, first_fat_state, first_slice, step_slices}
use Rattle.macho_commands_stores.proofs.SliceLaws.{rising_within}
use Rattle.macho_commands_stores.specs.Slices.{AreRising, HasSlices}
use Rattle.macho_edits.specs.Call.{Call}
use Rattle.macho_edits.specs.Held.{is_edited_by}
use Rattle.macho_edits.specs.State.{Refusal, State, first_state, laid_bytes, step}
use Rattle.macho_image.proofs.ForCallers.{accepts, table_passes}
use Rattle.macho_image.specs.Checks.{file_fault}
use Rattle.macho_image.specs.Fat.{AreSlices, archs_of, nfat_arch_of, slice_of, table_end}
use Rattle.macho_image.specs.declared.fat.FatArch.{FatArch}

-- ---- patches within a part of bytes

put_at-behind : (before : List ℕ) (at : ℕ) (part bytes : List ℕ) → put_at (length before + at) part (before ++ bytes) ≡ before ++ put_at at part bytes
put_at-behind before at part bytes =
    let front : take (length before + at) (before ++ bytes) ≡ before ++ take at bytes = take-append-add before bytes at in
    let place : length before + at + length part ≡ length before + (at + length part) = omega arith in
    let rest : drop (length before + at + length part) (before ++ bytes) ≡ drop (at + length part) bytes =
    ap (λ (n : ℕ). drop n (before ++ bytes)) place ∙ drop-append-add before bytes (at + length part) in
    rw (front, rest) (append_assoc before (take at bytes) (part ++ drop (at + length part) bytes))

pub laid_mid : (patches : List Patch) (before here behind : List ℕ) → All (LiesIn (length here)) patches → laid (map (shifted (length before)) patches) (before ++ (here ++ behind)) ≡ before ++ (laid patches here ++ behind)
laid_mid [] before here behind inside = refl
laid_mid (patch ∷ patches) before here behind inside =
    let lies = All-head (LiesIn (length here)) patch patches inside in
    ap (laid (map (shifted (length before)) patches))
    (put_at-behind before patch.offset patch.bytes (here ++ behind) ∙ ap (λ (l : List ℕ). before ++ l) (put_at-append patch.offset patch.bytes here behind lies))
    ∙ laid_mid patches before (put_at patch.offset patch.bytes here) behind (tail_lies patch patches here inside)

-- patches of a slice, over the bytes in which it lies
pub laid_in : (at size : ℕ) (patches : List Patch) (bytes : List ℕ) → at + size ≤ length bytes → All (LiesIn size) patches → laid (map (shifted at) patches) bytes ≡ put_at at (laid patches (take size (drop at bytes))) bytes
laid_in at size patches bytes room inside =
    let before : List ℕ = take at bytes in
    let here : List ℕ = take size (drop at bytes) in
    let behind : List ℕ = drop (at + size) bytes in
    let first : length before ≡ at = length-take-le at bytes (omega arith) in
    let many : length here ≡ size = length-take-le size (drop at bytes) (omega (arith, length-drop at bytes)) in
    let rest : drop size (drop at bytes) ≡ behind = drop-drop size at bytes in
    let whole : bytes ≡ before ++ (here ++ behind) =
    sym (ap (λ (l : List ℕ). before ++ (here ++ l)) (sym rest) ∙ ap (λ (l : List ℕ). before ++ l) (take-append-drop size (drop at bytes)) ∙ take-append-drop at bytes) in
    let Inside : ℕ → Type 0 = λ n. All (LiesIn n) patches in
    let fits = subst Inside (sym many) inside in
    let long : length (laid patches here) ≡ size = length-laid patches here fits ∙ many in
    ap (λ (n : ℕ). laid (map (shifted n) patches) bytes) (sym first)
    ∙ ap (laid (map (shifted (length before)) patches)) whole
    ∙ laid_mid patches before here behind fits
    ∙ ap (λ (n : ℕ). before ++ (laid patches here ++ drop (at + n) bytes)) (sym long)

-- ---- slices under edits

-- a slice, what edits make of it, and the patches of it that do so
pub record Part : Type 0 where
  pub arch : FatArch
  pub state : State
  pub patches : List Patch

pub record IsPart (calls : List Call) (file : List ℕ) (p : Part) : Type 0 where
  pub steps : step calls (first_state (slice_of file p.arch)) ≡ Ok p.state
  pub shows : Shows p.state (laid_bytes p.state)
  pub made : laid_bytes p.state ≡ laid p.patches (slice_of file p.arch)
  pub inside : All (LiesIn p.arch.size) p.patches
  pub stand : All (Stands (laid_bytes p.state)) p.patches
  pub long : length (laid_bytes p.state) ≡ p.arch.size

abbrev pub AreParts : List Call → List ℕ → List Part → Type 0
AreParts calls file [] = ⊤
AreParts calls file (p ∷ parts) = IsPart calls file p × AreParts calls file parts

abbrev pub arch_in : Part → FatArch
arch_in p = p.arch

abbrev pub slice_in : Part → Slice
slice_in p = record { arch = p.arch; state = p.state }

abbrev pub patches_in : List Part → List Patch
patches_in [] = []
patches_in (p ∷ parts) = map (shifted p.arch.offset) p.patches ++ patches_in parts

archs_in : (parts : List Part) → map (λ (s : Slice). s.arch) (map slice_in parts) ≡ map arch_in parts
archs_in [] = refl
archs_in (p ∷ parts) = ap (λ (l : List FatArch). p.arch ∷ l) (archs_in parts)

-- what edits make of all of them
steps_in : (calls : List Call) (file : List ℕ) (parts : List Part) → AreParts calls file parts → step_slices calls (map (first_slice file) (map arch_in parts)) ≡ Ok (map slice_in parts)
steps_in calls file [] are = refl
steps_in calls file (p ∷ parts) are = rw (are.0.steps, steps_in calls file parts are.1) refl

-- the parts of a file lie apart
apart_after : (a : FatArch) (start size : ℕ) (parts : List Part) → a.offset + a.size ≤ start → AreRising start size (map arch_in parts) → ApartFrom a (map slice_in parts)
apart_after a start size [] low rising = tt
apart_after a start size (p ∷ parts) low rising =
    (inl (omega (arith, rising.0)), apart_after a (p.arch.offset + p.arch.size) size parts (omega (arith, rising.0)) rising.2)

pub lie_in : (calls : List Call) (file : List ℕ) (start size : ℕ) (parts : List Part) → AreRising start size (map arch_in parts) → AreParts calls file parts → AreLaid size (map slice_in parts)
lie_in calls file start size [] rising are = tt
lie_in calls file start size (p ∷ parts) rising are = (
  record { inside = rising_within (p.arch.offset + p.arch.size) size (map arch_in parts) rising.2; long = are.0.long },
  (
    apart_after p.arch (p.arch.offset + p.arch.size) size parts (omega arith) rising.2,
    lie_in calls file (p.arch.offset + p.arch.size) size parts rising.2 are.1,
  ),
)

-- slices that bytes have as the file has them
abbrev pub SameSlices : List ℕ → List ℕ → List Part → Type 0
SameSlices file bytes [] = ⊤
SameSlices file bytes (p ∷ parts) = (slice_of bytes p.arch ≡ slice_of file p.arch) × SameSlices file bytes parts

pub same_first : (file : List ℕ) (parts : List Part) → SameSlices file file parts
same_first file [] = tt
same_first file (p ∷ parts) = (refl, same_first file parts)

same_after : (at start size : ℕ) (part file bytes : List ℕ) (parts : List Part) → at + length part ≤ start → at ≤ length bytes → AreRising start size (map arch_in parts) → SameSlices file bytes parts → SameSlices file (put_at at part bytes) parts
same_after at start size part file bytes [] low room rising same = tt
same_after at start size part file bytes (p ∷ parts) low room rising same = (
  slice-put_at_apart p.arch.offset p.arch.size at part bytes (inr (omega (arith, rising.0))) room ∙ same.0,
  same_after at (p.arch.offset + p.arch.size) size part file bytes parts (omega (arith, rising.0)) room rising.2 same.1,
)

-- the bytes of slices, laid over those of the file
pub over_in : (calls : List Call) (file bytes : List ℕ) (start size : ℕ) (parts : List Part) → length bytes ≡ size → AreRising start size (map arch_in parts) → SameSlices file bytes parts → AreParts calls file parts → bytes_laid_over (map slice_in parts) bytes ≡ laid (patches_in parts) bytes
over_in calls file bytes start size [] long rising same are = refl
over_in calls file bytes start size (p ∷ parts) long rising same are =
    let at : ℕ = p.arch.offset in
    let end : ℕ = at + p.arch.size in
    let part : List ℕ = laid_bytes p.state in
    let within : end ≤ size = rising_within end size (map arch_in parts) rising.2 in
    let many : length part ≡ p.arch.size = are.0.long in
    let here : laid (map (shifted at) p.patches) bytes ≡ put_at at part bytes =
    laid_in at p.arch.size p.patches bytes (omega arith) are.0.inside
    ∙ ap (λ (l : List ℕ). put_at at (laid p.patches l) bytes) same.0
    ∙ ap (λ (l : List ℕ). put_at at l bytes) (sym are.0.made) in
    let next : length (put_at at part bytes) ≡ size = length-put_at at part bytes (omega arith) ∙ long in
    over_in calls file (put_at at part bytes) end size parts next rising.2 (same_after at end size part file bytes parts (omega arith) (omega arith) rising.2 same.1) are.1
    ∙ ap (laid (patches_in parts)) (sym here)
    ∙ sym (laid-both (map (shifted at) p.patches) (patches_in parts) bytes)

-- what stands in a part of bytes stands in them, further behind
pub stand_further : (at size : ℕ) (new part : List ℕ) (patches : List Patch) → part ≡ take size (drop at new) → length part ≡ size → All (LiesIn size) patches → All (Stands part) patches → All (Stands new) (map (shifted at) patches)
stand_further at size new part patches is long inside stand =
    All-map (Stands new) (shifted at) patches (λ i d below.
    let lies = inside i d below in
    let same : at + length part - at ≡ size = omega (arith, long) in
    stands_shifted at part new (get_or patches i d) (omega (arith, lies, long)) (ap (λ (n : ℕ). take n (drop at new)) same ∙ sym is) (stand i d below))

-- the patches of slices stand in bytes that show the slices
stand_in : (calls : List Call) (file new : List ℕ) (parts : List Part) → AreParts calls file parts → AreShown new (map slice_in parts) → All (Stands new) (patches_in parts)
stand_in calls file new [] are shown = All-nil (Stands new)
stand_in calls file new (p ∷ parts) are shown =
    All-append (Stands new) (map (shifted p.arch.offset) p.patches) (patches_in parts)
    (stand_further p.arch.offset p.arch.size new (laid_bytes p.state) p.patches (sym shown.0) are.0.long are.0.inside are.0.stand)
    (stand_in calls file new parts are.1 shown.1)

pub stand_all : (calls : List Call) (file : List ℕ) (start : ℕ) (parts : List Part) → AreRising start (length file) (map arch_in parts) → AreParts calls file parts → All (Stands (laid (patches_in parts) file)) (patches_in parts)
stand_all calls file start parts rising are =
    let slices : List Slice = map slice_in parts in
    let Shown : List ℕ → Type 0 = λ l. AreShown l slices in
    let over : bytes_laid_over slices file ≡ laid (patches_in parts) file = over_in calls file file start (length file) parts refl rising (same_first file parts) are in
    let shown = shown-laid_over (length file) slices file refl (lie_in calls file start (length file) parts rising are) in
    stand_in calls file (laid (patches_in parts) file) parts are (subst Shown over shown)

-- what these bytes show
found_in : (calls : List Call) (file new : List ℕ) (parts : List Part) → AreParts calls file parts → AreShown new (map slice_in parts) → slices_found (map (slice_of new) (map arch_in parts)) ≡ None
found_in calls file new [] are shown = refl
found_in calls file new (p ∷ parts) are shown =
    let here : slice_found (slice_of new p.arch) ≡ None = ap slice_found shown.0 ∙ accepted_slice (laid_bytes p.state) are.0.shows.accepted in
    ap (λ (f : Option Found). found_first f (slices_found (map (slice_of new) (map arch_in parts)))) here ∙ found_in calls file new parts are.1 shown.1

all_shown : (new : List ℕ) (slices : List Slice) → AreShown new slices → All (λ s. slice_of new s.arch ≡ laid_bytes s.state) slices
all_shown new [] shown = All-nil (λ (s : Slice). slice_of new s.arch ≡ laid_bytes s.state)
all_shown new (s ∷ slices) shown = All-cons (λ (s : Slice). slice_of new s.arch ≡ laid_bytes s.state) s slices shown.0 (all_shown new slices shown.1)

all_show : (calls : List Call) (file new : List ℕ) (parts : List Part) → AreParts calls file parts → AreShown new (map slice_in parts) → All (λ s. Shows s.state (slice_of new s.arch)) (map slice_in parts)
all_show calls file new [] are shown = All-nil (λ (s : Slice). Shows s.state (slice_of new s.arch))
all_show calls file new (p ∷ parts) are shown =
    let P : List ℕ → Type 0 = Shows p.state in
    All-cons (λ (s : Slice). Shows s.state (slice_of new s.arch)) (slice_in p) (map slice_in parts) (subst P (sym shown.0) are.0.shows) (all_show calls file new parts are.1 shown.1)

outside_in : (p : ℕ) (slices : List Slice) → All (λ s. IsOutside p s.arch) slices → OutsideAll p slices
outside_in p [] all = tt
outside_in p (s ∷ slices) all =
    (All-head (λ (s : Slice). IsOutside p s.arch) s slices all, outside_in p slices (All-tail (λ (s : Slice). IsOutside p s.arch) s slices all))

shows_in : (calls : List Call) (file : List ℕ) (start : ℕ) (parts : List Part) → HasSlices file (map arch_in parts) → AreRising start (length file) (map arch_in parts) → AreParts calls file parts → FatShows (record { old = file; slices = map slice_in parts }) (bytes_laid_over (map slice_in parts) file)
shows_in calls file start parts has rising are =
    let slices : List Slice = map slice_in parts in
    let new : List ℕ = bytes_laid_over slices file in
    let end : ℕ = table_end (nfat_arch_of file) in
    let lie = lie_in calls file start (length file) parts rising are in
    let Lie : List FatArch → Type 0 = AreSlices (length file) end in
    let behind = behind_slices (length file) end slices (subst Lie (has.archs_are ∙ sym (archs_in parts)) (table_passes file has.passes).3) in
    let same : SameTable file new = record { long = length-laid_over (length file) slices file refl lie; front = take-laid_over end (length file) slices file refl behind lie } in
    let shown = shown-laid_over (length file) slices file refl lie in
    let archs : archs_of new ≡ archs_of file = archs_same file new same in
    let found : slices_found (map (slice_of new) (archs_of new)) ≡ None =
    ap (λ (l : List FatArch). slices_found (map (slice_of new) l)) (archs ∙ has.archs_are) ∙ found_in calls file new parts are shown in
    record {
      accepted = accepted_whole new (table_same file new same ∙ has.passes) found;
      long = same.long;
      archs = archs;
      slices = all_shown new slices shown;
      shown = all_show calls file new parts are shown;
      outside = λ p all. get_or-laid_over p 0 (length file) slices file refl (outside_in p slices all) lie;
    }

-- ---- a slice, told by its front

pub record SliceMade (calls : List Call) (slice : List ℕ) (patches : List Patch) (t : State) : Type 0 where
  pub steps : step calls (first_state slice) ≡ Ok t
  pub shows : Shows t (laid_bytes t)
  pub made : laid_bytes t ≡ laid patches slice

longer_made : (calls : List Call) (front rest new : List ℕ) (patches : List Patch) (s : State) (flag : Bool) → IsThinFront front → length (front ++ rest) < 2 ^ 32 → All (LiesIn (length front)) patches → step calls (first_state front) ≡ Ok s → new ≡ laid_bytes s → new ≡ laid patches front → ShowsFile (SingleArch (record { state = s; is_edited = flag })) new → SliceMade calls (front ++ rest) patches (longer_state rest s)
unfolding first_state
longer_made calls front rest new patches s flag is short inside stepped_to laid_is new_is shows =
    let fits = first_fits front is in
    let old : s.old ≡ front = (step_fits calls (first_state front) s stepped_to fits.high fits.room).0 in
    let Short : List ℕ → Type 0 = λ l. length (l ++ rest) < 2 ^ 32 in
    let Shown : List ℕ → Type 0 = Shows (longer_state rest s) in
    let all : laid_bytes (longer_state rest s) ≡ laid_bytes s ++ rest = laid_made calls front rest s is short stepped_to in
    record {
      steps = ap (step calls) (first_longer front rest short is.accepted) ∙ stepped calls front rest is short ∙ ap (longer_answer rest) stepped_to;
      shows = subst Shown (ap (λ (l : List ℕ). l ++ rest) laid_is ∙ sym all) (state_longer s rest new (subst Short (sym old) short) (subst IsThinFront (sym old) is) shows.shape shows.state);
      made = all ∙ ap (λ (l : List ℕ). l ++ rest) (sym laid_is ∙ new_is) ∙ sym (laid-append patches front rest inside);
    }

-- the state of a thin file that a batch makes
thin_made : (flag : Bool) (answer : Result State Refusal) (made : MachoType) → as_thin flag answer ≡ Ok made → (s : State) × (answer ≡ Ok s) × (made ≡ SingleArch (record { state = s; is_edited = flag }))
thin_made flag (Err refusal) made e = absurd (cc)
thin_made flag (Ok s) made e = (s, refl, let same : SingleArch (record { state = s; is_edited = flag }) ≡ made = cc in sym same)

front_made : (a : Asked) (calls : List Call) (front rest : List ℕ) (patches : List Patch) → AreAsked a calls → IsThinFront front → length (front ++ rest) < 2 ^ 32 → MakesFront a front patches → (t : State) × SliceMade calls (front ++ rest) patches t
front_made a calls front rest patches are is short makes =
    let new : List ℕ = laid patches front in
    let flag : Bool = is_edited_by calls false in
    let shows : ShowsEdited a front new = makes.shows in
    let same : shows.calls ≡ calls = same_calls a shows.calls calls shows.are are in
    let stepped_to : as_thin flag (step calls (first_state front)) ≡ Ok shows.made =
    sym (thin_step calls front is.thin) ∙ ap (λ (l : List Call). container_step l (first_container front)) (sym same) ∙ shows.step in
    let made = thin_made flag (step calls (first_state front)) shows.made stepped_to in
    let Shown : MachoType → Type 0 = λ m. ShowsFile m new in
    (longer_state rest made.0, longer_made calls front rest new patches made.0 flag is short makes.inside made.1 (shows.bytes ∙ ap container_bytes made.2) refl (subst Shown made.2 shows.shows))
  where
    same_calls : (a : Asked) (x y : List Call) → AreAsked a x → AreAsked a y → x ≡ y
    same_calls (one call) x y first second = first ∙ sym second
    same_calls (several edits) x y first second = cc

-- the front of a slice of a file
pub record IsSliceFront (file : List ℕ) (arch : FatArch) (front : SliceFront) : Type 0 where
  pub offset : front.offset ≡ arch.offset
  pub size : front.size ≡ arch.size
  pub is : IsFrontOf front.bytes.items (slice_of file arch)
  pub long : length (slice_of file arch) ≡ arch.size

abbrev pub AreSliceFronts : List ℕ → List FatArch → List SliceFront → Type 0
AreSliceFronts file archs fronts = AllZip (IsSliceFront file) archs fronts

pub part_made : (a : Asked) (calls : List Call) (file : List ℕ) (arch : FatArch) (front : SliceFront) (patches : List Patch) → AreAsked a calls → IsSliceFront file arch front → MakesFront a front.bytes.items patches → (state : State) × IsPart calls file (record { arch = arch; state = state; patches = patches })
part_made a calls file arch front patches are is makes =
    let bytes' : List ℕ = front.bytes.items in
    let made = front_made a calls bytes' is.is.rest patches are is.is.thin (short_joined bytes' (slice_of file arch) is.is) makes in
    let Made : List ℕ → Type 0 = λ l. SliceMade calls l patches made.0 in
    let slice = subst Made is.is.joined made.1 in
    let fits : length bytes' ≤ arch.size = omega (arith, is.long, ap length is.is.joined, length-append bytes' is.is.rest) in
    let Inside : ℕ → Type 0 = λ n. All (LiesIn n) patches in
    let inside : All (LiesIn arch.size) patches = λ i d below. let lies = makes.inside i d below in omega (arith, lies, fits) in
    let Stood : List ℕ → Type 0 = λ l. All (Stands l) patches in
    let Over : List ℕ → Type 0 = λ l. All (Stands (laid patches l)) patches in
    let stands : All (Stands (laid patches (bytes' ++ is.is.rest))) patches =
    subst Stood (sym (laid-append patches bytes' is.is.rest makes.inside)) (stand_longer patches bytes' is.is.rest makes.inside makes.stand) in (
      made.0,
      record {
        steps = slice.steps;
        shows = slice.shows;
        made = slice.made;
        inside = inside;
        stand = subst Stood (sym slice.made) (subst Over is.is.joined stands);
        long = ap length slice.made ∙ length-laid patches (slice_of file arch) (subst Inside (sym is.long) inside) ∙ is.long;
      },
    )

-- the slices of a file that are told by these fronts
pub record Parts (calls : List Call) (file : List ℕ) (archs : List FatArch) (patches : List Patch) : Type 0 where
  pub parts : List Part
  pub archs_are : map arch_in parts ≡ archs
  pub patches_are : patches_in parts ≡ patches
  pub are : AreParts calls file parts

pub parts_of : (a : Asked) (calls : List Call) (file : List ℕ) (archs : List FatArch) (fronts : List SliceFront) (patches : List Patch) → AreAsked a calls → AreSliceFronts file archs fronts → MakesFronts a fronts patches → Parts calls file archs patches
parts_of a calls file [] [] patches are fronts_are makes = record { parts = []; archs_are = refl; patches_are = sym makes; are = tt }
parts_of a calls file [] (front ∷ fronts) patches are fronts_are makes = absurd fronts_are
parts_of a calls file (arch ∷ archs) [] patches are fronts_are makes = absurd fronts_are
parts_of a calls file (arch ∷ archs) (front ∷ fronts) patches are fronts_are makes =
    let here = part_made a calls file arch front makes.0 are fronts_are.0 makes.3 in
    let rest = parts_of a calls file archs fronts makes.1 are fronts_are.1 makes.4 in
    record {
      parts = record { arch = arch; state = here.0; patches = makes.0 } ∷ rest.parts;
      archs_are = ap (λ (l : List FatArch). arch ∷ l) rest.archs_are;
      patches_are =
          ap (λ (l : List Patch). map (shifted arch.offset) makes.0 ++ l) rest.patches_are
          ∙ ap (λ (n : ℕ). map (shifted n) makes.0 ++ makes.1) (sym fronts_are.0.offset)
          ∙ sym makes.2;
      are = (here.1, rest.are);
    }

-- ---- the file

found_all : (file : List ℕ) (archs : List FatArch) (fronts : List SliceFront) → AreSliceFronts file archs fronts → slices_found (map (slice_of file) archs) ≡ None
found_all file [] [] are = refl
found_all file [] (front ∷ fronts) are = absurd are
found_all file (arch ∷ archs) [] are = absurd are
found_all file (arch ∷ archs) (front ∷ fronts) are =
    let is = are.0.is in
    let slice : List ℕ = slice_of file arch in
    let P : List ℕ → Type 0 = λ l. file_fault l ≡ None in
    let accepted : file_fault slice ≡ None = subst P is.joined (accepts front.bytes.items is.rest (short_joined front.bytes.items slice is) is.thin.accepted).0 in
    ap (λ (f : Option Found). found_first f (slices_found (map (slice_of file) archs))) (accepted_slice slice accepted) ∙ found_all file archs fronts are.1

pub sliced_found : (file : List ℕ) (archs : List FatArch) (fronts : List SliceFront) → HasSlices file archs → AreSliceFronts file archs fronts → container_found file ≡ None
unfolding container_found
sliced_found file archs fronts has are =
    rw has.begins (accepted_whole file has.passes (ap (λ (l : List FatArch). slices_found (map (slice_of file) l)) has.archs_are ∙ found_all file archs fronts are))

abbrev state_in : List ℕ → List Part → FatState
state_in file parts = record { old = file; slices = map slice_in parts }

abbrev file_in : List Call → List ℕ → List Part → MachoType
file_in calls file parts = Fat (record { state = state_in file parts; is_edited = is_edited_by calls false })

fat_stepped : (calls : List Call) (file : List ℕ) (parts : List Part) → archs_of file ≡ map arch_in parts → AreParts calls file parts → fat_step calls (first_fat_state file) ≡ Ok (state_in file parts)
unfolding first_fat_state
fat_stepped calls file parts archs are =
    fat_step_ok calls (first_fat_state file) (map slice_in parts) (ap (λ (l : List FatArch). step_slices calls (map (first_slice file) l)) archs ∙ steps_in calls file parts are)

container_stepped : (calls : List Call) (file : List ℕ) (answer : Result FatState Refusal) → begins_fat file ≡ true → fat_step calls (first_fat_state file) ≡ answer → container_step calls (first_container file) ≡ as_fat (is_edited_by calls false) answer
unfolding container_step
container_stepped calls file answer begins stepped_to = rw begins (ap (as_fat (is_edited_by calls false)) stepped_to)

laid_over : (calls : List Call) (file : List ℕ) (start : ℕ) (parts : List Part) → AreRising start (length file) (map arch_in parts) → AreParts calls file parts → fat_laid_bytes (state_in file parts) ≡ laid (patches_in parts) file
unfolding fat_laid_bytes
laid_over calls file start parts rising are = over_in calls file file start (length file) parts refl rising (same_first file parts) are

shows_laid : (calls : List Call) (file : List ℕ) (start : ℕ) (parts : List Part) → HasSlices file (map arch_in parts) → AreRising start (length file) (map arch_in parts) → AreParts calls file parts → FatShows (state_in file parts) (fat_laid_bytes (state_in file parts))
unfolding fat_laid_bytes
shows_laid calls file start parts has rising are = shows_in calls file start parts has rising are

edited_by_parts : (a : Asked) (calls : List Call) (file : List ℕ) (start : ℕ) (parts : List Part) → AreAsked a calls → HasSlices file (map arch_in parts) → AreRising start (length file) (map arch_in parts) → AreParts calls file parts → ShowsEdited a file (laid (patches_in parts) file)
edited_by_parts a calls file start parts asks has rising are =
    let bytes' : fat_laid_bytes (state_in file parts) ≡ laid (patches_in parts) file = laid_over calls file start parts rising are in
    let Shown : List ℕ → Type 0 = ShowsFile (file_in calls file parts) in
    record {
      calls = calls;
      are = asks;
      made = file_in calls file parts;
      step = container_stepped calls file (Ok (state_in file parts)) has.begins (fat_stepped calls file parts has.archs_are are);
      bytes = sym bytes';
      shows = subst Shown bytes' (fat_shows (record { state = state_in file parts; is_edited = is_edited_by calls false }) (fat_laid_bytes (state_in file parts)) (shows_laid calls file start parts has rising are));
    }

-- the outcome of a file whose edits show something
outcome_shown : (a : Asked) (file new : List ℕ) (shows : ShowsEdited a file new) → container_found file ≡ None → outcome_of a file ≡ new_bytes new
outcome_shown (one call) file new shows found =
    rw found (ap (λ (l : List Call). written refused (container_step l (first_container file))) (sym shows.are) ∙ ap (written refused) shows.step ∙ ap (λ (l : List ℕ). new_bytes l) (sym shows.bytes))
outcome_shown (several edits) file new shows found =
    rw (shows.are, found) (ap (written refused_batch) shows.step ∙ ap (λ (l : List ℕ). new_bytes l) (sym shows.bytes))

-- what edits make of a fat file is made by the patches of its slices' fronts
pub sliced_makes : (a : Asked) (file : List ℕ) (start : ℕ) (archs : List FatArch) (fronts : List SliceFront) (patches : List Patch) → 0 < length archs → HasSlices file archs → AreRising start (length file) archs → AreSliceFronts file archs fronts → MakesFronts a fronts patches → (outcome_of a file ≡ new_bytes (laid patches file)) × ShowsEdited a file (laid patches file) × All (Stands (laid patches file)) patches
sliced_makes a file start [] fronts patches some has rising are makes = absurd (omega (arith, some))
sliced_makes a file start (arch ∷ archs) [] patches some has rising are makes = absurd are
sliced_makes a file start (arch ∷ archs) (front ∷ fronts) patches some has rising are makes =
    let calls : List Call = makes.3.shows.calls in
    let of : Parts calls file (arch ∷ archs) patches = parts_of a calls file (arch ∷ archs) (front ∷ fronts) patches makes.3.shows.are are makes in
    let Has : List FatArch → Type 0 = HasSlices file in
    let Rising : List FatArch → Type 0 = AreRising start (length file) in
    let Shown : List Patch → Type 0 = λ l. ShowsEdited a file (laid l file) in
    let Stood : List Patch → Type 0 = λ l. All (Stands (laid l file)) l in
    let rise = subst Rising (sym of.archs_are) rising in
    let shows = subst Shown of.patches_are (edited_by_parts a calls file start of.parts makes.3.shows.are (subst Has (sym of.archs_are) has) rise of.are) in (
      outcome_shown a file (laid patches file) shows (sliced_found file (arch ∷ archs) (front ∷ fronts) has are),
      shows,
      subst Stood of.patches_are (stand_all calls file start of.parts rise of.are),
    )

-- ---- refusals

tells_any : (new : List ℕ) (o : Outcome) (e : MachoCommandError) → Tells (new_bytes new) e → Tells o e
tells_any new o Memory tells = tt
tells_any new o (Macho e) tells = absurd tells
tells_any new o (MachoBatch e) tells = absurd tells
tells_any new o (Edits wrong) tells = absurd (let is : new_bytes new ≡ no_edits wrong = tells in cc)
tells_any new o (signing fault) tells = absurd (let is : new_bytes new ≡ not_signed fault = tells in cc)
tells_any new o Unfit tells = absurd tells
tells_any new o (Io e) tells = absurd tells

record Split (file : List ℕ) (archs : List FatArch) (before : List SliceFront) (front : SliceFront) : Type 0 where
  first : List FatArch
  arch : FatArch
  rest : List FatArch
  are : archs ≡ first ++ arch ∷ rest
  fronts : AreSliceFronts file first before
  here : IsSliceFront file arch front

split_at_front : (file : List ℕ) (archs : List FatArch) (before : List SliceFront) (front : SliceFront) (behind : List SliceFront) → AreSliceFronts file archs (before ++ front ∷ behind) → Split file archs before front
split_at_front file [] [] front behind zip = absurd zip
split_at_front file (arch ∷ archs) [] front behind zip = record { first = []; arch = arch; rest = archs; are = refl; fronts = tt; here = zip.0 }
split_at_front file [] (f ∷ before) front behind zip = absurd zip
split_at_front file (a ∷ archs) (f ∷ before) front behind zip =
    let split = split_at_front file archs before front behind zip.1 in
    record { first = a ∷ split.first; arch = split.arch; rest = split.rest; are = ap (λ (l : List FatArch). a ∷ l) split.are; fronts = (zip.0, split.fronts); here = split.here }

refuse_in : (calls : List Call) (file : List ℕ) (parts : List Part) (arch : FatArch) (rest : List FatArch) (refusal : Refusal) → AreParts calls file parts → step calls (first_state (slice_of file arch)) ≡ Err refusal → step_slices calls (map (first_slice file) (map arch_in parts ++ arch ∷ rest)) ≡ Err refusal
refuse_in calls file [] arch rest refusal are is = rw is refl
refuse_in calls file (p ∷ parts) arch rest refusal are is = rw (are.0.steps, refuse_in calls file parts arch rest refusal are.1 is) refl

fat_refuses : (calls : List Call) (file : List ℕ) (refusal : Refusal) → step_slices calls (map (first_slice file) (archs_of file)) ≡ Err refusal → fat_step calls (first_fat_state file) ≡ Err refusal
unfolding fat_step first_fat_state
fat_refuses calls file refusal is = rw is refl

slice_refuses : (calls : List Call) (front slice : List ℕ) (refusal : Refusal) → IsFrontOf front slice → step calls (first_state front) ≡ Err refusal → step calls (first_state slice) ≡ Err refusal
slice_refuses calls front slice refusal is refuses =
    let short = short_joined front slice is in
    let P : List ℕ → Type 0 = λ l. step calls (first_state l) ≡ Err refusal in
    subst P is.joined (ap (step calls) (first_longer front is.rest short is.thin.accepted) ∙ stepped calls front is.rest is.thin short ∙ ap (longer_answer is.rest) refuses)

file_refuses : (refusing : Refusal → Outcome) (calls : List Call) (file : List ℕ) (archs : List FatArch) (parts : List Part) (arch : FatArch) (rest : List FatArch) (refusal : Refusal) → HasSlices file archs → archs ≡ map arch_in parts ++ arch ∷ rest → AreParts calls file parts → step calls (first_state (slice_of file arch)) ≡ Err refusal → written refusing (container_step calls (first_container file)) ≡ refusing refusal
file_refuses refusing calls file archs parts arch rest refusal has split are is =
    let slices : step_slices calls (map (first_slice file) (archs_of file)) ≡ Err refusal =
    ap (λ (l : List FatArch). step_slices calls (map (first_slice file) l)) (has.archs_are ∙ split) ∙ refuse_in calls file parts arch rest refusal are is in
    ap (written refusing) (container_stepped calls file (Err refusal) has.begins (fat_refuses calls file refusal slices))

tells_by : (refusing : Refusal → Outcome) (a : Asked) (calls : List Call) (file : List ℕ) (archs : List FatArch) (fronts : List SliceFront) (e : MachoCommandError) → AreAsked a calls → ((l : List ℕ) → container_found l ≡ None → outcome_of a l ≡ written refusing (container_step calls (first_container l))) → HasSlices file archs → AreSliceFronts file archs fronts → RefusesFronts a fronts e → Tells (outcome_of a file) e
tells_by refusing a calls file archs fronts e asks outcome has are refuses =
    let All : List SliceFront → Type 0 = AreSliceFronts file archs in
    let split = split_at_front file archs refuses.before refuses.front refuses.behind (subst All refuses.are are) in
    let parts = parts_of a calls file split.first refuses.before refuses.patches asks split.fronts refuses.makes in
    let front : List ℕ = refuses.front.bytes.items in
    let is : IsFrontOf front (slice_of file split.arch) = split.here.is in
    let found = (found_longer front is.rest (short_joined front (slice_of file split.arch) is) is.thin.accepted is.thin.thin).2 in
    let here : outcome_of a front ≡ written refusing (as_thin (is_edited_by calls false) (step calls (first_state front))) = outcome front found ∙ ap (written refusing) (thin_step calls front is.thin.thin) in
    let P : Outcome → Type 0 = λ o. Tells o e in
    go (step calls (first_state front)) refl (subst P here refuses.tells)
    (λ refusal told. sym (outcome file (sliced_found file archs fronts has are)
    ∙ file_refuses refusing calls file archs parts.parts split.arch split.rest refusal has (split.are ∙ ap (λ (l : List FatArch). l ++ split.arch ∷ split.rest) (sym parts.archs_are)) parts.are (slice_refuses calls front (slice_of file split.arch) refusal is told)))
  where
    go : (answer : Result State Refusal) → step calls (first_state refuses.front.bytes.items) ≡ answer → Tells (written refusing (as_thin (is_edited_by calls false) answer)) e → ((refusal : Refusal) → step calls (first_state refuses.front.bytes.items) ≡ Err refusal → refusing refusal ≡ outcome_of a file) → Tells (outcome_of a file) e
    go (Ok s) is told refused' = tells_any (laid_bytes s) (outcome_of a file) e told
    go (Err refusal) is told refused' =
        let P : Outcome → Type 0 = λ o. Tells o e in
        subst P (refused' refusal is) told

pub sliced_tells : (a : Asked) (file : List ℕ) (archs : List FatArch) (fronts : List SliceFront) (e : MachoCommandError) → HasSlices file archs → AreSliceFronts file archs fronts → RefusesFronts a fronts e → Tells (outcome_of a file) e
sliced_tells (one call) file archs fronts e has are refuses = tells_by refused (one call) (call ∷ []) file archs fronts e refl (λ l found. rw found refl) has are refuses
sliced_tells (several (Ok calls)) file archs fronts e has are refuses = tells_by refused_batch (several (Ok calls)) calls file archs fronts e refl (λ l found. rw found refl) has are refuses
sliced_tells (several (Err wrong)) file archs fronts e has are refuses = refuses.tells

-- ---- whether it is signed

signed_slices : (file : List ℕ) (archs : List FatArch) (fronts : List SliceFront) → AreSliceFronts file archs fronts → list_any is_signed_slice (map (first_slice file) archs) ≡ list_any is_signed_front fronts
signed_slices file [] [] are = refl
signed_slices file [] (front ∷ fronts) are = absurd are
signed_slices file (arch ∷ archs) [] are = absurd are
signed_slices file (arch ∷ archs) (front ∷ fronts) are =
    let is = are.0.is in
    let slice : List ℕ = slice_of file arch in
    let short = short_joined front.bytes.items slice is in
    let f = found_longer front.bytes.items is.rest short is.thin.accepted is.thin.thin in
    let P : List ℕ → Type 0 = λ l. is_signed (laid_bytes (first_state l)) ≡ is_signed_front front in
    let here : is_signed (laid_bytes (first_state slice)) ≡ is_signed_front front =
    subst P is.joined (ap is_signed_file (sym (thin_container (front.bytes.items ++ is.rest) f.0)) ∙ signed_longer front.bytes.items is.rest is.thin short) in
    rw (here, signed_slices file archs fronts are.1) refl

pub sliced_signed : (file : List ℕ) (archs : List FatArch) (fronts : List SliceFront) → HasSlices file archs → AreSliceFronts file archs fronts → is_signed_file (first_container file) ≡ list_any is_signed_front fronts
unfolding first_fat_state
sliced_signed file archs fronts has are =
    rw has.begins (ap (λ (l : List FatArch). list_any is_signed_slice (map (first_slice file) l)) has.archs_are ∙ signed_slices file archs fronts are)

-- What comes of a file whose slots are made anew, told by the fronts of its slices and by its signatures.
use Rattle.std.proofs.Common.{◌≡◌, ◌≤◌, ◌<◌, ◌^◌, ◌+◌, ◌-◌, ◌∙◌, ℕ, inl, inr, if◌then◌else◌, Bool, true, false, List, [], ◌∷◌, ◌++◌, length, take, drop, map, get_or, None, Option, Some, refl, sym, ap, subst, arith}
use Rattle.std.specs.List.{All, AllZip, flat_map, list_any}
use Rattle.std.proofs.lemmas.List.{append-nil, length-append, length-drop, length-take-le, map-append, take_all}
use Rattle.std.proofs.lemmas.List.Elements.{All-append, All-cons, All-head, All-map, All-nil, All-tail}
use Rattle.byte_store.proofs.LaidLaws.{laid-append as laid-both, length-laid}
use Rattle.byte_store.specs.Composed.{Stands}
use Rattle.byte_store.specs.Laid.{LiesIn, Patch, laid}
use Rattle.byte_store.specs.Shown.{shifted}
use Rattle.arwen_macho.proofs.ForCallers.{AreShown, shown-laid_over}
use Rattle.arwen_macho.specs.FatState.{Slice, bytes_laid_over}
use Rattle.arwen_macho.specs.Found.{Found, begins_fat, container_found, fat_found, found_fault, found_first, slices_found}
use Rattle.arwen_macho.specs.Found.Found.{fault}
use Rattle.macho_edits.specs.Call.{Call}
use Rattle.macho_image.specs.Checks.{file_fault}
use Rattle.macho_image.specs.Fat.{archs_of, slice_of, table_fault}
use Rattle.macho_image.specs.declared.fat.FatArch.{FatArch}
use Rattle.macho_image.specs.declared.format.MachFault.{MachFault}
use Rattle.macho_signatures.specs.Directory.{hash_size}
use Rattle.macho_signatures.specs.Pages.{Fits, hash_bytes, page_hash, slot_place}
use Rattle.macho_signatures.specs.Renewed.{IsRenewed, SlotLies, laid as slots_on, with_slot}
use Rattle.macho_signatures.specs.declared.directory.Directory.{Directory}
use Rattle.macho_signatures.specs.declared.renewal.Slot.{Slot}
use Rattle.macho_signing.specs.File.{IsInside, IsSignedPart, first_fault, has_identity_in, pages_in, part_bytes, part_fault, part_slots, parts_fault, parts_of, signed_slots, slice_part, slot_in}
use Rattle.macho_signing.specs.Front.{SignsThin}
use Rattle.macho_signing.specs.Thin.{AreSlotsPlaced, Pages, adhoc_directories, first_there, since, thin_slots, touched_by}
use Rattle.macho_signing.specs.declared.fault.SigningFault.{SigningFault}
use Rattle.macho_signing.specs.declared.file.Part.{Part as FilePart}
use Rattle.macho_signatures.proofs.HashLengths.{length-page_hash}
use Rattle.macho_signatures.proofs.LaidLaws.{Reads}
use Rattle.macho_signatures.proofs.RenewedLaws.{all_slots, before_slots, page_hash-same}
use Rattle.macho_signing.proofs.JoinedLaws.{SignsParts, parts_are, signs_parts}
use Rattle.macho_signing.proofs.SignedLaws.{ArePlacedIn}
use Rattle.macho_signing.proofs.ThinLaws.{thin_slots_lie}
use Rattle.macho_commands_stores.proofs.ForCallers.{edit_keeps}
use Rattle.macho_commands_stores.proofs.PieceLaws.{with_slot-is}
use Rattle.macho_commands_stores.proofs.StepSignature.{fat_parts, thin_parts}
use Rattle.macho_commands_stores.proofs.SliceLaws.{rising_within}
use Rattle.macho_commands_stores.specs.Loading.{IsFrontOf}
use Rattle.macho_commands_stores.specs.Renewing.{IsSignedFront, SignedFront, SignsFront, slot_patch, slots_of}
use Rattle.macho_commands_stores.specs.Slices.{AreRising, HasSlices, whole_arch}
use Rattle.macho_commands_stores.specs.declared.slices.SliceFront.{SliceFront}
use Rattle.macho_commands.specs.Engine.{AreAsked, Asked, IsSignedOutcome, ShowsBy, ShowsEdited, ShowsSigned, asked, outcome, outcome_by, outcome_of, signs_of}
use Rattle.macho_commands.specs.Engine.Outcome.{bytes as new_bytes}
use Rattle.macho_commands.specs.Loading.{with_rest}
use Rattle.macho_commands.specs.Meaning.{MachoMeaning}
use Rattle.macho_commands.specs.Notes.{is_some_left}
use Rattle.macho_commands.specs.Sliced.{EditedSlice, IsMade, edited_bytes, slice_patches}
use Rattle.macho_commands.specs.Stores.{IsPartOf}
use Rattle.macho_commands.specs.declared.signing.Signing.{Signing}
use Rattle.macho_commands.specs.declared.signing.Signs.{Signs}
use Rattle.macho_commands.specs.declared.signing.Signs.TheVariants.{Nothing, Touched}
use Rattle.macho_commands.proofs.FrontLaws.{found_longer}
use Rattle.macho_commands.proofs.LoadedLaws.{front_outcome, front_shows, laid-append, short_joined, stand_longer}
use Rattle.macho_commands.proofs.SigningLaws.{made_is}
use Rattle.macho_commands.proofs.SlicedLaws.{AreParts, AreSliceFronts, IsSliceFront, Part, arch_in, laid_mid, lie_in, over_in, part_made, patches_in, same_first, slice_in, stand_all, stand_further}

abbrev pub front_in : EditedSlice → SliceFront
front_in e = e.front

abbrev pub signed_front_in : SignedFront → SliceFront
signed_front_in s = s.front

abbrev pub new_in : SignedFront → List ℕ
new_in s = s.new

abbrev pub left_in : SignedFront → Bool
left_in s = s.made.is_left

-- ---- edited slices of a fat file

abbrev HasPatches : Part → EditedSlice → Type 0
HasPatches p e = p.patches ≡ e.here

record PartsBy (calls : List Call) (file : List ℕ) (archs : List FatArch) (all : List EditedSlice) : Type 0 where
  parts : List Part
  archs_are : map arch_in parts ≡ archs
  each : AllZip HasPatches parts all
  are : AreParts calls file parts

parts_by : (a : Asked) (calls : List Call) (file : List ℕ) (archs : List FatArch) (all : List EditedSlice) → AreAsked a calls → AreSliceFronts file archs (map front_in all) → All (IsMade a) all → PartsBy calls file archs all
parts_by a calls file [] [] asks fronts each = record { parts = []; archs_are = refl; each = tt; are = tt }
parts_by a calls file [] (e ∷ all) asks fronts each = absurd fronts
parts_by a calls file (arch ∷ archs) [] asks fronts each = absurd fronts
parts_by a calls file (arch ∷ archs) (e ∷ all) asks fronts each =
    let here = part_made a calls file arch e.front e.here asks fronts.0 (All-head (IsMade a) e all each) in
    let rest = parts_by a calls file archs all asks fronts.1 (All-tail (IsMade a) e all each) in
    record {
      parts = record { arch = arch; state = here.0; patches = e.here } ∷ rest.parts;
      archs_are = ap (λ (l : List FatArch). arch ∷ l) rest.archs_are;
      each = (refl, rest.each);
      are = (here.1, rest.are);
    }

patches_by : (file : List ℕ) (parts : List Part) (all : List EditedSlice) → AreSliceFronts file (map arch_in parts) (map front_in all) → AllZip HasPatches parts all → patches_in parts ≡ flat_map slice_patches all
patches_by file [] [] fronts each = refl
patches_by file [] (e ∷ all) fronts each = absurd fronts
patches_by file (p ∷ parts) [] fronts each = absurd fronts
patches_by file (p ∷ parts) (e ∷ all) fronts each =
    ap (λ (l : List Patch). map (shifted p.arch.offset) l ++ patches_in parts) each.0
    ∙ ap (λ (n : ℕ). map (shifted n) e.here ++ patches_in parts) (sym fronts.0.offset)
    ∙ ap (λ (l : List Patch). slice_patches e ++ l) (patches_by file parts all fronts.1 each.1)

-- ---- their slots

-- the slots of a slice of edited bytes
abbrev pub SignsSlice : List ℕ → List ℕ → FatArch → SignedFront → Type 0
SignsSlice file edited arch s = (s.front.offset ≡ arch.offset) × SignsThin (since (slice_of file arch)) (slice_of edited arch) s.made

sign_slice : (a : Asked) (known : Option (List ℕ)) (file edited : List ℕ) (arch : FatArch) (e : EditedSlice) (s : SignedFront) → known ≡ Some file → arch.offset + arch.size ≤ length file → IsSliceFront file arch e.front → IsMade a e → e.front ≡ s.front → edited_bytes e ≡ s.new → IsSignedFront known s → slice_of edited arch ≡ laid e.here (slice_of file arch) → SignsSlice file edited arch s
sign_slice a known file edited arch e s knows room is made same new signs shown =
    let front : List ℕ = e.front.bytes.items in
    let rest : List ℕ = is.is.rest in
    let F : SliceFront → Type 0 = λ f. SignsFront known f s.new s.made in
    let N : List ℕ → Type 0 = λ l. SignsFront known e.front l s.made in
    let here : SignsFront known e.front (edited_bytes e) s.made = subst N (sym new) (subst F (sym same) signs.signs) in
    let at : take e.front.size (drop e.front.offset file) ≡ front ++ rest =
    ap (λ (n : ℕ). take n (drop e.front.offset file)) is.size ∙ ap (λ (n : ℕ). take arch.size (drop n file)) is.offset ∙ sym is.is.joined in
    let thin = here file rest knows (omega (arith, is.offset, is.size, room)) at in
    let Old : List ℕ → Type 0 = λ l. SignsThin (since l) (edited_bytes e ++ rest) s.made in
    let New : List ℕ → Type 0 = λ l. SignsThin (since (slice_of file arch)) l s.made in
    let after : slice_of edited arch ≡ edited_bytes e ++ rest = shown ∙ ap (laid e.here) (sym is.is.joined) ∙ laid-append e.here front rest made.inside in
    (ap (λ (f : SliceFront). f.offset) (sym same) ∙ is.offset, subst New (sym after) (subst Old is.is.joined thin))

sign_slices : (a : Asked) (calls : List Call) (known : Option (List ℕ)) (file edited : List ℕ) (start size : ℕ) (parts : List Part) (all : List EditedSlice) (signs : List SignedFront) → known ≡ Some file → length file ≡ size → AreRising start size (map arch_in parts) → AreSliceFronts file (map arch_in parts) (map front_in all) → AllZip HasPatches parts all → AreParts calls file parts → AreShown edited (map slice_in parts) → All (IsMade a) all → map front_in all ≡ map signed_front_in signs → map edited_bytes all ≡ map new_in signs → All (IsSignedFront known) signs → AllZip (SignsSlice file edited) (map arch_in parts) signs
sign_slices a calls known file edited start size [] [] [] knows long rising fronts each are shown made same news signed = tt
sign_slices a calls known file edited start size [] [] (s ∷ signs) knows long rising fronts each are shown made same news signed =
    let no : [] ≡ s.front ∷ map signed_front_in signs = same in absurd (cc)
sign_slices a calls known file edited start size [] (e ∷ all) signs knows long rising fronts each are shown made same news signed = absurd fronts
sign_slices a calls known file edited start size (p ∷ parts) [] signs knows long rising fronts each are shown made same news signed = absurd fronts
sign_slices a calls known file edited start size (p ∷ parts) (e ∷ all) [] knows long rising fronts each are shown made same news signed =
    let no : e.front ∷ map front_in all ≡ [] = same in absurd (cc)
sign_slices a calls known file edited start size (p ∷ parts) (e ∷ all) (s ∷ signs) knows long rising fronts each are shown made same news signed =
    let both : e.front ∷ map front_in all ≡ s.front ∷ map signed_front_in signs = same in
    let other : edited_bytes e ∷ map edited_bytes all ≡ s.new ∷ map new_in signs = news in
    let head : e.front ≡ s.front = cc in
    let tail : map front_in all ≡ map signed_front_in signs = cc in
    let new : edited_bytes e ≡ s.new = cc in
    let later : map edited_bytes all ≡ map new_in signs = cc in
    let end : ℕ = p.arch.offset + p.arch.size in
    let within : end ≤ size = rising_within end size (map arch_in parts) rising.2 in (
      sign_slice a known file edited p.arch e s knows (omega (arith, within, long)) fronts.0 (All-head (IsMade a) e all made) head new (All-head (IsSignedFront known) s signs signed)
          (shown.0 ∙ are.0.made ∙ ap (λ (l : List Patch). laid l (slice_of file p.arch)) each.0),
      sign_slices a calls known file edited end size parts all signs knows long rising.2 fronts.1 each.1 are.1 shown.1 (All-tail (IsMade a) e all made) tail later (All-tail (IsSignedFront known) s signs signed),
    )

-- ---- parts

first_passes : (file edited : List ℕ) (archs : List FatArch) (signs : List SignedFront) → AllZip (SignsSlice file edited) archs signs → first_fault (part_fault (since file) edited) (map slice_part archs) ≡ None
first_passes file edited [] [] each = refl
first_passes file edited [] (s ∷ signs) each = absurd each
first_passes file edited (arch ∷ archs) [] each = absurd each
first_passes file edited (arch ∷ archs) (s ∷ signs) each =
    ap (λ (f : Option SigningFault). first_there f (first_fault (part_fault (since file) edited) (map slice_part archs))) each.0.1.passes ∙ first_passes file edited archs signs each.1

all_placed : (file edited : List ℕ) (archs : List FatArch) (signs : List SignedFront) → AllZip (SignsSlice file edited) archs signs → All (ArePlacedIn edited) (map slice_part archs)
all_placed file edited [] [] each = All-nil (ArePlacedIn edited)
all_placed file edited [] (s ∷ signs) each = absurd each
all_placed file edited (arch ∷ archs) [] each = absurd each
all_placed file edited (arch ∷ archs) (s ∷ signs) each =
    All-cons (ArePlacedIn edited) (slice_part arch) (map slice_part archs) each.0.1.placed (all_placed file edited archs signs each.1)

shift_slots : (offset : ℕ) (slots : List Slot) → map slot_patch (map (slot_in offset) slots) ≡ map (shifted offset) (map slot_patch slots)
shift_slots offset [] = refl
shift_slots offset (slot ∷ slots) = ap (λ (l : List Patch). shifted offset (slot_patch slot) ∷ l) (shift_slots offset slots)

slots_are : (file edited : List ℕ) (archs : List FatArch) (signs : List SignedFront) → AllZip (SignsSlice file edited) archs signs → map slot_patch (flat_map (part_slots (since file) edited) (map slice_part archs)) ≡ flat_map slots_of signs
slots_are file edited [] [] each = refl
slots_are file edited [] (s ∷ signs) each = absurd each
slots_are file edited (arch ∷ archs) [] each = absurd each
slots_are file edited (arch ∷ archs) (s ∷ signs) each =
    let slots : List Slot = thin_slots (since (slice_of file arch)) (slice_of edited arch) in
    let here : map slot_patch (map (slot_in arch.offset) slots) ≡ slots_of s =
    shift_slots arch.offset slots
    ∙ ap (λ (n : ℕ). map (shifted n) (map slot_patch slots)) (sym each.0.0)
    ∙ ap (λ (l : List Slot). map (shifted s.front.offset) (map slot_patch l)) (sym each.0.1.slots) in
    map-append slot_patch (map (slot_in arch.offset) slots) (flat_map (part_slots (since file) edited) (map slice_part archs))
    ∙ ap (λ (l : List Patch). l ++ map slot_patch (flat_map (part_slots (since file) edited) (map slice_part archs))) here
    ∙ ap (λ (l : List Patch). slots_of s ++ l) (slots_are file edited archs signs each.1)

left_is : (file edited : List ℕ) (archs : List FatArch) (signs : List SignedFront) → AllZip (SignsSlice file edited) archs signs → list_any left_in signs ≡ list_any (has_identity_in edited) (map slice_part archs)
left_is file edited [] [] each = refl
left_is file edited [] (s ∷ signs) each = absurd each
left_is file edited (arch ∷ archs) [] each = absurd each
left_is file edited (arch ∷ archs) (s ∷ signs) each = rw (each.0.1.left, left_is file edited archs signs each.1) refl

slots_laid : (slots : List Slot) (bytes' : List ℕ) → slots_on slots bytes' ≡ laid (map slot_patch slots) bytes'
slots_laid [] bytes' = refl
slots_laid (slot ∷ slots) bytes' = slots_laid slots (with_slot slot bytes') ∙ ap (laid (map slot_patch slots)) (with_slot-is slot bytes')

-- what is laid of them stands in what it makes

-- the slot of a page that is made anew has its hash behind the others too
thin_stand : (pages : Pages) (old new : List ℕ) → AreSlotsPlaced old → IsRenewed (adhoc_directories old) (touched_by pages old) old new → All (λ s. Reads s new) (thin_slots pages old)
unfolding thin_slots Fits
thin_stand pages old new are renewed =
    all_slots (λ s. Reads s new) (touched_by pages old) old (adhoc_directories old) (λ k e here page inside touches.
    let d : Directory = get_or (adhoc_directories old) k e in
    let limit = (are.placed.each k e here).before in
    let same : page_hash d page new ≡ page_hash d page old =
    page_hash-same d page old new renewed.long (λ i from to. renewed.kept i (before_slots are.start (length old) (adhoc_directories old) (touched_by pages old) i are.placed (omega (arith, to, limit)))) in
    let size : length (hash_bytes (page_hash d page old)) ≡ hash_size d.hash = length-page_hash d page old in
    ap (λ (n : ℕ). take n (drop (slot_place d page) new)) size ∙ renewed.fits k e here page inside touches ∙ ap hash_bytes same)

stand_read : (slots : List Slot) (bytes' : List ℕ) → All (λ s. Reads s bytes') slots → All (Stands bytes') (map slot_patch slots)
stand_read slots bytes' reads = All-map (Stands bytes') slot_patch slots (λ i d below.
    let s : Slot = get_or slots i d in
    let n : ℕ = length (hash_bytes s.hash) in
    let len : s.place + n - s.place ≡ n = omega arith in
    ap (λ (k : ℕ). take k (drop s.place bytes')) len ∙ reads i d below)

slots_inside : (n : ℕ) (slots : List Slot) → All (SlotLies n) slots → All (LiesIn n) (map slot_patch slots)
slots_inside n slots lie = All-map (LiesIn n) slot_patch slots (λ i d below. lie i d below)

part_stands : (pages : Pages) (edited new : List ℕ) (p : FilePart) → IsInside (length edited) p → ArePlacedIn edited p → IsSignedPart pages edited new p → All (Stands new) (map slot_patch (part_slots pages edited p))
part_stands pages edited new p inside placed signed =
    let slots : List Slot = thin_slots (pages_in pages p) (part_bytes edited p) in
    let old_long : length (part_bytes edited p) ≡ p.size = length-take-le p.size (drop p.offset edited) (omega (arith, length-drop p.offset edited, inside)) in
    let new_long : length (part_bytes new p) ≡ p.size = signed.long ∙ old_long in
    let Inside : ℕ → Type 0 = λ n. All (LiesIn n) (map slot_patch slots) in
    let lies : All (LiesIn p.size) (map slot_patch slots) =
    subst Inside old_long (slots_inside (length (part_bytes edited p)) slots (thin_slots_lie (pages_in pages p) (part_bytes edited p) placed)) in
    let stands = stand_read slots (part_bytes new p) (thin_stand (pages_in pages p) (part_bytes edited p) (part_bytes new p) placed signed) in
    let Stood : List Patch → Type 0 = All (Stands new) in
    subst Stood (sym (shift_slots p.offset slots)) (stand_further p.offset p.size new (part_bytes new p) (map slot_patch slots) refl new_long lies stands)

slots_stand : (pages : Pages) (edited new : List ℕ) (parts : List FilePart) → All (IsInside (length edited)) parts → All (ArePlacedIn edited) parts → All (IsSignedPart pages edited new) parts → All (Stands new) (map slot_patch (flat_map (part_slots pages edited) parts))
slots_stand pages edited new [] inside placed signed = All-nil (Stands new)
slots_stand pages edited new (p ∷ parts) inside placed signed =
    let here : List Slot = part_slots pages edited p in
    let more : List Slot = flat_map (part_slots pages edited) parts in
    let Stood : List Patch → Type 0 = All (Stands new) in
    subst Stood (sym (map-append slot_patch here more))
    (All-append (Stands new) (map slot_patch here) (map slot_patch more)
    (part_stands pages edited new p (All-head (IsInside (length edited)) p parts inside) (All-head (ArePlacedIn edited) p parts placed) (All-head (IsSignedPart pages edited new) p parts signed))
    (slots_stand pages edited new parts (All-tail (IsInside (length edited)) p parts inside) (All-tail (ArePlacedIn edited) p parts placed) (All-tail (IsSignedPart pages edited new) p parts signed)))

-- ---- the file

-- a table that is accepted passes
no_first : (f : Option MachFault) (next : Option Found) → found_first (found_fault f) next ≡ None → f ≡ None
no_first None next none = refl
no_first (Some check) next none = absurd (let no : Some (fault check) ≡ None = none in cc)

fat_passes : (bytes' : List ℕ) → fat_found bytes' ≡ None → table_fault bytes' ≡ None
unfolding fat_found
fat_passes bytes' none = no_first (table_fault bytes') (slices_found (map (slice_of bytes') (archs_of bytes'))) none

parts_by_shape : (bytes' : List ℕ) (fat : Bool) → begins_fat bytes' ≡ fat → (if fat then fat_found bytes' else found_fault (file_fault bytes')) ≡ None → parts_fault bytes' ≡ None
unfolding parts_fault
parts_by_shape bytes' true is found = rw (is, fat_passes bytes' found) refl
parts_by_shape bytes' false is found = rw is refl

parts_pass : (bytes' : List ℕ) → container_found bytes' ≡ None → parts_fault bytes' ≡ None
unfolding container_found
parts_pass bytes' found = parts_by_shape bytes' (begins_fat bytes') refl found

-- what a command makes of a file by these patches, and whether it leaves a signature
pub record RenewsFile (choice : Signing) (meaning : MachoMeaning) (file : List ℕ) (patches : List Patch) (left : Bool) : Type 0 where
  pub is : outcome choice meaning file ≡ new_bytes (laid patches file)
  pub shows : IsSignedOutcome choice meaning file (laid patches file)
  pub edited : List ℕ
  pub made : outcome_of (asked meaning) file ≡ new_bytes edited
  pub stand : All (IsPartOf edited (laid patches file)) patches
  pub left_is : left ≡ is_some_left edited

-- edits of a file, and the slots behind them
pub record SignsEdits (a : Asked) (file : List ℕ) (patches : List Patch) (archs : List FatArch) (signs : List SignedFront) : Type 0 where
  pub edited : List ℕ
  pub is : edited ≡ laid patches file
  pub stand : All (Stands edited) patches
  pub made : outcome_of a file ≡ new_bytes edited
  pub shows : ShowsEdited a file edited
  pub parts : parts_of file ≡ map slice_part archs
  pub each : AllZip (SignsSlice file edited) archs signs

pub renews : (choice : Signing) (meaning : MachoMeaning) (file : List ℕ) (patches slots : List Patch) (archs : List FatArch) (signs : List SignedFront) (left : Bool) → signs_of choice meaning ≡ Touched → SignsEdits (asked meaning) file patches archs signs → slots ≡ flat_map slots_of signs → left ≡ list_any left_in signs → RenewsFile choice meaning file (patches ++ slots) left
unfolding signed_slots
renews choice meaning file patches slots archs signs left touched by slots_is told =
    let a : Asked = asked meaning in
    let edited : List ℕ = by.edited in
    let new : List Slot = signed_slots (since file) edited in
    let kept = edit_keeps by.shows.calls file edited by.shows.made by.shows.step by.shows.bytes by.shows.shows in
    let parts : parts_of edited ≡ map slice_part archs = kept.parts ∙ by.parts in
    let First : List FilePart → Type 0 = λ l. first_fault (part_fault (since file) edited) l ≡ None in
    let Placed : List FilePart → Type 0 = λ l. All (ArePlacedIn edited) l in
    let all : SignsParts (since file) edited =
    signs_parts (since file) edited (parts_pass edited by.shows.shows.accepted) (subst First (sym parts) (first_passes file edited archs signs by.each)) (subst Placed (sym parts) (all_placed file edited archs signs by.each)) in
    let same : map slot_patch new ≡ slots = ap (λ (l : List FilePart). map slot_patch (flat_map (part_slots (since file) edited) l)) parts ∙ slots_are file edited archs signs by.each ∙ sym slots_is in
    let after : slots_on new edited ≡ laid (patches ++ slots) file =
    slots_laid new edited ∙ ap (λ (l : List Patch). laid l edited) same ∙ ap (laid slots) by.is ∙ sym (laid-both patches slots file) in
    let Stood : List ℕ → Type 0 = λ l. All (Stands l) slots in
    let Slots : List Patch → Type 0 = All (Stands (slots_on new edited)) in
    let inside = (parts_are edited (parts_pass edited by.shows.shows.accepted)).inside in
    let placed = subst Placed (sym parts) (all_placed file edited archs signs by.each) in
    let stands : All (Stands (laid (patches ++ slots) file)) slots =
    subst Stood after (subst Slots same (slots_stand (since file) edited (slots_on new edited) (parts_of edited) inside placed all.signed.parts)) in
    let Shown : List ℕ → Type 0 = ShowsSigned (since file) a file in
    let By : Signs → Type 0 = λ s. ShowsBy s a file (laid (patches ++ slots) file) in
    record {
      is = ap (λ (s : Signs). outcome_by s a file) touched ∙ made_is (since file) (outcome_of a file) edited new by.made all.passes refl ∙ ap (λ (l : List ℕ). new_bytes l) after;
      shows = subst By (sym touched) (subst Shown after (record { edited = edited; shows = by.shows; passes = all.passes; signed = all.signed; same = all.same }));
      edited = edited;
      made = by.made;
      stand =
          All-append (IsPartOf edited (laid (patches ++ slots) file)) patches slots (λ i d below. inl (by.stand i d below)) (λ i d below. inr (stands i d below));
      left_is = told ∙ left_is file edited archs signs by.each ∙ ap (list_any (has_identity_in edited)) (sym parts);
    }

-- a fat one
pub fat_signs : (a : Asked) (known : Option (List ℕ)) (file : List ℕ) (start : ℕ) (archs : List FatArch) (patches : List Patch) (all : List EditedSlice) (signs : List SignedFront) → known ≡ Some file → HasSlices file archs → AreRising start (length file) archs → AreSliceFronts file archs (map front_in all) → All (IsMade a) all → patches ≡ flat_map slice_patches all → map front_in all ≡ map signed_front_in signs → map edited_bytes all ≡ map new_in signs → All (IsSignedFront known) signs → outcome_of a file ≡ new_bytes (laid patches file) → ShowsEdited a file (laid patches file) → SignsEdits a file patches archs signs
fat_signs a known file start archs patches all signs knows has rising fronts made patches_are same news signed is shows =
    let by : PartsBy shows.calls file archs all = parts_by a shows.calls file archs all shows.are fronts made in
    let Rising : List FatArch → Type 0 = AreRising start (length file) in
    let Fronts : List FatArch → Type 0 = λ l. AreSliceFronts file l (map front_in all) in
    let Each : List FatArch → Type 0 = λ l. AllZip (SignsSlice file (laid patches file)) l signs in
    let rise = subst Rising (sym by.archs_are) rising in
    let these = subst Fronts (sym by.archs_are) fronts in
    let slices : List Slice = map slice_in by.parts in
    let Stood : List Patch → Type 0 = λ l. All (Stands (laid l file)) l in
    let over : bytes_laid_over slices file ≡ laid patches file =
    over_in shows.calls file file start (length file) by.parts refl rise (same_first file by.parts) by.are
    ∙ ap (λ (l : List Patch). laid l file) (patches_by file by.parts all these by.each ∙ sym patches_are) in
    let Shown : List ℕ → Type 0 = λ l. AreShown l slices in
    let shown = subst Shown over (shown-laid_over (length file) slices file refl (lie_in shows.calls file start (length file) by.parts rise by.are)) in
    record {
      edited = laid patches file;
      is = refl;
      stand = subst Stood (patches_by file by.parts all these by.each ∙ sym patches_are) (stand_all shows.calls file start by.parts rise by.are);
      made = is;
      shows = shows;
      parts = fat_parts file has.begins ∙ ap (map slice_part) has.archs_are;
      each = subst Each by.archs_are (sign_slices a shows.calls known file (laid patches file) start (length file) by.parts all signs knows refl rise these by.each by.are shown made same news signed);
    }

-- a thin one
pub thin_signs : (a : Asked) (known : Option (List ℕ)) (file : List ℕ) (n : ℕ) (all : List EditedSlice) (signs : List SignedFront) → known ≡ Some file → length file ≡ n → n < 2 ^ 32 → AreSliceFronts file (whole_arch n ∷ []) (map front_in all) → All (IsMade a) all → map front_in all ≡ map signed_front_in signs → map edited_bytes all ≡ map new_in signs → All (IsSignedFront known) signs → SignsEdits a file (flat_map slice_patches all) (whole_arch n ∷ []) signs
thin_signs a known file n [] signs knows long short fronts made same news signed = absurd fronts
thin_signs a known file n (e ∷ e' ∷ all) signs knows long short fronts made same news signed = absurd fronts.1
thin_signs a known file n (e ∷ []) [] knows long short fronts made same news signed = let no : e.front ∷ [] ≡ [] = same in absurd (cc)
thin_signs a known file n (e ∷ []) (s ∷ s' ∷ signs) knows long short fronts made same news signed =
    let both : e.front ∷ [] ≡ s.front ∷ s'.front ∷ map signed_front_in signs = same in
    let no : [] ≡ s'.front ∷ map signed_front_in signs = cc in
    absurd (cc)
thin_signs a known file n (e ∷ []) (s ∷ []) knows long short fronts made same news signed =
    let is : IsSliceFront file (whole_arch n) e.front = fronts.0 in
    let front : List ℕ = e.front.bytes.items in
    let rest : List ℕ = is.is.rest in
    let whole : slice_of file (whole_arch n) ≡ file = take_all n file (omega (arith, long)) in
    let joined : front ++ rest ≡ file = is.is.joined ∙ whole in
    let here : IsMade a e = All-head (IsMade a) e [] made in
    let of : IsFrontOf front file = record { rest = rest; joined = joined; thin = is.is.thin; short = omega (arith, long, short) } in
    let edited : List ℕ = edited_bytes e ++ rest in
    let old_long : length (edited_bytes e) ≡ length front = length-laid e.here front here.inside in
    let many : length edited ≡ n = omega (arith, old_long, length-append (edited_bytes e) rest, ap length joined, length-append front rest, long) in
    let shown : slice_of edited (whole_arch n) ≡ laid e.here (slice_of file (whole_arch n)) =
    take_all n edited (omega (arith, many)) ∙ sym (laid-append e.here front rest here.inside) ∙ ap (laid e.here) is.is.joined in
    let Stood : List Patch → Type 0 = All (Stands edited) in
    let at_front : edited ≡ take (length edited) (drop e.front.offset edited) = sym (ap (λ (k : ℕ). take (length edited) (drop k edited)) is.offset ∙ take_all (length edited) edited (omega arith)) in
    let within : All (LiesIn (length edited)) e.here = λ i d below. let lies = here.inside i d below in omega (arith, lies, old_long, length-append (edited_bytes e) rest) in
    let stands : All (Stands edited) e.here = stand_longer e.here front rest here.inside here.stand in
    let both : e.front ∷ [] ≡ s.front ∷ [] = same in
    let other : edited_bytes e ∷ [] ≡ s.new ∷ [] = news in
    let head : e.front ≡ s.front = cc in
    let new : edited_bytes e ≡ s.new = cc in
    let Thin : List ℕ → Type 0 = λ l. begins_fat l ≡ false in
    let thin : begins_fat file ≡ false = subst Thin joined (found_longer front rest (short_joined front file of) is.is.thin.accepted is.is.thin.thin).0 in
    record {
      edited = edited;
      is = sym (ap (λ (l : List Patch). laid l file) (append-nil (slice_patches e))
          ∙ ap (λ (k : ℕ). laid (map (shifted k) e.here) file) is.offset
          ∙ ap (laid (map (shifted 0) e.here)) (sym joined) ∙ laid_mid e.here [] front rest here.inside);
      stand = subst Stood (sym (append-nil (slice_patches e))) (stand_further e.front.offset (length edited) edited edited e.here at_front refl within stands);
      made = front_outcome Nothing a front file of refl ∙ ap (with_rest rest) here.is;
      shows = front_shows Nothing a front file (edited_bytes e) of refl here.shows;
      parts = thin_parts file thin ∙ ap (λ (k : ℕ). record { offset = 0; size = k } ∷ []) long;
      each = (sign_slice a known file edited (whole_arch n) e s knows (omega (arith, long)) is here head new (All-head (IsSignedFront known) s [] signed) shown, tt);
    }

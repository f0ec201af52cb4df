-- Where all slots fitted before an edit, and those of touched pages were made anew, all fit.
use Rattle.std.proofs.Common.{◌≡◌, ◌&&◌, ℕ, Bool, true, false, not, nat_lt, cond, List, [], ◌∷◌, length, drop, get_or, Option, Some, None, Result, Ok, Err, refl, sym, subst, inl, inr, arith}
use Rattle.std.specs.List.{All}
use Rattle.std.specs.Str.{bytes_eq}
use Rattle.std.proofs.lemmas.Bool.{cases_Bool, not-false}
use Rattle.std.proofs.lemmas.List.{length-drop, length-take}
use Rattle.std.proofs.lemmas.List.Elements.{All-cons, All-nil}
use Rattle.std.proofs.lemmas.Slice.Eq.{bytes_eq-Decides}
use Rattle.macho_signatures.specs.declared.directory.Directory.{Directory}
use Rattle.macho_signatures.specs.Pages.{AllFit}
use Rattle.macho_signatures.specs.Renewed.{IsRenewed}
use Rattle.macho_signatures.specs.Blobs.{signature_bytes}
use Rattle.macho_signatures.specs.Signature.{ArePlaced, directories_of, signature_fault}
use Rattle.macho_signatures.specs.declared.fault.SignatureFault.{SignatureFault}
use Rattle.macho_image.specs.Checks.{file_fault}
use Rattle.macho_image.specs.Form.{commands_end, ctx_of}
use Rattle.macho_signatures.proofs.FitLaws.{renewed_fit}
use Rattle.macho_signing.specs.declared.fault.SigningFault.{SigningFault}
use Rattle.macho_signing.specs.declared.fault.SigningFault.TheVariants as fault
use Rattle.macho_signing.specs.declared.file.Part.{Part}
use Rattle.macho_signing.specs.declared.place.Place.{Place}
use Rattle.macho_signing.specs.File.{first_fault, part_bytes, part_fault, parts_fault, parts_of, signing_fault}
use Rattle.macho_signing.specs.Laws.{SignedFit}
use Rattle.macho_signing.specs.Place.{signature_place}
use Rattle.macho_signing.specs.Thin.{adhoc_directories, differences, file_check, has_identity, held_fault, is_changed_from, renewal_fault, signature_check, thin_directories, thin_fault, touch_fault}
use Rattle.macho_signing.specs.Thin.Pages.{since}
use Rattle.macho_signing.proofs.DifferenceLaws.{differs_within, end_before}
use Rattle.macho_signing.proofs.PlacedLaws.{passes_placed}
use Rattle.macho_signing.proofs.ThinLaws.{first_none, identity_directories, none_directories, renewal_parts}

-- ## A part

passes : (b : Bool) (found : SigningFault) (next : Option SigningFault) → cond b (Some found) next ≡ None → (b ≡ false) × (next ≡ None)
passes true found next none = absurd (let e : Some found ≡ None = none in cc)
passes false found next none = (refl, none)

no_check : (check : Option SignatureFault) → signature_check check ≡ None → check ≡ None
no_check None none = refl
no_check (Some found) none = absurd (let e : Some (fault.Signature found) ≡ None = none in cc)

-- the signature at a place of a file without a fault passes
place_passes : (bytes : List ℕ) (place : Place) → signature_place bytes ≡ Ok (Some place) → thin_fault bytes ≡ None → signature_fault place.dataoff place.datasize bytes ≡ None
unfolding thin_fault
place_passes bytes place is none =
    let held : held_fault bytes (signature_place bytes) ≡ None = (first_none (file_check (file_fault bytes)) (held_fault bytes (signature_place bytes)) none).1 in
    let P : Result (Option Place) SigningFault → Type 0 = λ r. held_fault bytes r ≡ None in
    no_check (signature_fault place.dataoff place.datasize bytes) (passes (nat_lt place.dataoff (commands_end (ctx_of bytes) bytes)) fault.InCommands _ (subst P is held)).1

-- no byte of it differs
touch_passes : (old bytes : List ℕ) (place : Place) → has_identity bytes ≡ false → touch_fault (since old) bytes (Ok (Some place)) ≡ None → drop place.dataoff old ≡ drop place.dataoff bytes
touch_passes old bytes place adhoc none =
    let P : Bool → Type 0 = λ b. cond (not b && is_changed_from place.dataoff (since old) bytes) (Some fault.ChangedSignature) None ≡ None in
    let same = (passes (is_changed_from place.dataoff (since old) bytes) fault.ChangedSignature None (subst P adhoc none)).0 in
    (bytes_eq-Decides (drop place.dataoff old) (drop place.dataoff bytes)).0 (not-false (bytes_eq (drop place.dataoff old) (drop place.dataoff bytes)) same)

place_directories : (bytes : List ℕ) (place : Place) → signature_place bytes ≡ Ok (Some place) → has_identity bytes ≡ false → adhoc_directories bytes ≡ directories_of place.dataoff (signature_bytes place.dataoff place.datasize bytes)
unfolding adhoc_directories thin_directories
place_directories bytes place is adhoc = rw (adhoc, is) refl

fault_directories : (bytes : List ℕ) (found : SigningFault) → signature_place bytes ≡ Err found → adhoc_directories bytes ≡ []
unfolding adhoc_directories thin_directories has_identity
fault_directories bytes found is = rw is refl

none_fit : (ds : List Directory) (bytes : List ℕ) → ds ≡ [] → AllFit ds bytes
none_fit ds bytes none =
    let P : List Directory → Type 0 = λ l. AllFit l bytes in
    subst P (sym none) (All-nil _)

fits_part : (old edited new : List ℕ) (r : Result (Option Place) SigningFault) → signature_place edited ≡ r → length old ≡ length edited → renewal_fault (since old) edited ≡ None → IsRenewed (adhoc_directories edited) (differences old edited) edited new → AllFit (adhoc_directories edited) old → AllFit (adhoc_directories edited) new
fits_part old edited new (Err found) is long none renewed fitted = none_fit (adhoc_directories edited) new (fault_directories edited found is)
fits_part old edited new (Ok None) is long none renewed fitted = none_fit (adhoc_directories edited) new (none_directories edited is)
fits_part old edited new (Ok (Some place)) is long none renewed fitted =
    let faults = renewal_parts (since old) edited none in
    elim (cases_Bool (has_identity edited)) [
      | inl identity ↦ none_fit (adhoc_directories edited) new (identity_directories edited identity)
      | inr adhoc ↦
          let ds : List Directory = adhoc_directories edited in
          let P : List Directory → Type 0 = λ l. ArePlaced place.dataoff (length edited) l in
          let Q : ℕ → Type 0 = λ n. ArePlaced place.dataoff n ds in
          let R : Result (Option Place) SigningFault → Type 0 = λ x. touch_fault (since old) edited x ≡ None in
          let placed = subst P (sym (place_directories edited place is adhoc)) (passes_placed place.dataoff place.datasize edited (place_passes edited place is faults.0)) in
          let same = touch_passes old edited place adhoc (subst R is faults.1) in
          renewed_fit place.dataoff ds (differences old edited) old edited new (subst Q (sym long) placed) fitted (end_before old edited place.dataoff same) (differs_within old edited long) renewed
    ]

-- ## All parts

none_at : (fault : Part → Option SigningFault) (parts : List Part) → first_fault fault parts ≡ None → All (λ p. fault p ≡ None) parts
none_at fault [] none = All-nil _
none_at fault (p ∷ parts) none =
    let both = first_none (fault p) (first_fault fault parts) none in
    All-cons (λ q. fault q ≡ None) p parts both.0 (none_at fault parts both.1)

parts_pass : (old edited : List ℕ) → signing_fault (since old) edited ≡ None → All (λ p. part_fault (since old) edited p ≡ None) (parts_of edited)
unfolding signing_fault
parts_pass old edited none =
    none_at (part_fault (since old) edited) (parts_of edited) (first_none (parts_fault edited) (first_fault (part_fault (since old) edited) (parts_of edited)) none).1

pub signed_fit : SignedFit
signed_fit old edited new long none is fitted = λ k e here.
    let p : Part = get_or (parts_of edited) k e in
    let same : length (part_bytes old p) ≡ length (part_bytes edited p) =
    let a = length-take p.size (drop p.offset old) in
    let b = length-take p.size (drop p.offset edited) in
    let c = length-drop p.offset old in
    let d = length-drop p.offset edited in
    omega (arith, a, b, c, d, long) in
    fits_part (part_bytes old p) (part_bytes edited p) (part_bytes new p) (signature_place (part_bytes edited p)) refl same
    (parts_pass old edited none k e here) (is.parts k e here) (fitted k e here)

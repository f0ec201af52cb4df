-- What an edit, and slots that are made anew behind it, keep of what a file tells of its signatures; and that these fit still.
use Rattle.std.proofs.Common.{◌≡◌, ◌≤◌, ◌<◌, ℕ, Bool, true, false, min, max, cond, nat_lt, List, [], ◌∷◌, length, map, take, drop, get_or, Option, Some, None, Result, Ok, Err, refl, sym, ap, ◌∙◌, subst, inl, inr, arith}
use Rattle.std.specs.List.{All}
use Rattle.std.proofs.lemmas.Bool.{cases_Bool, lt-ltb, ltb-false, or_left}
use Rattle.std.proofs.lemmas.List.{same_lists, get_or_default}
use Rattle.std.proofs.lemmas.List.Elements.{All-cons, All-nil}
use Rattle.macho_image.specs.declared.format.Ctx.{Ctx}
use Rattle.macho_image.specs.Checks.{file_fault}
use Rattle.macho_image.specs.Commands.{commands_of}
use Rattle.macho_image.specs.Form.{commands_end, ctx_of}
use Rattle.macho_signatures.specs.Blobs.{signature_bytes}
use Rattle.macho_signatures.specs.Pages.{AllFit, page_end, page_start, unfit_from}
use Rattle.macho_signatures.specs.Renewed.{IsRenewed, is_touched, meets_page}
use Rattle.macho_signatures.specs.Signature.{ArePlaced, directories_of, is_signed, signature_fault}
use Rattle.macho_signatures.specs.declared.directory.Directory.{Directory}
use Rattle.macho_signatures.specs.declared.fault.SignatureFault.{SignatureFault}
use Rattle.macho_signatures.specs.declared.renewal.ByteRange.{ByteRange}
use Rattle.macho_signatures.proofs.PageLaws.{page_start-below}
use Rattle.macho_signing.specs.Check.{checking_fault}
use Rattle.macho_signing.specs.File.{first_fault, pages_in, part_bytes, part_fault, parts_fault, parts_of, signing_fault}
use Rattle.macho_signing.specs.Place.{place_in, signature_commands, signature_place}
use Rattle.macho_signing.specs.Shown.{ShowsSame}
use Rattle.macho_signing.specs.Thin.{Pages, adhoc_directories, file_check, has_identity, held_fault, signature_check, thin_directories, thin_fault, touched_by}
use Rattle.macho_signing.specs.Thin.Pages.{all}
use Rattle.macho_signing.specs.declared.fault.SigningFault.{SigningFault}
use Rattle.macho_signing.specs.declared.fault.SigningFault.TheVariants as fault
use Rattle.macho_signing.specs.declared.file.Part.{Part}
use Rattle.macho_signing.specs.declared.place.Place.{Place}
use Rattle.macho_signing.proofs.PlacedLaws.{passes_placed}
use Rattle.macho_signing.proofs.ThinLaws.{first_none, identity_directories, none_directories, renewal_parts, thin_passes}
use Rattle.macho_commands_stores.specs.Kept.{IsSignatureBehind, KeepsSignature, TellsSame, TellsSameLayout, TellsSamePlace, layout_of}
use Rattle.macho_commands_stores.proofs.FitWords.{all_fit_none, none_all_fit, same_layouts_unfit}
use Rattle.macho_commands_stores.proofs.RenewedSignature.{identity_kept, is_resigned, layouts_kept}
use Rattle.macho_commands_stores.proofs.StepSignature.{EndsBeforeSignature, IsKept}

-- ## Checks that pass

passes : (b : Bool) (found : SigningFault) (next : Option SigningFault) → cond b (Some found) next ≡ None → (b ≡ false) × (next ≡ None)
passes true found next none = absurd (let e : Some found ≡ None = none in cc)
passes false found next none = (refl, none)

no_check : (check : Option SignatureFault) → signature_check check ≡ None → check ≡ None
no_check None none = refl
no_check (Some found) none = absurd (let e : Some (fault.Signature found) ≡ None = none in cc)

-- the signature at the place of a thin file without a fault
pub record IsHeld (bytes : List ℕ) (place : Place) : Type 0 where
  pub behind : commands_end (ctx_of bytes) bytes ≤ place.dataoff
  pub passes : signature_fault place.dataoff place.datasize bytes ≡ None

pub held : (bytes : List ℕ) (place : Place) → signature_place bytes ≡ Ok (Some place) → thin_fault bytes ≡ None → IsHeld bytes place
unfolding thin_fault
held bytes place is none =
    let found : held_fault bytes (signature_place bytes) ≡ None = (first_none (file_check (file_fault bytes)) (held_fault bytes (signature_place bytes)) none).1 in
    let P : Result (Option Place) SigningFault → Type 0 = λ r. held_fault bytes r ≡ None in
    let both = passes (nat_lt place.dataoff (commands_end (ctx_of bytes) bytes)) fault.InCommands _ (subst P is found) in
    record {
      behind = ltb-false place.dataoff (commands_end (ctx_of bytes) bytes) both.0;
      passes = no_check (signature_fault place.dataoff place.datasize bytes) both.1;
    }

none_at : (check : Part → Option SigningFault) (parts : List Part) → first_fault check parts ≡ None → All (λ p. check p ≡ None) parts
none_at check [] none = All-nil (λ p. check p ≡ None)
none_at check (p ∷ parts) none =
    let both = first_none (check p) (first_fault check parts) none in
    All-cons (λ q. check q ≡ None) p parts both.0 (none_at check parts both.1)

pub parts_read : (bytes : List ℕ) → checking_fault bytes ≡ None → All (λ p. thin_fault (part_bytes bytes p) ≡ None) (parts_of bytes)
unfolding checking_fault
parts_read bytes none =
    none_at (λ p. thin_fault (part_bytes bytes p)) (parts_of bytes)
    (first_none (parts_fault bytes) (first_fault (λ p. thin_fault (part_bytes bytes p)) (parts_of bytes)) none).1

parts_pass : (pages : Pages) (bytes : List ℕ) → signing_fault pages bytes ≡ None → All (λ p. part_fault pages bytes p ≡ None) (parts_of bytes)
unfolding signing_fault
parts_pass pages bytes none =
    none_at (part_fault pages bytes) (parts_of bytes) (first_none (parts_fault bytes) (first_fault (part_fault pages bytes) (parts_of bytes)) none).1

-- where slots are made anew, signatures are read
pub signing_reads : (pages : Pages) (bytes : List ℕ) → signing_fault pages bytes ≡ None → All (λ p. thin_fault (part_bytes bytes p) ≡ None) (parts_of bytes)
signing_reads pages bytes none = λ k e here.
    let p : Part = get_or (parts_of bytes) k e in
    (renewal_parts (pages_in pages p) (part_bytes bytes p) (parts_pass pages bytes none k e here)).0

pub ends_before : (bytes : List ℕ) → thin_fault bytes ≡ None → EndsBeforeSignature bytes
ends_before bytes none place is = (held bytes place is none).behind

-- ## A thin file that is edited

tells_at : (old new : List ℕ) (r : Result (Option Place) SigningFault) → signature_place old ≡ r → IsKept old new → thin_fault old ≡ None → EndsBeforeSignature new → TellsSame old new
unfolding thin_directories has_identity
tells_at old new (Err found) is kept none ends =
    let there : signature_place new ≡ Err found = kept.place ∙ is in
    record { place = kept.place; directories = rw (there, is) refl; identity = rw (there, is) refl }
tells_at old new (Ok None) is kept none ends =
    let there : signature_place new ≡ Ok None = kept.place ∙ is in
    record { place = kept.place; directories = rw (there, is) refl; identity = rw (there, is) refl }
tells_at old new (Ok (Some place)) is kept none ends =
    let there : signature_place new ≡ Ok (Some place) = kept.place ∙ is in
    let same : drop place.dataoff new ≡ drop place.dataoff old =
    kept.behind (thin_passes old none) place.dataoff (held old place is none).behind (ends place there) in
    let bytes : signature_bytes place.dataoff place.datasize new ≡ signature_bytes place.dataoff place.datasize old = ap (take place.datasize) same in
    record { place = kept.place; directories = rw (there, is, bytes) refl; identity = rw (there, is, bytes) refl }

pub edited_part : (old new : List ℕ) → IsKept old new → thin_fault old ≡ None → EndsBeforeSignature new → TellsSame old new
edited_part old new kept none ends = tells_at old new (signature_place old) refl kept none ends

pub edited_signature : (old new : List ℕ) → IsKept old new → thin_fault old ≡ None → EndsBeforeSignature new → KeepsSignature old new
edited_signature old new kept none ends = record {
  tells = edited_part old new kept none ends;
  bytes = λ place is. kept.behind (thin_passes old none) place.dataoff (held old place is none).behind (ends place (kept.place ∙ is));
}

-- where the signature begins behind content, the new load commands end before it
pub kept_before : (old new : List ℕ) → IsKept old new → thin_fault old ≡ None → IsSignatureBehind old → EndsBeforeSignature new
kept_before old new kept none behind place there =
    let is : signature_place old ≡ Ok (Some place) = sym kept.place ∙ there in
    let first = (held old place is none).behind in
    let content = behind place is in
    let room = kept.room (thin_passes old none) in
    omega (arith, first, content, room)

-- ## A thin file whose slots are made anew

pub same_bytes : (touched : List ByteRange) (ds : List Directory) (old new : List ℕ) → ds ≡ [] → IsRenewed ds touched old new → new ≡ old
same_bytes touched ds old new none is =
    let P : List Directory → Type 0 = λ l. IsRenewed l touched old new in
    let renewed : IsRenewed [] touched old new = subst P none is in
    same_lists new old is.long
    (λ k d here.
    let long = is.long in
    get_or_default new k d 0 here ∙ renewed.kept k (λ h. absurd (let inside = h.2 in omega (arith, inside))) ∙ sym (get_or_default old k d 0 (omega (arith, here, long))))

pub same_place : (old new : List ℕ) → ShowsSame old new → TellsSamePlace old new
unfolding signature_place
same_place old new shows =
    ap (λ (c : Ctx). place_in c.le (signature_commands c.le (commands_of new))) shows.form
    ∙ ap (λ (l : List (List ℕ)). place_in (ctx_of old).le (signature_commands (ctx_of old).le l)) shows.commands

pub adhoc_here : (bytes : List ℕ) → has_identity bytes ≡ false → adhoc_directories bytes ≡ thin_directories bytes
unfolding adhoc_directories
adhoc_here bytes adhoc = rw adhoc refl

pub directories_here : (bytes : List ℕ) (place : Place) → signature_place bytes ≡ Ok (Some place) → thin_directories bytes ≡ directories_of place.dataoff (signature_bytes place.dataoff place.datasize bytes)
unfolding thin_directories
directories_here bytes place is = rw is refl

pub identity_here : (bytes : List ℕ) (place : Place) → signature_place bytes ≡ Ok (Some place) → has_identity bytes ≡ is_signed (signature_bytes place.dataoff place.datasize bytes)
unfolding has_identity
identity_here bytes place is = rw is refl

resigned_at : (touched : List ByteRange) (old new : List ℕ) (r : Result (Option Place) SigningFault) → signature_place old ≡ r → TellsSamePlace old new → has_identity old ≡ false → thin_fault old ≡ None → IsRenewed (adhoc_directories old) touched old new → TellsSameLayout old new
unfolding thin_directories has_identity
resigned_at touched old new (Err found) is same adhoc none renewed =
    let there : signature_place new ≡ Err found = same ∙ is in
    record { place = same; directories = rw (there, is) refl; identity = rw (there, is) refl }
resigned_at touched old new (Ok None) is same adhoc none renewed =
    let there : signature_place new ≡ Ok None = same ∙ is in
    record { place = same; directories = rw (there, is) refl; identity = rw (there, is) refl }
resigned_at touched old new (Ok (Some place)) is same adhoc none renewed =
    let there : signature_place new ≡ Ok (Some place) = same ∙ is in
    let P : List Directory → Type 0 = λ l. IsRenewed l touched old new in
    let resigned =
    is_resigned place.dataoff place.datasize old new touched (held old place is none).passes
    (subst P (adhoc_here old adhoc ∙ directories_here old place is) renewed) in
    record {
      place = same;
      directories = ap (map layout_of) (directories_here new place there)
          ∙ layouts_kept place.dataoff (signature_bytes place.dataoff place.datasize old) (signature_bytes place.dataoff place.datasize new) resigned
          ∙ ap (map layout_of) (sym (directories_here old place is));
      identity = identity_here new place there
          ∙ identity_kept place.dataoff (signature_bytes place.dataoff place.datasize old) (signature_bytes place.dataoff place.datasize new) resigned
          ∙ sym (identity_here old place is);
    }

pub signed_part : (touched : List ByteRange) (old new : List ℕ) → ShowsSame old new → thin_fault old ≡ None → IsRenewed (adhoc_directories old) touched old new → TellsSameLayout old new
signed_part touched old new shows none renewed =
    elim (cases_Bool (has_identity old)) [
      | inl identity ↦
          let same : new ≡ old = same_bytes touched (adhoc_directories old) old new (identity_directories old identity) renewed in
          let P : List ℕ → Type 0 = λ l. TellsSameLayout old l in
          subst P (sym same) (record { place = refl; directories = refl; identity = refl })
      | inr adhoc ↦ resigned_at touched old new (signature_place old) refl (same_place old new shows) adhoc none renewed
    ]

-- ## Pages that all are touched

whole_touches : (d : Directory) (page len : ℕ) → page_start d page < page_end d page → d.limit ≤ len → is_touched d (record { begin = 0; end = len } ∷ []) page ≡ true
unfolding is_touched
whole_touches d page len filled inside =
    or_left (meets_page d page (record { begin = 0; end = len })) false
    (lt-ltb (max 0 (page_start d page)) (min len (page_end d page)) (omega (arith, filled, inside)))

whole_fits_placed : (start : ℕ) (ds : List Directory) (old new : List ℕ) → ArePlaced start (length old) ds → IsRenewed ds (record { begin = 0; end = length old } ∷ []) old new → AllFit ds new
whole_fits_placed start ds old new placed renewed = λ k e here page inside.
    let d : Directory = get_or ds k e in
    let lies = (placed.each k e here).lies in
    let below = page_start-below d page lies.pages inside in
    let filled = lies.pages.filled in
    let limit = lies.limit in
    renewed.fits k e here page inside (whole_touches d page (length old) (omega (arith, below, filled)) limit)

nothing_fits : (ds : List Directory) (bytes : List ℕ) → ds ≡ [] → AllFit ds bytes
nothing_fits ds bytes none =
    let P : List Directory → Type 0 = λ l. AllFit l bytes in
    subst P (sym none) (All-nil _)

fault_directories : (bytes : List ℕ) (found : SigningFault) → signature_place bytes ≡ Err found → adhoc_directories bytes ≡ []
unfolding adhoc_directories thin_directories has_identity
fault_directories bytes found is = rw is refl

pub whole_at : (old new : List ℕ) (r : Result (Option Place) SigningFault) → signature_place old ≡ r → thin_fault old ≡ None → IsRenewed (adhoc_directories old) (touched_by all old) old new → AllFit (adhoc_directories old) new
whole_at old new (Err found) is none renewed = nothing_fits (adhoc_directories old) new (fault_directories old found is)
whole_at old new (Ok None) is none renewed = nothing_fits (adhoc_directories old) new (none_directories old is)
whole_at old new (Ok (Some place)) is none renewed =
    elim (cases_Bool (has_identity old)) [
      | inl identity ↦ nothing_fits (adhoc_directories old) new (identity_directories old identity)
      | inr adhoc ↦
          let P : List Directory → Type 0 = λ l. ArePlaced place.dataoff (length old) l in
          let told : directories_of place.dataoff (signature_bytes place.dataoff place.datasize old) ≡ adhoc_directories old =
          sym (adhoc_here old adhoc ∙ directories_here old place is) in
          whole_fits_placed place.dataoff (adhoc_directories old) old new
          (subst P told (passes_placed place.dataoff place.datasize old (held old place is none).passes)) renewed
    ]

-- ## What is told

-- slots that fit are told to fit
pub told_fit : (old new : List ℕ) → TellsSameLayout old new → AllFit (adhoc_directories old) new → has_identity new ≡ false → unfit_from 0 (thin_directories new) new ≡ []
told_fit old new same fits adhoc =
    let P : List Directory → Type 0 = λ l. AllFit l new in
    let here : AllFit (thin_directories old) new = subst P (adhoc_here old (sym same.identity ∙ adhoc)) fits in
    same_layouts_unfit 0 (thin_directories new) (thin_directories old) new same.directories ∙ all_fit_none 0 (thin_directories old) new here

-- slots of the edited file that fit are told to fit, and those that are told to fit do, by the directories of the edited file
pub fit_told : (old edited : List ℕ) → TellsSame old edited → (has_identity old ≡ false → unfit_from 0 (thin_directories old) old ≡ []) → AllFit (adhoc_directories edited) old
fit_told old edited same told =
    elim (cases_Bool (has_identity edited)) [
      | inl identity ↦ nothing_fits (adhoc_directories edited) old (identity_directories edited identity)
      | inr adhoc ↦
          let P : List Directory → Type 0 = λ l. AllFit l old in
          subst P (sym (adhoc_here edited adhoc ∙ same.directories)) (none_all_fit 0 (thin_directories old) old (told (sym same.identity ∙ adhoc)))
    ]

-- The signatures of a file are read again behind an edit, and behind slots that were made anew.
use Rattle.std.proofs.Common.{◌≡◌, ◌≤◌, ◌+◌, ◌∙◌, ℕ, true, false, List, [], ◌∷◌, length, map, take, drop, get_or, Option, Some, None, Result, Ok, Err, refl, sym, ap, subst, inl, inr, arith}
use Rattle.std.specs.List.{All}
use Rattle.std.proofs.lemmas.Bool.{cases_Bool, le-ltb}
use Rattle.std.proofs.lemmas.List.Elements.{All-cons, All-head, All-nil, All-tail}
use Rattle.macho_image.specs.declared.format.Ctx.{Ctx}
use Rattle.macho_image.specs.declared.format.MachFault.{MachFault}
use Rattle.macho_image.specs.Checks.{file_fault}
use Rattle.macho_image.specs.Fat.{archs_of, slice_of, table_fault}
use Rattle.macho_image.specs.Form.{commands_end, ctx_of, header_size}
use Rattle.macho_image.proofs.ForCallers.{header_size-least}
use Rattle.macho_signatures.specs.Blobs.{signature_bytes}
use Rattle.macho_signatures.specs.Renewed.{IsRenewed}
use Rattle.macho_signatures.specs.Signature.{directories_of, signature_fault}
use Rattle.macho_signatures.specs.declared.directory.Directory.{Directory}
use Rattle.macho_signatures.specs.declared.renewal.ByteRange.{ByteRange}
use Rattle.arwen_macho.specs.Found.{Found as FileFound, container_found, fat_found, found_fault, found_first, slices_found}
use Rattle.macho_signing.specs.Check.{Found, checking_fault, part_checked, parts_checked}
use Rattle.macho_signing.specs.File.{IsSigned, begins_fat, first_fault, pages_in, part_bytes, parts_fault, parts_of, signing_fault}
use Rattle.macho_signing.specs.Place.{signature_place}
use Rattle.macho_signing.specs.Shown.{FileShowsSame, ShowsSame}
use Rattle.macho_signing.specs.Thin.{Pages, adhoc_directories, file_check, has_identity, held_fault, thin_directories, thin_fault, touched_by}
use Rattle.macho_signing.specs.declared.fault.SigningFault.{SigningFault}
use Rattle.macho_signing.specs.declared.file.Part.{Part}
use Rattle.macho_signing.specs.declared.place.Place.{Place}
use Rattle.macho_signing.proofs.ShownLaws.{number_same}
use Rattle.macho_signing.proofs.ThinLaws.{first_none, identity_directories, thin_passes}
use Rattle.macho_commands_stores.specs.Kept.{InEachPart, IsAdhocNamedApart, IsNamedApart, TellsSame, TellsSamePlace}
use Rattle.macho_commands_stores.proofs.KeptParts.{same_parts}
use Rattle.macho_commands_stores.proofs.KeptSignature.{adhoc_here, directories_here, held, identity_here, parts_read, same_bytes, same_place, signing_reads}
use Rattle.macho_commands_stores.proofs.ReadAgain.{directories_again, signature_again}
use Rattle.macho_commands_stores.proofs.RenewedSignature.{identity_kept, is_resigned}
use Rattle.macho_commands_stores.proofs.StepSignature.{EndsBeforeSignature, IsKept}

-- ## A thin file

-- the signature of a thin file is read where the place that it tells is, in bytes that are accepted
reads_at : (old new : List ℕ) (r : Result (Option Place) SigningFault) → signature_place old ≡ r → TellsSamePlace old new → thin_fault old ≡ None → file_fault new ≡ None → ((place : Place) → r ≡ Ok (Some place) → (commands_end (ctx_of new) new ≤ place.dataoff) × (signature_fault place.dataoff place.datasize new ≡ None)) → thin_fault new ≡ None
unfolding thin_fault
reads_at old new (Err found) is same none accepted at =
    let was : held_fault old (signature_place old) ≡ None = (first_none (file_check (file_fault old)) (held_fault old (signature_place old)) none).1 in
    let P : Result (Option Place) SigningFault → Type 0 = λ r. held_fault old r ≡ None in
    absurd (let e : Some found ≡ None = subst P is was in cc)
reads_at old new (Ok None) is same none accepted at =
    let there : signature_place new ≡ Ok None = same ∙ is in
    rw (accepted, there) refl
reads_at old new (Ok (Some place)) is same none accepted at =
    let there : signature_place new ≡ Ok (Some place) = same ∙ is in
    let here = at place refl in
    rw (accepted, there, le-ltb place.dataoff (commands_end (ctx_of new) new) here.0, here.1) refl

-- behind an edit
kept_bytes : (old new : List ℕ) (place : Place) → drop place.dataoff new ≡ drop place.dataoff old → length new ≡ length old → signature_fault place.dataoff place.datasize old ≡ None → signature_fault place.dataoff place.datasize new ≡ None
unfolding signature_fault
kept_bytes old new place same long none =
    let bytes : signature_bytes place.dataoff place.datasize new ≡ signature_bytes place.dataoff place.datasize old = ap (take place.datasize) same in
    rw (bytes, long) none

edited_reads : (old new : List ℕ) → IsKept old new → thin_fault old ≡ None → EndsBeforeSignature new → thin_fault new ≡ None
edited_reads old new kept none ends =
    reads_at old new (signature_place old) refl kept.place none kept.accepted
    (λ place is.
    let before = ends place (kept.place ∙ is) in
    let was = held old place is none in
    (before, kept_bytes old new place (kept.behind (thin_passes old none) place.dataoff was.behind before) kept.long was.passes))

-- behind slots
same_end : (old new : List ℕ) → ShowsSame old new → commands_end (ctx_of new) new ≡ commands_end (ctx_of old) old
same_end old new shows =
    let least = header_size-least (ctx_of old).container in
    ap (λ (c : Ctx). commands_end c new) shows.form
    ∙ ap (λ (n : ℕ). header_size (ctx_of old).container + n) (number_same (ctx_of old).le 4 20 (commands_end (ctx_of old) old) old new shows.front (omega (arith, least)))

abbrev ReadsSame : List ℕ → List ℕ → Type 0
ReadsSame old new = (thin_fault new ≡ None) × TellsSame old new

signed_at : (touched : List ByteRange) (old new : List ℕ) (r : Result (Option Place) SigningFault) → signature_place old ≡ r → ShowsSame old new → has_identity old ≡ false → thin_fault old ≡ None → length new ≡ length old → IsRenewed (adhoc_directories old) touched old new → All IsNamedApart (thin_directories old) → ReadsSame old new
unfolding thin_directories has_identity
signed_at touched old new (Err found) is shows adhoc none long renewed apart =
    let same = same_place old new shows in
    let there : signature_place new ≡ Err found = same ∙ is in
    (reads_at old new (Err found) is same none shows.accepted (λ place e. absurd (cc)), record { place = same; directories = rw (there, is) refl; identity = rw (there, is) refl })
signed_at touched old new (Ok None) is shows adhoc none long renewed apart =
    let same = same_place old new shows in
    let there : signature_place new ≡ Ok None = same ∙ is in
    (reads_at old new (Ok None) is same none shows.accepted (λ place e. absurd (cc)), record { place = same; directories = rw (there, is) refl; identity = rw (there, is) refl })
signed_at touched old new (Ok (Some place)) is shows adhoc none long renewed apart =
    let same = same_place old new shows in
    let there : signature_place new ≡ Ok (Some place) = same ∙ is in
    let was = held old place is none in
    let s : List ℕ = signature_bytes place.dataoff place.datasize old in
    let t : List ℕ = signature_bytes place.dataoff place.datasize new in
    let P : List Directory → Type 0 = λ l. IsRenewed l touched old new in
    let Q : List Directory → Type 0 = λ l. All IsNamedApart l in
    let resigned = is_resigned place.dataoff place.datasize old new touched was.passes (subst P (adhoc_here old adhoc ∙ directories_here old place is) renewed) in
    let named : All IsNamedApart (directories_of place.dataoff s) = subst Q (directories_here old place is) apart in
    let again : signature_fault place.dataoff place.datasize new ≡ None = signature_again place.dataoff place.datasize old new was.passes long resigned named in
    let end = same_end old new shows in
    let behind = was.behind in (
      reads_at old new (Ok (Some place)) is same none shows.accepted
          (λ other e.
          let one : place ≡ other = cc in
          let R : Place → Type 0 = λ x. (commands_end (ctx_of new) new ≤ x.dataoff) × (signature_fault x.dataoff x.datasize new ≡ None) in
          subst R one (omega (arith, end, behind), again)),
      record {
        place = same;
        directories = directories_here new place there ∙ directories_again place.dataoff s t resigned named ∙ sym (directories_here old place is);
        identity = identity_here new place there ∙ identity_kept place.dataoff s t resigned ∙ sym (identity_here old place is);
      },
    )

signed_reads : (touched : List ByteRange) (old new : List ℕ) → ShowsSame old new → thin_fault old ≡ None → IsRenewed (adhoc_directories old) touched old new → (has_identity old ≡ false → All IsNamedApart (thin_directories old)) → ReadsSame old new
signed_reads touched old new shows none renewed apart =
    elim (cases_Bool (has_identity old)) [
      | inl identity ↦
          let same : new ≡ old = same_bytes touched (adhoc_directories old) old new (identity_directories old identity) renewed in
          let P : List ℕ → Type 0 = λ l. ReadsSame old l in
          subst P (sym same) (none, record { place = refl; directories = refl; identity = refl })
      | inr adhoc ↦ signed_at touched old new (signature_place old) refl shows adhoc none renewed.long renewed (apart adhoc)
    ]

-- ## A file

all_pass : (check : Part → Option SigningFault) (parts : List Part) → All (λ p. check p ≡ None) parts → first_fault check parts ≡ None
all_pass check [] pass = refl
all_pass check (p ∷ parts) pass =
    let here = All-head (λ q. check q ≡ None) p parts pass in
    let rest = all_pass check parts (All-tail (λ q. check q ≡ None) p parts pass) in
    rw here rest

reads_all : (bytes : List ℕ) → parts_fault bytes ≡ None → All (λ p. thin_fault (part_bytes bytes p) ≡ None) (parts_of bytes) → checking_fault bytes ≡ None
unfolding checking_fault
reads_all bytes table parts = rw table (all_pass (λ p. thin_fault (part_bytes bytes p)) (parts_of bytes) parts)

table_of : (bytes : List ℕ) → begins_fat bytes ≡ true → parts_fault bytes ≡ file_check (table_fault bytes)
unfolding parts_fault
table_of bytes fat = rw fat refl

no_table : (bytes : List ℕ) → begins_fat bytes ≡ false → parts_fault bytes ≡ None
unfolding parts_fault
no_table bytes thin = rw thin refl

table_passes : (bytes : List ℕ) → begins_fat bytes ≡ true → table_fault bytes ≡ None → parts_fault bytes ≡ None
table_passes bytes fat none = table_of bytes fat ∙ ap file_check none

none_fault : (check : Option MachFault) → found_fault check ≡ None → check ≡ None
none_fault None none = refl
none_fault (Some check) none = absurd (cc)

-- what is accepted has a table that passes
accepted_table : (bytes : List ℕ) → begins_fat bytes ≡ true → container_found bytes ≡ None → table_fault bytes ≡ None
unfolding container_found fat_found
accepted_table bytes fat found =
    let both : found_first (found_fault (table_fault bytes)) (slices_found (map (slice_of bytes) (archs_of bytes))) ≡ None = rw fat at found in
    none_fault (table_fault bytes) (first_of (found_fault (table_fault bytes)) (slices_found (map (slice_of bytes) (archs_of bytes))) both)
  where
    first_of : (a b : Option FileFound) → found_first a b ≡ None → a ≡ None
    first_of None b none = refl
    first_of (Some found) b none = absurd (cc)

accepted_parts : (bytes : List ℕ) → container_found bytes ≡ None → parts_fault bytes ≡ None
accepted_parts bytes found =
    elim (cases_Bool (begins_fat bytes)) [
      | inl fat ↦ table_passes bytes fat (accepted_table bytes fat found)
      | inr thin ↦ no_table bytes thin
    ]

-- behind an edit
pub edit_reads : (old new : List ℕ) → container_found new ≡ None → InEachPart IsKept old new → checking_fault old ≡ None → All (λ p. EndsBeforeSignature (part_bytes new p)) (parts_of new) → checking_fault new ≡ None
edit_reads old new found kept none ends =
    let P : List Part → Type 0 = λ l. All (λ p. EndsBeforeSignature (part_bytes new p)) l in
    let Q : List Part → Type 0 = λ l. All (λ p. thin_fault (part_bytes new p) ≡ None) l in
    let before = subst P kept.parts ends in
    let reads = parts_read old none in
    reads_all new (accepted_parts new found)
    (subst Q (sym kept.parts)
    (λ k e here.
    let p : Part = get_or (parts_of old) k e in
    edited_reads (part_bytes old p) (part_bytes new p) (kept.each k e here) (reads k e here) (before k e here)))

-- behind slots
same_table : (old new : List ℕ) → FileShowsSame old new → parts_fault new ≡ None
same_table old new same =
    elim (cases_Bool (begins_fat old)) [
      | inl fat ↦ table_passes new (same.shape ∙ fat) (same.table fat).0
      | inr thin ↦ no_table new (same.shape ∙ thin)
    ]

-- in each part that no identity signed the identifiers stand in no slots
abbrev pub ArePartsNamedApart : List ℕ → Type 0
ArePartsNamedApart bytes = All (λ p. has_identity (part_bytes bytes p) ≡ false → All IsNamedApart (thin_directories (part_bytes bytes p))) (parts_of bytes)

pub slots_read : (pages : Pages) (old new : List ℕ) → signing_fault pages old ≡ None → IsSigned pages old new → FileShowsSame old new → ArePartsNamedApart old → (checking_fault new ≡ None) × InEachPart TellsSame old new
slots_read pages old new none is same apart =
    let parts : parts_of new ≡ parts_of old = same_parts old new same in
    let reads = signing_reads pages old none in
    let each : All (λ p. ReadsSame (part_bytes old p) (part_bytes new p)) (parts_of old) = λ k e here.
    let p : Part = get_or (parts_of old) k e in
    signed_reads (touched_by (pages_in pages p) (part_bytes old p)) (part_bytes old p) (part_bytes new p) (same.parts k e here) (reads k e here) (is.parts k e here) (apart k e here) in
    let Q : List Part → Type 0 = λ l. All (λ p. thin_fault (part_bytes new p) ≡ None) l in (
      reads_all new (same_table old new same) (subst Q (sym parts) (λ k e here. (each k e here).0)),
      record { parts = parts; each = λ k e here. (each k e here).1 },
    )

-- the identifiers stand in no slots of each part of a file that tells the same
all_of_map : (f : Part → Found) (parts : List Part) → All IsAdhocNamedApart (map f parts) → All (λ p. IsAdhocNamedApart (f p)) parts
all_of_map f [] told = All-nil (λ p. IsAdhocNamedApart (f p))
all_of_map f (p ∷ parts) told =
    All-cons (λ q. IsAdhocNamedApart (f q)) p parts (All-head IsAdhocNamedApart (f p) (map f parts) told) (all_of_map f parts (All-tail IsAdhocNamedApart (f p) (map f parts) told))

pub named_apart : (old new : List ℕ) → InEachPart TellsSame old new → All IsAdhocNamedApart (parts_checked old) → ArePartsNamedApart new
unfolding parts_checked
named_apart old new same told =
    let P : List Part → Type 0 = λ l. All (λ p. has_identity (part_bytes new p) ≡ false → All IsNamedApart (thin_directories (part_bytes new p))) l in
    let each = all_of_map (part_checked old) (parts_of old) told in
    subst P (sym same.parts)
    (λ k e here adhoc.
    let Q : List Directory → Type 0 = λ l. All IsNamedApart l in
    let tells = same.each k e here in
    subst Q (sym tells.directories) (each k e here (sym tells.identity ∙ adhoc)))

-- files that tell the same, one upon another
pub tells_after : (a b c : List ℕ) → TellsSame a b → TellsSame b c → TellsSame a c
tells_after a b c first next = record {
  place = next.place ∙ first.place;
  directories = next.directories ∙ first.directories;
  identity = next.identity ∙ first.identity;
}

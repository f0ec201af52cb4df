-- Thin and fat files begin otherwise.
use Rattle.std.proofs.Common.{◌≡◌, ◌≤◌, ◌&&◌, ℕ, Bool, true, false, List, length, Some, None, refl, sym, ap, ◌∙◌, nat_le, arith}
use Rattle.std.proofs.lemmas.Bool.{eqb-true, le-leb, leb-true}
use Rattle.patch_bytes.specs.declared.number.ByteOrder2.TheVariants.{Big}
use Rattle.patch_bytes.specs.Bytes.{AreBytes}
use Rattle.patch_bytes.specs.Number.{bytes_of, field, number_at}
use Rattle.patch_bytes.proofs.NumberLaws.{bytes_of-number_at, number_at-same}
use Rattle.macho_image.specs.declared.fat.TheConstants.{FAT_MAGIC}
use Rattle.macho_image.specs.Checks.{file_fault}
use Rattle.macho_image.specs.Fat.{has_fat_magic}
use Rattle.macho_image.specs.Form.{ctx_of, form_of}
use Rattle.macho_image.proofs.ForCallers.{file_passes, form_of-same, number_at-with_area_front, table_passes}
use Rattle.arwen_macho.specs.declared.macho.MachoType.TheVariants.{Fat, SingleArch}
use Rattle.arwen_macho.specs.ContainerShown.{ShowsFile}
use Rattle.arwen_macho.specs.FatHeld.{FatHeld}
use Rattle.arwen_macho.specs.FatShown.{FatShows}
use Rattle.arwen_macho.specs.Found.{begins_fat, container_found, fat_found}
use Rattle.macho_edits.specs.Held.{Held}
use Rattle.arwen_macho.specs.Shown.{Shows}
use Rattle.macho_edits.specs.State.{State, laid_bytes}
use Rattle.macho_edits.specs.Whole.{IsState}
use Rattle.std.specs.List.{concat}
use Rattle.arwen_macho.proofs.FatLaws.{accepted_parts}

fat_has_no_form : form_of (bytes_of Big 4 FAT_MAGIC) ≡ None
unfolding form_of number_at
fat_has_no_form = refl

begins_fat-no_form : (bytes : List ℕ) → AreBytes bytes → 4 ≤ length bytes → number_at Big 4 0 bytes ≡ FAT_MAGIC → form_of bytes ≡ None
begins_fat-no_form bytes are long magic =
    let front : bytes_of Big 4 FAT_MAGIC ≡ field 4 0 bytes = ap (bytes_of Big 4) (sym magic) ∙ bytes_of-number_at Big 4 0 bytes are long in
    form_of-same bytes (bytes_of Big 4 FAT_MAGIC) (λ order. number_at-same order 4 0 0 bytes (bytes_of Big 4 FAT_MAGIC) (sym front))
    ∙ fat_has_no_form

both : (a b : Bool) → (a && b) ≡ true → (a ≡ true) × (b ≡ true)
both true true is = (refl, refl)
both true false is = absurd (cc)
both false b is = absurd (cc)

thin_by : (bytes : List ℕ) (b : Bool) → AreBytes bytes → file_fault bytes ≡ None → begins_fat bytes ≡ b → b ≡ false
thin_by bytes false are passes is = refl
thin_by bytes true are passes is =
    let p = both (nat_le 4 (length bytes)) (has_fat_magic bytes) is in
    let none : form_of bytes ≡ None = begins_fat-no_form bytes are (leb-true 4 (length bytes) p.0) (eqb-true (number_at Big 4 0 bytes) FAT_MAGIC p.1) in
    let some : form_of bytes ≡ Some (ctx_of bytes) = (file_passes bytes passes).1 in
    absurd (cc)

-- a thin file does not begin as a fat one
pub thin_begins : (bytes : List ℕ) → AreBytes bytes → file_fault bytes ≡ None → begins_fat bytes ≡ false
thin_begins bytes are passes = thin_by bytes (begins_fat bytes) are passes refl

pub fat_begins : (bytes : List ℕ) → fat_found bytes ≡ None → begins_fat bytes ≡ true
fat_begins bytes passes =
    let table = table_passes bytes (accepted_parts bytes passes).0 in
    let long : nat_le 4 (length bytes) ≡ true = le-leb 4 (length bytes) (omega (arith, table.2)) in
    rw (long, table.1) refl

magic-laid : (s : State) → IsState s → number_at Big 4 0 (laid_bytes s) ≡ number_at Big 4 0 s.old
unfolding laid_bytes
magic-laid s is = number_at-with_area_front Big 4 0 (ctx_of s.old) s.old (length s.list) (concat s.list) s.high record { room = is.low; inside = is.inside } (omega arith)

-- the bytes of a state begin as those that were read
begins_fat-laid : (s : State) (bytes : List ℕ) → IsState s → bytes ≡ laid_bytes s → Shows s bytes → begins_fat bytes ≡ begins_fat s.old
begins_fat-laid s bytes is same shows =
    let magic : number_at Big 4 0 bytes ≡ number_at Big 4 0 s.old = ap (number_at Big 4 0) same ∙ magic-laid s is in
    rw (shows.long, magic) refl

pub thin_shows : (held : Held) (bytes : List ℕ) → IsState held.state → bytes ≡ laid_bytes held.state → Shows held.state bytes → ShowsFile (SingleArch held) bytes
unfolding container_found
thin_shows held bytes is same shows =
    let begins = begins_fat-laid held.state bytes is same shows ∙ thin_begins held.state.old is.bytes is.accepted in
    record { accepted = rw (begins, shows.accepted) refl; shape = begins; state = shows }

pub fat_shows : (held : FatHeld) (bytes : List ℕ) → FatShows held.state bytes → ShowsFile (Fat held) bytes
unfolding container_found
fat_shows held bytes shows =
    let begins = fat_begins bytes shows.accepted in
    record { accepted = rw (begins, shows.accepted) refl; shape = begins; state = shows }

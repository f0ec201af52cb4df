-- What is read of a thin file's signature, the directories that may be made anew, and where their slots stand.
use Rattle.std.proofs.Common.{◌≡◌, ◌≤◌, ◌+◌, ℕ, Bool, true, false, nat_lt, List, [], length, Option, Some, None, Ok, refl, sym, ap, ◌∙◌, subst, arith, if◌then◌else◌}
use Rattle.std.specs.List.{All}
use Rattle.std.proofs.lemmas.Bool.{ltb-false}
use Rattle.macho_image.specs.Checks.{file_fault}
use Rattle.macho_image.specs.Form.{commands_end, ctx_of}
use Rattle.macho_image.specs.declared.format.MachFault.{MachFault}
use Rattle.macho_signatures.specs.declared.directory.Directory.{Directory}
use Rattle.macho_signatures.specs.declared.fault.SignatureFault.TheVariants.{Outside}
use Rattle.macho_signatures.specs.declared.signature.Signature.{Signature}
use Rattle.macho_signatures.specs.Renewed.{SlotLies, renewed_slots}
use Rattle.macho_signatures.specs.Signature.{ArePlaced, signature_fault}
use Rattle.macho_signatures.proofs.PlaceLaws as places
use Rattle.macho_signatures.proofs.RenewedLaws.{slots_lie}
use Rattle.macho_signing.specs.declared.fault.SigningFault.{SigningFault}
use Rattle.macho_signing.specs.declared.fault.SigningFault.TheVariants as fault
use Rattle.macho_signing.specs.Place.{signature_place}
use Rattle.macho_signing.specs.Thin.{AreSlotsPlaced, HoldsSignature, Pages, adhoc_directories, file_check, has_identity, held_fault, is_changed_from, first_there, renewal_fault, thin_directories, thin_fault, thin_slots, touch_fault, touched_by}

-- ## Faults

pub first_none : (a b : Option SigningFault) → first_there a b ≡ None → (a ≡ None) × (b ≡ None)
first_none None b none = (refl, none)
first_none (Some found) b none = absurd (let e : Some found ≡ None = none in cc)

pub no_check : (check : Option MachFault) → file_check check ≡ None → check ≡ None
no_check None none = refl
no_check (Some found) none = absurd (let e : Some (fault.File found) ≡ None = none in cc)

pub thin_passes : (bytes : List ℕ) → thin_fault bytes ≡ None → file_fault bytes ≡ None
unfolding thin_fault
thin_passes bytes none = no_check (file_fault bytes) (first_none (file_check (file_fault bytes)) (held_fault bytes (signature_place bytes)) none).0

pub renewal_parts : (pages : Pages) (bytes : List ℕ) → renewal_fault pages bytes ≡ None → (thin_fault bytes ≡ None) × (touch_fault pages bytes (signature_place bytes) ≡ None)
unfolding renewal_fault
renewal_parts pages bytes none = first_none (thin_fault bytes) (touch_fault pages bytes (signature_place bytes)) none

pub renewal_passes : (pages : Pages) (bytes : List ℕ) → renewal_fault pages bytes ≡ None → (file_fault bytes ≡ None) × (touch_fault pages bytes (signature_place bytes) ≡ None)
unfolding renewal_fault
renewal_passes pages bytes none =
    let both = first_none (thin_fault bytes) (touch_fault pages bytes (signature_place bytes)) none in
    (thin_passes bytes both.0, both.1)

-- ## Without a signature

pub none_directories : (bytes : List ℕ) → signature_place bytes ≡ Ok None → adhoc_directories bytes ≡ []
unfolding adhoc_directories thin_directories has_identity
none_directories bytes is = rw is refl

pub none_identity : (bytes : List ℕ) → signature_place bytes ≡ Ok None → has_identity bytes ≡ false
unfolding has_identity
none_identity bytes is = rw is refl

pub no_slots : (pages : Pages) (bytes : List ℕ) → adhoc_directories bytes ≡ [] → [] ≡ thin_slots pages bytes
unfolding thin_slots
no_slots pages bytes none = ap (λ (ds : List Directory). renewed_slots ds (touched_by pages bytes) bytes) (sym none)

none_are_placed : (start len : ℕ) → ArePlaced start len []
none_are_placed start len = record {
  each = λ k e here. absurd (omega (arith, here));
  apart = λ i j e before here. absurd (omega (arith, here));
}

pub no_slots_placed : (bytes : List ℕ) → adhoc_directories bytes ≡ [] → AreSlotsPlaced bytes
no_slots_placed bytes none =
    let P : List Directory → Type 0 = λ ds. ArePlaced (commands_end (ctx_of bytes) bytes) (length bytes) ds in
    record {
      start = commands_end (ctx_of bytes) bytes;
      behind = omega arith;
      placed = subst P (sym none) (none_are_placed (commands_end (ctx_of bytes) bytes) (length bytes));
    }

-- ## With one

pub held_identity : (bytes : List ℕ) (found : Signature) (holds : HoldsSignature bytes found) → has_identity bytes ≡ found.is_signed
unfolding has_identity
held_identity bytes found holds = rw (holds.is, holds.tells.signed) refl

pub identity_directories : (bytes : List ℕ) → has_identity bytes ≡ true → adhoc_directories bytes ≡ []
unfolding adhoc_directories
identity_directories bytes is = rw is refl

pub held_directories : (bytes : List ℕ) (found : Signature) → HoldsSignature bytes found → has_identity bytes ≡ false → adhoc_directories bytes ≡ found.directories.items
unfolding adhoc_directories thin_directories
held_directories bytes found holds is = rw (is, holds.is, holds.tells.directories) refl

pub held_placed : (bytes : List ℕ) (found : Signature) → HoldsSignature bytes found → has_identity bytes ≡ false → AreSlotsPlaced bytes
held_placed bytes found holds is =
    let P : List Directory → Type 0 = λ ds. ArePlaced holds.place.dataoff (length bytes) ds in
    record {
      start = holds.place.dataoff;
      behind = holds.behind;
      placed = subst P (sym (held_directories bytes found holds is)) holds.placed;
    }

pub held_slots : (pages : Pages) (bytes : List ℕ) (found : Signature) → HoldsSignature bytes found → has_identity bytes ≡ false → renewed_slots found.directories.items (touched_by pages bytes) bytes ≡ thin_slots pages bytes
unfolding thin_slots
held_slots pages bytes found holds is = ap (λ (ds : List Directory). renewed_slots ds (touched_by pages bytes) bytes) (sym (held_directories bytes found holds is))

-- a signature begins in the file
inside_of : (start size : ℕ) (bytes : List ℕ) → signature_fault start size bytes ≡ None → start ≤ length bytes
unfolding signature_fault
inside_of start size bytes none =
    let room = (places.passes (nat_lt (length bytes) (start + size)) Outside _ none).0 in
    let within = ltb-false (length bytes) (start + size) room in
    omega (arith, within)

pub held_inside : (bytes : List ℕ) (found : Signature) → HoldsSignature bytes found → found.start ≤ length bytes
held_inside bytes found holds =
    let inside = inside_of holds.place.dataoff holds.place.datasize bytes holds.passes in
    let same = holds.tells.begins in
    omega (arith, inside, same)

-- whether bytes of it differ
pub held_touch : (pages : Pages) (bytes : List ℕ) (found : Signature) (answer : Bool) → HoldsSignature bytes found → has_identity bytes ≡ false → answer ≡ is_changed_from found.start pages bytes → touch_fault pages bytes (signature_place bytes) ≡ (if answer then Some fault.ChangedSignature else None)
held_touch pages bytes found answer holds is told =
    let same : is_changed_from holds.place.dataoff pages bytes ≡ answer = ap (λ (k : ℕ). is_changed_from k pages bytes) (sym holds.tells.begins) ∙ sym told in
    rw (holds.is, is, same) refl

pub identity_touch : (pages : Pages) (bytes : List ℕ) (found : Signature) → HoldsSignature bytes found → has_identity bytes ≡ true → touch_fault pages bytes (signature_place bytes) ≡ None
identity_touch pages bytes found holds is = rw (holds.is, is) refl

pub none_touch : (pages : Pages) (bytes : List ℕ) → signature_place bytes ≡ Ok None → touch_fault pages bytes (signature_place bytes) ≡ None
none_touch pages bytes is = rw is refl

-- ## Slots

-- the slots of a thin file lie in the file
pub thin_slots_lie : (pages : Pages) (bytes : List ℕ) → AreSlotsPlaced bytes → All (SlotLies (length bytes)) (thin_slots pages bytes)
unfolding thin_slots
thin_slots_lie pages bytes are = slots_lie are.start (length bytes) (adhoc_directories bytes) (touched_by pages bytes) bytes are.placed

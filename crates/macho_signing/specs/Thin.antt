-- The code signature of a thin file: why it is refused, the directories that it has, and the slots that are made anew.
use Rattle.std.specs.Prelude.{ℕ, ◌≡◌, ◌≤◌, ◌+◌, Bool, false, not, nat_eq, nat_lt, ◌&&◌, List, [], ◌∷◌, length, map, filter, drop, slice_index, Option, Some, None, Result, Ok, Err, if◌then◌else◌, option_map, ⊤}
use Rattle.std.specs.List.{range_with_len}
use Rattle.std.specs.Str.{bytes_eq}
use Rattle.macho_image.specs.Checks.{file_fault}
use Rattle.macho_image.specs.Form.{commands_end, ctx_of}
use Rattle.macho_image.specs.declared.format.MachFault.{MachFault}
use Rattle.macho_signatures.specs.Blobs.{signature_bytes}
use Rattle.macho_signatures.specs.Renewed.{renewed_slots}
use Rattle.macho_signatures.specs.Signature.{ArePlaced, Tells, directories_of, is_signed, signature_fault}
use Rattle.macho_signatures.specs.declared.directory.Directory.{Directory}
use Rattle.macho_signatures.specs.declared.fault.SignatureFault.{SignatureFault}
use Rattle.macho_signatures.specs.declared.renewal.ByteRange.{ByteRange}
use Rattle.macho_signatures.specs.declared.renewal.Slot.{Slot}
use Rattle.macho_signatures.specs.declared.signature.Signature.{Signature}
use Rattle.macho_signing.specs.Place.{signature_place}
use Rattle.macho_signing.specs.declared.fault.SigningFault.{SigningFault}
use Rattle.macho_signing.specs.declared.fault.SigningFault.TheVariants as fault
use Rattle.macho_signing.specs.declared.place.Place.{Place}
use Rattle.macho_signing.specs.declared.scope.Scope.{Scope}
use Rattle.macho_signing.specs.declared.scope.Scope.TheVariants as scope
pub use Rattle.patch_bytes.specs.Memory.{first_there}

-- ## Checks

-- a check of the file, and one of its signature
abbrev pub file_check : Option MachFault → Option SigningFault
file_check check = option_map (λ f. fault.File f) check

abbrev pub signature_check : Option SignatureFault → Option SigningFault
signature_check check = option_map (λ f. fault.Signature f) check

-- what is wrong with the commands that tell of a signature
abbrev pub place_check : Result (Option Place) SigningFault → Option SigningFault
place_check (Ok place) = None
place_check (Err found) = Some found

-- the checks of a signature at a place: it begins behind the load commands, and doesn't contradict itself
abbrev pub place_fault : List ℕ → Place → Option SigningFault
place_fault bytes place =
    if nat_lt place.dataoff (commands_end (ctx_of bytes) bytes) then Some fault.InCommands
    else signature_check (signature_fault place.dataoff place.datasize bytes)

abbrev pub held_fault : List ℕ → Result (Option Place) SigningFault → Option SigningFault
held_fault bytes (Err found) = Some found
held_fault bytes (Ok None) = None
held_fault bytes (Ok (Some place)) = place_fault bytes place

-- the checks of a thin file and of its signature, where it has one
unfoldable pub thin_fault : List ℕ → Option SigningFault
thin_fault bytes = first_there (file_check (file_fault bytes)) (held_fault bytes (signature_place bytes))

-- ## Directories

abbrev pub directories_at : List ℕ → Result (Option Place) SigningFault → List Directory
directories_at bytes (Ok (Some place)) = directories_of place.dataoff (signature_bytes place.dataoff place.datasize bytes)
directories_at bytes _ = []

-- the directories of a file's signature; none where it has no signature
unfoldable pub thin_directories : List ℕ → List Directory
thin_directories bytes = directories_at bytes (signature_place bytes)

abbrev pub is_identity_at : List ℕ → Result (Option Place) SigningFault → Bool
is_identity_at bytes (Ok (Some place)) = is_signed (signature_bytes place.dataoff place.datasize bytes)
is_identity_at bytes _ = false

-- an identity signed the file
unfoldable pub has_identity : List ℕ → Bool
has_identity bytes = is_identity_at bytes (signature_place bytes)

-- the directories whose slots may be made anew: those of an ad-hoc signature
unfoldable pub adhoc_directories : List ℕ → List Directory
adhoc_directories bytes = if has_identity bytes then [] else thin_directories bytes

-- what is read of a signature that a file has
pub record HoldsSignature (bytes : List ℕ) (found : Signature) : Type 0 where
  pub place : Place
  pub is : signature_place bytes ≡ Ok (Some place)
  pub behind : commands_end (ctx_of bytes) bytes ≤ place.dataoff
  pub passes : signature_fault place.dataoff place.datasize bytes ≡ None
  pub tells : Tells place.dataoff (signature_bytes place.dataoff place.datasize bytes) found
  pub placed : ArePlaced place.dataoff (length bytes) found.directories.items

-- the slots of the directories that may be made anew stand behind the load commands, and the pages before all slots
pub record AreSlotsPlaced (bytes : List ℕ) : Type 0 where
  pub start : ℕ
  pub behind : commands_end (ctx_of bytes) bytes ≤ start
  pub placed : ArePlaced start (length bytes) (adhoc_directories bytes)

-- what is read, or that there is no signature
abbrev pub Holds : List ℕ → Option Signature → Type 0
Holds bytes None = signature_place bytes ≡ Ok None
Holds bytes (Some found) = HoldsSignature bytes found

-- ## Slots

-- which pages get their slots made anew: all, or those in which a byte differs from other bytes
pub data Pages : Type 0 where
  all : Pages
  since : List ℕ → Pages

abbrev pub pages_of : Scope → Pages
pages_of scope.All = all
pages_of (scope.Since old) = since old.now

-- the bytes that pages are compared with are as many
abbrev pub AreAsLong : Pages → List ℕ → Type 0
AreAsLong all bytes = ⊤
AreAsLong (since old) bytes = length old ≡ length bytes

-- the place of one byte, as a range
abbrev pub one_byte : ℕ → ByteRange
one_byte i = record { begin = i; end = i + 1 }

-- each place at which bytes differ
unfoldable pub differences : List ℕ → List ℕ → List ByteRange
differences old new =
    map one_byte (filter (λ i. not (nat_eq (slice_index old i) (slice_index new i))) (range_with_len 0 (length new)))

-- the bytes whose pages get their slots made anew
abbrev pub touched_by : Pages → List ℕ → List ByteRange
touched_by all bytes = record { begin = 0; end = length bytes } ∷ []
touched_by (since old) bytes = differences old bytes

-- some byte from a position on differs from the other bytes
abbrev pub is_changed_from : ℕ → Pages → List ℕ → Bool
is_changed_from start all bytes = false
is_changed_from start (since old) bytes = not (bytes_eq (drop start old) (drop start bytes))

-- where an ad-hoc signature begins, and behind that, no byte differs from the other bytes
abbrev pub touch_fault : Pages → List ℕ → Result (Option Place) SigningFault → Option SigningFault
touch_fault pages bytes (Ok (Some place)) =
    if not (has_identity bytes) && is_changed_from place.dataoff pages bytes then Some fault.ChangedSignature else None
touch_fault pages bytes place = None

-- why no slots are made anew
unfoldable pub renewal_fault : Pages → List ℕ → Option SigningFault
renewal_fault pages bytes = first_there (thin_fault bytes) (touch_fault pages bytes (signature_place bytes))

-- the slots that are made anew, each with the hash of its page
unfoldable pub thin_slots : Pages → List ℕ → List Slot
thin_slots pages bytes = renewed_slots (adhoc_directories bytes) (touched_by pages bytes) bytes

-- A thin file of which the first bytes are edited: what these and its signature tell of the slots that are made anew.
use Rattle.std.specs.Prelude.{ℕ, ◌≡◌, ◌<◌, ◌≤◌, ◌+◌, ◌^◌, ◌++◌, List, length, None}
use Rattle.macho_signatures.specs.Blobs.{signature_bytes}
use Rattle.macho_signatures.specs.Pages.{page_end, page_start}
use Rattle.macho_signatures.specs.Signature.{ArePlaced, Tells, bytes_fault}
use Rattle.macho_signatures.specs.declared.directory.Directory.{Directory}
use Rattle.macho_signatures.specs.declared.signature.Signature.{Signature}
use Rattle.macho_signing.specs.Thin.{AreSlotsPlaced, Pages, has_identity, renewal_fault, thin_slots}
use Rattle.macho_signing.specs.declared.place.Place.{Place}
use Rattle.macho_signing.specs.declared.thin.ThinSlots.{ThinSlots}

-- a relation holds of all files with the same bytes behind these first ones, before and after an edit of them
abbrev pub AreEdits : List ℕ → List ℕ → (List ℕ → List ℕ → Type 0) → Type 0
AreEdits old new Holds = (rest : List ℕ) → Holds (old ++ rest) (new ++ rest)

-- the signature at a place of a file has these bytes
pub record HasSignature (bytes : List ℕ) (place : Place) (signature : List ℕ) : Type 0 where
  pub short : length bytes < 2 ^ 32
  pub within : place.dataoff + place.datasize ≤ length bytes
  pub is : signature ≡ signature_bytes place.dataoff place.datasize bytes

-- what is read of the bytes of a signature that begins at a place, of which no check fails
pub record IsReadAt (start : ℕ) (signature : List ℕ) (found : Signature) : Type 0 where
  pub passes : bytes_fault start signature ≡ None
  pub tells : Tells start signature found
  pub placed : (len : ℕ) → start + length signature ≤ len → ArePlaced start len found.directories.items

-- each page of a directory that begins in so many first bytes ends in them
abbrev pub EndsWithin : ℕ → Directory → Type 0
EndsWithin len d = (page : ℕ) → page < d.count → page_start d page < len → page_end d page ≤ len

-- slots are those of a thin file that are made anew, and whether its signature is left since an identity signed
pub record SignsThin (pages : Pages) (bytes : List ℕ) (made : ThinSlots) : Type 0 where
  pub passes : renewal_fault pages bytes ≡ None
  pub slots : made.slots.items ≡ thin_slots pages bytes
  pub left : made.is_left ≡ has_identity bytes
  pub placed : AreSlotsPlaced bytes

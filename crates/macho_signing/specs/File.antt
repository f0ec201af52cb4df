-- Signatures of a file of either shape: of a thin file, or of each slice of a fat one.
use Rattle.std.specs.Prelude.{ℕ, ◌+◌, ◌≡◌, ◌≤◌, ◌<◌, ◌⊎◌, ◌&&◌, Bool, nat_le, List, [], ◌∷◌, length, map, take, drop, slice_index, Option, None, All, ⊤, if◌then◌else◌}
use Rattle.std.specs.List.{AllPairs, flat_map}
use Rattle.macho_image.specs.Fat.{archs_of, has_fat_magic, table_fault}
use Rattle.macho_image.specs.declared.fat.FatArch.{FatArch}
use Rattle.macho_signatures.specs.Renewed.{IsRenewed}
use Rattle.macho_signatures.specs.declared.renewal.Slot.{Slot}
use Rattle.macho_signing.specs.Thin.{Pages, adhoc_directories, file_check, has_identity, first_there, renewal_fault, thin_slots, touched_by}
use Rattle.macho_signing.specs.Thin.Pages.{all, since}
use Rattle.macho_signing.specs.declared.fault.SigningFault.{SigningFault}
use Rattle.macho_signing.specs.declared.file.Part.{Part}

-- ## The thin files in a file

-- whether a file is fat: by its first four bytes
abbrev pub begins_fat : List ℕ → Bool
begins_fat bytes = nat_le 4 (length bytes) && has_fat_magic bytes

abbrev pub slice_part : FatArch → Part
slice_part arch = record { offset = arch.offset; size = arch.size }

-- the slices of a fat file; a thin one alone
unfoldable pub parts_of : List ℕ → List Part
parts_of bytes =
    if begins_fat bytes then map slice_part (archs_of bytes)
    else (record { offset = 0; size = length bytes } ∷ [])

-- the bytes of one of the thin files in a file
abbrev pub part_bytes : List ℕ → Part → List ℕ
part_bytes bytes part = take part.size (drop part.offset bytes)

-- the checks of the table of a fat file
unfoldable pub parts_fault : List ℕ → Option SigningFault
parts_fault bytes = if begins_fat bytes then file_check (table_fault bytes) else None

-- the part ends in a file of this length
abbrev pub IsInside : ℕ → Part → Type 0
IsInside len part = part.offset + part.size ≤ len

-- one of two parts is empty, or ends before the other begins
abbrev pub AreApart : Part → Part → Type 0
AreApart p q =
    (p.size ≤ 0) ⊎ ((q.size ≤ 0) ⊎ ((p.offset + p.size ≤ q.offset) ⊎ (q.offset + q.size ≤ p.offset)))

-- a byte of a file lies in no byte of the part
abbrev pub IsOutside : ℕ → Part → Type 0
IsOutside i part = (i < part.offset) ⊎ (part.offset + part.size ≤ i)

-- parts of a file of this length, apart from each other
pub record AreParts (len : ℕ) (parts : List Part) : Type 0 where
  pub inside : All (IsInside len) parts
  pub apart : AllPairs AreApart parts

-- ## Slots

-- the bytes that pages are compared with, if there are any, have the part too
abbrev pub HasPart : Pages → Part → Type 0
HasPart all part = ⊤
HasPart (since old) part = IsInside (length old) part

-- which pages of a part get their slots made anew
abbrev pub pages_in : Pages → Part → Pages
pages_in all part = all
pages_in (since old) part = since (part_bytes old part)

-- the first fault of some
abbrev pub first_fault : {X : Type 0} → (X → Option SigningFault) → List X → Option SigningFault
first_fault fault [] = None
first_fault fault (x ∷ xs) = first_there (fault x) (first_fault fault xs)

-- why no slots of a file are made anew: what is found first in its table, or else in its parts
abbrev pub part_fault : Pages → List ℕ → Part → Option SigningFault
part_fault pages bytes part = renewal_fault (pages_in pages part) (part_bytes bytes part)

unfoldable pub signing_fault : Pages → List ℕ → Option SigningFault
signing_fault pages bytes = first_there (parts_fault bytes) (first_fault (part_fault pages bytes) (parts_of bytes))

-- an identity signed a part
abbrev pub has_identity_in : List ℕ → Part → Bool
has_identity_in bytes part = has_identity (part_bytes bytes part)

-- a slot of a part, by its place in the file
abbrev pub slot_in : ℕ → Slot → Slot
slot_in offset slot = record { place = offset + slot.place; hash = slot.hash }

-- the slots that are made anew in a part, and in a file
abbrev pub part_slots : Pages → List ℕ → Part → List Slot
part_slots pages bytes part = map (slot_in part.offset) (thin_slots (pages_in pages part) (part_bytes bytes part))

unfoldable pub signed_slots : Pages → List ℕ → List Slot
signed_slots pages bytes = flat_map (part_slots pages bytes) (parts_of bytes)

-- ## What it means

-- a part is as it was but for the slots of chosen pages, in each directory of its ad-hoc signature, and each of these holds
-- the hash that its page has now
abbrev pub IsSignedPart : Pages → List ℕ → List ℕ → Part → Type 0
IsSignedPart pages old new part =
    IsRenewed (adhoc_directories (part_bytes old part)) (touched_by (pages_in pages part) (part_bytes old part))
    (part_bytes old part) (part_bytes new part)

-- a file is, with all of its parts
pub record IsSigned (pages : Pages) (old new : List ℕ) : Type 0 where
  pub long : length new ≡ length old
  pub parts : All (IsSignedPart pages old new) (parts_of old)
  pub outside : (i : ℕ) → All (IsOutside i) (parts_of old) → slice_index new i ≡ slice_index old i

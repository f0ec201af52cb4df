-- The slots of a file's signatures that are made anew behind edits of the fronts of its slices.
use Rattle.std.specs.Prelude.{ℕ, ◌≡◌, ◌<◌, ◌≤◌, ◌+◌, ◌^◌, ◌++◌, Bool, List, Option, Some, All, drop, length, map, take}
use Rattle.std.specs.List.{flat_map, list_any}
use Rattle.byte_store.specs.Laid.{Patch}
use Rattle.byte_store.specs.Shown.{shifted}
use Rattle.macho_signatures.specs.Pages.{hash_bytes}
use Rattle.macho_signatures.specs.Renewed.{SlotLies}
use Rattle.macho_signatures.specs.declared.renewal.Slot.{Slot}
use Rattle.macho_signing.specs.Front.{SignsThin}
use Rattle.macho_signing.specs.Thin.{since}
use Rattle.macho_signing.specs.declared.thin.ThinSlots.{ThinSlots}
use Rattle.macho_commands_stores.specs.declared.slices.SliceFront.{SliceFront}

-- a slice that ends in the first 4 GiB
abbrev pub IsLow : SliceFront → Type 0
IsLow front = front.offset + front.size < 2 ^ 32

-- the bytes of a slot, where it stands
abbrev pub slot_patch : Slot → Patch
slot_patch slot = record { offset = slot.place; bytes = hash_bytes slot.hash }

-- the slots of a slice of a known file that are made anew behind an edit that makes this of its front
abbrev pub SignsFront : Option (List ℕ) → SliceFront → List ℕ → ThinSlots → Type 0
SignsFront known front new made =
    (file rest : List ℕ) → known ≡ Some file → front.offset + front.size ≤ length file
    → take front.size (drop front.offset file) ≡ front.bytes.items ++ rest
    → SignsThin (since (front.bytes.items ++ rest)) (new ++ rest) made

-- a slice whose front is edited: the front, what the edit makes of it, and the slots
pub record SignedFront : Type 0 where
  pub front : SliceFront
  pub new : List ℕ
  pub made : ThinSlots

pub record IsSignedFront (known : Option (List ℕ)) (signed : SignedFront) : Type 0 where
  pub signs : SignsFront known signed.front signed.new signed.made
  pub lie : All (SlotLies signed.front.size) signed.made.slots.items

-- the slots by their places in the file
abbrev pub slots_of : SignedFront → List Patch
slots_of signed = map (shifted signed.front.offset) (map slot_patch signed.made.slots.items)

-- patches of a file: the slots of each of its slices; and whether a signature is left as it was, since an identity signed
pub record SignsFronts (known : Option (List ℕ)) (fronts : List SliceFront) (news : List (List ℕ)) (patches : List Patch) (left : Bool) : Type 0 where
  pub all : List SignedFront
  pub fronts_are : map (λ s. s.front) all ≡ fronts
  pub news_are : map (λ s. s.new) all ≡ news
  pub patches_are : patches ≡ flat_map slots_of all
  pub left_is : left ≡ list_any (λ s. s.made.is_left) all
  pub each : All (IsSignedFront known) all

-- an edited front has as many bytes
abbrev pub AreAsLong : List SliceFront → List (List ℕ) → Type 0
AreAsLong fronts news = map (λ new. length new) news ≡ map (λ front. length front.bytes.items) fronts

-- Slots that are made anew after an edit: those of the pages that it touched.
use Rattle.std.specs.Prelude.{ℕ, ◌+◌, ◌<◌, ◌≤◌, ◌≡◌, Bool, true, max, min, nat_lt, List, [], ◌∷◌, ◌++◌, length, map, filter, take, drop, slice_index}
use Rattle.std.specs.List.{All, Any, flat_map, list_any}
use Rattle.macho_signatures.specs.Directory.{hash_size}
use Rattle.macho_signatures.specs.Pages.{Fits, hash_bytes, page_end, page_hash, page_start, pages_of, slot_place}
use Rattle.macho_signatures.specs.declared.directory.Directory.{Directory}
use Rattle.macho_signatures.specs.declared.renewal.ByteRange.{ByteRange}
use Rattle.macho_signatures.specs.declared.renewal.Slot.{Slot}

-- some byte of the range lies in the page
abbrev pub meets_page : Directory → ℕ → ByteRange → Bool
meets_page d page range = nat_lt (max range.begin (page_start d page)) (min range.end (page_end d page))

-- some byte of some of the ranges lies in the page
unfoldable pub is_touched : Directory → List ByteRange → ℕ → Bool
is_touched d touched page = list_any (meets_page d page) touched

-- the slot of a page with the page's hash
abbrev pub slot_for : Directory → List ℕ → ℕ → Slot
slot_for d bytes page = record { place = slot_place d page; hash = page_hash d page bytes }

-- the slots of the pages of a directory that are touched
unfoldable pub slots_in : Directory → List ByteRange → List ℕ → List Slot
slots_in d touched bytes = map (slot_for d bytes) (filter (is_touched d touched) (pages_of d))

-- the slots of the pages of each directory that are touched
abbrev pub renewed_slots : List Directory → List ByteRange → List ℕ → List Slot
renewed_slots ds touched bytes = flat_map (λ d. slots_in d touched bytes) ds

-- the bytes with a slot laid over them
unfoldable pub with_slot : Slot → List ℕ → List ℕ
with_slot slot bytes = take slot.place bytes ++ (hash_bytes slot.hash ++ drop (slot.place + length (hash_bytes slot.hash)) bytes)

-- the bytes with slots laid over them, in order
abbrev pub laid : List Slot → List ℕ → List ℕ
laid [] bytes = bytes
laid (slot ∷ slots) bytes = laid slots (with_slot slot bytes)

-- a slot lies in bytes of this length
abbrev pub SlotLies : ℕ → Slot → Type 0
SlotLies len slot = slot.place + length (hash_bytes slot.hash) ≤ len

-- ## What it means

-- the byte at i stands in the slot of a touched page of the directory
pub record LiesInSlot (touched : List ByteRange) (i : ℕ) (d : Directory) : Type 0 where
  pub page : ℕ
  pub inside : page < d.count
  pub is_touched : is_touched d touched page ≡ true
  pub behind : slot_place d page ≤ i
  pub before : i < slot_place d page + hash_size d.hash

-- the new bytes are the old ones but for the slots of touched pages, and each of these holds the hash that its page has now
pub record IsRenewed (ds : List Directory) (touched : List ByteRange) (old new : List ℕ) : Type 0 where
  pub long : length new ≡ length old
  pub kept : (i : ℕ) → ¬ Any (LiesInSlot touched i) ds → slice_index new i ≡ slice_index old i
  pub fits : All (λ d. (page : ℕ) → page < d.count → is_touched d touched page ≡ true → Fits d new page) ds

-- the bytes differ at most where some range says
abbrev pub DiffersWithin : List ByteRange → List ℕ → List ℕ → Type 0
DiffersWithin touched old new =
    (length new ≡ length old)
    × ((i : ℕ) → ¬ Any (λ range. (range.begin ≤ i) × (i < range.end)) touched → slice_index new i ≡ slice_index old i)

-- all ranges end before this place
abbrev pub EndBefore : ℕ → List ByteRange → Type 0
EndBefore start touched = All (λ range. range.end ≤ start) touched

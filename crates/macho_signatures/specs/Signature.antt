-- The code signature of a file: its checks in their order, and what it tells (cs_blobs.h; `LC_CODE_SIGNATURE` of loader.h names
-- its bytes).
use Rattle.std.specs.Prelude.{ℕ, ◌+◌, ◌*◌, ◌==◌, ◌≡◌, ◌≤◌, ◌<◌, ◌⊎◌, ◌||◌, ◌&&◌, Bool, nat_le, nat_lt, List, [], ◌∷◌, length, map, filter, take, drop, Option, Some, None, if◌then◌else◌}
use Rattle.std.specs.List.{All, AllPairs, list_any}
use Rattle.macho_signatures.specs.Blobs.{blobs_fault, blobs_of, header_fault, number32, first_there, signature_bytes}
use Rattle.macho_signatures.specs.Directory.{directory_fault, directory_of, hash_size, page_count}
use Rattle.macho_signatures.specs.declared.blobs.Blob.{Blob}
use Rattle.macho_signatures.specs.declared.directory.Directory.{Directory}
use Rattle.macho_signatures.specs.declared.fault.SignatureFault.{SignatureFault}
use Rattle.macho_signatures.specs.declared.fault.SignatureFault.TheVariants.{NoDirectory, Outside}
use Rattle.macho_signatures.specs.declared.signature.TheConstants.{CMS_MAGIC, FIRST_ALTERNATE, LAST_ALTERNATE, MAIN_DIRECTORY, CMS_SLOT}
use Rattle.macho_signatures.specs.declared.signature.Signature.{Signature}

-- the slot of the blob is one of a code directory: the main one's, or an alternate one's
abbrev pub is_directory : Blob → Bool
is_directory blob = blob.kind == MAIN_DIRECTORY || (nat_le FIRST_ALTERNATE blob.kind && nat_le blob.kind LAST_ALTERNATE)

-- the bytes of a blob
abbrev pub blob_bytes : List ℕ → Blob → List ℕ
blob_bytes signature blob = take blob.size (drop blob.offset signature)

-- the blobs in slots of code directories
abbrev pub directory_blobs : List ℕ → List Blob
directory_blobs signature = filter is_directory (blobs_of signature)

-- the checks of the directory in a blob, and the directory, where the signature begins at this place of the file
abbrev pub blob_fault : ℕ → List ℕ → Blob → Option SignatureFault
blob_fault start signature blob = directory_fault start (blob_bytes signature blob)

abbrev pub blob_directory : ℕ → List ℕ → Blob → Directory
blob_directory start signature blob = directory_of (start + blob.offset) (blob_bytes signature blob)

-- the first fault of some
abbrev pub first_fault : {X : Type 0} → (X → Option SignatureFault) → List X → Option SignatureFault
first_fault fault [] = None
first_fault fault (x ∷ xs) = first_there (fault x) (first_fault fault xs)

-- there is a code directory in the main slot
abbrev pub has_main : List ℕ → Bool
has_main signature = list_any (λ blob. blob.kind == MAIN_DIRECTORY) (blobs_of signature)

-- an identity signed: there is a blob of a CMS message that has more than its header
abbrev pub is_message : List ℕ → Blob → Bool
is_message signature blob = blob.kind == CMS_SLOT && (number32 blob.offset signature == CMS_MAGIC && nat_lt 8 blob.size)

unfoldable pub is_signed : List ℕ → Bool
is_signed signature = list_any (is_message signature) (blobs_of signature)

-- the checks of what the blobs hold
unfoldable pub contents_fault : ℕ → List ℕ → Option SignatureFault
contents_fault start signature =
    first_there (first_fault (blob_fault start signature) (directory_blobs signature))
    (if has_main signature then None else Some NoDirectory)

-- the checks of a signature's bytes, which begin at this place of the file
abbrev pub bytes_fault : ℕ → List ℕ → Option SignatureFault
bytes_fault start signature = first_there (first_there (header_fault signature) (blobs_fault signature)) (contents_fault start signature)

-- the checks of a signature
unfoldable pub signature_fault : ℕ → ℕ → List ℕ → Option SignatureFault
signature_fault dataoff datasize bytes =
    let signature = signature_bytes dataoff datasize bytes in
    if nat_lt (length bytes) (dataoff + datasize) then Some Outside
    else bytes_fault dataoff signature

-- the directories of a signature, in the order of its index
unfoldable pub directories_of : ℕ → List ℕ → List Directory
directories_of start signature = map (blob_directory start signature) (directory_blobs signature)

-- what is read of the bytes of a signature that begins at this place
pub record Tells (start : ℕ) (signature : List ℕ) (found : Signature) : Type 0 where
  pub begins : found.start ≡ start
  pub directories : found.directories.items ≡ directories_of start signature
  pub signed : found.is_signed ≡ is_signed signature

-- ## Places

-- where the slots of a directory end
abbrev pub slots_end : Directory → ℕ
slots_end d = d.slots + d.count * hash_size d.hash

-- a page has bytes, and there are as many pages as the limit asks for
pub record HasPages (d : Directory) : Type 0 where
  pub filled : 0 < d.page_size
  pub count : d.count ≡ page_count d.page_size d.limit

-- a directory in a file of this length: its pages and its slots lie in it
pub record LiesIn (len : ℕ) (d : Directory) : Type 0 where
  pub pages : HasPages d
  pub limit : d.limit ≤ len
  pub within : slots_end d ≤ len

-- a directory in a file of this length where the signature begins at this place: pages end before it, and slots lie in it
pub record IsPlaced (start len : ℕ) (d : Directory) : Type 0 where
  pub lies : LiesIn len d
  pub before : d.limit ≤ start
  pub behind : start ≤ d.slots

-- the slots of two directories share no byte
abbrev pub AreApart : Directory → Directory → Type 0
AreApart d e = (slots_end d ≤ e.slots) ⊎ (slots_end e ≤ d.slots)

-- directories in a file of this length
pub record ArePlaced (start len : ℕ) (directories : List Directory) : Type 0 where
  pub each : All (IsPlaced start len) directories
  pub apart : AllPairs AreApart directories

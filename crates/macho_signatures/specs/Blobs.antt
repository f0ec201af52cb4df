-- The SuperBlob of a code signature, its index, and the blobs that this names (cs_blobs.h, `CS_SuperBlob`, `CS_BlobIndex` and
-- `CS_GenericBlob`). Every number is in big-endian order.
use Rattle.std.specs.Prelude.{ℕ, ◌+◌, ◌*◌, ◌≡◌, ◌≤◌, ◌==◌, ◌||◌, ◌&&◌, Bool, false, not, nat_lt, List, [], ◌∷◌, length, map, take, drop, Option, Some, None, if◌then◌else◌}
use Rattle.std.specs.List.{All, AllPairs, list_any, range_with_len}
use Rattle.patch_bytes.specs.declared.number.ByteOrder2.TheVariants.{Big}
use Rattle.patch_bytes.specs.Number.{number_at}
use Rattle.macho_signatures.specs.declared.blobs.Blob.{Blob}
use Rattle.macho_signatures.specs.declared.blobs.TheConstants.{BLOB_HEADER, INDEX_ENTRY, SUPER_BLOB_HEADER, SUPER_BLOB_MAGIC}
use Rattle.macho_signatures.specs.declared.fault.SignatureFault.{SignatureFault}
use Rattle.macho_signatures.specs.declared.fault.SignatureFault.TheVariants.{BadBlob, BadIndex, BadLength, NoSuperBlob}
pub use Rattle.patch_bytes.specs.Memory.{first_there}

-- the number in the 4 bytes, or in the 8 bytes, from a position on
abbrev pub number32 : ℕ → List ℕ → ℕ
number32 pos bytes = number_at Big 4 pos bytes

abbrev pub number64 : ℕ → List ℕ → ℕ
number64 pos bytes = number_at Big 8 pos bytes

-- the bytes of a file that the load command names
abbrev pub signature_bytes : ℕ → ℕ → List ℕ → List ℕ
signature_bytes dataoff datasize bytes = take datasize (drop dataoff bytes)

-- how many bytes the SuperBlob says that it has, and how many entries its index
abbrev pub super_length : List ℕ → ℕ
super_length signature = number32 4 signature

abbrev pub blob_count : List ℕ → ℕ
blob_count signature = number32 8 signature

-- where n entries of the index end
abbrev pub index_end : ℕ → ℕ
index_end n = SUPER_BLOB_HEADER + INDEX_ENTRY * n

-- the blob that the entry with this number names: the type of its slot, its offset, and the length that stands in it
unfoldable pub blob_at : List ℕ → ℕ → Blob
blob_at signature i = record {
  kind = number32 (index_end i) signature;
  offset = number32 (index_end i + 4) signature;
  size = number32 (number32 (index_end i + 4) signature + 4) signature;
}

-- the blobs that the first n entries name
abbrev pub first_blobs : List ℕ → ℕ → List Blob
first_blobs signature n = map (blob_at signature) (range_with_len 0 n)

-- the blobs of a SuperBlob
unfoldable pub blobs_of : List ℕ → List Blob
blobs_of signature = first_blobs signature (blob_count signature)

-- the blob begins before the index ends, has no room for its header, says that it is shorter than that, or ends past the
-- SuperBlob's end
abbrev pub is_bad_blob : ℕ → ℕ → Blob → Bool
is_bad_blob len end blob =
    nat_lt blob.offset end || (nat_lt len (blob.offset + BLOB_HEADER)
    || (nat_lt blob.size BLOB_HEADER || nat_lt len (blob.offset + blob.size)))

-- each of two blobs begins before the other ends
abbrev pub overlap : Blob → Blob → Bool
overlap a b = nat_lt a.offset (b.offset + b.size) && nat_lt b.offset (a.offset + a.size)

-- some two of the blobs overlap
abbrev pub some_overlap : List Blob → Bool
some_overlap [] = false
some_overlap (a ∷ rest) = list_any (overlap a) rest || some_overlap rest

-- the checks of the SuperBlob's header
unfoldable pub header_fault : List ℕ → Option SignatureFault
header_fault signature =
    if nat_lt (length signature) SUPER_BLOB_HEADER then Some NoSuperBlob
    else (if not (number32 0 signature == SUPER_BLOB_MAGIC) then Some NoSuperBlob
    else (if nat_lt (super_length signature) SUPER_BLOB_HEADER || nat_lt (length signature) (super_length signature) then Some BadLength
    else (if nat_lt (super_length signature) (index_end (blob_count signature)) then Some BadIndex else None)))

-- the checks of the blobs
unfoldable pub blobs_fault : List ℕ → Option SignatureFault
blobs_fault signature =
    if list_any (is_bad_blob (super_length signature) (index_end (blob_count signature))) (blobs_of signature) then Some BadBlob
    else (if some_overlap (blobs_of signature) then Some BadBlob else None)

-- the blobs lie in the SuperBlob behind the index, each with its header, and no two of them overlap
pub record AreBlobs (signature : List ℕ) (blobs : List Blob) : Type 0 where
  pub header : SUPER_BLOB_HEADER ≤ length signature
  pub within : super_length signature ≤ length signature
  pub behind : All (λ b. index_end (blob_count signature) ≤ b.offset) blobs
  pub long : All (λ b. BLOB_HEADER ≤ b.size) blobs
  pub inside : All (λ b. b.offset + b.size ≤ super_length signature) blobs
  pub apart : AllPairs (λ a b. overlap a b ≡ false) blobs

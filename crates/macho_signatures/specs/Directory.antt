-- Code directories (cs_blobs.h, `CS_CodeDirectory`): their fields, the checks of one in their order, and what it tells of pages
-- and slots. Positions are from the directory's beginning where nothing else is said.
use Rattle.std.specs.Prelude.{ℕ, ◌≤◌, ◌+◌, ◌*◌, ◌^◌, ◌==◌, ◌||◌, ◌&&◌, Bool, not, nat_lt, nat_le, List, length, drop, slice_index, max, Option, Some, None, is_none, position, unwrap_or, if◌then◌else◌}
use Rattle.std.specs.Int.{div_ceil}
use Rattle.macho_signatures.specs.Blobs.{number32, number64}
use Rattle.macho_signatures.specs.declared.directory.Directory.{Directory}
use Rattle.macho_signatures.specs.declared.directory.HashKind.{HashKind}
use Rattle.macho_signatures.specs.declared.directory.HashKind.TheVariants.{Sha1, Sha256}
use Rattle.macho_signatures.specs.declared.directory.TheConstants.{DIRECTORY_MAGIC, EARLIEST_VERSION, LATEST_VERSION, MOST_EXPONENT, VERSION_WITH_EXEC_SEGMENT, VERSION_WITH_LIMIT_64, VERSION_WITH_LINKAGE, VERSION_WITH_RUNTIME, VERSION_WITH_SCATTER, VERSION_WITH_TEAM}
use Rattle.macho_signatures.specs.declared.fault.SignatureFault.{SignatureFault}
use Rattle.macho_signatures.specs.declared.fault.SignatureFault.TheVariants.{BadDirectory, BadLimit, BadPageSize, BadSlots, Scattered, UnknownHash}

-- ## Fields

abbrev pub version_of : List ℕ → ℕ
version_of d = number32 8 d

abbrev pub flags_of : List ℕ → ℕ
flags_of d = number32 12 d

-- where code slot 0 stands, and where the identifier begins
abbrev pub hash_offset : List ℕ → ℕ
hash_offset d = number32 16 d

abbrev pub ident_offset : List ℕ → ℕ
ident_offset d = number32 20 d

-- how many special slots stand before code slot 0, and how many code slots there are
abbrev pub special_count : List ℕ → ℕ
special_count d = number32 24 d

abbrev pub code_count : List ℕ → ℕ
code_count d = number32 28 d

-- how many bytes a slot has, the kind of hash, and the exponent of the page size: a byte each
abbrev pub slot_size : List ℕ → ℕ
slot_size d = slice_index d 36

abbrev pub hash_type : List ℕ → ℕ
hash_type d = slice_index d 37

abbrev pub page_exponent : List ℕ → ℕ
page_exponent d = slice_index d 39

-- how many bytes stand before what has no fixed place: a later version has more fields
abbrev pub fixed_size : ℕ → ℕ
fixed_size version =
    if nat_lt version VERSION_WITH_SCATTER then 44
    else (if nat_lt version VERSION_WITH_TEAM then 48
    else (if nat_lt version VERSION_WITH_LIMIT_64 then 52
    else (if nat_lt version VERSION_WITH_EXEC_SEGMENT then 64
    else (if nat_lt version VERSION_WITH_RUNTIME then 88
    else (if nat_lt version VERSION_WITH_LINKAGE then 96 else 108)))))

-- where the signed bytes of the file end: the 64-bit field says so where there is one that isn't 0
unfoldable pub code_limit : List ℕ → ℕ
code_limit d =
    if nat_lt (version_of d) VERSION_WITH_LIMIT_64 || number64 56 d == 0 then number32 32 d
    else number64 56 d

-- ## Hashes, pages and the identifier

-- how many bytes a hash has
abbrev pub hash_size : HashKind → ℕ
hash_size Sha1 = 20
hash_size Sha256 = 32

-- the kind of hash of this type, where slots have the size of its hashes
unfoldable pub hash_kind_of : ℕ → ℕ → Option HashKind
hash_kind_of type size =
    if type == 1 && size == 20 then Some Sha1
    else (if type == 2 && size == 32 then Some Sha256 else None)

-- how many bytes a page has: a power of 2, or with exponent 0 all that is signed
abbrev pub page_size : ℕ → ℕ → ℕ
page_size exponent limit = if exponent == 0 then max 1 limit else 2 ^ exponent

-- how many pages of a size there are up to a limit, the last of them perhaps short
abbrev pub page_count : ℕ → ℕ → ℕ
page_count size limit = div_ceil limit size

-- where the first NUL stands, if any
abbrev pub first_nul : List ℕ → Option ℕ
first_nul bytes = position (λ byte. byte == 0) bytes

-- the fields of the directory's version are there, and its page size is one
pub record HasFields (d : List ℕ) : Type 0 where
  pub least : 44 ≤ length d
  pub scatter : VERSION_WITH_SCATTER ≤ version_of d → 48 ≤ length d
  pub limit : VERSION_WITH_LIMIT_64 ≤ version_of d → 64 ≤ length d
  pub exponent : page_exponent d ≤ MOST_EXPONENT

-- ## Checks

-- a directory is too short for its version's fields, or has another magic, or a version that isn't known
unfoldable pub is_header_bad : List ℕ → Bool
is_header_bad d =
    nat_lt (length d) 12 || (not (number32 0 d == DIRECTORY_MAGIC)
    || (nat_lt (version_of d) EARLIEST_VERSION || (nat_lt LATEST_VERSION (version_of d)
    || nat_lt (length d) (fixed_size (version_of d)))))

-- a slot, special or not, doesn't lie behind the fields and in the directory
unfoldable pub are_slots_outside : ℕ → List ℕ → Bool
are_slots_outside fixed d =
    nat_lt (hash_offset d) (fixed + special_count d * slot_size d)
    || nat_lt (length d) (hash_offset d + code_count d * slot_size d)

-- the identifier doesn't begin behind the fields, or doesn't end in the directory
unfoldable pub is_identifier_outside : ℕ → List ℕ → Bool
is_identifier_outside fixed d = nat_lt (ident_offset d) fixed || is_none (first_nul (drop (ident_offset d) d))

-- pages are scattered: there is a table of places
unfoldable pub is_scattered : List ℕ → Bool
is_scattered d = nat_le VERSION_WITH_SCATTER (version_of d) && not (number32 44 d == 0)

-- the checks of the pages of a directory, in a file whose signature begins at dataoff
unfoldable pub pages_fault : ℕ → List ℕ → Option SignatureFault
pages_fault dataoff d =
    if nat_lt MOST_EXPONENT (page_exponent d) then Some BadPageSize
    else (if is_scattered d then Some Scattered
    else (if not (page_count (page_size (page_exponent d) (code_limit d)) (code_limit d) == code_count d) then Some BadSlots
    else (if nat_lt dataoff (code_limit d) then Some BadLimit else None)))

-- the checks of a directory
unfoldable pub directory_fault : ℕ → List ℕ → Option SignatureFault
directory_fault dataoff d =
    if is_header_bad d then Some BadDirectory
    else (if are_slots_outside (fixed_size (version_of d)) d then Some BadDirectory
    else (if is_identifier_outside (fixed_size (version_of d)) d then Some BadDirectory
    else (if is_none (hash_kind_of (hash_type d) (slot_size d)) then Some UnknownHash
    else pages_fault dataoff d)))

-- ## What a directory tells

-- the directory whose bytes begin at a place of the file
unfoldable pub directory_of : ℕ → List ℕ → Directory
directory_of place d = record {
  version = version_of d;
  flags = flags_of d;
  hash = unwrap_or (hash_kind_of (hash_type d) (slot_size d)) Sha1;
  page_size = page_size (page_exponent d) (code_limit d);
  limit = code_limit d;
  count = code_count d;
  slots = place + hash_offset d;
  identifier = place + ident_offset d;
  identifier_len = unwrap_or (first_nul (drop (ident_offset d) d)) 0;
}

-- Fat files: the table of slices, its checks in their order, and the slices (fat.h, `fat_header` and
-- `fat_arch`; every number in big-endian order).
use Rattle.std.specs.Prelude.{ℕ, ◌+◌, ◌*◌, ◌-◌, ◌^◌, ◌<◌, ◌≤◌, ◌≡◌, ◌==◌, ◌||◌, ◌&&◌, Bool, true, false, zero, suc, not, nat_lt, List, [], ◌∷◌, length, take, drop, get_or, Option, Some, None, All, if◌then◌else◌}
use Rattle.std.specs.List.{list_any}
use Rattle.patch_bytes.specs.declared.number.ByteOrder2.TheVariants.{Big}
use Rattle.patch_bytes.specs.Number.{number_at}
use Rattle.macho_image.specs.declared.fat.FatArch.{FatArch}
use Rattle.macho_image.specs.declared.fat.TheConstants.{FAT_ARCH_SIZE, FAT_HEADER_SIZE, FAT_MAGIC}
use Rattle.macho_image.specs.declared.format.MachFault.{MachFault}
use Rattle.macho_image.specs.declared.format.MachFault.TheVariants.{BadMagic, SliceOutside, SlicesOverlap, TooLong, Truncated}

-- whether the first four bytes are the magic of a fat file
abbrev pub has_fat_magic : List ℕ → Bool
has_fat_magic bytes = number_at Big 4 0 bytes == FAT_MAGIC

-- how many slices the header says that there are
abbrev pub nfat_arch_of : List ℕ → ℕ
nfat_arch_of bytes = number_at Big 4 4 bytes

-- where a table of n slices ends: behind the header, with a record for each
abbrev pub table_end : ℕ → ℕ
table_end n = FAT_HEADER_SIZE + FAT_ARCH_SIZE * n

-- the record at the head of what is left of the table
abbrev pub arch_of : List ℕ → FatArch
arch_of rest = record {
  cputype = number_at Big 4 0 rest;
  cpusubtype = number_at Big 4 4 rest;
  offset = number_at Big 4 8 rest;
  size = number_at Big 4 12 rest;
  align = number_at Big 4 16 rest;
}

-- the first n records of a table
abbrev pub table : ℕ → List ℕ → List FatArch
table zero rest = []
table (suc n) rest = arch_of rest ∷ table n (drop FAT_ARCH_SIZE rest)

-- the slices of a fat file
unfoldable pub archs_of : List ℕ → List FatArch
archs_of bytes = table (nfat_arch_of bytes) (drop FAT_HEADER_SIZE bytes)

-- a slice that ends past a file of this length, or begins before the table's end
abbrev pub is_outside : ℕ → ℕ → FatArch → Bool
is_outside len end arch = nat_lt len (arch.offset + arch.size) || nat_lt arch.offset end

-- two slices share a byte: neither is empty, and each begins before the other ends
abbrev pub share_byte : FatArch → FatArch → Bool
share_byte a b =
    nat_lt 0 a.size && (nat_lt 0 b.size && (nat_lt a.offset (b.offset + b.size) && nat_lt b.offset (a.offset + a.size)))

-- some two of the slices share a byte
abbrev pub some_share : List FatArch → Bool
some_share [] = false
some_share (a ∷ rest) = list_any (share_byte a) rest || some_share rest

-- the checks of the slices of a table
unfoldable pub slices_fault : ℕ → List FatArch → Option MachFault
slices_fault len archs =
    if list_any (is_outside len (table_end (length archs))) archs then Some SliceOutside
    else (if some_share archs then Some SlicesOverlap else None)

-- the checks of a fat file's header and table, up to where its slices are looked into
unfoldable pub table_fault : List ℕ → Option MachFault
table_fault bytes =
    if nat_lt (2 ^ 32 - 1) (length bytes) then Some TooLong
    else (if nat_lt (length bytes) 4 then Some Truncated
    else (if not (has_fat_magic bytes) then Some BadMagic
    else (if nat_lt (length bytes) FAT_HEADER_SIZE then Some Truncated
    else (if nat_lt (length bytes) (table_end (nfat_arch_of bytes)) then Some Truncated
    else slices_fault (length bytes) (archs_of bytes)))))

-- the bytes of a slice
abbrev pub slice_of : List ℕ → FatArch → List ℕ
slice_of bytes arch = take arch.size (drop arch.offset bytes)

-- what a table that passes means: each slice lies behind the table and in the file, and of two slices at
-- different places one is empty or they share no byte
pub record AreSlices (len end : ℕ) (archs : List FatArch) : Type 0 where
  pub inside : All (λ a. a.offset + a.size ≤ len) archs
  pub behind : All (λ a. end ≤ a.offset) archs
  pub apart : (i j : ℕ) (d : FatArch) → i < j → j < length archs → share_byte (get_or archs i d) (get_or archs j d) ≡ false

-- the record with this place in the table stands behind the header and the records before it
abbrev pub AreRecordsOf : List ℕ → List FatArch → Type 0
AreRecordsOf bytes archs = (i : ℕ) (d : FatArch) → i < length archs → get_or archs i d ≡ arch_of (drop (table_end i) bytes)

-- the bytes are a fat file with these slices, apart from how its table is cut and checked: behind the magic
-- stand as many records as the header says, and the slices lie behind them, apart from each other
pub record IsFatFile (bytes : List ℕ) (archs : List FatArch) : Type 0 where
  pub short : length bytes < 2 ^ 32
  pub magic : has_fat_magic bytes ≡ true
  pub count : nfat_arch_of bytes ≡ length archs
  pub room : table_end (length archs) ≤ length bytes
  pub records : AreRecordsOf bytes archs
  pub slices : AreSlices (length bytes) (table_end (length archs)) archs

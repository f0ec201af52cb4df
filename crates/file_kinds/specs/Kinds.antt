-- What a file is by its first bytes.
use Rattle.std.specs.Prelude.{ℕ, ◌==◌, ◌||◌, ◌&&◌, not, List, [], ◌∷◌, Bool, if◌then◌else◌, length, min, take, drop, nat_eq, nat_le, nat_lt, slice_index}
use Rattle.std.specs.List.{list_all, starts_with}
use Rattle.file_kinds.specs.declared.kinds.FileKind.{FileKind}
use Rattle.file_kinds.specs.declared.kinds.FileKind.TheVariants.{Archive, Compressed, Elf, Empty, FatMachO, JavaClass, MachO, Other, Script, Text, ThinArchive, WindowsProgram, Zip}

abbrev pub begins : List ℕ → List ℕ → Bool
begins file magic = starts_with nat_eq file magic

-- 0x7f and "ELF" (gABI, ELF Identification)
abbrev pub is_elf : List ℕ → Bool
is_elf file = begins file (0x7f ∷ 0x45 ∷ 0x4c ∷ 0x46 ∷ [])

-- MH_MAGIC and MH_MAGIC_64 in both byte orders (loader.h)
abbrev pub is_mach_o : List ℕ → Bool
is_mach_o file =
    begins file (0xfe ∷ 0xed ∷ 0xfa ∷ 0xce ∷ []) || begins file (0xfe ∷ 0xed ∷ 0xfa ∷ 0xcf ∷ [])
    || begins file (0xce ∷ 0xfa ∷ 0xed ∷ 0xfe ∷ []) || begins file (0xcf ∷ 0xfa ∷ 0xed ∷ 0xfe ∷ [])

-- FAT_MAGIC_64 (fat.h)
abbrev pub is_wide_fat : List ℕ → Bool
is_wide_fat file = begins file (0xca ∷ 0xfe ∷ 0xba ∷ 0xbf ∷ [])

-- FAT_MAGIC (fat.h), which class files of Java have too: there the version stands behind it, 45 or more, where a fat
-- file has its number of slices
abbrev pub has_fat_magic : List ℕ → Bool
has_fat_magic file = begins file (0xca ∷ 0xfe ∷ 0xba ∷ 0xbe ∷ [])

abbrev pub has_few_slices : List ℕ → Bool
has_few_slices file = nat_le 8 (length file) && begins (drop 4 file) (0 ∷ 0 ∷ 0 ∷ []) && nat_lt (slice_index file 7) 45

abbrev pub fat_kind : List ℕ → FileKind
fat_kind file = if has_few_slices file then FatMachO else JavaClass

-- "!<arch>" and "!<thin>", each with a line feed (ar.h)
abbrev pub is_archive : List ℕ → Bool
is_archive file = begins file (0x21 ∷ 0x3c ∷ 0x61 ∷ 0x72 ∷ 0x63 ∷ 0x68 ∷ 0x3e ∷ 0x0a ∷ [])

abbrev pub is_thin_archive : List ℕ → Bool
is_thin_archive file = begins file (0x21 ∷ 0x3c ∷ 0x74 ∷ 0x68 ∷ 0x69 ∷ 0x6e ∷ 0x3e ∷ 0x0a ∷ [])

-- "#!"
abbrev pub is_script : List ℕ → Bool
is_script file = begins file (0x23 ∷ 0x21 ∷ [])

-- "MZ"
abbrev pub is_windows_program : List ℕ → Bool
is_windows_program file = begins file (0x4d ∷ 0x5a ∷ [])

-- "PK", 3 and 4
abbrev pub is_zip : List ℕ → Bool
is_zip file = begins file (0x50 ∷ 0x4b ∷ 3 ∷ 4 ∷ [])

-- gzip, bzip2, xz and zstd
abbrev pub is_compressed : List ℕ → Bool
is_compressed file =
    begins file (0x1f ∷ 0x8b ∷ []) || begins file (0x42 ∷ 0x5a ∷ 0x68 ∷ [])
    || begins file (0xfd ∷ 0x37 ∷ 0x7a ∷ 0x58 ∷ 0x5a ∷ 0 ∷ []) || begins file (0x28 ∷ 0xb5 ∷ 0x2f ∷ 0xfd ∷ [])

-- a byte of a text: no control character but those from the tab to the carriage return
abbrev pub is_text_byte : ℕ → Bool
is_text_byte byte = nat_le 32 byte && not (byte == 127) || nat_le 9 byte && nat_le byte 13

-- how many bytes are looked at
abbrev pub text_front : ℕ
text_front = 512

abbrev pub is_text : List ℕ → Bool
is_text file = list_all is_text_byte (take (min (length file) text_front) file)

-- ## The kind

-- programs and libraries
abbrev pub program_or : FileKind → List ℕ → FileKind
program_or other file =
    if is_elf file then Elf
    else if is_mach_o file then MachO
    else if is_wide_fat file then FatMachO
    else if has_fat_magic file then fat_kind file
    else if is_windows_program file then WindowsProgram
    else other

-- what holds other files
abbrev pub holder_or : FileKind → List ℕ → FileKind
holder_or other file =
    if is_archive file then Archive
    else if is_thin_archive file then ThinArchive
    else if is_zip file then Zip
    else if is_compressed file then Compressed
    else other

-- texts
abbrev pub text_or : FileKind → List ℕ → FileKind
text_or other file = if is_script file then Script else if is_text file then Text else other

unfoldable pub kind_of : List ℕ → FileKind
kind_of file = if length file == 0 then Empty else program_or (holder_or (text_or Other file) file) file

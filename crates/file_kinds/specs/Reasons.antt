-- What the fault of a file leaves open, by what the file is.
use Rattle.std.specs.Prelude.{ℕ, ◌==◌, List, Option, Some, None, if◌then◌else◌, codes, length, nat_le}
use Rattle.patch_bytes.specs.Memory.{◌>>=◌}
use Rattle.elf_format.specs.declared.fault.ElfFault.{ElfFault}
use Rattle.elf_format.specs.declared.fault.ElfFault.TheVariants as elf
use Rattle.elf_format.specs.File.{form_of}
use Rattle.elf_format.specs.Form.{fixed_field}
use Rattle.elf_format.specs.Rules.{has_magic}
use Rattle.macho_image.specs.declared.format.MachFault.{MachFault}
use Rattle.macho_image.specs.declared.format.MachFault.TheVariants as macho
use Rattle.file_kinds.specs.Kinds.{kind_of}
use Rattle.file_kinds.specs.declared.kinds.FileKind.{FileKind}
use Rattle.file_kinds.specs.declared.kinds.FileKind.TheVariants as kind

abbrev pub Words : Type 0
Words = List ℕ

-- ## ELF files

-- what a file is that is no ELF file
abbrev pub not_elf : FileKind → Words
not_elf kind.Empty = codes "empty file"
not_elf kind.MachO = codes "not an ELF file: a Mach-O file"
not_elf kind.FatMachO = codes "not an ELF file: a fat Mach-O file"
not_elf kind.JavaClass = codes "not an ELF file: a Java class"
not_elf kind.WindowsProgram = codes "not an ELF file: a Windows program"
not_elf kind.Archive = codes "not an ELF file: an archive"
not_elf kind.ThinArchive = codes "not an ELF file: a thin archive"
not_elf kind.Zip = codes "not an ELF file: a zip archive"
not_elf kind.Compressed = codes "not an ELF file: compressed"
not_elf kind.Script = codes "not an ELF file: a script"
not_elf kind.Text = codes "not an ELF file: text"
not_elf kind.Elf = codes "not an ELF file"
not_elf kind.Other = codes "not an ELF file"

-- e_type (gABI, ELF Header), where the identification is there and known
abbrev pub type_of : List ℕ → Option ℕ
type_of file = if nat_le 18 (length file) then (form_of file >>= λ form. Some (fixed_field form (16, 2) file)) else None

-- the types of ELF files that are no program and no library (gABI, ELF Header, e_type)
abbrev pub ET_REL : ℕ
ET_REL = 1

abbrev pub ET_CORE : ℕ
ET_CORE = 4

abbrev pub of_type : Option ℕ → Option Words
of_type None = None
of_type (Some type) =
    if type == ET_REL then Some (codes "a relocatable object")
    else if type == ET_CORE then Some (codes "a core file")
    else None

-- an ELF file that is cut off, or no ELF file
abbrev pub cut_elf : List ℕ → Words
cut_elf file = if has_magic file then codes "the file ends before what its headers name" else not_elf (kind_of file)

-- what is left open; of a rule on tables, and of one that the file's kind says nothing of, nothing is said here
abbrev pub elf_reason : ElfFault → List ℕ → Option Words
elf_reason elf.BadMagic file = Some (not_elf (kind_of file))
elf_reason elf.Truncated file = Some (cut_elf file)
elf_reason elf.Unsupported file = of_type (type_of file)
elf_reason (elf.Disagree rule) file = None
elf_reason elf.BadText file = None
elf_reason elf.NumberTooLarge file = None
elf_reason elf.Memory file = None

-- ## Mach-O files

-- what a file is that is no Mach-O file, or a fat one that isn't read
abbrev pub not_macho : FileKind → Words
not_macho kind.Empty = codes "empty file"
not_macho kind.Elf = codes "not a Mach-O file: an ELF file"
not_macho kind.FatMachO = codes "a fat file with offsets of 64 bits"
not_macho kind.JavaClass = codes "not a Mach-O file: a Java class"
not_macho kind.WindowsProgram = codes "not a Mach-O file: a Windows program"
not_macho kind.Archive = codes "not a Mach-O file: an archive"
not_macho kind.ThinArchive = codes "not a Mach-O file: a thin archive"
not_macho kind.Zip = codes "not a Mach-O file: a zip archive"
not_macho kind.Compressed = codes "not a Mach-O file: compressed"
not_macho kind.Script = codes "not a Mach-O file: a script"
not_macho kind.Text = codes "not a Mach-O file: text"
not_macho kind.MachO = codes "not a Mach-O file"
not_macho kind.Other = codes "not a Mach-O file"

-- a Mach-O file that is cut off, or none
abbrev pub cut_macho : FileKind → Words
cut_macho kind.Empty = codes "empty file"
cut_macho kind.MachO = codes "the file ends before its load commands do"
cut_macho kind.FatMachO = codes "the file ends before the table of slices does"
cut_macho kind.JavaClass = codes "the file ends before the table of slices does"
cut_macho kind.Elf = codes "not a Mach-O file: an ELF file"
cut_macho kind.WindowsProgram = codes "not a Mach-O file: a Windows program"
cut_macho kind.Archive = codes "not a Mach-O file: an archive"
cut_macho kind.ThinArchive = codes "not a Mach-O file: a thin archive"
cut_macho kind.Zip = codes "not a Mach-O file: a zip archive"
cut_macho kind.Compressed = codes "not a Mach-O file: compressed"
cut_macho kind.Script = codes "not a Mach-O file: a script"
cut_macho kind.Text = codes "not a Mach-O file: text"
cut_macho kind.Other = codes "not a Mach-O file"

abbrev pub macho_reason : MachFault → List ℕ → Option Words
macho_reason macho.BadMagic file = Some (not_macho (kind_of file))
macho_reason macho.Truncated file = Some (cut_macho (kind_of file))
macho_reason macho.BadCommandSize file = Some (codes "a load command's size doesn't fit")
macho_reason macho.BadNameOffset file = Some (codes "a text begins behind its load command")
macho_reason macho.CountsDisagree file = Some (codes "the load commands don't end where the header says")
macho_reason macho.SliceOutside file = Some (codes "a slice lies outside the file, or in the table")
macho_reason macho.SlicesOverlap file = Some (codes "two slices share a byte")
macho_reason macho.TooLong file = Some (codes "more than 4,294,967,295 bytes")
macho_reason macho.Memory file = None

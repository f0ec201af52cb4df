-- The names by which numbers of a file are told.
use Rattle.std.specs.Prelude.{ℕ, ◌==◌, ◌++◌, List, [], ◌∷◌, Option, Some, None, bit_and, codes, decimal, if◌then◌else◌}
use Rattle.patch_bytes.specs.declared.number.ByteOrder2.{ByteOrder2}
use Rattle.patch_bytes.specs.declared.number.ByteOrder2.TheVariants.{Little, Big}
use Rattle.patch_bytes.specs.declared.number.Wide.{Wide}
use Rattle.patch_bytes.specs.declared.number.Wide.TheVariants.{W32, W64}
use Rattle.arwen_cli_facts.specs.declared.elf.ElfKind.{ElfKind}
use Rattle.arwen_cli_facts.specs.declared.elf.ElfKind.TheVariants.{Library, PieProgram, Program, StaticPie}

-- a name, or the number in decimal where there is none
abbrev pub name_or : Option (List ℕ) → ℕ → List ℕ
name_or None number = decimal number
name_or (Some name) number = name

-- ## ELF

abbrev pub kind_name : ElfKind → List ℕ
kind_name Program = codes "program"
kind_name PieProgram = codes "position-independent program"
kind_name StaticPie = codes "static position-independent program"
kind_name Library = codes "library"

-- machines (gABI, ELF Header, e_machine)
unfoldable pub later_machine_name : ℕ → Option (List ℕ)
later_machine_name machine =
    if machine == 43 then Some (codes "sparcv9")
    else (if machine == 62 then Some (codes "x86-64")
    else (if machine == 183 then Some (codes "aarch64")
    else (if machine == 243 then Some (codes "riscv")
    else (if machine == 258 then Some (codes "loongarch") else None))))

unfoldable pub machine_name : ℕ → Option (List ℕ)
machine_name machine =
    if machine == 3 then Some (codes "i386")
    else (if machine == 8 then Some (codes "mips")
    else (if machine == 20 then Some (codes "powerpc")
    else (if machine == 21 then Some (codes "powerpc64")
    else (if machine == 22 then Some (codes "s390")
    else (if machine == 40 then Some (codes "arm") else later_machine_name machine)))))

abbrev pub bits_of : Wide → ℕ
bits_of W32 = 32
bits_of W64 = 64

abbrev pub order_name : ByteOrder2 → List ℕ
order_name Little = codes "little"
order_name Big = codes "big"

-- a letter where a bit is set, else a dash
abbrev pub letter : ℕ → ℕ → List ℕ → List ℕ
letter flags bit name = if bit_and flags bit == 0 then codes "-" else name

-- whether memory may be read, written and run (gABI, Program Header, p_flags)
unfoldable pub permissions : ℕ → List ℕ
permissions flags = letter flags 4 (codes "r") ++ (letter flags 2 (codes "w") ++ letter flags 1 (codes "x"))

-- a name where a bit is set
abbrev pub name_if : ℕ → ℕ → List ℕ → List (List ℕ)
name_if flags bit name = if bit_and flags bit == 0 then [] else name ∷ []

-- the flags of DT_FLAGS_1 that have a name here
unfoldable pub flag_names : ℕ → List (List ℕ)
flag_names flags =
    name_if flags 0x1 (codes "NOW")
    ++ (name_if flags 0x8 (codes "NODELETE")
    ++ (name_if flags 0x20 (codes "INITFIRST")
    ++ (name_if flags 0x80 (codes "ORIGIN")
    ++ (name_if flags 0x800 (codes "NODEFLIB") ++ name_if flags 0x8000000 (codes "PIE")))))

-- ## Mach-O

-- processors (mach/machine.h)
unfoldable pub cpu_name : ℕ → Option (List ℕ)
cpu_name cpu =
    if cpu == 0x7 then Some (codes "i386")
    else (if cpu == 0xc then Some (codes "arm")
    else (if cpu == 0x12 then Some (codes "ppc")
    else (if cpu == 0x1000007 then Some (codes "x86_64")
    else (if cpu == 0x100000c then Some (codes "arm64")
    else (if cpu == 0x1000012 then Some (codes "ppc64")
    else (if cpu == 0x200000c then Some (codes "arm64_32") else None))))))

-- types of files (loader.h, filetype)
unfoldable pub file_type_name : ℕ → Option (List ℕ)
file_type_name file_type =
    if file_type == 1 then Some (codes "object")
    else (if file_type == 2 then Some (codes "program")
    else (if file_type == 6 then Some (codes "library")
    else (if file_type == 7 then Some (codes "loader")
    else (if file_type == 8 then Some (codes "bundle")
    else (if file_type == 9 then Some (codes "stub")
    else (if file_type == 10 then Some (codes "debug") else None))))))

-- What patchelf prints of what a file shows.
use Rattle.std.specs.Prelude.{ℕ, ◌/◌, ◌%◌, ◌==◌, ◌++◌, Bool, true, false, [], ◌∷◌, Option, Some, None, bit_and, codes, is_none, if◌then◌else◌}
use Rattle.std.specs.Fmt.{digit_glyph}
use Rattle.elf_commands.specs.Meaning.{print_interpreter, print_needed, print_rpath, print_soname}
use Rattle.elf_commands.specs.Prints.{printed}
use Rattle.elf_image.specs.Views.{View}
use Rattle.arwen_cli_options.specs.Options.{Text}
use Rattle.arwen_cli_patchelf.specs.declared.printing.Print.{Print}
use Rattle.arwen_cli_patchelf.specs.declared.printing.Print.TheVariants.{ExecStack, Interpreter, Needed, OsAbi, RunPath, Soname}

-- ## The ABI byte (gABI, ELF Identification, EI_OSABI)

unfoldable pub later_abi_name : ℕ → Option Text
later_abi_name abi =
    if abi == 7 then Some (codes "AIX")
    else (if abi == 8 then Some (codes "IRIX")
    else (if abi == 9 then Some (codes "FreeBSD")
    else (if abi == 10 then Some (codes "Tru64")
    else (if abi == 12 then Some (codes "OpenBSD")
    else (if abi == 13 then Some (codes "OpenVMS") else None)))))

-- the name that patchelf has for an ABI
unfoldable pub abi_name : ℕ → Option Text
abi_name abi =
    if abi == 0 then Some (codes "System V")
    else (if abi == 1 then Some (codes "HP-UX")
    else (if abi == 2 then Some (codes "NetBSD")
    else (if abi == 3 then Some (codes "Linux")
    else (if abi == 4 then Some (codes "GNU Hurd")
    else (if abi == 6 then Some (codes "Solaris") else later_abi_name abi)))))

-- a byte in hex: behind `0x` its two digits, with capitals
abbrev pub hex_text : ℕ → Text
hex_text byte = codes "0x" ++ digit_glyph true (byte / 16) ∷ digit_glyph true (byte % 16) ∷ []

-- a name, or the byte in hex where there is none
abbrev pub name_or_hex : Option Text → ℕ → Text
name_or_hex None byte = hex_text byte
name_or_hex (Some name) byte = name

abbrev pub abi_line : ℕ → Text
abi_line abi = name_or_hex (abi_name abi) abi ++ 10 ∷ []

-- ## The stack's flags (PF_X, gABI, Program Header, p_flags)

-- `X` where the stack may be run and `-` where it may not; `?` where no PT_GNU_STACK says it
abbrev pub stack_mark : Option ℕ → Text
stack_mark None = codes "?"
stack_mark (Some flags) = if bit_and flags 1 == 0 then codes "-" else codes "X"

abbrev pub stack_line : Option ℕ → Text
stack_line flags = codes "execstack: " ++ (stack_mark flags ++ 10 ∷ [])

-- ## The run path

-- a line feed where nothing else is printed
abbrev pub line_or_empty : Text → Text
line_or_empty [] = 10 ∷ []
line_or_empty (b ∷ bs) = b ∷ bs

-- ## All

-- whether a file has no place for what is to be printed: no interpreter, or no dynamic list, in which run paths and needed
-- libraries stand
abbrev pub is_absent : Print → View → Bool
is_absent Interpreter view = is_none view.interpreter
is_absent OsAbi view = false
is_absent Soname view = false
is_absent RunPath view = is_none view.entries
is_absent ExecStack view = false
is_absent Needed view = is_none view.entries

-- what is printed of what a file shows: a line for its ABI, one for its stack, and one for its run path, which is empty where it
-- has none; of the others what the commands for ELF files print, whatever the path of their file
abbrev pub print_text : Print → View → Text
print_text Interpreter view = printed (print_interpreter []) view
print_text OsAbi view = abi_line view.os_abi
print_text Soname view = printed (print_soname []) view
print_text RunPath view = line_or_empty (printed (print_rpath []) view)
print_text ExecStack view = stack_line view.stack_flags
print_text Needed view = printed (print_needed []) view

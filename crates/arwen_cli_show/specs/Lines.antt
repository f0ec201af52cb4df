-- What is told of a file as lines for people: a key and a value each.
use Rattle.std.specs.Prelude.{ℕ, ◌-◌, ◌==◌, List, [], ◌++◌, length, map, Bool, true, false, Option, Some, None, codes, decimal, option_map, replicate, unwrap_or}
use Rattle.std.specs.List.{flat_map}
use Rattle.macho_signing.specs.declared.fault.SigningFault.{SigningFault}
use Rattle.arwen_cli_facts.specs.SignatureNames.{fault_name, hash_name, kind_name as signature_kind_name}
use Rattle.arwen_cli_facts.specs.SignatureFacts.{ContentsFacts, SignatureFacts, readable, refused}
use Rattle.arwen_cli_facts.specs.ElfFacts.{ElfFacts, LibraryFacts}
use Rattle.arwen_cli_facts.specs.FileFacts.{FileFacts, elf, fat, macho}
use Rattle.arwen_cli_facts.specs.MachoFacts.{MachoFacts, SliceFacts}
use Rattle.arwen_cli_facts.specs.Names.{bits_of, cpu_name, file_type_name, flag_names, kind_name, machine_name, name_or, order_name, permissions}

-- two blanks, the key with a colon, blanks up to the column of values, the value
unfoldable pub line : List ℕ → List ℕ → List ℕ
line key value = codes "  " ++ (key ++ (codes ":" ++ (replicate (15 - length key) 32 ++ (value ++ codes "\n"))))

-- no line where there is no value, and one for each of several
abbrev pub line_if : List ℕ → Option (List ℕ) → List ℕ
line_if key None = []
line_if key (Some value) = line key value

abbrev pub lines : List ℕ → List (List ℕ) → List ℕ
lines key values = flat_map (line key) values

abbrev pub number_line : List ℕ → ℕ → List ℕ
number_line key number = line key (decimal number)

abbrev pub number_line_if : List ℕ → Option ℕ → List ℕ
number_line_if key number = line_if key (option_map decimal number)

abbrev pub answer : Bool → List ℕ
answer true = codes "yes"
answer false = codes "no"

-- ## ELF

-- a library, and each version that is needed of it
unfoldable pub library_lines : LibraryFacts → List ℕ
library_lines l = line (codes "needed") l.name ++ lines (codes "version") l.versions

unfoldable pub elf_head_lines : ElfFacts → List ℕ
elf_head_lines f =
    line (codes "format") (codes "elf")
    ++ (line (codes "kind") (kind_name f.kind)
    ++ (line (codes "machine") (name_or (machine_name f.machine) f.machine)
    ++ (number_line (codes "class") (bits_of f.form.wide)
    ++ (line (codes "byte_order") (order_name f.form.order) ++ number_line (codes "os_abi") f.os_abi))))

unfoldable pub elf_name_lines : ElfFacts → List ℕ
elf_name_lines f =
    line_if (codes "interpreter") f.interpreter
    ++ (line_if (codes "soname") f.soname
    ++ (flat_map library_lines f.needed
    ++ (line_if (codes "rpath") f.rpath ++ line_if (codes "runpath") f.runpath)))

-- an accepted file's views agree
unfoldable pub elf_tail_lines : ElfFacts → List ℕ
elf_tail_lines f =
    line_if (codes "stack") (option_map permissions f.stack_flags)
    ++ (lines (codes "flags") (flag_names (unwrap_or f.flags_1 0))
    ++ (number_line_if (codes "spare_entries") f.spare_entries ++ line (codes "views_agree") (codes "yes")))

unfoldable pub elf_lines : ElfFacts → List ℕ
elf_lines f = elf_head_lines f ++ (elf_name_lines f ++ elf_tail_lines f)

-- ## Mach-O

unfoldable pub macho_head_lines : MachoFacts → List ℕ
macho_head_lines f =
    line (codes "cpu") (name_or (cpu_name f.cpu) f.cpu)
    ++ (number_line (codes "cpu_subtype") f.cpu_subtype
    ++ (line (codes "file_type") (name_or (file_type_name f.file_type) f.file_type)
    ++ (number_line (codes "class") (bits_of f.form.container) ++ line (codes "byte_order") (order_name f.form.le))))

-- who made a signature, its identifier, the hash of each code directory, and whether all pages fit
unfoldable pub contents_lines : ContentsFacts → List ℕ
contents_lines f =
    line (codes "signature") (signature_kind_name f.kind)
    ++ (line (codes "identifier") f.identifier
    ++ (lines (codes "hashes") (map hash_name f.hashes)
    ++ (line (codes "pages_fit") (answer (f.unfit_pages == 0)) ++ number_line (codes "unfit_pages") f.unfit_pages)))

-- why one isn't read
unfoldable pub refusal_lines : SigningFault → List ℕ
refusal_lines fault = line (codes "signature") (codes "unreadable") ++ line (codes "refusal") (fault_name fault)

-- no line where there is no signature
abbrev pub signature_lines : Option SignatureFacts → List ℕ
signature_lines None = []
signature_lines (Some (readable f)) = contents_lines f
signature_lines (Some (refused fault)) = refusal_lines fault

unfoldable pub macho_tail_lines : MachoFacts → List ℕ
macho_tail_lines f =
    line_if (codes "id") f.id
    ++ (lines (codes "libraries") f.libraries
    ++ (lines (codes "run_paths") f.run_paths
    ++ (line (codes "signed") (answer f.is_signed)
    ++ (signature_lines f.signature ++ number_line (codes "header_pad") f.header_pad))))

unfoldable pub macho_lines : MachoFacts → List ℕ
macho_lines f = macho_head_lines f ++ macho_tail_lines f

unfoldable pub slice_lines : SliceFacts → List ℕ
slice_lines s = number_line (codes "slice_offset") s.offset ++ (number_line (codes "slice_size") s.size ++ macho_lines s.file)

-- ## A file

unfoldable pub fact_lines : FileFacts → List ℕ
fact_lines (elf f) = elf_lines f
fact_lines (macho f) = line (codes "format") (codes "macho") ++ macho_lines f
fact_lines (fat slices) = line (codes "format") (codes "fat") ++ flat_map slice_lines slices

-- the file's name with a colon, and the lines of its facts
abbrev pub file_lines : List ℕ → FileFacts → List ℕ
file_lines name facts = name ++ (codes ":\n" ++ fact_lines facts)

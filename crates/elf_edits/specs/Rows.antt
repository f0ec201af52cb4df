-- Small lists and images, and what the edits make of them. Each row is computed.
use Rattle.std.specs.Prelude.{ℕ, ◌≡◌, List, [], ◌∷◌, ◌++◌, true, false, Option, Some, None, Ok, Err, codes, replicate}
use Rattle.patch_bytes.specs.declared.number.ByteOrder2.TheVariants.{Little}
use Rattle.patch_bytes.specs.declared.number.Wide.TheVariants.{W64}
use Rattle.elf_format.specs.declared.constants.TheConstants.{EM_MIPS}
use Rattle.elf_format.specs.declared.records.SegmentHeader.{SegmentHeader}
use Rattle.elf_format.specs.declared.section_data.SectionData.TheVariants as kinds
use Rattle.elf_format.specs.declared.version_id.VersionId.{VersionId}
use Rattle.elf_image.specs.Dynamic.{Auto, Entry, Integer, Text}
use Rattle.elf_image.specs.Image.{Image, ImageSection}
use Rattle.elf_image.specs.Views.{NamedSymbol}
use Rattle.elf_edits.specs.Abi.{abi_number, with_nul}
use Rattle.elf_edits.specs.Batch.{answers, left_by_all, run}
use Rattle.elf_edits.specs.Cause.{BadPageSize, CannotRenumber, MipsImage, NoDynamic, NoInterpreter, NulInText, TooManyHeaders, UnknownAbi, cause}
use Rattle.elf_edits.specs.Edit.{AddDebugTag, AddNeeded, AddRpath, ClearExecStack, ClearSymbolVersion, RemoveNeeded, RemoveRpath, Edit, NoDefaultLib, RenameDynamicSymbols, ReplaceNeeded, SetExecStack, SetInterpreter, SetOsAbi, SetPageSize, SetRpath, SetSoname, ForceRpath, ForceRunpath, edited_entries, edited_symbols}
use Rattle.elf_edits.specs.Edited.{added_stack, step}

-- x86-64
abbrev pub machine : ℕ
machine = 62

abbrev pub needed : List ℕ → Entry
needed name = Text 1 name

abbrev pub runpath : List ℕ → Entry
runpath text = Text 29 text

abbrev pub rpath : List ℕ → Entry
rpath text = Text 15 text

abbrev pub soname : List ℕ → Entry
soname text = Text 14 text

-- ## The run path

pub record RunPathRows : Type 0 where
  -- `/b` is added to `/a`, to the empty text, and to no entry
  pub added : edited_entries machine (AddRpath (codes "/b" ∷ [])) (runpath (codes "/a") ∷ Auto 5 ∷ []) ≡ runpath (codes "/a:/b") ∷ Auto 5 ∷ []
  pub added_to_empty : edited_entries machine (AddRpath (codes "/b" ∷ [])) (runpath [] ∷ []) ≡ runpath (codes "/b") ∷ []
  pub added_to_none : edited_entries machine (AddRpath (codes "/b" ∷ [])) (Auto 5 ∷ []) ≡ Auto 5 ∷ runpath (codes "/b") ∷ []
  -- several at once, to both kinds of entries
  pub several_added : edited_entries machine (AddRpath (codes "/b" ∷ codes "/c" ∷ [])) (rpath [] ∷ runpath (codes "/a") ∷ [])
      ≡ rpath (codes "/b:/c") ∷ runpath (codes "/a:/b:/c") ∷ []
  pub several_added_to_none : edited_entries machine (AddRpath (codes "/b" ∷ codes "/c" ∷ [])) [] ≡ runpath (codes "/b:/c") ∷ []
  pub none_added_to_none : edited_entries machine (AddRpath []) [] ≡ runpath [] ∷ []
  pub set_in_all : edited_entries machine (SetRpath (codes "/x")) (rpath (codes "/a") ∷ Auto 5 ∷ runpath (codes "/b") ∷ []) ≡ rpath (codes "/x") ∷ Auto 5 ∷ runpath (codes "/x") ∷ []
  pub set_where_none_was : edited_entries machine (SetRpath (codes "/x")) (Auto 5 ∷ []) ≡ Auto 5 ∷ runpath (codes "/x") ∷ []
  pub deleted : edited_entries machine RemoveRpath (rpath (codes "/a") ∷ Auto 5 ∷ runpath (codes "/b") ∷ []) ≡ Auto 5 ∷ []
  pub all_rpath : edited_entries machine ForceRpath (rpath (codes "/a") ∷ runpath (codes "/b") ∷ runpath (codes "/c") ∷ []) ≡ rpath (codes "/a") ∷ rpath (codes "/b") ∷ rpath (codes "/c") ∷ []
  pub all_runpath : edited_entries machine ForceRunpath (rpath (codes "/a") ∷ runpath (codes "/b") ∷ []) ≡ runpath (codes "/a") ∷ runpath (codes "/b") ∷ []

-- ## Needed libraries, name, flags

pub record NeededRows : Type 0 where
  pub added : edited_entries machine (AddNeeded (codes "a" ∷ codes "libc.so.6" ∷ codes "b" ∷ codes "b" ∷ [])) (needed (codes "libc.so.6") ∷ Auto 5 ∷ [])
      ≡ needed (codes "a") ∷ needed (codes "b") ∷ needed (codes "b") ∷ needed (codes "libc.so.6") ∷ Auto 5 ∷ []
  pub deleted : edited_entries machine (RemoveNeeded (codes "a" ∷ codes "c" ∷ [])) (needed (codes "a") ∷ needed (codes "b") ∷ soname (codes "a") ∷ needed (codes "a") ∷ [])
      ≡ needed (codes "b") ∷ soname (codes "a") ∷ []
  pub swapped : edited_entries machine (ReplaceNeeded ((codes "f", codes "g") ∷ (codes "g", codes "f") ∷ [])) (needed (codes "f") ∷ needed (codes "g") ∷ soname (codes "f") ∷ [])
      ≡ needed (codes "g") ∷ needed (codes "f") ∷ soname (codes "f") ∷ []
  pub last_pair_counts : edited_entries machine (ReplaceNeeded ((codes "f", codes "g") ∷ (codes "f", codes "h") ∷ [])) (needed (codes "f") ∷ []) ≡ needed (codes "h") ∷ []

pub record OtherEntryRows : Type 0 where
  pub named : edited_entries machine (SetSoname (codes "x")) (soname (codes "a") ∷ Auto 5 ∷ soname (codes "b") ∷ []) ≡ soname (codes "x") ∷ Auto 5 ∷ soname (codes "x") ∷ []
  pub named_anew : edited_entries machine (SetSoname (codes "x")) (Auto 5 ∷ []) ≡ Auto 5 ∷ soname (codes "x") ∷ []
  pub no_default : edited_entries machine NoDefaultLib (Integer 0x6ffffffb 1 ∷ []) ≡ Integer 0x6ffffffb 0x801 ∷ []
  pub no_default_twice : edited_entries machine NoDefaultLib (edited_entries machine NoDefaultLib (Integer 0x6ffffffb 1 ∷ [])) ≡ Integer 0x6ffffffb 0x801 ∷ []
  pub no_default_anew : edited_entries machine NoDefaultLib (Auto 5 ∷ []) ≡ Auto 5 ∷ Integer 0x6ffffffb 0x800 ∷ []
  pub debug : edited_entries machine AddDebugTag (Auto 5 ∷ []) ≡ Auto 5 ∷ Integer 21 0 ∷ []
  pub debug_there : edited_entries machine AddDebugTag (Integer 21 7 ∷ Auto 5 ∷ []) ≡ Integer 21 7 ∷ Auto 5 ∷ []

-- ## A small library: it needs libc.so.6 and has the run path /a

abbrev pub small_segments : List SegmentHeader
small_segments =
    record { p_type = 1; p_flags = 6; p_offset = 0; p_vaddr = 0; p_paddr = 0; p_filesz = 320; p_memsz = 320; p_align = 4096 }
    ∷ record { p_type = 2; p_flags = 6; p_offset = 240; p_vaddr = 240; p_paddr = 0; p_filesz = 80; p_memsz = 80; p_align = 8 } ∷ []

abbrev pub small_entries : List Entry
small_entries = needed (codes "libc.so.6") ∷ runpath (codes "/a") ∷ Auto 5 ∷ Auto 10 ∷ []

-- what its image holds for edits; sections and symbols stay out
abbrev pub small_image : Image
small_image = record {
  source = [];
  changed = false;
  form = record { wide = W64; order = Little };
  header = record { os_abi = 0; abi_version = 0; e_type = 3; e_machine = machine; e_entry = 0; e_flags = 0; e_phoff = 64; e_shoff = 352; e_shstrndx = 3 };
  segments = small_segments;
  sections = [];
  symbols = [];
  dynamic_symbols = [];
  definitions = [];
  needs = [];
  entries = Some small_entries;
  interpreter = None;
  section_numbers = [];
  symbol_numbers = [];
  dynamic_symbol_numbers = [];
  page_size = None;
  moves_dynamic = false;
}

abbrev pub with_entries : List Entry → Image
with_entries es = record small_image { entries = Some es }

-- ## Names, bytes, stack, pages

pub record AbiRows : Type 0 where
  pub solaris : abi_number (codes "solaris") ≡ Some 6
  pub mixed_case : abi_number (codes "GNU-Hurd") ≡ Some 4
  pub with_space : abi_number (codes "gnu hurd") ≡ Some 4
  -- `ns` and the Kelvin sign, U+212A
  pub kelvin : cause (SetOsAbi (110 ∷ 115 ∷ 0xe2 ∷ 0x84 ∷ 0xaa ∷ [])) small_image ≡ Some (UnknownAbi (110 ∷ 115 ∷ 0xe2 ∷ 0x84 ∷ 0xaa ∷ []))
  pub told_lowered : cause (SetOsAbi (codes "Plan9")) small_image ≡ Some (UnknownAbi (codes "plan9"))
  pub stored : step (SetOsAbi (codes "Linux")) small_image ≡ Ok (record small_image { changed = true; header = record small_image.header { os_abi = 3 } })

pub record InterpreterRows : Type 0 where
  pub nul_added : with_nul (codes "/lib/ld.so") ≡ codes "/lib/ld.so" ++ 0 ∷ []
  pub nul_there : with_nul (97 ∷ 0 ∷ []) ≡ 97 ∷ 0 ∷ []
  pub empty : with_nul [] ≡ []
  pub none_there : step (SetInterpreter (codes "/lib/ld.so")) small_image ≡ Err NoInterpreter
  pub nul_before_the_end : step (SetInterpreter (97 ∷ 0 ∷ 98 ∷ [])) (record small_image { interpreter = Some [] }) ≡ Err NulInText

abbrev pub stack_of : ℕ → SegmentHeader
stack_of flags = record { p_type = 0x6474e551; p_flags = flags; p_offset = 0; p_vaddr = 0; p_paddr = 0; p_filesz = 0; p_memsz = 0; p_align = 16 }

abbrev pub another_segment : SegmentHeader
another_segment = record (stack_of 6) { p_type = 4 }

pub record StackRows : Type 0 where
  pub cleared_anew : step ClearExecStack small_image ≡ Ok (record small_image { changed = true; segments = small_segments ++ stack_of 6 ∷ [] })
  pub set_anew : step SetExecStack small_image ≡ Ok (record small_image { changed = true; segments = small_segments ++ stack_of 7 ∷ [] })
  -- the first one alone
  pub cleared : step ClearExecStack (record small_image { segments = stack_of 7 ∷ stack_of 7 ∷ small_segments }) ≡ Ok (record small_image { changed = true; segments = stack_of 6 ∷ stack_of 7 ∷ small_segments })
  pub set_again : step SetExecStack (record small_image { segments = stack_of 7 ∷ [] }) ≡ Ok (record small_image { changed = true; segments = stack_of 7 ∷ [] })
  pub no_room : cause SetExecStack (record small_image { segments = replicate 65534 (added_stack 6) }) ≡ None
  pub no_room_for_one : cause SetExecStack (record small_image { segments = replicate 65534 another_segment }) ≡ Some TooManyHeaders
  pub room_for_one : cause SetExecStack (record small_image { segments = replicate 65533 another_segment }) ≡ None

pub record PageRows : Type 0 where
  pub no_power : cause (SetPageSize 1000) small_image ≡ Some (BadPageSize 1000)
  pub too_small : cause (SetPageSize 512) small_image ≡ Some (BadPageSize 512)
  pub zero_bytes : cause (SetPageSize 0) small_image ≡ Some (BadPageSize 0)
  pub smallest : cause (SetPageSize 1024) small_image ≡ None
  -- every loaded segment is aligned to the page size, and no other
  pub aligned : step (SetPageSize 65536) small_image ≡ Ok (record small_image {
    changed = true;
    page_size = Some 65536;
    segments = record { p_type = 1; p_flags = 6; p_offset = 0; p_vaddr = 0; p_paddr = 0; p_filesz = 320; p_memsz = 320; p_align = 65536 }
        ∷ record { p_type = 2; p_flags = 6; p_offset = 240; p_vaddr = 240; p_paddr = 0; p_filesz = 80; p_memsz = 80; p_align = 8 } ∷ [];
  })
  pub without_loads : step (SetPageSize 4096) (record small_image { segments = [] }) ≡ Ok (record small_image { changed = true; page_size = Some 4096; segments = [] })

-- ## Refusals, and what marks the image

abbrev pub with_nul_in_it : List ℕ
with_nul_in_it = 97 ∷ 0 ∷ 98 ∷ []

abbrev pub mips_image : Image
mips_image = record small_image { header = record small_image.header { e_machine = EM_MIPS }; entries = None }

pub record RefusalRows : Type 0 where
  pub set : cause (SetRpath with_nul_in_it) small_image ≡ Some NulInText
  pub added : cause (AddRpath ([] ∷ with_nul_in_it ∷ [])) small_image ≡ Some NulInText
  pub deleted : cause (RemoveNeeded (with_nul_in_it ∷ [])) small_image ≡ Some NulInText
  pub replaced : cause (ReplaceNeeded ((with_nul_in_it, []) ∷ [])) small_image ≡ Some NulInText
  pub replaced_by : cause (ReplaceNeeded (([], with_nul_in_it) ∷ [])) small_image ≡ Some NulInText
  pub needed_more : cause (AddNeeded (with_nul_in_it ∷ [])) small_image ≡ Some NulInText
  pub named : cause (SetSoname with_nul_in_it) small_image ≡ Some NulInText
  pub abi : cause (SetOsAbi with_nul_in_it) small_image ≡ Some NulInText
  -- the machine comes first, then the list or the interpreter, then the texts, then the rest
  pub machine_first : cause (SetRpath with_nul_in_it) mips_image ≡ Some MipsImage
  pub pages_of_mips : cause (SetPageSize 3) mips_image ≡ Some MipsImage
  pub list_next : cause (SetRpath with_nul_in_it) (record small_image { entries = None }) ≡ Some (NoDynamic (codes "set runpath"))
  pub interpreter_next : cause (SetInterpreter with_nul_in_it) small_image ≡ Some NoInterpreter
  pub list_of_defaults : cause NoDefaultLib (record small_image { entries = None }) ≡ Some (NoDynamic (codes "set soname"))

-- an edit leaves the image as it was, the mark too
abbrev pub LeavesAll : Edit → Image → Type 0
LeavesAll edit image = step edit image ≡ Ok image

-- an edit leaves all but the mark
abbrev pub Marks : Edit → Image → Type 0
Marks edit image = step edit image ≡ Ok (record image { changed = true })

pub record MarkRows : Type 0 where
  pub no_run_path : LeavesAll RemoveRpath (with_entries (Auto 5 ∷ []))
  pub no_rpath : LeavesAll ForceRunpath small_image
  pub no_such_library : LeavesAll (RemoveNeeded (codes "a" ∷ [])) small_image
  pub no_such_key : LeavesAll (ReplaceNeeded ((codes "a", codes "b") ∷ [])) small_image
  pub needed_already : LeavesAll (AddNeeded (codes "libc.so.6" ∷ [])) small_image
  pub debug_there : LeavesAll AddDebugTag (with_entries (Integer 21 0 ∷ []))
  pub equal_run_path : Marks (SetRpath (codes "/a")) small_image
  pub no_directories : Marks (AddRpath []) small_image
  pub equal_library : Marks (ReplaceNeeded ((codes "libc.so.6", codes "libc.so.6") ∷ [])) small_image
  pub equal_abi : Marks (SetOsAbi (codes "sysv")) small_image

-- ## Batches

pub record BatchRows : Type 0 where
  pub two : run (SetSoname (codes "x") ∷ RemoveRpath ∷ []) small_image
      ≡ Ok (record small_image { changed = true; entries = Some (needed (codes "libc.so.6") ∷ Auto 5 ∷ Auto 10 ∷ soname (codes "x") ∷ []) })
  pub second_refused : run (SetOsAbi (codes "linux") ∷ SetPageSize 1000 ∷ []) small_image ≡ Err (record { index = 1; cause = BadPageSize 1000 })
  pub empty_batch : run [] small_image ≡ Ok small_image
  -- a refused batch leaves nothing behind
  pub nothing_left : left_by_all ((SetOsAbi (codes "linux") ∷ SetPageSize 1000 ∷ []) ∷ (RemoveRpath ∷ []) ∷ []) small_image ≡ record small_image { changed = true; entries = Some (needed (codes "libc.so.6") ∷ Auto 5 ∷ Auto 10 ∷ []) }
  pub answered : answers ((SetOsAbi (codes "linux") ∷ SetPageSize 1000 ∷ []) ∷ (RemoveRpath ∷ []) ∷ []) small_image ≡ Some (record { index = 1; cause = BadPageSize 1000 }) ∷ None ∷ []

-- ## Dynamic symbols

-- a symbol with this name and version
abbrev pub symbol : List ℕ → Option VersionId → NamedSymbol
symbol name version = record { name = name; st_info = 18; st_other = 0; st_shndx = 1; st_value = 0; st_size = 0; version = version }

abbrev pub plain : List ℕ → NamedSymbol
plain name = symbol name None

-- the versions of a local and of a global symbol, and one of a library's own
abbrev pub local : Option VersionId
local = Some (record { index = 0; hidden = false })

abbrev pub global : Option VersionId
global = Some (record { index = 1; hidden = false })

abbrev pub own : Option VersionId
own = Some (record { index = 3; hidden = true })

abbrev pub swap : Edit
swap = RenameDynamicSymbols ((codes "f", codes "g") ∷ (codes "g", codes "f") ∷ [])

pub record SymbolRows : Type 0 where
  -- names by their old ones, all at once; versions stay
  pub swapped : edited_symbols swap (plain [] ∷ symbol (codes "f") own ∷ plain (codes "g") ∷ plain (codes "h") ∷ plain (codes "f") ∷ []) ≡ plain [] ∷ symbol (codes "g") own ∷ plain (codes "f") ∷ plain (codes "h") ∷ plain (codes "g") ∷ []
  pub last_pair_counts : edited_symbols (RenameDynamicSymbols ((codes "f", codes "g") ∷ (codes "f", codes "h") ∷ [])) (plain [] ∷ plain (codes "f") ∷ []) ≡ plain [] ∷ plain (codes "h") ∷ []
  -- symbols without a name get one, and others lose theirs
  pub empty_name : edited_symbols (RenameDynamicSymbols (([], codes "x") ∷ (codes "f", []) ∷ [])) (plain [] ∷ plain [] ∷ plain (codes "f") ∷ []) ≡ plain [] ∷ plain (codes "x") ∷ plain [] ∷ []
  pub first_keeps_name : edited_symbols (RenameDynamicSymbols ((codes "f", codes "g") ∷ [])) (plain (codes "f") ∷ []) ≡ plain (codes "f") ∷ []
  pub none_there : edited_symbols swap [] ≡ []
  -- all of the name, hidden or not
  pub cleared : edited_symbols (ClearSymbolVersion (codes "f")) (symbol [] local ∷ symbol (codes "f") own ∷ symbol (codes "g") own ∷ symbol (codes "f") local ∷ []) ≡ symbol [] local ∷ symbol (codes "f") global ∷ symbol (codes "g") own ∷ symbol (codes "f") global ∷ []
  pub first_keeps_version : edited_symbols (ClearSymbolVersion []) (symbol [] local ∷ symbol [] own ∷ []) ≡ symbol [] local ∷ symbol [] global ∷ []
  pub no_versions : edited_symbols (ClearSymbolVersion (codes "f")) (plain [] ∷ plain (codes "f") ∷ []) ≡ plain [] ∷ plain (codes "f") ∷ []

abbrev pub with_symbols : List NamedSymbol → Image
with_symbols symbols = record small_image { dynamic_symbols = symbols }

-- a gABI hash table with entries of 8 bytes, which isn't made anew
abbrev pub long_hash : ImageSection
long_hash = record { name = codes ".hash"; kind = kinds.Hash; sh_type = 5; sh_flags = 2; sh_addr = 64; sh_offset = 64; sh_size = 0; sh_link = 0; sh_info = 0; sh_addralign = 8; sh_entsize = 8; content = [] }

abbrev pub fixed_image : Image
fixed_image = record (with_symbols (plain (codes "a") ∷ symbol (codes "f") own ∷ [])) { sections = long_hash ∷ []; section_numbers = 1 ∷ [] }

pub record SymbolStepRows : Type 0 where
  pub renamed : step swap (with_symbols (plain [] ∷ plain (codes "f") ∷ [])) ≡ Ok (record (with_symbols (plain [] ∷ plain (codes "g") ∷ [])) { changed = true })
  pub same_name : Marks (RenameDynamicSymbols ((codes "f", codes "f") ∷ [])) (with_symbols (plain [] ∷ plain (codes "f") ∷ []))
  pub no_such_name : LeavesAll swap (with_symbols (plain (codes "f") ∷ plain (codes "h") ∷ []))
  pub no_pairs : LeavesAll (RenameDynamicSymbols []) (with_symbols (plain [] ∷ plain [] ∷ []))
  pub already_global : Marks (ClearSymbolVersion (codes "f")) (with_symbols (symbol [] local ∷ symbol (codes "f") global ∷ []))
  pub no_such_symbol : LeavesAll (ClearSymbolVersion (codes "g")) (with_symbols (symbol (codes "g") local ∷ symbol (codes "f") own ∷ []))
  pub no_version : LeavesAll (ClearSymbolVersion (codes "f")) (with_symbols (plain [] ∷ plain (codes "f") ∷ []))
  -- a table that isn't made anew stands against other names, be they the same, of symbols that are there
  pub fixed_name : step swap fixed_image ≡ Err CannotRenumber
  pub fixed_to_same : step (RenameDynamicSymbols ((codes "f", codes "f") ∷ [])) fixed_image ≡ Err CannotRenumber
  pub fixed_others : LeavesAll (RenameDynamicSymbols ((codes "a", codes "g") ∷ (codes "g", codes "f") ∷ [])) fixed_image
  pub fixed_cleared : step (ClearSymbolVersion (codes "f")) fixed_image ≡ Ok (record fixed_image { changed = true; dynamic_symbols = plain (codes "a") ∷ symbol (codes "f") global ∷ [] })
  -- a NUL comes before a name that has to stay, and the machine before that
  pub nul_in_old : cause (RenameDynamicSymbols ((codes "f", []) ∷ (with_nul_in_it, []) ∷ [])) fixed_image ≡ Some NulInText
  pub nul_in_new : cause (RenameDynamicSymbols ((codes "f", with_nul_in_it) ∷ [])) fixed_image ≡ Some NulInText
  pub nul_to_clear : cause (ClearSymbolVersion with_nul_in_it) small_image ≡ Some NulInText
  pub machine_first : cause (RenameDynamicSymbols ((with_nul_in_it, []) ∷ [])) mips_image ≡ Some MipsImage
  pub machine_to_clear : cause (ClearSymbolVersion with_nul_in_it) mips_image ≡ Some MipsImage
  -- a file without a dynamic section may have dynamic symbols too
  pub without_list : step swap (record (with_symbols (plain [] ∷ plain (codes "f") ∷ [])) { entries = None }) ≡ Ok (record (with_symbols (plain [] ∷ plain (codes "g") ∷ [])) { changed = true; entries = None })
  -- one after the other
  pub in_a_batch : run (RenameDynamicSymbols ((codes "f", codes "g") ∷ []) ∷ ClearSymbolVersion (codes "g") ∷ RenameDynamicSymbols ((codes "g", codes "h") ∷ []) ∷ []) (with_symbols (plain [] ∷ symbol (codes "f") own ∷ []))
      ≡ Ok (record (with_symbols (plain [] ∷ symbol (codes "h") global ∷ [])) { changed = true })
  pub second_refused : run (ClearSymbolVersion (codes "f") ∷ swap ∷ []) fixed_image ≡ Err (record { index = 1; cause = CannotRenumber })

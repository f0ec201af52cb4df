-- Small images, worked out by hand.
use Rattle.std.specs.Prelude.{ℕ, ◌≡◌, List, [], ◌∷◌, ◌++◌, codes, length, true, false, Some, None, Ok, Err}
use Rattle.patch_bytes.specs.declared.number.ByteOrder2.TheVariants.{Little}
use Rattle.patch_bytes.specs.declared.number.Wide.TheVariants.{W64}
use Rattle.elf_format.specs.declared.constants.TheConstants.{EM_MIPS, PT_INTERP, PT_LOAD, PT_TLS, SHF_ALLOC, SHT_DYNAMIC, SHT_DYNSYM, SHT_HASH, SHT_NULL, SHT_PROGBITS, SHT_REL, SHT_STRTAB, SHT_SYMTAB}
use Rattle.elf_format.specs.declared.records.SegmentHeader.{SegmentHeader}
use Rattle.elf_format.specs.declared.section_data.SectionData.{SectionData}
use Rattle.elf_format.specs.declared.section_data.SectionData.TheVariants as kinds
use Rattle.elf_format.specs.Image.{Image, ImageSection}
use Rattle.elf_format.specs.Views.{NamedSymbol}
use Rattle.elf_symbol_edits.specs.declared.cause.Cause.TheVariants.{CannotRenumber, MipsImage, NulInText, SectionInUse, SymbolInRelocation}
use Rattle.elf_symbol_edits.specs.Cause.{step}
use Rattle.elf_symbol_edits.specs.SymbolEdit.{DeleteAllSymbols, DeleteDynamicSymbols, DeleteSections, DeleteSymbols, RenameAllSymbols, RenameSections, RenameSymbols, SymbolEdit}

-- ## Sections

-- a section that takes no memory, which links to another one
abbrev pub section : List ℕ → ℕ → SectionData → ℕ → List ℕ → ImageSection
section name type kind link content = record {
  name = name;
  kind = kind;
  sh_type = type;
  sh_flags = 0;
  sh_addr = 0;
  sh_offset = 0;
  sh_size = length content;
  sh_link = link;
  sh_info = 0;
  sh_addralign = 1;
  sh_entsize = 0;
  content = content;
}

abbrev pub null : ImageSection
null = section [] SHT_NULL kinds.Opaque 0 []

abbrev pub strings : ImageSection
strings = section (codes ".dynstr") SHT_STRTAB kinds.Strings 0 (0 ∷ [])

abbrev pub list : ImageSection
list = section (codes ".dynamic") SHT_DYNAMIC kinds.Dynamic 1 []

abbrev pub comment : ImageSection
comment = section (codes ".comment") SHT_PROGBITS kinds.Opaque 0 (71 ∷ 67 ∷ 67 ∷ 0 ∷ [])

abbrev pub names : ImageSection
names = section (codes ".shstrtab") SHT_STRTAB kinds.Strings 0 (0 ∷ [])

abbrev pub with_name : List ℕ → ImageSection → ImageSection
with_name name s = record s { name = name }

-- dynamic strings, a dynamic list, a comment, and the names of sections
abbrev pub small_image : Image
small_image = record {
  source = [];
  changed = false;
  form = record { wide = W64; order = Little };
  header = record { os_abi = 0; abi_version = 0; e_type = 3; e_machine = 62; e_entry = 0; e_flags = 0; e_phoff = 64; e_shoff = 368; e_shstrndx = 4 };
  segments = [];
  sections = null ∷ strings ∷ list ∷ comment ∷ names ∷ [];
  symbols = [];
  dynamic_symbols = [];
  definitions = [];
  needs = [];
  entries = Some [];
  interpreter = None;
  section_numbers = 0 ∷ 1 ∷ 2 ∷ 3 ∷ 4 ∷ [];
  symbol_numbers = [];
  dynamic_symbol_numbers = [];
  page_size = None;
  moves_dynamic = false;
}

-- an edit leaves the image as it was, the mark too
abbrev pub LeavesAll : SymbolEdit → Image → Type 0
LeavesAll edit image = step edit image ≡ Ok image

pub record SectionRows : Type 0 where
  pub comment_gone : step (DeleteSections (codes ".comment" ∷ [])) small_image
      ≡ Ok (record small_image { changed = true; sections = null ∷ strings ∷ list ∷ names ∷ []; section_numbers = 0 ∷ 1 ∷ 2 ∷ 4 ∷ [] })
  pub strings_used : step (DeleteSections (codes ".dynstr" ∷ [])) small_image ≡ Err SectionInUse
  pub list_used : step (DeleteSections (codes ".dynamic" ∷ [])) small_image ≡ Err SectionInUse
  pub names_used : step (DeleteSections (codes ".shstrtab" ∷ codes ".comment" ∷ [])) small_image ≡ Err SectionInUse
  -- the null section has the empty name
  pub none_named : LeavesAll (DeleteSections (codes ".text" ∷ [] ∷ [])) small_image
  pub no_names : LeavesAll (DeleteSections []) small_image
  pub renamed : step (RenameSections ((codes ".dynamic", codes ".d") ∷ [])) small_image
      ≡ Ok (record small_image { changed = true; sections = null ∷ strings ∷ with_name (codes ".d") list ∷ comment ∷ names ∷ [] })
  -- all at once; of a repeated old name the last pair counts
  pub swapped : step (RenameSections ((codes ".comment", codes ".x") ∷ (codes ".dynamic", codes ".comment") ∷ (codes ".comment", codes ".dynamic") ∷ [])) small_image
      ≡ Ok (record small_image { changed = true; sections = null ∷ strings ∷ with_name (codes ".comment") list ∷ with_name (codes ".dynamic") comment ∷ names ∷ [] })
  pub same_name : step (RenameSections ((codes ".comment", codes ".comment") ∷ [])) small_image ≡ Ok (record small_image { changed = true })
  pub null_keeps_name : LeavesAll (RenameSections (([], codes ".x") ∷ [])) small_image

-- ## Symbols

-- a symbol that is defined in a section
abbrev pub symbol : List ℕ → ℕ → NamedSymbol
symbol name number = record { name = name; st_info = 0x12; st_other = 0; st_shndx = number; st_value = 0; st_size = 0; version = None }

abbrev pub first : NamedSymbol
first = symbol [] 0

-- a relocation that names a symbol
abbrev pub relocation : ℕ → List ℕ
relocation number = 0 ∷ 0 ∷ 0 ∷ 0 ∷ 0 ∷ 0 ∷ 0 ∷ 0 ∷ 7 ∷ 0 ∷ 0 ∷ 0 ∷ number ∷ 0 ∷ 0 ∷ 0 ∷ []

abbrev pub dynamic_table : ImageSection
dynamic_table = section (codes ".dynsym") SHT_DYNSYM kinds.DynamicSymbols 2 []

abbrev pub static_table : ImageSection
static_table = section (codes ".symtab") SHT_SYMTAB kinds.Symbols 2 []

-- symbols for a loader and for a link editor, strings, code, and one section more: in this order
abbrev pub with_symbols : ImageSection → Image
with_symbols s = record small_image {
  header = record small_image.header { e_shstrndx = 2 };
  sections = null ∷ dynamic_table ∷ names ∷ static_table ∷ section (codes ".text") SHT_PROGBITS kinds.Opaque 0 [] ∷ s ∷ [];
  section_numbers = 0 ∷ 1 ∷ 2 ∷ 3 ∷ 4 ∷ 5 ∷ [];
  symbols = first ∷ symbol (codes "f") 4 ∷ symbol (codes "g") 4 ∷ symbol [] 0 ∷ [];
  symbol_numbers = 0 ∷ 1 ∷ 2 ∷ 3 ∷ [];
  dynamic_symbols = first ∷ symbol (codes "f") 0 ∷ symbol (codes "g") 0 ∷ [];
  dynamic_symbol_numbers = 0 ∷ 1 ∷ 2 ∷ [];
}

abbrev pub plain : Image
plain = with_symbols comment

-- relocations against the dynamic symbols, and against the static ones, that name symbol 1
abbrev pub dynamic_relocated : Image
dynamic_relocated = with_symbols (section (codes ".rel") SHT_REL kinds.Relocation 1 (relocation 0 ++ relocation 1))

abbrev pub static_relocated : Image
static_relocated = with_symbols (section (codes ".rel") SHT_REL kinds.Relocation 3 (relocation 1))

-- a group of sections (gABI, Section Groups), which is kept as it is
abbrev pub grouped : ℕ → Image
grouped link = with_symbols (section (codes ".group") 17 kinds.Opaque link [])

-- a gABI hash table with entries of 8 bytes, which isn't made anew
abbrev pub fixed : Image
fixed = with_symbols (record (section (codes ".hash") SHT_HASH kinds.Hash 1 []) { sh_entsize = 8 })

pub record SymbolRows : Type 0 where
  -- the dynamic symbol of the name stays as it is
  pub renamed : step (RenameSymbols ((codes "f", codes "h") ∷ [])) plain
      ≡ Ok (record plain { changed = true; symbols = first ∷ symbol (codes "h") 4 ∷ symbol (codes "g") 4 ∷ symbol [] 0 ∷ [] })
  pub swapped : step (RenameSymbols ((codes "f", codes "g") ∷ (codes "g", codes "f") ∷ [])) plain
      ≡ Ok (record plain { changed = true; symbols = first ∷ symbol (codes "g") 4 ∷ symbol (codes "f") 4 ∷ symbol [] 0 ∷ [] })
  -- symbols without a name get one, but for the first
  pub nameless : step (RenameSymbols (([], codes "x") ∷ [])) plain
      ≡ Ok (record plain { changed = true; symbols = first ∷ symbol (codes "f") 4 ∷ symbol (codes "g") 4 ∷ symbol (codes "x") 0 ∷ [] })
  pub same_name : step (RenameSymbols ((codes "f", codes "f") ∷ [])) plain ≡ Ok (record plain { changed = true })
  pub none_named : LeavesAll (RenameSymbols ((codes "x", codes "f") ∷ [])) plain
  pub deleted : step (DeleteSymbols (codes "f" ∷ codes "x" ∷ [])) plain
      ≡ Ok (record plain { changed = true; symbols = first ∷ symbol (codes "g") 4 ∷ symbol [] 0 ∷ []; symbol_numbers = 0 ∷ 2 ∷ 3 ∷ [] })
  -- the first stays
  pub nameless_deleted : step (DeleteSymbols ([] ∷ [])) plain
      ≡ Ok (record plain { changed = true; symbols = first ∷ symbol (codes "f") 4 ∷ symbol (codes "g") 4 ∷ []; symbol_numbers = 0 ∷ 1 ∷ 2 ∷ [] })
  pub none_deleted : LeavesAll (DeleteSymbols (codes "x" ∷ [])) plain
  pub dynamic_deleted : step (DeleteDynamicSymbols (codes "g" ∷ [])) plain
      ≡ Ok (record plain { changed = true; dynamic_symbols = first ∷ symbol (codes "f") 0 ∷ []; dynamic_symbol_numbers = 0 ∷ 1 ∷ [] })
  -- deleted by its number at read, which isn't its place any more
  pub deleted_twice : step (DeleteSymbols (codes "g" ∷ [])) (record plain { symbols = first ∷ symbol (codes "g") 4 ∷ symbol [] 0 ∷ []; symbol_numbers = 0 ∷ 2 ∷ 3 ∷ [] })
      ≡ Ok (record plain { changed = true; symbols = first ∷ symbol [] 0 ∷ []; symbol_numbers = 0 ∷ 3 ∷ [] })

-- symbols of both lists; only the dynamic ones have a name "d", and only the static ones none
abbrev pub with_own_names : Image
with_own_names = record plain { dynamic_symbols = first ∷ symbol (codes "f") 0 ∷ symbol (codes "d") 0 ∷ [] }

pub record BothRows : Type 0 where
  pub renamed : step (RenameAllSymbols ((codes "f", codes "h") ∷ [])) plain
      ≡ Ok (record plain {
        changed = true;
        symbols = first ∷ symbol (codes "h") 4 ∷ symbol (codes "g") 4 ∷ symbol [] 0 ∷ [];
        dynamic_symbols = first ∷ symbol (codes "h") 0 ∷ symbol (codes "g") 0 ∷ [];
      })
  pub one_renamed : step (RenameAllSymbols ((codes "d", codes "h") ∷ [])) with_own_names
      ≡ Ok (record with_own_names { changed = true; dynamic_symbols = first ∷ symbol (codes "f") 0 ∷ symbol (codes "h") 0 ∷ [] })
  pub nameless_renamed : step (RenameAllSymbols (([], codes "x") ∷ [])) plain
      ≡ Ok (record plain { changed = true; symbols = first ∷ symbol (codes "f") 4 ∷ symbol (codes "g") 4 ∷ symbol (codes "x") 0 ∷ [] })
  pub none_named : LeavesAll (RenameAllSymbols ((codes "x", codes "f") ∷ [])) plain
  pub deleted : step (DeleteAllSymbols (codes "f" ∷ [])) plain
      ≡ Ok (record plain {
        changed = true;
        symbols = first ∷ symbol (codes "g") 4 ∷ symbol [] 0 ∷ [];
        symbol_numbers = 0 ∷ 2 ∷ 3 ∷ [];
        dynamic_symbols = first ∷ symbol (codes "g") 0 ∷ [];
        dynamic_symbol_numbers = 0 ∷ 2 ∷ [];
      })
  pub one_deleted : step (DeleteAllSymbols (codes "d" ∷ [])) with_own_names
      ≡ Ok (record with_own_names { changed = true; dynamic_symbols = first ∷ symbol (codes "f") 0 ∷ []; dynamic_symbol_numbers = 0 ∷ 1 ∷ [] })
  pub nameless_deleted : step (DeleteAllSymbols ([] ∷ [])) plain
      ≡ Ok (record plain { changed = true; symbols = first ∷ symbol (codes "f") 4 ∷ symbol (codes "g") 4 ∷ []; symbol_numbers = 0 ∷ 1 ∷ 2 ∷ [] })
  pub none_deleted : LeavesAll (DeleteAllSymbols (codes "x" ∷ [])) plain

-- ## Refusals

abbrev pub with_nul_in_it : List ℕ
with_nul_in_it = 97 ∷ 0 ∷ 98 ∷ []

abbrev pub for_mips : Image → Image
for_mips image = record image { header = record image.header { e_machine = EM_MIPS } }

pub record RefusalRows : Type 0 where
  pub dynamic_named : step (DeleteDynamicSymbols (codes "f" ∷ [])) dynamic_relocated ≡ Err SymbolInRelocation
  pub of_another_symbol : step (DeleteDynamicSymbols (codes "g" ∷ [])) dynamic_relocated
      ≡ Ok (record dynamic_relocated { changed = true; dynamic_symbols = first ∷ symbol (codes "f") 0 ∷ []; dynamic_symbol_numbers = 0 ∷ 1 ∷ [] })
  pub of_another_table : step (DeleteSymbols (codes "g" ∷ [])) dynamic_relocated
      ≡ Ok (record dynamic_relocated { changed = true; symbols = first ∷ symbol (codes "f") 4 ∷ symbol [] 0 ∷ []; symbol_numbers = 0 ∷ 1 ∷ 3 ∷ [] })
  pub static_named : step (DeleteSymbols (codes "f" ∷ [])) static_relocated ≡ Err SymbolInRelocation
  -- a symbol that would go along with its section
  pub relocated_along : step (DeleteSections (codes ".text" ∷ [])) static_relocated ≡ Err SymbolInRelocation
  pub static_fixed : step (DeleteSymbols (codes "f" ∷ [])) (grouped 3) ≡ Err CannotRenumber
  pub fixed_along : step (DeleteSections (codes ".text" ∷ [])) (grouped 3) ≡ Err CannotRenumber
  pub dynamic_fixed : step (DeleteDynamicSymbols (codes "f" ∷ [])) (grouped 1) ≡ Err CannotRenumber
  pub not_fixed : step (RenameSymbols ((codes "f", codes "h") ∷ [])) (grouped 3)
      ≡ Ok (record (grouped 3) { changed = true; symbols = first ∷ symbol (codes "h") 4 ∷ symbol (codes "g") 4 ∷ symbol [] 0 ∷ [] })
  pub table_fixed : step (DeleteDynamicSymbols (codes "f" ∷ [])) fixed ≡ Err CannotRenumber
  -- where no symbol goes, nothing is asked of the table
  pub none_fixed : LeavesAll (DeleteDynamicSymbols (codes "x" ∷ [])) fixed
  -- a name is fixed where hash tables or relocations can't follow, which no static symbol asks for
  pub name_fixed : step (RenameAllSymbols ((codes "f", codes "f") ∷ [])) fixed ≡ Err CannotRenumber
  pub no_name_fixed : step (RenameAllSymbols (([], codes "x") ∷ [])) fixed
      ≡ Ok (record fixed { changed = true; symbols = first ∷ symbol (codes "f") 4 ∷ symbol (codes "g") 4 ∷ symbol (codes "x") 0 ∷ [] })
  pub one_list_named : step (DeleteAllSymbols (codes "f" ∷ [])) dynamic_relocated ≡ Err SymbolInRelocation
  pub other_list_named : step (DeleteAllSymbols (codes "f" ∷ [])) static_relocated ≡ Err SymbolInRelocation
  pub one_list_fixed : step (DeleteAllSymbols (codes "f" ∷ [])) (grouped 3) ≡ Err CannotRenumber
  pub other_list_fixed : step (DeleteAllSymbols (codes "f" ∷ [])) fixed ≡ Err CannotRenumber
  pub nul_before_names : step (RenameAllSymbols ((codes "f", with_nul_in_it) ∷ [])) fixed ≡ Err NulInText
  pub nul_in_old : step (RenameSymbols ((with_nul_in_it, []) ∷ [])) plain ≡ Err NulInText
  pub nul_in_new : step (RenameSections (([], with_nul_in_it) ∷ [])) plain ≡ Err NulInText
  pub nul_before_relocations : step (DeleteSymbols (codes "f" ∷ with_nul_in_it ∷ [])) static_relocated ≡ Err NulInText
  pub machine_first : step (DeleteSections (with_nul_in_it ∷ [])) (for_mips plain) ≡ Err MipsImage
  pub machine_of_nothing : step (RenameSections []) (for_mips plain) ≡ Err MipsImage

-- ## What goes along with sections

-- a program header over the addresses from 16 up to 24
abbrev pub over : ℕ → SegmentHeader
over type = record { p_type = type; p_flags = 4; p_offset = 0; p_vaddr = 16; p_paddr = 16; p_filesz = 1; p_memsz = 8; p_align = 1 }

-- the interpreter's section, at 16
abbrev pub interpreter_section : ImageSection
interpreter_section = record (section (codes ".interp") SHT_PROGBITS kinds.Opaque 0 (0 ∷ [])) { sh_addr = 16; sh_flags = SHF_ALLOC }

abbrev pub with_interpreter : Image
with_interpreter = record (with_symbols interpreter_section) {
  segments = over PT_LOAD ∷ over PT_INTERP ∷ over PT_TLS ∷ [];
  interpreter = Some (0 ∷ []);
  symbols = symbol [] 5 ∷ symbol (codes "f") 5 ∷ symbol (codes "g") 4 ∷ symbol [] 0 ∷ [];
}

pub record AlongRows : Type 0 where
  -- with the interpreter's section go the symbol that is defined in it, but not the first, the interpreter, and its program headers, but
  -- not what is loaded
  pub interpreter_gone : step (DeleteSections (codes ".interp" ∷ [])) with_interpreter
      ≡ Ok (record with_interpreter {
        changed = true;
        segments = over PT_LOAD ∷ [];
        sections = null ∷ dynamic_table ∷ names ∷ static_table ∷ section (codes ".text") SHT_PROGBITS kinds.Opaque 0 [] ∷ [];
        section_numbers = 0 ∷ 1 ∷ 2 ∷ 3 ∷ 4 ∷ [];
        symbols = symbol [] 5 ∷ symbol (codes "g") 4 ∷ symbol [] 0 ∷ [];
        symbol_numbers = 0 ∷ 2 ∷ 3 ∷ [];
        interpreter = None;
      })
  -- with their table go all static symbols, the first too
  pub table_gone : step (DeleteSections (codes ".symtab" ∷ [])) plain
      ≡ Ok (record plain {
        changed = true;
        sections = null ∷ dynamic_table ∷ names ∷ section (codes ".text") SHT_PROGBITS kinds.Opaque 0 [] ∷ comment ∷ [];
        section_numbers = 0 ∷ 1 ∷ 2 ∷ 4 ∷ 5 ∷ [];
        symbols = [];
        symbol_numbers = [];
      })
  -- the relocations of a section go with it
  pub relocations_gone : step (DeleteSections (codes ".symtab" ∷ codes ".rel" ∷ [])) static_relocated
      ≡ Ok (record static_relocated {
        changed = true;
        sections = null ∷ dynamic_table ∷ names ∷ section (codes ".text") SHT_PROGBITS kinds.Opaque 0 [] ∷ [];
        section_numbers = 0 ∷ 1 ∷ 2 ∷ 4 ∷ [];
        symbols = [];
        symbol_numbers = [];
      })

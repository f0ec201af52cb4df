-- Which edit of an ELF file a number and its texts are.
use Rattle.std.specs.Prelude.{ℕ, ◌==◌, ◌||◌, Bool, List, Option, Some, None, Result, Ok, Err, if◌then◌else◌}
use Rattle.std.specs.Option.{option_map}
use Rattle.command_words.specs.KeyValue.{decimal_number}
use Rattle.elf_edits.specs.Edit.{AddDebugTag, AddNeeded, AddRpath, ClearExecStack, ClearSymbolVersion, RemoveNeeded, RemoveRpath, Edit, NoDefaultLib, RenameDynamicSymbols, ReplaceLibrary, ReplaceNeeded, SetExecStack, SetInterpreter, SetOsAbi, SetPageSize, SetRpath, SetSoname, ForceRpath}
use Rattle.elf_edits.specs.EditModel.{edit_model}
use Rattle.elf_edits.specs.TextModel.{pairs_model, texts_model}
use Rattle.elf_symbol_edits.specs.SymbolEdit.{DeleteAllSymbols, DeleteSections, RenameAllSymbols, RenameSections, SymbolEdit}
use Rattle.arwen_c_edits.specs.Lent.{GivenEdit, Read, Text, by_none, even_in, known, one_in, then_read, word_in}
use Rattle.arwen_c_edits.specs.Lists.{edits_from}
use Rattle.arwen_c_edits.specs.declared.elf_values.ReadEdit.{ReadEdit}
use Rattle.arwen_c_edits.specs.declared.elf_values.ReadEdit.TheVariants as held
use Rattle.arwen_c_edits.specs.declared.elf_kinds.Takes.{Takes}
use Rattle.arwen_c_edits.specs.declared.elf_kinds.Takes.TheVariants.{Abi, Names, Nothing, OneText, PageSize, Pairs}
use Rattle.arwen_c_edits.specs.declared.fault.ListFault.{ListFault}
use Rattle.arwen_c_edits.specs.declared.fault.WrongEdit.{WrongEdit}
use Rattle.arwen_c_edits.specs.declared.fault.WrongEdit.TheVariants.{NoText, OtherFormat, UnknownKind}
use Rattle.arwen_c_edits.specs.declared.numbers.TheConstants.{ELF_ADD_DEBUG_TAG, ELF_ADD_NEEDED, ELF_ADD_RPATH, ELF_CLEAR_EXEC_STACK, ELF_CLEAR_SYMBOL_VERSION, ELF_DELETE_SECTIONS, ELF_DELETE_SYMBOLS, ELF_FORCE_RPATH, ELF_NO_DEFAULT_LIB, ELF_REMOVE_NEEDED, ELF_REMOVE_RPATH, ELF_RENAME_DYNAMIC_SYMBOLS, ELF_RENAME_SECTIONS, ELF_RENAME_SYMBOLS, ELF_REPLACE_LIBRARY, ELF_REPLACE_NEEDED, ELF_SET_EXEC_STACK, ELF_SET_INTERPRETER, ELF_SET_OS_ABI, ELF_SET_PAGE_SIZE, ELF_SET_RPATH, ELF_SET_SONAME}
use Rattle.arwen_c_edits.specs.declared.numbers.TheConstants.{MACHO_ADD_RPATH, MACHO_CHANGE_INSTALL_ID, MACHO_CHANGE_INSTALL_NAME, MACHO_CHANGE_RPATH, MACHO_DELETE_RPATH}

-- ## What is read

-- an edit that a batch takes, or one of symbols or sections
pub data ElfEdit : Type 0 where
  plain : Edit → ElfEdit
  symbols : SymbolEdit → ElfEdit

abbrev pub read_model : ReadEdit → ElfEdit
read_model (held.Plain edit) = plain (edit_model edit)
read_model (held.RenameSymbols pairs) = symbols (RenameAllSymbols (pairs_model pairs.items))
read_model (held.DeleteSymbols names) = symbols (DeleteAllSymbols (texts_model names.items))
read_model (held.RenameSections pairs) = symbols (RenameSections (pairs_model pairs.items))
read_model (held.DeleteSections names) = symbols (DeleteSections (texts_model names.items))

-- ## Numbers

-- what the edit of a number takes
unfoldable pub elf_takes : ℕ → Option Takes
elf_takes kind =
    if kind == ELF_ADD_DEBUG_TAG || kind == ELF_CLEAR_EXEC_STACK || kind == ELF_FORCE_RPATH || kind == ELF_NO_DEFAULT_LIB
    || kind == ELF_REMOVE_RPATH || kind == ELF_SET_EXEC_STACK then Some Nothing
    else (if kind == ELF_CLEAR_SYMBOL_VERSION || kind == ELF_SET_INTERPRETER || kind == ELF_SET_RPATH || kind == ELF_SET_SONAME
    then Some OneText
    else (if kind == ELF_ADD_NEEDED || kind == ELF_ADD_RPATH || kind == ELF_DELETE_SECTIONS || kind == ELF_DELETE_SYMBOLS
    || kind == ELF_REMOVE_NEEDED then Some Names
    else (if kind == ELF_RENAME_DYNAMIC_SYMBOLS || kind == ELF_RENAME_SECTIONS || kind == ELF_RENAME_SYMBOLS
    || kind == ELF_REPLACE_LIBRARY || kind == ELF_REPLACE_NEEDED then Some Pairs
    else (if kind == ELF_SET_OS_ABI then Some Abi
    else (if kind == ELF_SET_PAGE_SIZE then Some PageSize else None)))))

-- the number of an edit of Mach-O files
unfoldable pub is_macho_kind : ℕ → Bool
is_macho_kind kind = kind == MACHO_ADD_RPATH || kind == MACHO_CHANGE_INSTALL_ID || kind == MACHO_CHANGE_INSTALL_NAME
    || kind == MACHO_CHANGE_RPATH || kind == MACHO_DELETE_RPATH

-- what is wrong with an edit of no number of ELF files
abbrev pub no_elf_kind : ℕ → WrongEdit
no_elf_kind kind = if is_macho_kind kind then OtherFormat else UnknownKind

-- ## Edits

-- edits that take nothing
unfoldable pub bare_edit : ℕ → Option Edit
bare_edit kind =
    if kind == ELF_ADD_DEBUG_TAG then Some AddDebugTag
    else (if kind == ELF_CLEAR_EXEC_STACK then Some ClearExecStack
    else (if kind == ELF_FORCE_RPATH then Some ForceRpath
    else (if kind == ELF_NO_DEFAULT_LIB then Some NoDefaultLib
    else (if kind == ELF_REMOVE_RPATH then Some RemoveRpath
    else (if kind == ELF_SET_EXEC_STACK then Some SetExecStack else None)))))

-- one text
unfoldable pub text_edit : ℕ → Text → Option Edit
text_edit kind text =
    if kind == ELF_CLEAR_SYMBOL_VERSION then Some (ClearSymbolVersion text)
    else (if kind == ELF_SET_INTERPRETER then Some (SetInterpreter text)
    else (if kind == ELF_SET_RPATH then Some (SetRpath text)
    else (if kind == ELF_SET_SONAME then Some (SetSoname text) else None)))

-- any number of names
unfoldable pub names_edit : ℕ → List Text → Option ElfEdit
names_edit kind names =
    if kind == ELF_ADD_NEEDED then Some (plain (AddNeeded names))
    else (if kind == ELF_ADD_RPATH then Some (plain (AddRpath names))
    else (if kind == ELF_DELETE_SECTIONS then Some (symbols (DeleteSections names))
    else (if kind == ELF_DELETE_SYMBOLS then Some (symbols (DeleteAllSymbols names))
    else (if kind == ELF_REMOVE_NEEDED then Some (plain (RemoveNeeded names)) else None))))

-- pairs of an old name and a new one
unfoldable pub pairs_edit : ℕ → List (Text × Text) → Option ElfEdit
pairs_edit kind pairs =
    if kind == ELF_RENAME_DYNAMIC_SYMBOLS then Some (plain (RenameDynamicSymbols pairs))
    else (if kind == ELF_RENAME_SECTIONS then Some (symbols (RenameSections pairs))
    else (if kind == ELF_RENAME_SYMBOLS then Some (symbols (RenameAllSymbols pairs))
    else (if kind == ELF_REPLACE_LIBRARY then Some (plain (ReplaceLibrary pairs))
    else (if kind == ELF_REPLACE_NEEDED then Some (plain (ReplaceNeeded pairs)) else None))))

-- a decimal number
abbrev pub size_of : Option ℕ → Read ElfEdit
size_of None = Err NoText
size_of (Some size) = Ok (plain (SetPageSize size))

-- ## Reading

abbrev pub plain_known : Option Edit → Read ElfEdit
plain_known edit = known (option_map plain edit)

abbrev pub page_size_read : Text → Read ElfEdit
page_size_read word = size_of (decimal_number word)

-- the edit of a number that takes this
abbrev pub elf_read_by : Takes → ℕ → List Text → Read ElfEdit
elf_read_by Nothing kind texts = then_read (λ _. plain_known (bare_edit kind)) (by_none texts)
elf_read_by OneText kind texts = then_read (λ text. plain_known (text_edit kind text)) (one_in texts)
elf_read_by Names kind texts = known (names_edit kind texts)
elf_read_by Pairs kind texts = then_read (λ pairs. known (pairs_edit kind pairs)) (even_in texts)
elf_read_by Abi kind texts = then_read (λ word. Ok (plain (SetOsAbi word))) (then_read word_in (one_in texts))
elf_read_by PageSize kind texts = then_read page_size_read (then_read word_in (one_in texts))

abbrev pub elf_read_if : Option Takes → ℕ → List Text → Read ElfEdit
elf_read_if None kind texts = Err (no_elf_kind kind)
elf_read_if (Some takes) kind texts = elf_read_by takes kind texts

-- the edit that a number and its texts are
abbrev pub elf_edit_read : GivenEdit → Read ElfEdit
elf_edit_read edit = elf_read_if (elf_takes edit.kind) edit.kind edit.texts

-- the edits of a list; the first that is wrong counts
abbrev pub elf_edits_read : List GivenEdit → Result (List ElfEdit) ListFault
elf_edits_read edits = edits_from elf_edit_read 0 edits

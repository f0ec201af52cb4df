-- Which edit of a Mach-O file a number and its texts are.
use Rattle.std.specs.Prelude.{ℕ, ◌==◌, ◌||◌, List, Option, Some, None, Result, Ok, Err, if◌then◌else◌}
use Rattle.macho_edits.specs.Call.{Call}
use Rattle.macho_edits.specs.Call.Call.{add_rpath, change_install_id, change_install_name, change_rpath, remove_rpath}
use Rattle.arwen_c_edits.specs.ElfEdits.{elf_takes}
use Rattle.arwen_c_edits.specs.Lent.{GivenEdit, Read, Text, known, one_in, then_read, two_in, word_in}
use Rattle.arwen_c_edits.specs.Lists.{edits_from}
use Rattle.arwen_c_edits.specs.declared.elf_kinds.Takes.{Takes}
use Rattle.arwen_c_edits.specs.declared.fault.ListFault.{ListFault}
use Rattle.arwen_c_edits.specs.declared.fault.WrongEdit.{WrongEdit}
use Rattle.arwen_c_edits.specs.declared.fault.WrongEdit.TheVariants.{OtherFormat, UnknownKind}
use Rattle.arwen_c_edits.specs.declared.macho_list.Words.{Words}
use Rattle.arwen_c_edits.specs.declared.macho_list.Words.TheVariants.{One, Two}
use Rattle.arwen_c_edits.specs.declared.numbers.TheConstants.{MACHO_ADD_RPATH, MACHO_CHANGE_INSTALL_ID, MACHO_CHANGE_INSTALL_NAME, MACHO_CHANGE_RPATH, MACHO_DELETE_RPATH}

-- how many words the edit of a number takes
unfoldable pub macho_takes : ℕ → Option Words
macho_takes kind =
    if kind == MACHO_ADD_RPATH || kind == MACHO_CHANGE_INSTALL_ID || kind == MACHO_DELETE_RPATH then Some One
    else (if kind == MACHO_CHANGE_INSTALL_NAME || kind == MACHO_CHANGE_RPATH then Some Two else None)

-- what is wrong with an edit of no number of Mach-O files
abbrev pub if_elf : Option Takes → WrongEdit
if_elf None = UnknownKind
if_elf (Some takes) = OtherFormat

abbrev pub no_macho_kind : ℕ → WrongEdit
no_macho_kind kind = if_elf (elf_takes kind)

-- ## Edits

-- edits that take one word
unfoldable pub word_call : ℕ → Text → Option Call
word_call kind word =
    if kind == MACHO_ADD_RPATH then Some (add_rpath word)
    else (if kind == MACHO_CHANGE_INSTALL_ID then Some (change_install_id word)
    else (if kind == MACHO_DELETE_RPATH then Some (remove_rpath word) else None))

-- an old one and a new one
unfoldable pub words_call : ℕ → Text → Text → Option Call
words_call kind old new =
    if kind == MACHO_CHANGE_INSTALL_NAME then Some (change_install_name old new)
    else (if kind == MACHO_CHANGE_RPATH then Some (change_rpath old new) else None)

-- ## Reading

-- two texts that are both UTF-8, as words
abbrev pub two_words : Text × Text → Read (Text × Text)
two_words texts = then_read (λ old. then_read (λ new. Ok (old, new)) (word_in texts.1)) (word_in texts.0)

-- the edit of a number that takes this
abbrev pub macho_read_by : Words → ℕ → List Text → Read Call
macho_read_by One kind texts = then_read (λ word. known (word_call kind word)) (then_read word_in (one_in texts))
macho_read_by Two kind texts =
    then_read (λ words. known (words_call kind words.0 words.1)) (then_read two_words (two_in texts))

abbrev pub macho_read_if : Option Words → ℕ → List Text → Read Call
macho_read_if None kind texts = Err (no_macho_kind kind)
macho_read_if (Some takes) kind texts = macho_read_by takes kind texts

-- the edit that a number and its texts are
abbrev pub macho_edit_read : GivenEdit → Read Call
macho_edit_read edit = macho_read_if (macho_takes edit.kind) edit.kind edit.texts

-- the edits of a list; the first that is wrong counts
abbrev pub macho_edits_read : List GivenEdit → Result (List Call) ListFault
macho_edits_read edits = edits_from macho_edit_read 0 edits

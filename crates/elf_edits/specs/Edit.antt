-- The edits of what an image shows: the words of their refusals, their texts, and the dynamic list and symbols after each.
use Rattle.std.specs.Prelude.{ℕ, ◌-◌, List, [], ◌∷◌, codes, drop, length, map, take, Bool, false, true, not, Option, Some, None}
use Rattle.std.specs.List.{flat_map, list_any}
use Rattle.std.specs.String.{string_bytes}
use Rattle.elf_format.specs.declared.constants.TheConstants.{DT_DEBUG, DT_RPATH, DT_RUNPATH, DT_SONAME}
use Rattle.elf_image.specs.Dynamic.{Entry, Integer}
use Rattle.elf_image.specs.Image.{lists_tag}
use Rattle.elf_image.specs.Versions.{VersionNeeds}
use Rattle.elf_image.specs.Views.{NamedSymbol}
use Rattle.elf_edits.specs.declared.edit.ElfEdit.{ElfEdit}
use Rattle.elf_edits.specs.declared.edit.ElfEdit.TheVariants as edits
use Rattle.elf_edits.specs.declared.edit.Task.{Task}
use Rattle.elf_edits.specs.declared.edit.Task.TheVariants as tasks
use Rattle.elf_edits.specs.Entries.{directories_removed, has_tag, is_replaced, is_run_path, needs_one_of, not_needed_yet, search_of, with_last_unless_there, with_needed_added, with_needed_replaced, with_run_paths_added, with_run_paths_shrunk, with_tags_changed, with_text_set, without_default_directories, without_needed, without_run_paths}
pub use Rattle.elf_edits.specs.Shrunk.{Answer}
use Rattle.elf_edits.specs.Symbols.{behind_first, cleared, has_new_name, has_version_to_clear, renamed, with_library_replaced}
use Rattle.elf_edits.specs.TextModel.{bytes_of, pairs_model, texts_model}
use Rattle.elf_edits.specs.Texts.{has_some}

-- An edit, with the texts and numbers that are handed in.
pub data Edit : Type 0 where
  -- DT_DEBUG, which a debugger asks for
  AddDebugTag : Edit
  -- the run path: DT_RPATH and DT_RUNPATH
  RemoveRpath : Edit
  SetRpath : List ℕ → Edit
  AddRpath : List (List ℕ) → Edit
  ForceRunpath : Edit
  ForceRpath : Edit
  -- the needed libraries: names that go, pairs of an old and a new name, the same with the versions that are needed of them,
  -- names that come
  RemoveNeeded : List (List ℕ) → Edit
  ReplaceNeeded : List (List ℕ × List ℕ) → Edit
  ReplaceLibrary : List (List ℕ × List ℕ) → Edit
  AddNeeded : List (List ℕ) → Edit
  -- the library's own name
  SetSoname : List ℕ → Edit
  -- no default directories: DF_1_NODEFLIB
  NoDefaultLib : Edit
  -- directories in which no needed library is found: prefixes that are allowed, and what was found
  ShrinkRpath : List (List ℕ) → List Answer → Edit
  -- the interpreter's bytes
  SetInterpreter : List ℕ → Edit
  -- the ABI byte, by a name
  SetOsAbi : List ℕ → Edit
  -- the names of dynamic symbols: pairs of an old and a new name
  RenameDynamicSymbols : List (List ℕ × List ℕ) → Edit
  -- the version of dynamic symbols of a name
  ClearSymbolVersion : List ℕ → Edit
  -- whether the stack may be run
  ClearExecStack : Edit
  SetExecStack : Edit
  -- the page size, in bytes
  SetPageSize : ℕ → Edit
  -- leave that the dynamic section moves, where something was changed
  AllowDynamicMove : Edit

-- what an edit of the dynamic list does, in the words of its refusal; none for an edit of something else
abbrev pub task_of : Edit → Option (List ℕ)
task_of AddDebugTag = Some (codes "add debug entry")
task_of RemoveRpath = Some (codes "delete runpath")
task_of (SetRpath text) = Some (codes "set runpath")
task_of (AddRpath texts) = Some (codes "add runpath")
task_of ForceRunpath = Some (codes "change runpath")
task_of ForceRpath = Some (codes "change rpath")
task_of (RemoveNeeded names) = Some (codes "delete needed library")
task_of (ReplaceNeeded pairs) = Some (codes "replace needed library")
task_of (ReplaceLibrary pairs) = Some (codes "replace needed library")
task_of (AddNeeded names) = Some (codes "add needed library")
task_of (SetSoname text) = Some (codes "set soname")
task_of NoDefaultLib = Some (codes "set soname")
task_of (ShrinkRpath prefixes answers) = Some (codes "shrink rpath")
task_of (SetInterpreter bytes) = None
task_of (SetOsAbi name) = None
task_of (RenameDynamicSymbols pairs) = None
task_of (ClearSymbolVersion name) = None
task_of ClearExecStack = None
task_of SetExecStack = None
task_of (SetPageSize size) = None
task_of AllowDynamicMove = None

-- bytes without their last one
abbrev pub all_but_last : List ℕ → List ℕ
all_but_last bytes = take (length bytes - 1) bytes

-- the texts of an edit in which no NUL may stand; an interpreter's bytes may end with one
abbrev pub texts_of : Edit → List (List ℕ)
texts_of (SetRpath text) = text ∷ []
texts_of (AddRpath texts) = texts
texts_of (RemoveNeeded names) = names
texts_of (ReplaceNeeded pairs) = flat_map (λ pair. pair.0 ∷ pair.1 ∷ []) pairs
texts_of (ReplaceLibrary pairs) = flat_map (λ pair. pair.0 ∷ pair.1 ∷ []) pairs
texts_of (AddNeeded names) = names
texts_of (SetSoname text) = text ∷ []
texts_of (ShrinkRpath prefixes answers) = prefixes
texts_of (SetInterpreter bytes) = all_but_last bytes ∷ []
texts_of (SetOsAbi name) = name ∷ []
texts_of (RenameDynamicSymbols pairs) = flat_map (λ pair. pair.0 ∷ pair.1 ∷ []) pairs
texts_of (ClearSymbolVersion name) = name ∷ []
texts_of AddDebugTag = []
texts_of RemoveRpath = []
texts_of ForceRunpath = []
texts_of ForceRpath = []
texts_of NoDefaultLib = []
texts_of ClearExecStack = []
texts_of SetExecStack = []
texts_of (SetPageSize size) = []
texts_of AllowDynamicMove = []

-- ## The dynamic list

-- The dynamic list after an edit. `machine` is the image's, for which needed libraries have to be.
unfoldable pub edited_entries : ℕ → Edit → List Entry → List Entry
edited_entries machine AddDebugTag es = with_last_unless_there (Integer DT_DEBUG 0) es
edited_entries machine RemoveRpath es = without_run_paths es
edited_entries machine (SetRpath text) es = with_text_set is_run_path DT_RUNPATH text es
edited_entries machine (AddRpath texts) es = with_run_paths_added texts es
edited_entries machine ForceRunpath es = with_tags_changed DT_RPATH DT_RUNPATH es
edited_entries machine ForceRpath es = with_tags_changed DT_RUNPATH DT_RPATH es
edited_entries machine (RemoveNeeded names) es = without_needed names es
edited_entries machine (ReplaceNeeded pairs) es = with_needed_replaced pairs es
edited_entries machine (ReplaceLibrary pairs) es = with_needed_replaced pairs es
edited_entries machine (AddNeeded names) es = with_needed_added names es
edited_entries machine (SetSoname text) es = with_text_set (has_tag DT_SONAME) DT_SONAME text es
edited_entries machine NoDefaultLib es = without_default_directories es
edited_entries machine (ShrinkRpath prefixes answers) es = with_run_paths_shrunk (search_of machine prefixes answers es) es
edited_entries machine (SetInterpreter bytes) es = es
edited_entries machine (SetOsAbi name) es = es
edited_entries machine (RenameDynamicSymbols pairs) es = es
edited_entries machine (ClearSymbolVersion name) es = es
edited_entries machine ClearExecStack es = es
edited_entries machine SetExecStack es = es
edited_entries machine (SetPageSize size) es = es
edited_entries machine AllowDynamicMove es = es

-- Whether an edit adds, removes or writes an entry of the list, be it with what stands there already.
unfoldable pub touches_entries : ℕ → Edit → List Entry → Bool
touches_entries machine AddDebugTag es = not (lists_tag DT_DEBUG es)
touches_entries machine RemoveRpath es = list_any is_run_path es
touches_entries machine (SetRpath text) es = true
touches_entries machine (AddRpath texts) es = true
touches_entries machine ForceRunpath es = lists_tag DT_RPATH es
touches_entries machine ForceRpath es = lists_tag DT_RUNPATH es
touches_entries machine (RemoveNeeded names) es = list_any (needs_one_of names) es
touches_entries machine (ReplaceNeeded pairs) es = list_any (is_replaced pairs) es
touches_entries machine (ReplaceLibrary pairs) es = list_any (is_replaced pairs) es
touches_entries machine (AddNeeded names) es = has_some (not_needed_yet names es)
touches_entries machine (SetSoname text) es = true
touches_entries machine NoDefaultLib es = true
touches_entries machine (ShrinkRpath prefixes answers) es = has_some (directories_removed (search_of machine prefixes answers es) es)
touches_entries machine (SetInterpreter bytes) es = false
touches_entries machine (SetOsAbi name) es = false
touches_entries machine (RenameDynamicSymbols pairs) es = false
touches_entries machine (ClearSymbolVersion name) es = false
touches_entries machine ClearExecStack es = false
touches_entries machine SetExecStack es = false
touches_entries machine (SetPageSize size) es = false
touches_entries machine AllowDynamicMove es = false

-- the tags by which an edit drops entries, whatever they hold; none for an edit that does something else
abbrev pub dropped_tags : Edit → List ℕ
dropped_tags RemoveRpath = DT_RPATH ∷ DT_RUNPATH ∷ []
dropped_tags _ = []

-- ## The dynamic symbols

-- an edit of the dynamic symbols, and of nothing else
abbrev pub is_of_symbols : Edit → Bool
is_of_symbols (RenameDynamicSymbols pairs) = true
is_of_symbols (ClearSymbolVersion name) = true
is_of_symbols _ = false

abbrev pub is_rename : Edit → Bool
is_rename (RenameDynamicSymbols pairs) = true
is_rename _ = false

-- The dynamic symbols after an edit.
abbrev pub edited_symbols : Edit → List NamedSymbol → List NamedSymbol
edited_symbols (RenameDynamicSymbols pairs) symbols = behind_first (renamed pairs) symbols
edited_symbols (ClearSymbolVersion name) symbols = behind_first (cleared name) symbols
edited_symbols _ symbols = symbols

-- Whether an edit writes a name or a version, be it what stands there already.
abbrev pub touches_symbols : Edit → List NamedSymbol → Bool
touches_symbols (RenameDynamicSymbols pairs) symbols = list_any (λ y. has_new_name pairs y.name) (drop 1 symbols)
touches_symbols (ClearSymbolVersion name) symbols = list_any (has_version_to_clear name) (drop 1 symbols)
touches_symbols _ symbols = false

-- ## The needed versions

-- an edit of more than the dynamic list, the symbols or one number
abbrev pub is_of_more : Edit → Bool
is_of_more (ReplaceLibrary pairs) = true
is_of_more AllowDynamicMove = true
is_of_more _ = false

-- The versions that are needed, library by library, after an edit: those of a library that is replaced are needed of the other one.
abbrev pub edited_needs : Edit → List VersionNeeds → List VersionNeeds
edited_needs (ReplaceLibrary pairs) needs = map (with_library_replaced pairs) needs
edited_needs _ needs = needs

-- Whether an edit writes the name of a library there, be it what stands there already.
abbrev pub touches_needs : Edit → List VersionNeeds → Bool
touches_needs (ReplaceLibrary pairs) needs = list_any (λ n. has_new_name pairs n.file) needs
touches_needs _ needs = false

-- ## In the code

-- the words for a task
abbrev pub words_of : Task → List ℕ
words_of tasks.AddDebugTag = codes "add debug entry"
words_of tasks.RemoveRpath = codes "delete runpath"
words_of tasks.SetRpath = codes "set runpath"
words_of tasks.AddRpath = codes "add runpath"
words_of tasks.ForceRunpath = codes "change runpath"
words_of tasks.ForceRpath = codes "change rpath"
words_of tasks.RemoveNeeded = codes "delete needed library"
words_of tasks.ReplaceNeeded = codes "replace needed library"
words_of tasks.AddNeeded = codes "add needed library"
words_of tasks.SetSoname = codes "set soname"
words_of tasks.ShrinkRpath = codes "shrink rpath"

-- which edit the code's edit is
abbrev pub edit_model : ElfEdit → Edit
edit_model edits.AddDebugTag = AddDebugTag
edit_model edits.AllowDynamicMove = AllowDynamicMove
edit_model (edits.AddNeeded names) = AddNeeded (texts_model names.items)
edit_model (edits.AddRpath texts) = AddRpath (texts_model texts.items)
edit_model edits.ClearExecStack = ClearExecStack
edit_model (edits.ClearSymbolVersion name) = ClearSymbolVersion (bytes_of name)
edit_model edits.ForceRpath = ForceRpath
edit_model edits.NoDefaultLib = NoDefaultLib
edit_model (edits.RemoveNeeded names) = RemoveNeeded (texts_model names.items)
edit_model edits.RemoveRpath = RemoveRpath
edit_model (edits.RenameDynamicSymbols pairs) = RenameDynamicSymbols (pairs_model pairs.items)
edit_model (edits.ReplaceNeeded pairs) = ReplaceNeeded (pairs_model pairs.items)
edit_model (edits.ReplaceLibrary pairs) = ReplaceLibrary (pairs_model pairs.items)
edit_model edits.SetExecStack = SetExecStack
edit_model (edits.SetInterpreter bytes) = SetInterpreter (bytes_of bytes)
edit_model (edits.SetOsAbi name) = SetOsAbi (string_bytes name)
edit_model (edits.SetPageSize size) = SetPageSize size
edit_model (edits.SetRpath text) = SetRpath (bytes_of text)
edit_model (edits.SetSoname text) = SetSoname (bytes_of text)

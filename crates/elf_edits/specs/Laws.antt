-- What holds of all edits.
use Rattle.std.specs.Prelude.{ℕ, ◌≡◌, List, [], ◌∷◌, ◌++◌, All, length, map, filter, true, false, not, ◌||◌, Some, None, unwrap_or, Ok, Err}
use Rattle.std.specs.List.{list_any}
use Rattle.elf_image.specs.Dynamic.{Entry, Text}
use Rattle.elf_image.specs.Image.{Image, entry_tag, shown}
use Rattle.elf_image.specs.Versions.{VersionNeeds}
use Rattle.elf_image.specs.Views.{NamedSymbol, View}
use Rattle.elf_edits.specs.Batch.{Refusal, answer_at, answers, left_by, left_by_all, run, run_from, then_on}
use Rattle.elf_edits.specs.Cause.{Cause, cause}
use Rattle.elf_edits.specs.Edit.{AddDebugTag, RemoveNeeded, Edit, NoDefaultLib, RenameDynamicSymbols, ReplaceLibrary, ReplaceNeeded, SetRpath, ForceRpath, edited_entries, edited_needs, edited_symbols, touches_needs}
use Rattle.elf_edits.specs.Edited.{edited_leave, edited_view, step, touches}
use Rattle.elf_edits.specs.Entries.{is_run_path, needed_names, needs_one_of}
use Rattle.elf_edits.specs.Symbols.{names_behind_first, new_name}
use Rattle.elf_edits.specs.Texts.{value_of}

-- ## One edit

-- the parts of an image that no edit changes are as they were
pub record KeepsTheRest (old new : Image) : Type 0 where
  pub source : new.source ≡ old.source
  pub form : new.form ≡ old.form
  pub header : new.header ≡ record old.header { os_abi = new.header.os_abi }
  pub sections : new.sections ≡ old.sections
  pub symbols : new.symbols ≡ old.symbols
  pub definitions : new.definitions ≡ old.definitions
  pub section_numbers : new.section_numbers ≡ old.section_numbers
  pub symbol_numbers : new.symbol_numbers ≡ old.symbol_numbers
  pub dynamic_symbol_numbers : new.dynamic_symbol_numbers ≡ old.dynamic_symbol_numbers

-- An edit that isn't refused shows the edited view, has the edited symbols and needed versions, shown or not, marks the image where it
-- adds, removes or writes something, gives leave that the dynamic section moves where it is to, and keeps the rest; it is refused exactly where a cause stands, with the first one.
pub record EditsShow : Type 0 where
  pub shows : (edit : Edit) (old new : Image) → step edit old ≡ Ok new → shown new ≡ edited_view old.header.e_machine edit (shown old)
  pub symbols : (edit : Edit) (old new : Image) → step edit old ≡ Ok new → new.dynamic_symbols ≡ edited_symbols edit old.dynamic_symbols
  pub needs : (edit : Edit) (old new : Image) → step edit old ≡ Ok new → new.needs ≡ edited_needs edit old.needs
  pub leave : (edit : Edit) (old new : Image) → step edit old ≡ Ok new → new.moves_dynamic ≡ edited_leave edit old.changed old.moves_dynamic
  pub marks : (edit : Edit) (old new : Image) → step edit old ≡ Ok new → new.changed ≡ (old.changed || touches edit old)
  pub keeps : (edit : Edit) (old new : Image) → step edit old ≡ Ok new → KeepsTheRest old new
  pub accepted : (edit : Edit) (old new : Image) → step edit old ≡ Ok new → cause edit old ≡ None
  pub refused : (edit : Edit) (old : Image) (reason : Cause) → step edit old ≡ Err reason → cause edit old ≡ Some reason

-- ## Batches

-- the views after some edits, one after the other
abbrev pub viewed : ℕ → List Edit → View → View
viewed machine [] view = view
viewed machine (edit ∷ edits) view = viewed machine edits (edited_view machine edit view)

-- A batch is its edits one after the other, and shows what these make of the view.
pub record BatchesAreTheirEdits : Type 0 where
  pub none : (image : Image) → run [] image ≡ Ok image
  pub one : (edit : Edit) (image : Image) → run (edit ∷ []) image ≡ answer_at 0 (step edit image)
  pub both : (first second : List Edit) (image : Image) → run (first ++ second) image ≡ then_on (run first image) (run_from (length first) second)
  pub shows : (edits : List Edit) (old new : Image) → run edits old ≡ Ok new → shown new ≡ viewed old.header.e_machine edits (shown old)

-- A list of batches is one batch after the other, and a refused one leaves what it found.
pub record ListsOfBatches : Type 0 where
  pub left : (first second : List (List Edit)) (image : Image) → left_by_all (first ++ second) image ≡ left_by_all second (left_by_all first image)
  pub answered : (first second : List (List Edit)) (image : Image) → answers (first ++ second) image ≡ answers first image ++ answers second (left_by_all first image)
  pub refused : (edits : List Edit) (image : Image) (refusal : Refusal) → run edits image ≡ Err refusal → left_by (run edits image) image ≡ image

-- ## Edits of the dynamic list

-- what the edit makes of a list it makes of it once and for all
abbrev pub IsDoneAtOnce : Edit → Type 0
IsDoneAtOnce edit = (machine : ℕ) (es : List Entry) → edited_entries machine edit (edited_entries machine edit es) ≡ edited_entries machine edit es

-- what the edit makes of an image it makes once and for all: a second time changes nothing, the mark too
abbrev pub ChangesNothingAgain : Edit → Type 0
ChangesNothingAgain edit = (old new : Image) → step edit old ≡ Ok new → step edit new ≡ Ok new

pub record TwiceIsOnce : Type 0 where
  pub rpath : IsDoneAtOnce ForceRpath
  pub no_default : IsDoneAtOnce NoDefaultLib
  pub debug : IsDoneAtOnce AddDebugTag
  pub rpath_of_images : ChangesNothingAgain ForceRpath
  pub no_default_of_images : ChangesNothingAgain NoDefaultLib
  pub debug_of_images : ChangesNothingAgain AddDebugTag

-- Once the run path is set, there is one, and every entry with a run path has the text.
pub record RunPathsAreSet : Type 0 where
  pub there : (machine : ℕ) (text : List ℕ) (es : List Entry) → list_any is_run_path (edited_entries machine (SetRpath text) es) ≡ true
  pub every : (machine : ℕ) (text : List ℕ) (es : List Entry) → All (λ e. is_run_path e ≡ true → e ≡ Text (entry_tag e) text) (edited_entries machine (SetRpath text) es)

-- Once libraries of some names are dropped, none of them is needed, and all other entries stand as they stood.
pub record OthersStayInOrder : Type 0 where
  pub none_left : (machine : ℕ) (names : List (List ℕ)) (es : List Entry) → list_any (needs_one_of names) (edited_entries machine (RemoveNeeded names) es) ≡ false
  pub order : (machine : ℕ) (names : List (List ℕ)) (es : List Entry) → let others = filter (λ e. not (needs_one_of names e)) in
      others (edited_entries machine (RemoveNeeded names) es) ≡ others es

-- a name for another, and the other way
abbrev pub swap_of : List ℕ → List ℕ → List (List ℕ × List ℕ)
swap_of f g = (f, g) ∷ (g, f) ∷ []

-- A map is applied to all needed libraries at once, each by its old name.
pub record MapsAtOnce : Type 0 where
  pub all : (machine : ℕ) (pairs : List (List ℕ × List ℕ)) (es : List Entry) → needed_names (edited_entries machine (ReplaceNeeded pairs) es) ≡ map (λ name. unwrap_or (value_of pairs name) name) (needed_names es)
  pub first_swapped : (f g : List ℕ) → value_of (swap_of f g) f ≡ Some g
  pub second_swapped : (f g : List ℕ) → value_of (swap_of f g) g ≡ Some f
  pub swapped_back : (machine : ℕ) (f g : List ℕ) (es : List Entry) → needed_names (edited_entries machine (ReplaceNeeded (swap_of f g)) (edited_entries machine (ReplaceNeeded (swap_of f g)) es)) ≡ needed_names es

-- A replaced library is replaced in the dynamic list, as an edit of the list alone does it, and wherever versions are needed of it, all at
-- once; the versions stay.
pub record LibrariesAreReplacedAtOnce : Type 0 where
  pub list : (machine : ℕ) (pairs : List (List ℕ × List ℕ)) (es : List Entry) → edited_entries machine (ReplaceLibrary pairs) es ≡ edited_entries machine (ReplaceNeeded pairs) es
  pub files : (pairs : List (List ℕ × List ℕ)) (needs : List VersionNeeds) → map (λ n. n.file) (edited_needs (ReplaceLibrary pairs) needs) ≡ map (new_name pairs) (map (λ n. n.file) needs)
  pub versions : (pairs : List (List ℕ × List ℕ)) (needs : List VersionNeeds) → map (λ n. n.versions) (edited_needs (ReplaceLibrary pairs) needs) ≡ map (λ n. n.versions) needs
  pub other : (edit : Edit) (needs : List VersionNeeds) → touches_needs edit needs ≡ false → edited_needs edit needs ≡ needs

-- ## Edits of the dynamic symbols

-- A map is applied to all symbols but the first at once, each by its old name; a map that swaps two names gives, the second time, back
-- what was shown.
pub record SymbolsAreRenamedAtOnce : Type 0 where
  pub all : (pairs : List (List ℕ × List ℕ)) (symbols : List NamedSymbol) → names_behind_first (edited_symbols (RenameDynamicSymbols pairs) symbols) ≡ map (new_name pairs) (names_behind_first symbols)
  pub swapped_back : (machine : ℕ) (f g : List ℕ) (view : View) → let swap = edited_view machine (RenameDynamicSymbols (swap_of f g)) in swap (swap view) ≡ view

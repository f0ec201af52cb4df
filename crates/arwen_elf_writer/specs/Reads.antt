-- What is read from a view: run path, needed libraries, name, interpreter, ABI byte and stack flags.
use Rattle.std.specs.Prelude.{ℕ, List, [], ◌∷◌, Option, Some, None, if◌then◌else◌, unwrap_or}
use Rattle.elf_format.specs.declared.constants.TheConstants.{DT_NEEDED, DT_RPATH, DT_RUNPATH, DT_SONAME}
use Rattle.elf_image.specs.Dynamic.{Auto, Entry, Integer, Text}
use Rattle.elf_image.specs.Options.{first_there, is_one_of}
use Rattle.elf_image.specs.Views.{View}

-- the text of an entry with one of these tags
abbrev pub text_if : List ℕ → Entry → Option (List ℕ)
text_if tags (Auto tag) = None
text_if tags (Integer tag value) = None
text_if tags (Text tag text) = if is_one_of tags tag then Some text else None

-- the texts of the entries with one of these tags, in order
unfoldable pub texts_tagged : List ℕ → List Entry → List (List ℕ)
texts_tagged tags [] = []
texts_tagged tags (Auto tag ∷ rest) = texts_tagged tags rest
texts_tagged tags (Integer tag value ∷ rest) = texts_tagged tags rest
texts_tagged tags (Text tag text ∷ rest) = if is_one_of tags tag then text ∷ texts_tagged tags rest else texts_tagged tags rest

abbrev pub first_of : {A : Type 0} → List A → Option A
first_of [] = None
first_of (x ∷ xs) = Some x

-- the entries of a view, none without a dynamic list
abbrev pub entries_shown : View → List Entry
entries_shown view = unwrap_or view.entries []

-- the libraries that are needed, one for each entry (gABI, Dynamic Section, DT_NEEDED)
abbrev pub needed_shown : View → List (List ℕ)
needed_shown view = texts_tagged (DT_NEEDED ∷ []) (entries_shown view)

-- the run path of the first entry that has one (gABI, Dynamic Section, DT_RPATH and DT_RUNPATH)
abbrev pub runpath_shown : View → Option (List ℕ)
runpath_shown view = first_of (texts_tagged (DT_RPATH ∷ DT_RUNPATH ∷ []) (entries_shown view))

-- the run path that a loader goes by: where there is a DT_RUNPATH, DT_RPATH is not looked at
abbrev pub searched_shown : View → Option (List ℕ)
searched_shown view = first_there (first_of (texts_tagged (DT_RUNPATH ∷ []) (entries_shown view))) (first_of (texts_tagged (DT_RPATH ∷ []) (entries_shown view)))

-- the library's own name (gABI, Dynamic Section, DT_SONAME)
abbrev pub soname_shown : View → Option (List ℕ)
soname_shown view = first_of (texts_tagged (DT_SONAME ∷ []) (entries_shown view))

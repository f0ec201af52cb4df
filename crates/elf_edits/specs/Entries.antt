-- What edits make of the dynamic list (gABI, Dynamic Section). All are functions of the list alone.
use Rattle.std.specs.Prelude.{ℕ, List, [], ◌∷◌, ◌++◌, map, filter, Bool, not, ◌||◌, is_some, Option, unwrap_or, ◌==◌, if◌then◌else◌, bit_or}
use Rattle.std.specs.List.{flat_map, list_any}
use Rattle.elf_format.specs.declared.constants.TheConstants.{DT_FLAGS_1, DT_NEEDED, DT_RPATH, DT_RUNPATH}
use Rattle.elf_image.specs.Dynamic.{Auto, Entry, Integer, Text}
use Rattle.elf_image.specs.Image.{entry_tag, lists_tag}
use Rattle.elf_edits.specs.declared.constants.TheConstants.{COLON, DF_1_NODEFLIB}
use Rattle.elf_edits.specs.Shrunk.{Answer, Removal, Search, machine_found, removed_from, shrunk_text}
use Rattle.elf_edits.specs.Texts.{first_in, is_among, joined_by_colons, value_of}

-- ## Entries

abbrev pub has_tag : ℕ → Entry → Bool
has_tag tag e = entry_tag e == tag

-- the entry has one of these tags
abbrev pub has_one_of : List ℕ → Entry → Bool
has_one_of tags e = list_any (λ tag. has_tag tag e) tags

-- the entry has a run path
abbrev pub is_run_path : Entry → Bool
is_run_path e = has_tag DT_RPATH e || has_tag DT_RUNPATH e

-- the entry with another text, or another tag
abbrev pub with_text : List ℕ → Entry → Entry
with_text text e = Text (entry_tag e) text

abbrev pub with_tag : ℕ → Entry → Entry
with_tag tag (Auto old) = Auto tag
with_tag tag (Integer old value) = Integer tag value
with_tag tag (Text old text) = Text tag text

-- the entry with its text changed, where it has one
abbrev pub with_text_changed : (List ℕ → List ℕ) → Entry → Entry
with_text_changed change (Auto tag) = Auto tag
with_text_changed change (Integer tag value) = Integer tag value
with_text_changed change (Text tag text) = Text tag (change text)

-- the entries that pass a test are changed, all others stay as they are
abbrev pub changed_where : (Entry → Bool) → (Entry → Entry) → List Entry → List Entry
changed_where test change entries = map (λ e. if test e then change e else e) entries

-- the text of an entry that passes a test
abbrev pub text_if : (Entry → Bool) → Entry → List (List ℕ)
text_if test (Auto tag) = []
text_if test (Integer tag value) = []
text_if test (Text tag text) = if test (Text tag text) then text ∷ [] else []

-- the needed libraries, one for each entry, and the run paths; in order
abbrev pub needed_names : List Entry → List (List ℕ)
needed_names entries = flat_map (text_if (has_tag DT_NEEDED)) entries

-- the library that an entry needs
abbrev pub first_needed : Entry → Option (List ℕ)
first_needed e = first_in (text_if (has_tag DT_NEEDED) e)

abbrev pub run_paths : List Entry → List (List ℕ)
run_paths entries = flat_map (text_if is_run_path) entries

-- ## What edits do

-- an entry is put last, unless one with its tag is there
abbrev pub with_last_unless_there : Entry → List Entry → List Entry
with_last_unless_there added entries = if lists_tag (entry_tag added) entries then entries else entries ++ added ∷ []

-- every entry with one of these tags is dropped
abbrev pub without_tags : List ℕ → List Entry → List Entry
without_tags tags entries = filter (λ e. not (has_one_of tags e)) entries

-- every run path is dropped
abbrev pub without_run_paths : List Entry → List Entry
without_run_paths entries = filter (λ e. not (is_run_path e)) entries

-- every entry that passes a test gets the text; where there is none, one with this tag is put last
abbrev pub with_text_set : (Entry → Bool) → ℕ → List ℕ → List Entry → List Entry
with_text_set test added text entries =
    if list_any test entries then changed_where test (with_text text) entries
    else entries ++ Text added text ∷ []

-- a run path with a text added: that alone where the run path is empty, else behind a colon
abbrev pub with_directories : List ℕ → List ℕ → List ℕ
with_directories [] added = added
with_directories (byte ∷ rest) added = (byte ∷ rest) ++ COLON ∷ added

-- each of some texts in turn
abbrev pub with_each_added : List (List ℕ) → List ℕ → List ℕ
with_each_added [] text = text
with_each_added (added ∷ more) text = with_each_added more (with_directories text added)

-- each text is added to every run path in turn; where there is none, one is put last with the texts joined by colons
abbrev pub with_run_paths_added : List (List ℕ) → List Entry → List Entry
with_run_paths_added texts entries =
    if list_any is_run_path entries then changed_where is_run_path (with_text_changed (with_each_added texts)) entries
    else entries ++ Text DT_RUNPATH (joined_by_colons texts) ∷ []

-- every entry with the one tag gets the other
abbrev pub with_tags_changed : ℕ → ℕ → List Entry → List Entry
with_tags_changed old new entries = changed_where (has_tag old) (with_tag new) entries

-- the entry needs one of these libraries
abbrev pub needs_one_of : List (List ℕ) → Entry → Bool
needs_one_of names e = list_any (is_among names) (text_if (has_tag DT_NEEDED) e)

-- the libraries of these names aren't needed any more
abbrev pub without_needed : List (List ℕ) → List Entry → List Entry
without_needed names entries = filter (λ e. not (needs_one_of names e)) entries

-- each needed library that is a key gets the key's value, all at once
abbrev pub with_needed_replaced : List (List ℕ × List ℕ) → List Entry → List Entry
with_needed_replaced pairs entries = changed_where (has_tag DT_NEEDED) (with_text_changed (λ name. unwrap_or (value_of pairs name) name)) entries

-- an entry that an edit of needed libraries replaces
abbrev pub is_replaced : List (List ℕ × List ℕ) → Entry → Bool
is_replaced pairs e = list_any (λ name. is_some (value_of pairs name)) (text_if (has_tag DT_NEEDED) e)

-- the names that are not needed yet, in order and with repeats
abbrev pub not_needed_yet : List (List ℕ) → List Entry → List (List ℕ)
not_needed_yet names entries = filter (λ name. not (is_among (needed_names entries) name)) names

-- the names that are not needed yet are put before all entries
abbrev pub with_needed_added : List (List ℕ) → List Entry → List Entry
with_needed_added names entries = map (Text DT_NEEDED) (not_needed_yet names entries) ++ entries

-- the entry with this bit set in its number
abbrev pub with_bits : ℕ → Entry → Entry
with_bits bits (Auto tag) = Auto tag
with_bits bits (Integer tag value) = Integer tag (bit_or value bits)
with_bits bits (Text tag text) = Text tag text

-- DF_1_NODEFLIB is set in every DT_FLAGS_1; where there is none, one with that bit is put last
abbrev pub without_default_directories : List Entry → List Entry
without_default_directories entries =
    if lists_tag DT_FLAGS_1 entries then changed_where (has_tag DT_FLAGS_1) (with_bits DF_1_NODEFLIB) entries
    else entries ++ Integer DT_FLAGS_1 DF_1_NODEFLIB ∷ []

-- how directories of these entries' run paths are judged
abbrev pub search_of : ℕ → List (List ℕ) → List Answer → List Entry → Search
search_of machine prefixes answers entries = record { prefixes = prefixes; needed = needed_names entries; machine = machine; found = machine_found answers }

-- every run path is shrunk; an entry whose directories all go stays, with the empty text
abbrev pub with_run_paths_shrunk : Search → List Entry → List Entry
with_run_paths_shrunk s entries = changed_where is_run_path (with_text_changed (shrunk_text s)) entries

-- the directories that go, in the order of the entries
abbrev pub directories_removed : Search → List Entry → List Removal
directories_removed s entries = flat_map (removed_from s) (run_paths entries)

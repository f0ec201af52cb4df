-- What stands in a dynamic list before its DT_NULL, and changes of one (gABI, Dynamic Section).
use Rattle.std.specs.Prelude.{ℕ, zero, suc, ◌≡◌, ◌≢◌, ◌-◌, List, [], ◌∷◌, length, map, filter, take, Bool, true, not, ◌&&◌, ◌||◌, ◌==◌, Option, Some, None, IsTrue, if◌then◌else◌}
use Rattle.std.specs.List.{filter_map, list_any, slice_get}
use Rattle.elf_format.specs.Memory.{◌>>=◌}
use Rattle.elf_format.specs.declared.constants.TheConstants.{DT_NULL}
use Rattle.elf_format.specs.Dynamic.{Auto, Entry, Integer, Text, table_tags, text_tags}
use Rattle.elf_format.specs.Image.{entry_tag}
use Rattle.elf_format.specs.Options.{is_one_of, is_some_and}

-- ## Tags and entries

-- the value of the tag follows from a table
abbrev pub is_table_tag : ℕ → Bool
is_table_tag tag = is_one_of table_tags tag

-- the value of the tag says where a text stands
abbrev pub is_text_tag : ℕ → Bool
is_text_tag tag = is_one_of text_tags tag

-- the value of the tag is a number of its own
abbrev pub is_number_tag : ℕ → Bool
is_number_tag tag = not (is_table_tag tag || is_text_tag tag)

-- a text has a NUL in it
abbrev pub holds_nul : List ℕ → Bool
holds_nul text = list_any (λ byte. byte == 0) text

-- the bytes without their last one
abbrev pub all_but_last : List ℕ → List ℕ
all_but_last bytes = take (length bytes - 1) bytes

-- the entry's value is of its tag's kind
abbrev pub is_of_its_tag : Entry → Bool
is_of_its_tag (Auto tag) = is_table_tag tag
is_of_its_tag (Integer tag value) = is_number_tag tag
is_of_its_tag (Text tag text) = is_text_tag tag

-- no NUL would end the entry's text early
abbrev pub is_text_whole : Entry → Bool
is_text_whole (Auto tag) = true
is_text_whole (Integer tag value) = true
is_text_whole (Text tag text) = not (holds_nul text)

-- An entry that may stand before the DT_NULL.
pub record IsListed (e : Entry) : Type 0 where
  pub not_null : entry_tag e ≢ DT_NULL
  pub of_its_tag : IsTrue (is_of_its_tag e)
  pub whole : IsTrue (is_text_whole e)

-- ## Lists

-- the tag of an entry of a table
abbrev pub table_tag : Entry → Option ℕ
table_tag (Auto tag) = Some tag
table_tag (Integer tag value) = None
table_tag (Text tag text) = None

-- the tags of tables, in order
abbrev pub tables_of : List Entry → List ℕ
tables_of entries = filter_map table_tag entries

-- there is a list, and another one names the same tables in the same order
abbrev pub KeepsTables : Option (List Entry) → List Entry → Type 0
KeepsTables None new = ⊥
KeepsTables (Some old) new = tables_of new ≡ tables_of old

-- the tag of the entry at a position, where there is a list and it is that long
abbrev pub tag_at : Option (List Entry) → ℕ → Option ℕ
tag_at entries i = entries >>= (λ es. slice_get es i >>= (λ e. Some (entry_tag e)))

-- an entry with this tag may be deleted
abbrev pub is_free_tag : ℕ → Bool
is_free_tag tag = not (is_table_tag tag)

-- the entry at a position may be deleted
abbrev pub can_delete : Option (List Entry) → ℕ → Bool
can_delete entries i = is_some_and is_free_tag (tag_at entries i)

-- the one tag may take the other's place: neither is a table's, and both stand before texts or neither does
abbrev pub can_follow : ℕ → ℕ → Bool
can_follow new old = not (new == DT_NULL) && (is_free_tag old && (is_free_tag new && (if is_text_tag old then is_text_tag new else not (is_text_tag new))))

-- the entry at a position may get this tag
abbrev pub can_retag : Option (List Entry) → ℕ → ℕ → Bool
can_retag entries i tag = is_some_and (can_follow tag) (tag_at entries i)

-- ## Changes

-- the entry with another tag
abbrev pub with_tag : ℕ → Entry → Entry
with_tag tag (Auto old) = Auto tag
with_tag tag (Integer old value) = Integer tag value
with_tag tag (Text old text) = Text tag text

-- the list with another tag at a position
unfoldable pub with_tag_at : ℕ → ℕ → List Entry → List Entry
with_tag_at i tag [] = []
with_tag_at zero tag (e ∷ es) = with_tag tag e ∷ es
with_tag_at (suc i) tag (e ∷ es) = e ∷ with_tag_at i tag es

-- every entry with the one tag gets the other
abbrev pub retagged : ℕ → ℕ → List Entry → List Entry
retagged old new entries = map (λ e. if entry_tag e == old then with_tag new e else e) entries

-- no entry has the tag
abbrev pub without_tag : ℕ → List Entry → List Entry
without_tag tag entries = filter (λ e. not (entry_tag e == tag)) entries

-- Which entries an edit is about and what becomes of them, as the code holds both. Names are looked up in sets and maps.
use Rattle.std.specs.Prelude.{ℕ, ◌≡◌, List, map, Bool, Option, is_some, unwrap_or}
use Rattle.std.specs.HashSet.{keys}
use Rattle.std.specs.List.{list_any}
use Rattle.std.specs.Map.{lookup}
use Rattle.std.specs.Option.{option_map}
use Rattle.std.specs.Str.{bytes_eq}
use Rattle.std.specs.Borrow.{Bor}
use Rattle.elf_format.specs.declared.constants.TheConstants.{DT_NEEDED}
use Rattle.elf_image.specs.Dynamic.{Entry}
use Rattle.elf_image.specs.ImageModel.{entry_model}
use Rattle.elf_edits.specs.declared.changes.EntryChange.{EntryChange}
use Rattle.elf_edits.specs.declared.changes.EntryChange.TheVariants as changes
use Rattle.elf_edits.specs.declared.changes.EntryTest.{EntryTest}
use Rattle.elf_edits.specs.declared.changes.EntryTest.TheVariants as tests
use Rattle.elf_edits.specs.declared.list.NewList.{NewList}
use Rattle.elf_edits.specs.Edit.{Edit, edited_entries, touches_entries}
use Rattle.elf_edits.specs.TextModel.{texts_model}
use Rattle.elf_edits.specs.Entries.{has_tag, is_run_path, text_if, with_bits, with_each_added, with_tag, with_text, with_text_changed}

-- a set, by its elements, has a name
abbrev pub has_name : List (Bor (List ℕ)) → List ℕ → Bool
has_name names name = list_any (λ k. bytes_eq name k.now) names

-- the name that a map, by its entries, has for another
abbrev pub name_for : List (Bor (List ℕ) × Bor (List ℕ)) → List ℕ → Option (List ℕ)
name_for names name = option_map (λ v. v.now) (lookup (λ k. bytes_eq name k.now) names)

-- the entry needs a library that a set has
abbrev pub needs_one_of : List (Bor (List ℕ)) → Entry → Bool
needs_one_of names e = list_any (has_name names) (text_if (has_tag DT_NEEDED) e)

-- the entry needs a library that a map has
abbrev pub gets_name : List (Bor (List ℕ) × Bor (List ℕ)) → Entry → Bool
gets_name names e = list_any (λ name. is_some (name_for names name)) (text_if (has_tag DT_NEEDED) e)

abbrev pub test_model : EntryTest → Entry → Bool
test_model tests.RunPath = is_run_path
test_model (tests.Tag tag) = has_tag tag
test_model (tests.Needs names) = needs_one_of (keys names.now)
test_model (tests.Renamed names) = gets_name names.now.entries

abbrev pub change_model : EntryChange → Entry → Entry
change_model (changes.Text text) = with_text text.now
change_model (changes.Directories directories) = with_text_changed (with_each_added (texts_model directories.now))
change_model (changes.Tag tag) = with_tag tag
change_model (changes.Name names) = with_text_changed (λ name. unwrap_or (name_for names.now.entries name) name)
change_model (changes.Bits bits) = with_bits bits

-- ## Lists that edits make

-- the entries of a new list, and whether the edit wrote something
pub record IsNewList (es : List Entry) (touched : Bool) (made : NewList) : Type 0 where
  pub entries : map entry_model made.entries.items ≡ es
  pub is_touched : made.is_touched ≡ touched

-- the list after an edit, whatever the machine
pub record IsEditedList (edit : Edit) (es : List Entry) (made : NewList) : Type 0 where
  pub list : (machine : ℕ) → map entry_model made.entries.items ≡ edited_entries machine edit es
  pub touched : (machine : ℕ) → made.is_touched ≡ touches_entries machine edit es

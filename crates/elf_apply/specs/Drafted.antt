-- The parts of an image that edits wrote, before they are put in place.
use Rattle.std.specs.List.{list_any}
use Rattle.std.specs.Prelude.{ℕ, ◌≡◌, List, [], ◌∷◌, map, Bool, false, true, ◌||◌, if◌then◌else◌, Option, Some, None, is_some, option_map, unwrap_or, IsSome, IfSome, All}
use Rattle.elf_format.specs.declared.constants.TheConstants.{PT_GNU_STACK}
use Rattle.elf_format.specs.declared.records.SegmentHeader.{SegmentHeader}
use Rattle.elf_image.specs.Dynamic.{Entry}
use Rattle.elf_image.specs.DynamicList.{IsListed, KeepsTables, without_tag}
use Rattle.elf_image.specs.Edited.{AreSameNeeds}
use Rattle.elf_image.specs.File.{segment_of_type}
use Rattle.elf_image.specs.Image.{Image, lists_tag}
use Rattle.elf_image.specs.ImageModel.{entry_model, needs_model, text_model}
use Rattle.elf_image.specs.Names.{texts_of_symbols}
use Rattle.elf_image.specs.Options.{first_there}
use Rattle.elf_image.specs.Renumbering.{can_renumber}
use Rattle.elf_image.specs.Leave.{with_dynamic_move}
use Rattle.elf_image.specs.SymbolsRead.{OfRead}
use Rattle.elf_image.specs.Versions.{VersionNeeds}
use Rattle.elf_image.specs.Views.{NamedSymbol}
use Rattle.elf_image.specs.declared.version.VersionNeed.{VersionNeed}
use Rattle.elf_image_symbols.specs.EditedList.{EditedList}
use Rattle.elf_edits.specs.declared.constants.TheConstants.{STACK_FLAGS}
use Rattle.elf_edits.specs.Edit.{all_but_last, edited_entries}
use Rattle.elf_edits.specs.Edited.{segments_with_leave, with_load_align, with_stack_changed}
use Rattle.elf_edits.specs.Entries.{with_tags_changed}
use Rattle.elf_edits.specs.Symbols.{has_new_name, with_library_replaced}
use Rattle.elf_edits.specs.Texts.{holds_nul}
use Rattle.elf_edits.specs.declared.list.NewList.{NewList}
use Rattle.elf_edits.specs.Edit.{Edit}
use Rattle.elf_edits.specs.Edited.{edited_image}
use Rattle.elf_edits_shrink.specs.declared.lists.ShrunkList.{ShrunkList}
use Rattle.elf_edits_shrink.specs.Removals.{removed_by}
use Rattle.elf_edits_shrink.specs.ShrinkModel.{removal_model}
use Rattle.elf_image.specs.declared.dynamic.Dynamic.{Dynamic}
use Rattle.std.specs.declared.alloc.Global.{Global}
use Rattle.std.specs.declared.vec.Vec.{Vec}
use Rattle.elf_apply.specs.declared.draft.Draft.{Draft}

-- the dynamic list of a draft
abbrev pub entries_drafted : Draft → Option (List Entry)
entries_drafted d = option_map (λ list. map entry_model list.items) d.entries

-- the needed versions of a draft
abbrev pub needs_written : Draft → Option (List VersionNeeds)
needs_written d = option_map (λ needs. map needs_model needs.items) d.needs

-- the dynamic symbols with what was written
abbrev pub symbols_drafted : Draft → List NamedSymbol → List NamedSymbol
symbols_drafted d symbols = elim d.symbols [ None ↦ symbols | Some edited ↦ edited.symbols ]

-- the needed versions with what was written
abbrev pub needs_drafted : Draft → List VersionNeeds → List VersionNeeds
needs_drafted d needs = unwrap_or (needs_written d) needs

-- some part of the image was written
abbrev pub is_written : Draft → Bool
is_written d = (((((is_some d.stack_flags || is_some d.page_size) || is_some d.os_abi) || is_some d.interpreter) || is_some d.entries) || is_some d.symbols) || is_some d.needs

-- the program header of the stack with these flags, where they were written; without one, one is added last
abbrev pub with_flags : Option ℕ → List SegmentHeader → List SegmentHeader
with_flags None segments = segments
with_flags (Some flags) segments = with_stack_changed (λ _. flags) segments

-- every loaded segment with the page size as its alignment, where that was written
abbrev pub with_page_size : Option ℕ → List SegmentHeader → List SegmentHeader
with_page_size None segments = segments
with_page_size (Some size) segments = with_load_align size segments

-- the image with what was written
unfoldable pub drafted : Draft → Image → Image
drafted d image = record image {
  changed = image.changed || is_written d;
  header = record image.header { os_abi = unwrap_or d.os_abi image.header.os_abi };
  segments = with_page_size d.page_size (with_flags d.stack_flags (segments_with_leave d.moves_dynamic image));
  dynamic_symbols = symbols_drafted d image.dynamic_symbols;
  needs = needs_drafted d image.needs;
  entries = first_there (entries_drafted d) image.entries;
  interpreter = first_there (text_model d.interpreter) image.interpreter;
  page_size = first_there d.page_size image.page_size;
  moves_dynamic = image.moves_dynamic || d.moves_dynamic;
}

-- the flags of the stack, which without a program header for it are those of an added one
abbrev pub stack_flags_of : List SegmentHeader → ℕ
stack_flags_of segments = unwrap_or (option_map (λ p. p.p_flags) (segment_of_type PT_GNU_STACK segments)) STACK_FLAGS

-- the flags of the stack that were written, or else those of these program headers
abbrev pub flags_now : Draft → List SegmentHeader → ℕ
flags_now d segments = unwrap_or d.stack_flags (stack_flags_of segments)

-- the entries of an image may stand before its DT_NULL
abbrev pub ListsEntries : Image → Type 0
ListsEntries image = All IsListed (unwrap_or image.entries [])

-- edited symbols of an image: of those that were read, with none gone; with the image's names where these have to stay
pub record AreSymbolsFor (image : Image) (edited : EditedList) : Type 0 where
  pub read : OfRead image (λ read. edited.read ≡ read.dynamic_symbols)
  pub numbers : edited.numbers ≡ image.dynamic_symbol_numbers
  pub names : can_renumber image ≡ false → texts_of_symbols edited.symbols ≡ texts_of_symbols image.dynamic_symbols

-- what was written may be put in place
pub record IsDraftOf (image : Image) (d : Draft) : Type 0 where
  pub tables : IfSome (entries_drafted d) (KeepsTables image.entries)
  pub entries : IfSome (entries_drafted d) (All IsListed)
  pub interpreter_there : IfSome (text_model d.interpreter) (λ _. IsSome image.interpreter)
  pub interpreter : IfSome (text_model d.interpreter) (λ bytes. holds_nul (all_but_last bytes) ≡ false)
  pub symbols : IfSome d.symbols (AreSymbolsFor image)
  pub needs : IfSome (needs_written d) (AreSameNeeds image.needs)
  pub listed : IfSome (needs_written d) (λ _. IsSome image.entries)
  pub leave : d.moves_dynamic ≡ true → (image.changed || is_written d) ≡ true

-- a draft of an image that shows another one
pub record OnlyShows (image shown : Image) (d : Draft) : Type 0 where
  pub shows : drafted d image ≡ shown
  pub draft : IsDraftOf image d

-- an edit upon what was written
abbrev pub Writes : Edit → Image → Draft → Draft → Type 0
Writes edit image old new = OnlyShows image (edited_image edit (drafted old image)) new

-- a list that was made, where the edit wrote something
abbrev pub with_list : NewList → Draft → Draft
with_list made d = if made.is_touched then record d { entries = Some made.entries } else d

-- symbols that were made, where the edit wrote something
abbrev pub with_symbols : Option EditedList → Draft → Draft
with_symbols None d = d
with_symbols (Some made) d = record d { symbols = Some made }

-- needed versions that were made, where the edit wrote something
abbrev pub with_needs : Option (Vec VersionNeed Global) → Draft → Draft
with_needs None d = d
with_needs (Some made) d = record d { needs = Some made }

-- The needed versions with the names that some pairs have for those of libraries, where they have one; none where they have none.
abbrev pub AreNeedsAfter : List (List ℕ × List ℕ) → List VersionNeeds → Option (Vec VersionNeed Global) → Type 0
AreNeedsAfter pairs old None = list_any (λ n. has_new_name pairs n.file) old ≡ false
AreNeedsAfter pairs old (Some made) =
    (list_any (λ n. has_new_name pairs n.file) old ≡ true) × (map needs_model made.items ≡ map (with_library_replaced pairs) old)

-- the leave is given where something was changed
abbrev pub with_leave : Image → Draft → Draft
with_leave image d = record d { moves_dynamic = d.moves_dynamic || (image.changed || is_written d) }

-- ## Putting it in place, part by part

-- the mark, set where a part was written
abbrev pub changed_if : {A : Type 0} → Option A → Bool → Bool
changed_if None old = old
changed_if (Some part) old = true

abbrev pub with_flags_put : Option ℕ → Image → Image
with_flags_put flags image = record image { changed = changed_if flags image.changed; segments = with_flags flags image.segments }

abbrev pub with_page_size_put : Option ℕ → Image → Image
with_page_size_put size image = record image { changed = changed_if size image.changed; segments = with_page_size size image.segments; page_size = first_there size image.page_size }

abbrev pub with_os_abi_put : Option ℕ → Image → Image
with_os_abi_put number image = record image { changed = changed_if number image.changed; header = record image.header { os_abi = unwrap_or number image.header.os_abi } }

abbrev pub with_interpreter_put : Option (List ℕ) → Image → Image
with_interpreter_put bytes image = record image { changed = changed_if bytes image.changed; interpreter = first_there bytes image.interpreter }

abbrev pub with_entries_put : Option (Vec Dynamic Global) → Image → Image
with_entries_put list image = record image { changed = changed_if list image.changed; entries = first_there (option_map (λ l. map entry_model l.items) list) image.entries }

abbrev pub with_symbols_put : Option EditedList → Image → Image
with_symbols_put symbols image = record image { changed = changed_if symbols image.changed; dynamic_symbols = elim symbols [ None ↦ image.dynamic_symbols | Some edited ↦ edited.symbols ] }

abbrev pub with_needs_put : Option (Vec VersionNeed Global) → Image → Image
with_needs_put needs image = record image { changed = changed_if needs image.changed; needs = unwrap_or (option_map (λ l. map needs_model l.items) needs) image.needs }

abbrev pub with_leave_put : Bool → Image → Image
with_leave_put false image = image
with_leave_put true image = with_dynamic_move image

-- a list is there, and the needed versions are the same, of libraries that may have other names
pub record CanPutNeeds (image : Image) (needs : Option (Vec VersionNeed Global)) : Type 0 where
  pub listed : IfSome needs (λ _. IsSome image.entries)
  pub same : IfSome needs (λ l. AreSameNeeds image.needs (map needs_model l.items))

-- an interpreter is there, and the bytes have a NUL last alone
pub record CanPutInterpreter (image : Image) (bytes : Option (List ℕ)) : Type 0 where
  pub there : IfSome bytes (λ _. IsSome image.interpreter)
  pub whole : IfSome bytes (λ b. holds_nul (all_but_last b) ≡ false)

-- a list is there, and the other one names its tables
pub record CanPutEntries (image : Image) (list : Option (Vec Dynamic Global)) : Type 0 where
  pub tables : IfSome list (λ l. KeepsTables image.entries (map entry_model l.items))
  pub entries : IfSome list (λ l. All IsListed (map entry_model l.items))

-- ## In place

-- the image with every entry of the one tag retagged, changed where there is one
abbrev pub with_retagged : ℕ → ℕ → Image → Image
with_retagged old new image = record image {
  changed = image.changed || lists_tag old (unwrap_or image.entries []);
  entries = option_map (with_tags_changed old new) image.entries;
}

-- the image without the entries of a tag, changed where there is one
abbrev pub with_tag_dropped : ℕ → Image → Image
with_tag_dropped tag image = record image {
  changed = image.changed || lists_tag tag (unwrap_or image.entries []);
  entries = option_map (without_tag tag) image.entries;
}

-- the image without the entries of several tags, tag by tag
unfoldable pub with_tags_dropped : List ℕ → Image → Image
with_tags_dropped [] image = image
with_tags_dropped (tag ∷ tags) image = with_tags_dropped tags (with_tag_dropped tag image)

-- a list whose run paths shrank, with the directories that went
pub record IsShrunkOf (edit : Edit) (image : Image) (made : ShrunkList) : Type 0 where
  pub entries : map entry_model made.entries.items ≡ edited_entries image.header.e_machine edit (unwrap_or image.entries [])
  pub removed : map removal_model made.removed.items ≡ removed_by edit (record image { entries = Some (unwrap_or image.entries []) })

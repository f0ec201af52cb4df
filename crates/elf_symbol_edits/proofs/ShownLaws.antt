-- What edited images show.
use Rattle.std.proofs.Common.{◌≡◌, ℕ, Bool, true, false, cond, List, [], ◌∷◌, map, filter, refl, sym, ap, ◌∙◌, Option, Some, None, option_map}
use Rattle.std.specs.Prelude.{◌==◌, ◌&&◌, ◌||◌, if◌then◌else◌, not}
use Rattle.std.specs.List.{list_any}
use Rattle.std.proofs.lemmas.Bool.{eqb-true}
use Rattle.patch_bytes.specs.Memory.{◌>>=◌}
use Rattle.elf_format.specs.declared.constants.TheConstants.{DT_SYMTAB, DT_VERSYM, PT_DYNAMIC, PT_GNU_STACK, PT_INTERP, PT_LOAD}
use Rattle.elf_format.specs.declared.records.SegmentHeader.{SegmentHeader}
use Rattle.elf_format.specs.Dynamic.{Entry}
use Rattle.elf_format.specs.File.{segment_of_type}
use Rattle.elf_format.specs.Image.{Image, lists_tag, seen_symbol, shown, shown_if}
use Rattle.elf_format.specs.Options.{is_one_of, is_some_and}
use Rattle.elf_format.specs.Views.{NamedSymbol, View}
use Rattle.elf_edits.specs.Symbols.{behind_first, renamed}
use Rattle.elf_edits.specs.Texts.{has_some, is_among}
use Rattle.elf_image.specs.Along.{begins_in, is_deserted}
use Rattle.elf_image.specs.Deleted.{does_interpreter_go, parts_left, segments_left, without_sections}
use Rattle.elf_image.specs.Edited.{IsEdited}
use Rattle.elf_image.specs.Kept.{interpreter_number}
use Rattle.elf_image.specs.Staying.{going, staying}
use Rattle.elf_image.proofs.ForCallers.ListsLeft.{find_left}
use Rattle.elf_symbol_edits.specs.Laws.{SymbolEditsShow, shown_after, without_named}
use Rattle.elf_symbol_edits.specs.Named.{named_dynamic_symbols, named_sections, named_symbols, symbol_name}
use Rattle.elf_symbol_edits.specs.SymbolEdit.{DeleteAllSymbols, DeleteDynamicSymbols, DeleteSections, DeleteSymbols, RenameAllSymbols, RenameSections, RenameSymbols, SymbolEdit, edited, touches, without_dynamic_symbols, without_symbols, written}
use Rattle.elf_symbol_edits.proofs.ByNameLaws.{dynamic_left_by_name, none_left_out}
use Rattle.elf_symbol_edits.proofs.RenameLaws.{all_after}

-- an image that shows the same where the edit wrote something
same_if : (b : Bool) (old new : Image) → shown new ≡ shown old → shown (if b then new else old) ≡ shown old
same_if true old new same = same
same_if false old new same = refl

module _ (names : List (List ℕ)) where
  seen_left : (b : Bool) (ys : List NamedSymbol) → map (seen_symbol b) (without_named names ys) ≡ without_named names (map (seen_symbol b) ys)
  seen_left b [] = refl
  seen_left b (y ∷ ys) = ap (λ l. seen_symbol b y ∷ l) (each ys)
    where
      by_test : (c : Bool) (z : NamedSymbol) (zs : List NamedSymbol) → map (seen_symbol b) (cond c (z ∷ zs) zs) ≡ cond c (seen_symbol b z ∷ map (seen_symbol b) zs) (map (seen_symbol b) zs)
      by_test true z zs = refl
      by_test false z zs = refl

      each : (zs : List NamedSymbol) → map (seen_symbol b) (filter (λ z. not (is_among names (symbol_name z))) zs) ≡ filter (λ z. not (is_among names (symbol_name z))) (map (seen_symbol b) zs)
      each [] = refl
      each (z ∷ zs) =
          by_test (not (is_among names (symbol_name z))) z (filter (λ w. not (is_among names (symbol_name w))) zs)
          ∙ ap (λ l. cond (not (is_among names (symbol_name z))) (seen_symbol b z ∷ l) l) (each zs)

  shown_left : (c : Bool) (b : Bool) (ys : List NamedSymbol) → shown_if c (map (seen_symbol b) (without_named names ys)) ≡ option_map (without_named names) (shown_if c (map (seen_symbol b) ys))
  shown_left true b ys = ap Some (seen_left b ys)
  shown_left false b ys = refl

  by_entries : (o : Option (List Entry)) (ys : List NamedSymbol)
      → (o >>= (λ entries. shown_if (lists_tag DT_SYMTAB entries) (map (seen_symbol (lists_tag DT_VERSYM entries)) (without_named names ys))))
      ≡ option_map (without_named names) (o >>= (λ entries. shown_if (lists_tag DT_SYMTAB entries) (map (seen_symbol (lists_tag DT_VERSYM entries)) ys)))
  by_entries None ys = refl
  by_entries (Some entries) ys = shown_left (lists_tag DT_SYMTAB entries) (lists_tag DT_VERSYM entries) ys

  module _ (image : Image) (h : IsEdited image) where
    abbrev with_dynamic : List NamedSymbol → Image
    with_dynamic ys = record image { dynamic_symbols = ys }

    by_gone : (gone : List ℕ) → shown (if has_some gone then without_dynamic_symbols gone image else image) ≡ shown (with_dynamic (parts_left gone image.dynamic_symbol_numbers image.dynamic_symbols))
    by_gone [] = ap (λ ys. shown (with_dynamic ys)) (sym (none_left_out image.dynamic_symbol_numbers image.dynamic_symbols h.is_edit.dynamic_symbols.numbered))
    by_gone (n ∷ ns) = refl

    dynamic_shown : shown (edited (DeleteDynamicSymbols names) image) ≡ record (shown image) { symbols = option_map (without_named names) (shown image).symbols }
    dynamic_shown =
        by_gone (named_dynamic_symbols names image)
        ∙ ap (λ ys. shown (with_dynamic ys)) (dynamic_left_by_name names image h)
        ∙ ap (λ (s : Option (List NamedSymbol)). record (shown image) { symbols = s }) (by_entries image.entries image.dynamic_symbols)

    -- what is shown of both lists of symbols looks at the dynamic one
    all_by_gone : (gone dynamic_gone : List ℕ) → shown (if has_some gone || has_some dynamic_gone then without_dynamic_symbols dynamic_gone (without_symbols gone image) else image)
        ≡ shown (with_dynamic (parts_left dynamic_gone image.dynamic_symbol_numbers image.dynamic_symbols))
    all_by_gone [] [] = ap (λ ys. shown (with_dynamic ys)) (sym (none_left_out image.dynamic_symbol_numbers image.dynamic_symbols h.is_edit.dynamic_symbols.numbered))
    all_by_gone [] (m ∷ ms) = refl
    all_by_gone (n ∷ ns) ms = refl

    all_shown : shown (edited (DeleteAllSymbols names) image) ≡ record (shown image) { symbols = option_map (without_named names) (shown image).symbols }
    all_shown =
        all_by_gone (named_symbols names image) (named_dynamic_symbols names image)
        ∙ ap (λ ys. shown (with_dynamic ys)) (dynamic_left_by_name names image h)
        ∙ ap (λ (s : Option (List NamedSymbol)). record (shown image) { symbols = s }) (by_entries image.entries image.dynamic_symbols)

module _ (pairs : List (List ℕ × List ℕ)) where
  seen_renamed : (b : Bool) (ys : List NamedSymbol) → map (seen_symbol b) (behind_first (renamed pairs) ys) ≡ behind_first (renamed pairs) (map (seen_symbol b) ys)
  seen_renamed b [] = refl
  seen_renamed b (y ∷ ys) = ap (λ l. seen_symbol b y ∷ l) (each ys)
    where
      one : (c : Bool) (z : NamedSymbol) → seen_symbol c (renamed pairs z) ≡ renamed pairs (seen_symbol c z)
      one true z = refl
      one false z = refl

      each : (zs : List NamedSymbol) → map (seen_symbol b) (map (renamed pairs) zs) ≡ map (renamed pairs) (map (seen_symbol b) zs)
      each [] = refl
      each (z ∷ zs) = ap (λ w. w ∷ map (seen_symbol b) (map (renamed pairs) zs)) (one b z) ∙ ap (λ l. renamed pairs (seen_symbol b z) ∷ l) (each zs)

  shown_renamed : (c : Bool) (b : Bool) (ys : List NamedSymbol) → shown_if c (map (seen_symbol b) (behind_first (renamed pairs) ys)) ≡ option_map (behind_first (renamed pairs)) (shown_if c (map (seen_symbol b) ys))
  shown_renamed true b ys = ap Some (seen_renamed b ys)
  shown_renamed false b ys = refl

  renamed_by_entries : (o : Option (List Entry)) (ys : List NamedSymbol)
      → (o >>= (λ entries. shown_if (lists_tag DT_SYMTAB entries) (map (seen_symbol (lists_tag DT_VERSYM entries)) (behind_first (renamed pairs) ys))))
      ≡ option_map (behind_first (renamed pairs)) (o >>= (λ entries. shown_if (lists_tag DT_SYMTAB entries) (map (seen_symbol (lists_tag DT_VERSYM entries)) ys)))
  renamed_by_entries None ys = refl
  renamed_by_entries (Some entries) ys = shown_renamed (lists_tag DT_SYMTAB entries) (lists_tag DT_VERSYM entries) ys

  -- all that is shown is that of the image with its dynamic symbols now
  shown_by : (b : Bool) (image : Image) → shown (if b then written (RenameAllSymbols pairs) image else image)
      ≡ shown (record image { dynamic_symbols = (if b then written (RenameAllSymbols pairs) image else image).dynamic_symbols })
  shown_by true image = refl
  shown_by false image = refl

  all_renamed_shown : (image : Image) → shown (edited (RenameAllSymbols pairs) image) ≡ record (shown image) { symbols = option_map (behind_first (renamed pairs)) (shown image).symbols }
  all_renamed_shown image =
      shown_by (touches (RenameAllSymbols pairs) image) image
      ∙ ap (λ (ys : List NamedSymbol). shown (record image { dynamic_symbols = ys })) (all_after pairs image).1
      ∙ ap (λ (s : Option (List NamedSymbol)). record (shown image) { symbols = s }) (renamed_by_entries image.entries image.dynamic_symbols)

-- ## Sections

-- a program header of the stack is never deserted
stack_stays : (image : Image) (gone : List ℕ) (p : SegmentHeader) → (p.p_type == PT_GNU_STACK) ≡ true → is_deserted image gone p ≡ false
stack_stays image gone p is =
    ap (λ (type : ℕ). if type == PT_INTERP then does_interpreter_go gone image else not (is_one_of (PT_LOAD ∷ PT_DYNAMIC ∷ PT_GNU_STACK ∷ []) type)
    && list_any (λ s. begins_in p s.section) (going gone image) && not (list_any (λ s. begins_in p s.section) (staying gone image))) (eqb-true p.p_type PT_GNU_STACK is)

-- the first program header of the stack is the first one still
stack_left : (image : Image) (gone : List ℕ) → segment_of_type PT_GNU_STACK (segments_left gone image) ≡ segment_of_type PT_GNU_STACK image.segments
stack_left image gone =
    find_left (λ p. not (is_deserted image gone p)) (λ p. p.p_type == PT_GNU_STACK) image.segments (λ p has is. ap not (stack_stays image gone p is))

module _ (image : Image) where
  abbrev without_interpreter : List ℕ → View
  without_interpreter gone = record (shown image) { interpreter = if does_interpreter_go gone image then None else (shown image).interpreter }

  -- where no section goes the interpreter stays
  none_goes : does_interpreter_go [] image ≡ false
  none_goes = by_number (interpreter_number image)
    where
      by_number : (o : Option ℕ) → is_some_and (is_one_of []) o ≡ false
      by_number None = refl
      by_number (Some n) = refl

  sections_gone : (gone : List ℕ) → shown (if has_some gone then without_sections gone image else image) ≡ without_interpreter gone
  sections_gone [] = ap (λ (b : Bool). record (shown image) { interpreter = if b then None else image.interpreter }) (sym none_goes)
  sections_gone (n ∷ ns) =
      ap (λ (o : Option SegmentHeader). record (without_interpreter (n ∷ ns)) { stack_flags = o >>= (λ p. Some p.p_flags) }) (stack_left image (n ∷ ns))

-- ## Each edit

pub symbol_edits_show : SymbolEditsShow
symbol_edits_show = record { shown_after_each = each }
  where
    each : (edit : SymbolEdit) (image : Image) → IsEdited image → shown (edited edit image) ≡ shown_after edit image
    each (RenameSymbols pairs) image h = same_if (touches (RenameSymbols pairs) image) image (written (RenameSymbols pairs) image) refl
    each (DeleteSymbols names) image h = same_if (touches (DeleteSymbols names) image) image (written (DeleteSymbols names) image) refl
    each (DeleteDynamicSymbols names) image h = dynamic_shown names image h
    each (RenameAllSymbols pairs) image h = all_renamed_shown pairs image
    each (DeleteAllSymbols names) image h = all_shown names image h
    each (RenameSections pairs) image h = same_if (touches (RenameSections pairs) image) image (written (RenameSections pairs) image) refl
    each (DeleteSections names) image h = sections_gone image (named_sections names image)

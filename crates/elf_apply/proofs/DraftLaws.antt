-- What a draft shows once an edit wrote to it, and once it is put in place.
use Rattle.std.proofs.Common.{◌≡◌, ℕ, Bool, true, false, not, ◌||◌, List, [], ◌∷◌, map, refl, sym, ap, subst, ◌∙◌, Option, Some, None, is_some, option_map, Result, Ok, Err}
use Rattle.std.specs.Prelude.{All, IfOk, IfSome, IsSome, MatchResult, is_none, if◌then◌else◌, ◌==◌, unwrap_or}
use Rattle.std.proofs.lemmas.Bool.{cond-true, cond-false, or_parts, true≢false}
use Rattle.patch_bytes.specs.ByteString.{StringValue, owned_string}
use Rattle.elf_format.specs.declared.constants.TheConstants.{PT_GNU_STACK, PT_LOAD}
use Rattle.elf_format.specs.declared.records.SegmentHeader.{SegmentHeader}
use Rattle.elf_image.specs.Dynamic.{Entry}
use Rattle.elf_image.specs.DynamicList.{IsListed, KeepsTables, tables_of}
use Rattle.elf_image.specs.File.{segment_of_type}
use Rattle.elf_image.specs.Image.{Image, image_of}
use Rattle.elf_image.specs.ImageModel.{entry_model, text_model}
use Rattle.elf_image.specs.Edited.{IsEdited}
use Rattle.elf_image.specs.Names.{are_names_changed, are_same_texts, texts_of_symbols}
use Rattle.elf_image.specs.Options.{first_there}
use Rattle.elf_image.specs.Renumbering.{can_renumber}
use Rattle.elf_image.specs.Leave.{spare_facts}
use Rattle.elf_image.specs.Spare.{SpareFacts, segments_reclaimed}
use Rattle.elf_image.specs.SymbolEdits.{IsPutFor, with_dynamic_symbols}
use Rattle.elf_image.proofs.ForCallers.SymbolsKept.{put_of_all}
use Rattle.elf_image.specs.SymbolsRead.{OfRead}
use Rattle.elf_image.specs.Views.{NamedSymbol}
use Rattle.elf_image_symbols.specs.EditedList.{EditedList}
use Rattle.elf_edits.specs.SymbolChanges.{AreSymbolsAfter}
use Rattle.elf_image.specs.Segments.{with_stack_added, with_stack_flags}
use Rattle.elf_edits.specs.declared.constants.TheConstants.{STACK_FLAGS}
use Rattle.elf_edits.specs.declared.list.NewList.{NewList}
use Rattle.elf_edits.specs.Abi.{abi_number, lowercase_name, with_nul}
use Rattle.elf_edits.specs.Cause.{NoDynamic, NoInterpreter, UnknownAbi, cause_if, facts_of, first_cause}
use Rattle.elf_edits.specs.Edit.{AllowDynamicMove, ClearExecStack, ClearSymbolVersion, Edit, RenameDynamicSymbols, ReplaceLibrary, SetExecStack, SetInterpreter, SetOsAbi, SetPageSize, all_but_last, edited_entries, edited_symbols, is_of_more, is_of_symbols, touches_entries, touches_symbols}
use Rattle.elf_edits.specs.Edited.{edited_image, is_list_with, segments_with_leave, touches_rest, with_align, with_load_align, with_run, with_stack_changed, without_run}
use Rattle.elf_edits.specs.Entries.{with_tag, with_tags_changed}
use Rattle.elf_image.specs.Image.{entry_tag, lists_tag}
use Rattle.elf_image.specs.declared.dynamic.Dynamic.{Dynamic}
use Rattle.std.specs.declared.alloc.Global.{Global}
use Rattle.std.specs.declared.vec.Vec.{Vec}
use Rattle.elf_edits.specs.Texts.{holds_nul}
use Rattle.elf_edits.proofs.ForCallers.{IsFree, fixed_names_stay, is_free, lists_again, others_found, reclaimed_aligned, reclaimed_flagged, stands_not, stored_whole, symbols_untouched, untouched}
use Rattle.elf_apply.specs.declared.draft.Draft.{Draft}
use Rattle.elf_apply.specs.Drafted.{AreSymbolsFor, CanPutEntries, CanPutInterpreter, changed_if, IsDraftOf, ListsEntries, OnlyShows, Writes, drafted, entries_drafted, flags_now, is_written, needs_drafted, stack_flags_of, symbols_drafted, with_entries_put, with_flags, with_flags_put, with_interpreter_put, with_leave_put, with_list, with_needs_put, with_retagged, with_os_abi_put, with_page_size, with_page_size_put, with_symbols, with_symbols_put}

pub by_test : {P : Type 0} (b : Bool) → (b ≡ true → P) → (b ≡ false → P) → P
by_test true then_so else_so = then_so refl
by_test false then_so else_so = else_so refl

pub or_true : (b : Bool) → (b || true) ≡ true
or_true true = refl
or_true false = refl

pub or_false : (b : Bool) → (b || false) ≡ b
or_false true = refl
or_false false = refl

-- an image with other parts
unfoldable pub image_with : Bool → ℕ → List SegmentHeader → Option (List Entry) → Option (List ℕ) → Option ℕ → Image → Image
image_with changed abi segments entries interpreter size image = record image {
  changed = changed;
  header = record image.header { os_abi = abi };
  segments = segments;
  entries = entries;
  interpreter = interpreter;
  page_size = size;
}

-- ## Nothing and something written

pub nothing_written : (image : Image) → OnlyShows image image (record { entries = None; interpreter = None; os_abi = None; stack_flags = None; page_size = None; symbols = None; needs = None; moves_dynamic = false })
unfolding drafted image_with
nothing_written image = record {
  shows = ap (λ changed. image_with changed image.header.os_abi image.segments image.entries image.interpreter image.page_size (record image { moves_dynamic = image.moves_dynamic || false })) (or_false image.changed)
      ∙ ap (λ leave. record image { moves_dynamic = leave }) (or_false image.moves_dynamic);
  draft = record { tables = tt; entries = tt; interpreter_there = tt; interpreter = tt; symbols = tt; needs = tt; listed = tt; leave = λ e. absurd (true≢false (sym e)) };
}

pub is_marked : (changed after : Bool) → after ≡ true → (changed || after) ≡ true
is_marked changed after h = ap (λ b. changed || b) h ∙ or_true changed

written_marks : (changed before after : Bool) → after ≡ true → (changed || after) ≡ ((changed || before) || true)
written_marks changed before after h = ap (λ b. changed || b) h ∙ or_true changed ∙ sym (or_true (changed || before))

-- ## Edits of something else than the list

pub kept_list : (o : Option (List Entry)) → option_map (λ es. es) o ≡ o
kept_list None = refl
kept_list (Some es) = refl

interpreter_edit : (bytes : List ℕ) (image : Image) → edited_image (SetInterpreter bytes) image ≡ image_with (image.changed || true) image.header.os_abi image.segments image.entries (Some (with_nul bytes)) image.page_size image
unfolding edited_image edited_entries image_with
interpreter_edit bytes image = ap (λ o. image_with (image.changed || true) image.header.os_abi image.segments o (Some (with_nul bytes)) image.page_size image) (kept_list image.entries)

os_abi_edit : (name : List ℕ) (image : Image) → edited_image (SetOsAbi name) image ≡ image_with (image.changed || true) (unwrap_or (abi_number name) image.header.os_abi) image.segments image.entries image.interpreter image.page_size image
unfolding edited_image edited_entries image_with
os_abi_edit name image = ap (λ o. image_with (image.changed || true) (unwrap_or (abi_number name) image.header.os_abi) image.segments o image.interpreter image.page_size image) (kept_list image.entries)

pub page_size_edit : (size : ℕ) (image : Image) → edited_image (SetPageSize size) image ≡ image_with (image.changed || true) image.header.os_abi (with_load_align size image.segments) image.entries image.interpreter (Some size) image
unfolding edited_image edited_entries image_with
page_size_edit size image = ap (λ o. image_with (image.changed || true) image.header.os_abi (with_load_align size image.segments) o image.interpreter (Some size) image) (kept_list image.entries)

cleared_edit : (image : Image) → edited_image ClearExecStack image ≡ image_with (image.changed || true) image.header.os_abi (with_stack_changed without_run image.segments) image.entries image.interpreter image.page_size image
unfolding edited_image edited_entries image_with
cleared_edit image = ap (λ o. image_with (image.changed || true) image.header.os_abi (with_stack_changed without_run image.segments) o image.interpreter image.page_size image) (kept_list image.entries)

set_edit : (image : Image) → edited_image SetExecStack image ≡ image_with (image.changed || true) image.header.os_abi (with_stack_changed with_run image.segments) image.entries image.interpreter image.page_size image
unfolding edited_image edited_entries image_with
set_edit image = ap (λ o. image_with (image.changed || true) image.header.os_abi (with_stack_changed with_run image.segments) o image.interpreter image.page_size image) (kept_list image.entries)

-- the image with the symbols and needed versions that were written, and the leave
abbrev based : Image → Draft → Image
based image d = record image {
  dynamic_symbols = symbols_drafted d image.dynamic_symbols;
  needs = needs_drafted d image.needs;
  moves_dynamic = image.moves_dynamic || d.moves_dynamic;
}

-- ## The interpreter

not_false_is : (b : Bool) → not b ≡ false → b ≡ true
not_false_is true h = refl
not_false_is false h = cc

pub is_there : {A : Type 0} (o : Option A) → is_some o ≡ true → IsSome o
is_there o h = h

pub interpreter_written : (bytes : List ℕ) (image : Image) (d : Draft) → IsFree (SetInterpreter bytes) (facts_of image) → IsDraftOf image d → Writes (SetInterpreter bytes) image d (record d { interpreter = Some (owned_string (with_nul bytes)) })
unfolding drafted edited_image image_with
interpreter_written bytes image d free is = record {
  shows = ap (λ changed. image_with changed (unwrap_or d.os_abi image.header.os_abi) (with_page_size d.page_size (with_flags d.stack_flags (segments_with_leave d.moves_dynamic image))) (first_there (entries_drafted d) image.entries) (Some (with_nul bytes)) (first_there d.page_size image.page_size) (based image d))
      (written_marks image.changed (is_written d) (is_written (record d { interpreter = Some (owned_string (with_nul bytes)) })) marked)
      ∙ sym (interpreter_edit bytes (drafted d image));
  draft = record {
    tables = is.tables;
    entries = is.entries;
    interpreter_there = is_there image.interpreter there;
    interpreter = stored_whole bytes (or_parts (holds_nul (all_but_last bytes)) false free.texts).0;
    symbols = is.symbols;
    needs = is.needs;
    listed = is.listed;
    leave = λ _. is_marked image.changed _ marked;
  };
}
  where
    marked : is_written (record d { interpreter = Some (owned_string (with_nul bytes)) }) ≡ true
    marked = ap (λ b. ((b || is_some d.entries) || is_some d.symbols) || is_some d.needs) (or_true ((is_some d.stack_flags || is_some d.page_size) || is_some d.os_abi))

    there : is_some image.interpreter ≡ true
    there = not_false_is (is_some image.interpreter) (stands_not (not (is_some image.interpreter)) NoInterpreter free.interpreter)

-- ## The ABI byte

named : (number : Option ℕ) → is_none number ≡ false → (n : ℕ) × (number ≡ Some n)
named None h = absurd (cc)
named (Some n) h = (n, refl)

pub os_abi_written : (name : List ℕ) (number : Option ℕ) (image : Image) (d : Draft) → IsFree (SetOsAbi name) (facts_of image) → IsDraftOf image d → number ≡ abi_number name → Writes (SetOsAbi name) image d (record d { os_abi = number })
unfolding drafted edited_image image_with
os_abi_written name number image d free is same =
    let found = named (abi_number name) (stands_not (is_none (abi_number name)) (UnknownAbi (lowercase_name name)) free.own) in
    subst (λ (o : Option ℕ). Writes (SetOsAbi name) image d (record d { os_abi = o })) (sym (same ∙ found.1)) (by_number found.0 found.1)
  where
    marked : (n : ℕ) → is_written (record d { os_abi = Some n }) ≡ true
    marked n = ap (λ b. (((b || is_some d.interpreter) || is_some d.entries) || is_some d.symbols) || is_some d.needs) (or_true (is_some d.stack_flags || is_some d.page_size))

    by_number : (n : ℕ) → abi_number name ≡ Some n → Writes (SetOsAbi name) image d (record d { os_abi = Some n })
    by_number n is_named = record {
      shows =
          ap (λ changed. image_with changed n (with_page_size d.page_size (with_flags d.stack_flags (segments_with_leave d.moves_dynamic image))) (first_there (entries_drafted d) image.entries) (first_there (text_model d.interpreter) image.interpreter) (first_there d.page_size image.page_size) (based image d))
          (written_marks image.changed (is_written d) (is_written (record d { os_abi = Some n })) (marked n))
          ∙ ap (λ o. image_with ((image.changed || is_written d) || true) (unwrap_or o (unwrap_or d.os_abi image.header.os_abi)) (with_page_size d.page_size (with_flags d.stack_flags (segments_with_leave d.moves_dynamic image))) (first_there (entries_drafted d) image.entries) (first_there (text_model d.interpreter) image.interpreter) (first_there d.page_size image.page_size) (based image d))
          (sym is_named)
          ∙ sym (os_abi_edit name (drafted d image));
      draft = record { tables = is.tables; entries = is.entries; interpreter_there = is.interpreter_there; interpreter = is.interpreter; symbols = is.symbols; needs = is.needs; listed = is.listed; leave = λ _. is_marked image.changed _ (marked n) };
    }

-- ## The page size

aligned_again : (size old : ℕ) (segments : List SegmentHeader) → map (with_align size) (map (with_align old) segments) ≡ map (with_align size) segments
aligned_again size old [] = refl
aligned_again size old (p ∷ ps) =
    ap (λ align. record p { p_align = align } ∷ map (with_align size) (map (with_align old) ps)) (last_counts (p.p_type == PT_LOAD) size old p.p_align)
    ∙ ap (λ l. with_align size p ∷ l) (aligned_again size old ps)
  where
    last_counts : (b : Bool) (x y z : ℕ) → (if b then x else if b then y else z) ≡ (if b then x else z)
    last_counts true x y z = refl
    last_counts false x y z = refl

aligned_last : (size : ℕ) (old : Option ℕ) (segments : List SegmentHeader) → with_load_align size segments ≡ with_load_align size (with_page_size old segments)
aligned_last size None segments = refl
aligned_last size (Some old) segments = sym (aligned_again size old segments)

pub page_size_written : (size : ℕ) (image : Image) (d : Draft) → IsDraftOf image d → Writes (SetPageSize size) image d (record d { page_size = Some size })
unfolding drafted edited_image image_with
page_size_written size image d is = record {
  shows =
      ap (λ changed. image_with changed (unwrap_or d.os_abi image.header.os_abi) (with_load_align size (with_flags d.stack_flags (segments_with_leave d.moves_dynamic image))) (first_there (entries_drafted d) image.entries) (first_there (text_model d.interpreter) image.interpreter) (Some size) (based image d))
      (written_marks image.changed (is_written d) (is_written (record d { page_size = Some size })) marked)
      ∙ ap (λ segments. image_with ((image.changed || is_written d) || true) (unwrap_or d.os_abi image.header.os_abi) segments (first_there (entries_drafted d) image.entries) (first_there (text_model d.interpreter) image.interpreter) (Some size) (based image d))
      (aligned_last size d.page_size (with_flags d.stack_flags (segments_with_leave d.moves_dynamic image)))
      ∙ sym (page_size_edit size (drafted d image));
  draft = record { tables = is.tables; entries = is.entries; interpreter_there = is.interpreter_there; interpreter = is.interpreter; symbols = is.symbols; needs = is.needs; listed = is.listed; leave = λ _. is_marked image.changed _ marked };
}
  where
    marked : is_written (record d { page_size = Some size }) ≡ true
    marked = ap (λ b. ((((b || is_some d.os_abi) || is_some d.interpreter) || is_some d.entries) || is_some d.symbols) || is_some d.needs) (or_true (is_some d.stack_flags))

-- ## The stack

set_at_first : (b : Bool) (change : ℕ → ℕ) (p : SegmentHeader) (ps : List SegmentHeader) → with_stack_changed change ps ≡ with_stack_changed (λ _. change (stack_flags_of ps)) ps
    → (if b then record p { p_flags = change p.p_flags } ∷ ps else p ∷ with_stack_changed change ps)
    ≡ (if b then record p { p_flags = change (unwrap_or (option_map (λ (q : SegmentHeader). q.p_flags) (if b then Some p else segment_of_type PT_GNU_STACK ps)) STACK_FLAGS) } ∷ ps
    else p ∷ with_stack_changed (λ _. change (unwrap_or (option_map (λ (q : SegmentHeader). q.p_flags) (if b then Some p else segment_of_type PT_GNU_STACK ps)) STACK_FLAGS)) ps)
set_at_first true change p ps rest = refl
set_at_first false change p ps rest = ap (λ l. p ∷ l) rest

set_to_changed : (change : ℕ → ℕ) (segments : List SegmentHeader) → with_stack_changed change segments ≡ with_stack_changed (λ _. change (stack_flags_of segments)) segments
unfolding with_stack_changed
set_to_changed change [] = refl
set_to_changed change (p ∷ ps) = set_at_first (p.p_type == PT_GNU_STACK) change p ps (set_to_changed change ps)

changed_again : (change : ℕ → ℕ) (flags : ℕ) (segments : List SegmentHeader) → with_stack_changed change (with_stack_changed (λ _. flags) segments) ≡ with_stack_changed (λ _. change flags) segments
unfolding with_stack_changed
changed_again change flags [] = refl
changed_again change flags (p ∷ ps) = by_test (p.p_type == PT_GNU_STACK)
    (λ holds.
    ap (with_stack_changed change) (cond-true (p.p_type == PT_GNU_STACK) (record p { p_flags = flags } ∷ ps) (p ∷ with_stack_changed (λ _. flags) ps) holds)
    ∙ cond-true (p.p_type == PT_GNU_STACK) (record p { p_flags = change flags } ∷ ps) (record p { p_flags = flags } ∷ with_stack_changed change ps) holds
    ∙ sym (cond-true (p.p_type == PT_GNU_STACK) (record p { p_flags = change flags } ∷ ps) (p ∷ with_stack_changed (λ _. change flags) ps) holds))
    (λ fails.
    ap (with_stack_changed change) (cond-false (p.p_type == PT_GNU_STACK) (record p { p_flags = flags } ∷ ps) (p ∷ with_stack_changed (λ _. flags) ps) fails)
    ∙ cond-false (p.p_type == PT_GNU_STACK) (record p { p_flags = change p.p_flags } ∷ with_stack_changed (λ _. flags) ps) (p ∷ with_stack_changed change (with_stack_changed (λ _. flags) ps)) fails
    ∙ ap (λ l. p ∷ l) (changed_again change flags ps)
    ∙ sym (cond-false (p.p_type == PT_GNU_STACK) (record p { p_flags = change flags } ∷ ps) (p ∷ with_stack_changed (λ _. change flags) ps) fails))

aligned_at_first : (b : Bool) (change : ℕ → ℕ) (size : ℕ) (p : SegmentHeader) (ps : List SegmentHeader) → with_stack_changed change (map (with_align size) ps) ≡ map (with_align size) (with_stack_changed change ps)
    → (if b then record (with_align size p) { p_flags = change p.p_flags } ∷ map (with_align size) ps else with_align size p ∷ with_stack_changed change (map (with_align size) ps))
    ≡ map (with_align size) (if b then record p { p_flags = change p.p_flags } ∷ ps else p ∷ with_stack_changed change ps)
aligned_at_first true change size p ps rest = refl
aligned_at_first false change size p ps rest = ap (λ l. with_align size p ∷ l) rest

changed_aligned : (change : ℕ → ℕ) (size : ℕ) (segments : List SegmentHeader) → with_stack_changed change (map (with_align size) segments) ≡ map (with_align size) (with_stack_changed change segments)
unfolding with_stack_changed
changed_aligned change size [] = refl
changed_aligned change size (p ∷ ps) = aligned_at_first (p.p_type == PT_GNU_STACK) change size p ps (changed_aligned change size ps)

flags_set : (change : ℕ → ℕ) (old : Option ℕ) (segments : List SegmentHeader) → with_stack_changed change (with_flags old segments) ≡ with_flags (Some (change (unwrap_or old (stack_flags_of segments)))) segments
flags_set change None segments = set_to_changed change segments
flags_set change (Some flags) segments = changed_again change flags segments

-- spare segments that went leave the stack's flags
flags_left : (leave : Bool) (image : Image) → stack_flags_of (segments_with_leave leave image) ≡ stack_flags_of image.segments
flags_left true image =
    ap (λ (o : Option SegmentHeader). unwrap_or (option_map (λ p. p.p_flags) o) STACK_FLAGS)
    (others_found (spare_facts image) (λ p. p.p_type == PT_GNU_STACK) (λ p is. ap (λ (n : ℕ). n == PT_GNU_STACK) is))
flags_left false image = refl

sized_flags_set : (change : ℕ → ℕ) (size : Option ℕ) (segments : List SegmentHeader) → with_page_size size (with_stack_changed change segments) ≡ with_stack_changed change (with_page_size size segments)
sized_flags_set change None segments = refl
sized_flags_set change (Some size) segments = sym (changed_aligned change size segments)

module _ (image : Image) (d : Draft) (change : ℕ → ℕ) where
  new_flags : ℕ
  new_flags = change (flags_now d image.segments)

  after : Draft
  after = record d { stack_flags = Some new_flags }

  -- the image with the stack's flags changed
  flags_changed : Image
  flags_changed = record (drafted d image) { changed = (drafted d image).changed || true; segments = with_stack_changed change (drafted d image).segments }

  flags_drafted : drafted after image ≡ flags_changed
  unfolding drafted image_with after flags_changed new_flags
  flags_drafted =
      ap (λ changed. image_with changed (unwrap_or d.os_abi image.header.os_abi) (with_page_size d.page_size (with_flags (Some new_flags) (segments_with_leave d.moves_dynamic image))) (first_there (entries_drafted d) image.entries) (first_there (text_model d.interpreter) image.interpreter) (first_there d.page_size image.page_size) (based image d))
      (written_marks image.changed (is_written d) true refl)
      ∙ ap (λ segments. image_with ((image.changed || is_written d) || true) (unwrap_or d.os_abi image.header.os_abi) segments (first_there (entries_drafted d) image.entries) (first_there (text_model d.interpreter) image.interpreter) (first_there d.page_size image.page_size) (based image d))
      (ap (λ (n : ℕ). with_page_size d.page_size (with_flags (Some (change (unwrap_or d.stack_flags n))) (segments_with_leave d.moves_dynamic image))) (sym (flags_left d.moves_dynamic image))
      ∙ ap (with_page_size d.page_size) (sym (flags_set change d.stack_flags (segments_with_leave d.moves_dynamic image))) ∙ sized_flags_set change d.page_size (with_flags d.stack_flags (segments_with_leave d.moves_dynamic image)))

pub stack_cleared : (image : Image) (d : Draft) → IsDraftOf image d → Writes ClearExecStack image d (record d { stack_flags = Some (without_run (flags_now d image.segments)) })
unfolding image_with after flags_changed new_flags
stack_cleared image d is = record {
  shows = flags_drafted image d without_run ∙ sym (cleared_edit (drafted d image));
  draft = record { tables = is.tables; entries = is.entries; interpreter_there = is.interpreter_there; interpreter = is.interpreter; symbols = is.symbols; needs = is.needs; listed = is.listed; leave = λ _. is_marked image.changed true refl };
}

pub stack_set : (image : Image) (d : Draft) → IsDraftOf image d → Writes SetExecStack image d (record d { stack_flags = Some (with_run (flags_now d image.segments)) })
unfolding image_with after flags_changed new_flags
stack_set image d is = record {
  shows = flags_drafted image d with_run ∙ sym (set_edit (drafted d image));
  draft = record { tables = is.tables; entries = is.entries; interpreter_there = is.interpreter_there; interpreter = is.interpreter; symbols = is.symbols; needs = is.needs; listed = is.listed; leave = λ _. is_marked image.changed true refl };
}

-- ## The dynamic list

not_both : {P : Type 0} → true ≡ false → P
not_both h = absurd (cc)

-- an edit of the list leaves all else
pub rest_stays : (edit : Edit) → touches_rest edit ≡ false → is_of_symbols edit ≡ false → is_of_more edit ≡ false → (image : Image) → edited_image edit image ≡ record image {
  changed = image.changed || is_list_with (touches_entries image.header.e_machine edit) image.entries;
  entries = option_map (edited_entries image.header.e_machine edit) image.entries;
}
unfolding edited_image
rest_stays (SetInterpreter bytes) h k m image = not_both h
rest_stays (SetOsAbi name) h k m image = not_both h
rest_stays ClearExecStack h k m image = not_both h
rest_stays SetExecStack h k m image = not_both h
rest_stays (SetPageSize size) h k m image = not_both h
rest_stays (RenameDynamicSymbols pairs) h k m image = not_both k
rest_stays (ClearSymbolVersion name) h k m image = not_both k
rest_stays (ReplaceLibrary pairs) h k m image = not_both m
rest_stays AllowDynamicMove h k m image = not_both m
rest_stays _ h k m image = refl

-- the image has a list
there : (task : List ℕ) (image : Image) → cause_if (not (is_some image.entries)) (NoDynamic task) ≡ None → is_some image.entries ≡ true
there task image h = not_false_is (is_some image.entries) (stands_not (not (is_some image.entries)) (NoDynamic task) h)

list_there : (edit : Edit) (image : Image) → touches_rest edit ≡ false → is_of_symbols edit ≡ false → is_of_more edit ≡ false → IsFree edit (facts_of image) → is_some image.entries ≡ true
list_there (SetInterpreter bytes) image h k m free = not_both h
list_there (SetOsAbi name) image h k m free = not_both h
list_there ClearExecStack image h k m free = not_both h
list_there SetExecStack image h k m free = not_both h
list_there (SetPageSize size) image h k m free = not_both h
list_there (RenameDynamicSymbols pairs) image h k m free = not_both k
list_there (ClearSymbolVersion name) image h k m free = not_both k
list_there (ReplaceLibrary pairs) image h k m free = not_both m
list_there AllowDynamicMove image h k m free = not_both m
list_there _ image h k m free = there _ image free.list

pub listed_in : (edit : Edit) (image : Image) → touches_rest edit ≡ false → is_of_symbols edit ≡ false → is_of_more edit ≡ false → IsFree edit (facts_of image) → (es : List Entry) × (image.entries ≡ Some es)
listed_in edit image h k m free = by_list image.entries (list_there edit image h k m free)
  where
    by_list : (o : Option (List Entry)) → is_some o ≡ true → (es : List Entry) × (o ≡ Some es)
    by_list None k = absurd (cc)
    by_list (Some es) k = (es, refl)

-- the list with what was written
module _ (image : Image) (d : Draft) where
  now_listed : Option (List Entry)
  now_listed = first_there (entries_drafted d) image.entries

  -- what is known of it
  record IsNow (read es : List Entry) : Type 0 where
    now : now_listed ≡ Some es
    listed : All IsListed es
    tables : tables_of es ≡ tables_of read

  is_now : (read : List Entry) → image.entries ≡ Some read → ListsEntries image → IsDraftOf image d → (es : List Entry) × IsNow read es
  unfolding now_listed
  is_now read is_read listed is =
      let found = by_draft (entries_drafted d) is.tables is.entries in
      (found.0, record { now = found.1; listed = found.2; tables = found.3 })
    where
      by_draft : (o : Option (List Entry)) → IfSome o (KeepsTables image.entries) → IfSome o (All IsListed) → (es : List Entry) × (first_there o image.entries ≡ Some es) × All IsListed es × (tables_of es ≡ tables_of read)
      by_draft None t l = (read, is_read, subst (λ (o : Option (List Entry)). All IsListed (unwrap_or o [])) is_read listed, refl)
      by_draft (Some es) t l = (es, refl, l, subst (λ (o : Option (List Entry)). KeepsTables o es) is_read t)

-- two parts of an image
same_two : (c c' : Bool) (e e' : Option (List Entry)) (abi : ℕ) (segments : List SegmentHeader) (interpreter : Option (List ℕ)) (size : Option ℕ) (image : Image) → c ≡ c' → e ≡ e'
    → image_with c abi segments e interpreter size image ≡ image_with c' abi segments e' interpreter size image
same_two c c' e e' abi segments interpreter size image changed entries = cc

pub list_written : (edit : Edit) (image : Image) (d : Draft) (made : NewList) → touches_rest edit ≡ false → is_of_symbols edit ≡ false → is_of_more edit ≡ false → IsFree edit (facts_of image) → ListsEntries image → IsDraftOf image d
    → ((machine : ℕ) → map entry_model made.entries.items ≡ edited_entries machine edit (unwrap_or (first_there (entries_drafted d) image.entries) []))
    → ((machine : ℕ) → made.is_touched ≡ touches_entries machine edit (unwrap_or (first_there (entries_drafted d) image.entries) []))
    → Writes edit image d (with_list made d)
unfolding drafted image_with now_listed
list_written edit image d made kind other more free listed is list touched =
    let read = listed_in edit image kind other more free in
    let now = is_now image d read.0 read.1 listed is in
    by_test made.is_touched
    (λ holds. subst (λ (x : Draft). Writes edit image d x) (sym (cond-true made.is_touched (record d { entries = Some made.entries }) d holds)) (when_touched read.0 now.0 read.1 now.1 holds))
    (λ fails. subst (λ (x : Draft). Writes edit image d x) (sym (cond-false made.is_touched (record d { entries = Some made.entries }) d fails)) (when_untouched read.0 now.0 now.1 fails))
  where
    machine : ℕ
    machine = image.header.e_machine

    new : Draft
    new = record d { entries = Some made.entries }

    -- what the edit makes, by the list with what was written
    edited_parts : edited_image edit (drafted d image) ≡ image_with ((image.changed || is_written d) || is_list_with (touches_entries machine edit) (now_listed image d)) (unwrap_or d.os_abi image.header.os_abi)
        (with_page_size d.page_size (with_flags d.stack_flags (segments_with_leave d.moves_dynamic image))) (option_map (edited_entries machine edit) (now_listed image d)) (first_there (text_model d.interpreter) image.interpreter) (first_there d.page_size image.page_size) (based image d)
    edited_parts = rest_stays edit kind other more (drafted d image)

    -- a list that was made marks the image
    entries_mark : is_written new ≡ true
    entries_mark = ap (λ b. (b || is_some d.symbols) || is_some d.needs) (or_true (((is_some d.stack_flags || is_some d.page_size) || is_some d.os_abi) || is_some d.interpreter))

    when_touched : (read es : List Entry) → image.entries ≡ Some read → IsNow image d read es → made.is_touched ≡ true → Writes edit image d new
    when_touched read es there now holds =
        let here : unwrap_or (first_there (entries_drafted d) image.entries) [] ≡ es = ap (λ o. unwrap_or o []) now.now in
        let made_is : map entry_model made.entries.items ≡ edited_entries machine edit es = list machine ∙ ap (edited_entries machine edit) here in
        let again = lists_again machine edit es free.texts now.listed in
        let marked : is_list_with (touches_entries machine edit) (now_listed image d) ≡ true = ap (is_list_with (touches_entries machine edit)) now.now ∙ sym (ap (touches_entries machine edit) here) ∙ sym (touched machine) ∙ holds in
        record {
          shows =
              same_two (image.changed || is_written new) ((image.changed || is_written d) || is_list_with (touches_entries machine edit) (now_listed image d))
              (Some (map entry_model made.entries.items)) (option_map (edited_entries machine edit) (now_listed image d))
              (unwrap_or d.os_abi image.header.os_abi) (with_page_size d.page_size (with_flags d.stack_flags (segments_with_leave d.moves_dynamic image))) (first_there (text_model d.interpreter) image.interpreter) (first_there d.page_size image.page_size) (based image d)
              (written_marks image.changed (is_written d) (is_written new) entries_mark ∙ sym (ap (λ b. (image.changed || is_written d) || b) marked))
              (ap Some made_is ∙ sym (ap (option_map (edited_entries machine edit)) now.now))
              ∙ sym edited_parts;
          draft = record {
            tables = subst (λ (o : Option (List Entry)). KeepsTables o (map entry_model made.entries.items)) (sym there) (ap tables_of made_is ∙ again.tables ∙ now.tables);
            entries = subst (λ (l : List Entry). All IsListed l) (sym made_is) again.listed;
            interpreter_there = is.interpreter_there;
            interpreter = is.interpreter;
            symbols = is.symbols;
            needs = is.needs;
            listed = is.listed;
            leave = λ _. is_marked image.changed (is_written new) entries_mark;
          };
        }

    when_untouched : (read es : List Entry) → IsNow image d read es → made.is_touched ≡ false → Writes edit image d d
    when_untouched read es now fails =
        let here : unwrap_or (first_there (entries_drafted d) image.entries) [] ≡ es = ap (λ o. unwrap_or o []) now.now in
        let not_touched : touches_entries machine edit es ≡ false = sym (ap (touches_entries machine edit) here) ∙ sym (touched machine) ∙ fails in
        let marked : is_list_with (touches_entries machine edit) (now_listed image d) ≡ false = ap (is_list_with (touches_entries machine edit)) now.now ∙ not_touched in
        record {
          shows =
              same_two (image.changed || is_written d) ((image.changed || is_written d) || is_list_with (touches_entries machine edit) (now_listed image d))
              (now_listed image d) (option_map (edited_entries machine edit) (now_listed image d))
              (unwrap_or d.os_abi image.header.os_abi) (with_page_size d.page_size (with_flags d.stack_flags (segments_with_leave d.moves_dynamic image))) (first_there (text_model d.interpreter) image.interpreter) (first_there d.page_size image.page_size) (based image d)
              (sym (or_false (image.changed || is_written d)) ∙ sym (ap (λ b. (image.changed || is_written d) || b) marked))
              (now.now ∙ sym (ap Some (untouched machine edit es not_touched)) ∙ sym (ap (option_map (edited_entries machine edit)) now.now))
              ∙ sym edited_parts;
          draft = is;
        }

-- ## The dynamic symbols

alone : (edit : Edit) (image : Image) (touched : Bool) → record image {
  changed = image.changed || ((touched || false) || is_list_with (λ es. false) image.entries);
  dynamic_symbols = edited_symbols edit image.dynamic_symbols;
  entries = option_map (λ es. es) image.entries;
} ≡ record image { changed = image.changed || touched; dynamic_symbols = edited_symbols edit image.dynamic_symbols }
alone edit image touched =
    ap (λ b. record image { changed = image.changed || b; dynamic_symbols = edited_symbols edit image.dynamic_symbols; entries = option_map (λ es. es) image.entries }) (ap (λ b. (touched || false) || b) (no_list image.entries) ∙ or_false (touched || false) ∙ or_false touched)
    ∙ ap (λ (o : Option (List Entry)). record image { changed = image.changed || touched; dynamic_symbols = edited_symbols edit image.dynamic_symbols; entries = o }) (kept_list image.entries)
  where
    no_list : (o : Option (List Entry)) → is_list_with (λ es. false) o ≡ false
    no_list None = refl
    no_list (Some es) = refl

-- an edit of the symbols leaves all else
symbols_alone : (edit : Edit) → is_of_symbols edit ≡ true → (image : Image) → edited_image edit image ≡ record image {
  changed = image.changed || touches_symbols edit image.dynamic_symbols;
  dynamic_symbols = edited_symbols edit image.dynamic_symbols;
}
unfolding edited_image edited_entries touches_entries image_with
symbols_alone (RenameDynamicSymbols pairs) h image = alone (RenameDynamicSymbols pairs) image (touches_symbols (RenameDynamicSymbols pairs) image.dynamic_symbols)
symbols_alone (ClearSymbolVersion name) h image = alone (ClearSymbolVersion name) image (touches_symbols (ClearSymbolVersion name) image.dynamic_symbols)
symbols_alone _ h image = not_both (sym h)

-- symbols that were made mark the image
symbols_mark : (d : Draft) (made : EditedList) → is_written (record d { symbols = Some made }) ≡ true
symbols_mark d made = ap (λ b. b || is_some d.needs) (or_true ((((is_some d.stack_flags || is_some d.page_size) || is_some d.os_abi) || is_some d.interpreter) || is_some d.entries))

-- what was written before, with these symbols
symbols_written_as : (edit : Edit) (image : Image) (d : Draft) (made : EditedList) → is_of_symbols edit ≡ true → touches_symbols edit (symbols_drafted d image.dynamic_symbols) ≡ true
    → made.symbols ≡ edited_symbols edit (symbols_drafted d image.dynamic_symbols) → drafted (record d { symbols = Some made }) image ≡ edited_image edit (drafted d image)
unfolding drafted
symbols_written_as edit image d made kind touched is =
    ap (λ b. record (drafted (record d { symbols = Some made }) image) { changed = b }) (written_marks image.changed (is_written d) (is_written (record d { symbols = Some made })) (symbols_mark d made)
    ∙ sym (ap (λ b. (image.changed || is_written d) || b) touched))
    ∙ ap (λ (l : List NamedSymbol). record (drafted d image) { changed = (image.changed || is_written d) || touches_symbols edit (symbols_drafted d image.dynamic_symbols); dynamic_symbols = l }) is
    ∙ sym (symbols_alone edit kind (drafted d image))

none_written : (edit : Edit) (image : Image) (d : Draft) → is_of_symbols edit ≡ true → touches_symbols edit (symbols_drafted d image.dynamic_symbols) ≡ false → drafted d image ≡ edited_image edit (drafted d image)
unfolding drafted
none_written edit image d kind untouched =
    sym (symbols_alone edit kind (drafted d image)
    ∙ ap (λ b. record (drafted d image) { changed = (image.changed || is_written d) || b; dynamic_symbols = edited_symbols edit (symbols_drafted d image.dynamic_symbols) }) untouched
    ∙ ap (λ b. record (drafted d image) { changed = b; dynamic_symbols = edited_symbols edit (symbols_drafted d image.dynamic_symbols) }) (or_false (image.changed || is_written d))
    ∙ ap (λ (l : List NamedSymbol). record (drafted d image) { dynamic_symbols = l }) (symbols_untouched edit (symbols_drafted d image.dynamic_symbols) untouched))

-- an edit keeps the names that have to stay, also of symbols that others wrote before
names_for : (edit : Edit) (image : Image) (ys : List NamedSymbol) → IsFree edit (facts_of image) → can_renumber image ≡ false → texts_of_symbols ys ≡ texts_of_symbols image.dynamic_symbols → texts_of_symbols (edited_symbols edit ys) ≡ texts_of_symbols image.dynamic_symbols
names_for edit image ys free fixed same = fixed_names_stay edit image ys free fixed same ∙ same

pub symbols_written : (edit : Edit) (image : Image) (d : Draft) (now : EditedList) (made : Option EditedList) → is_of_symbols edit ≡ true → IsFree edit (facts_of image) → IsDraftOf image d
    → now.symbols ≡ symbols_drafted d image.dynamic_symbols → AreSymbolsFor image now → AreSymbolsAfter edit now made → Writes edit image d (with_symbols made d)
symbols_written edit image d now None kind free is same for after = record {
  shows = none_written edit image d kind (sym (ap (touches_symbols edit) same) ∙ after);
  draft = is;
}
symbols_written edit image d now (Some made) kind free is same for after = record {
  shows = symbols_written_as edit image d made kind (sym (ap (touches_symbols edit) same) ∙ after.0) (ap (λ (e : EditedList). e.symbols) after.1 ∙ ap (edited_symbols edit) same);
  draft = record {
    tables = is.tables;
    entries = is.entries;
    interpreter_there = is.interpreter_there;
    interpreter = is.interpreter;
    symbols = record {
      read = subst (λ (l : List NamedSymbol). OfRead image (λ read. l ≡ read.dynamic_symbols)) (sym (ap (λ (e : EditedList). e.read) after.1)) for.read;
      numbers = ap (λ (e : EditedList). e.numbers) after.1 ∙ for.numbers;
      names = λ fixed. ap (λ (e : EditedList). texts_of_symbols e.symbols) after.1 ∙ names_for edit image now.symbols free fixed (for.names fixed);
    };
    needs = is.needs;
    listed = is.listed;
    leave = λ _. is_marked image.changed _ (symbols_mark d made);
  };
}

-- ## Each edit, as it is called

-- an edit that is called by this one
as_called : (edit : Edit) (called : Edit) (image : Image) (old new : Draft) → called ≡ edit → Writes edit image old new → Writes called image old new
as_called edit called image old new same wrote = subst (λ (e : Edit). Writes e image old new) (sym same) wrote

free_as : (edit : Edit) (called : Edit) (image : Image) → called ≡ edit → first_cause called (facts_of image) ≡ None → IsFree edit (facts_of image)
free_as edit called image same none = is_free edit (facts_of image) (ap (λ (e : Edit). first_cause e (facts_of image)) (sym same) ∙ none)

pub interpreter_noted : {E : Type 0} (r : Result (Unit {0}) E) (called : Edit) (bytes : List ℕ) (image : Image) (old new : Draft) → called ≡ SetInterpreter bytes → first_cause called (facts_of image) ≡ None → IsDraftOf image old
    → IfOk r (λ _. new ≡ record old { interpreter = Some (owned_string (with_nul bytes)) }) → IfOk r (λ _. Writes called image old new)
interpreter_noted (Ok done) called bytes image old new same none is put =
    as_called (SetInterpreter bytes) called image old new same
    (subst (λ (d : Draft). Writes (SetInterpreter bytes) image old d) (sym put) (interpreter_written bytes image old (free_as (SetInterpreter bytes) called image same none) is))
interpreter_noted (Err e) called bytes image old new same none is put = tt

pub os_abi_noted : (called : Edit) (name : List ℕ) (number : Option ℕ) (image : Image) (d : Draft) → called ≡ SetOsAbi name → first_cause called (facts_of image) ≡ None → IsDraftOf image d → number ≡ abi_number name
    → Writes called image d (record d { os_abi = number })
os_abi_noted called name number image d same none is number_is =
    as_called (SetOsAbi name) called image d (record d { os_abi = number }) same (os_abi_written name number image d (free_as (SetOsAbi name) called image same none) is number_is)

pub cleared_noted : (called : Edit) (flags : ℕ) (image : Image) (d : Draft) → called ≡ ClearExecStack → IsDraftOf image d → flags ≡ flags_now d image.segments → Writes called image d (record d { stack_flags = Some (without_run flags) })
cleared_noted called flags image d same is flags_are =
    as_called ClearExecStack called image d (record d { stack_flags = Some (without_run flags) }) same
    (subst (λ (n : ℕ). Writes ClearExecStack image d (record d { stack_flags = Some (without_run n) })) (sym flags_are) (stack_cleared image d is))

pub set_noted : (called : Edit) (flags : ℕ) (image : Image) (d : Draft) → called ≡ SetExecStack → IsDraftOf image d → flags ≡ flags_now d image.segments → Writes called image d (record d { stack_flags = Some (with_run flags) })
set_noted called flags image d same is flags_are =
    as_called SetExecStack called image d (record d { stack_flags = Some (with_run flags) }) same
    (subst (λ (n : ℕ). Writes SetExecStack image d (record d { stack_flags = Some (with_run n) })) (sym flags_are) (stack_set image d is))

pub page_size_noted : (called : Edit) (size : ℕ) (image : Image) (d : Draft) → called ≡ SetPageSize size → IsDraftOf image d → Writes called image d (record d { page_size = Some size })
page_size_noted called size image d same is = as_called (SetPageSize size) called image d (record d { page_size = Some size }) same (page_size_written size image d is)

-- ## Putting it in place

marks_if : {A : Type 0} (part : Option A) (old : Bool) → changed_if part old ≡ (old || is_some part)
marks_if None old = sym (or_false old)
marks_if (Some x) old = sym (or_true old)

or_each : (c a b d e f g h : Bool) → (((((((c || a) || b) || d) || e) || f) || g) || h) ≡ (c || ((((((a || b) || d) || e) || f) || g) || h))
or_each true a b d e f g h = refl
or_each false a b d e f g h = refl

-- a text is kept where there is one
kept_there : (o : Option StringValue) → is_some (text_model o) ≡ is_some o
kept_there None = refl
kept_there (Some text) = refl

-- spare segments go before or after other parts are written
reclaimed_sized : (size : Option ℕ) (f : SpareFacts) → segments_reclaimed (record f { segments = with_page_size size f.segments }) ≡ with_page_size size (segments_reclaimed f)
reclaimed_sized None f = refl
reclaimed_sized (Some size) f = reclaimed_aligned size f

reclaimed_with_flags : (flags : Option ℕ) (f : SpareFacts) → segments_reclaimed (record f { segments = with_flags flags f.segments }) ≡ with_flags flags (segments_reclaimed f)
reclaimed_with_flags None f = refl
reclaimed_with_flags (Some flags) f = reclaimed_flagged (λ _. flags) f

pub reclaimed_drafted : (size flags : Option ℕ) (f : SpareFacts) → segments_reclaimed (record f { segments = with_page_size size (with_flags flags f.segments) }) ≡ with_page_size size (with_flags flags (segments_reclaimed f))
reclaimed_drafted size flags f = reclaimed_sized size (record f { segments = with_flags flags f.segments }) ∙ ap (with_page_size size) (reclaimed_with_flags flags f)

-- the leave is given in an image that is marked
leave_put : (d : Draft) (image : Image) (leave changed : Bool) → (leave ≡ true → changed ≡ true)
    → with_leave_put leave (record (drafted d image) { changed = changed; segments = with_page_size d.page_size (with_flags d.stack_flags image.segments); moves_dynamic = image.moves_dynamic })
    ≡ record (drafted d image) { changed = changed; segments = with_page_size d.page_size (with_flags d.stack_flags (segments_with_leave leave image)); moves_dynamic = image.moves_dynamic || leave }
unfolding drafted
leave_put d image true changed h =
    ap (λ b. record (drafted d image) { changed = b; segments = segments_reclaimed (record (spare_facts image) { segments = with_page_size d.page_size (with_flags d.stack_flags image.segments) }); moves_dynamic = true }) (sym (h refl))
    ∙ ap (λ (ps : List SegmentHeader). record (drafted d image) { changed = changed; segments = ps; moves_dynamic = true }) (reclaimed_drafted d.page_size d.stack_flags (spare_facts image))
    ∙ ap (λ b. record (drafted d image) { changed = changed; segments = with_page_size d.page_size (with_flags d.stack_flags (segments_reclaimed (spare_facts image))); moves_dynamic = b }) (sym (or_true image.moves_dynamic))
leave_put d image false changed h =
    ap (λ b. record (drafted d image) { changed = changed; segments = with_page_size d.page_size (with_flags d.stack_flags image.segments); moves_dynamic = b }) (sym (or_false image.moves_dynamic))

-- part by part, all of it is put in place
pub put_together : (d : Draft) (image : Image) → (d.moves_dynamic ≡ true → (image.changed || is_written d) ≡ true)
    → with_leave_put d.moves_dynamic (with_needs_put d.needs (with_symbols_put d.symbols (with_entries_put d.entries (with_interpreter_put (text_model d.interpreter) (with_os_abi_put d.os_abi (with_page_size_put d.page_size (with_flags_put d.stack_flags image))))))) ≡ drafted d image
unfolding drafted image_with
put_together d image is_left =
    ap (λ changed. with_leave_put d.moves_dynamic (image_with changed (unwrap_or d.os_abi image.header.os_abi) (with_page_size d.page_size (with_flags d.stack_flags image.segments)) (first_there (entries_drafted d) image.entries) (first_there (text_model d.interpreter) image.interpreter) (first_there d.page_size image.page_size)
    (record image { dynamic_symbols = symbols_drafted d image.dynamic_symbols; needs = needs_drafted d image.needs }))) marked
    ∙ leave_put d image d.moves_dynamic (image.changed || is_written d) is_left
  where
    marked : changed_if d.needs (changed_if d.symbols (changed_if d.entries (changed_if (text_model d.interpreter) (changed_if d.os_abi (changed_if d.page_size (changed_if d.stack_flags image.changed)))))) ≡ (image.changed || is_written d)
    marked =
        marks_if d.needs (changed_if d.symbols (changed_if d.entries (changed_if (text_model d.interpreter) (changed_if d.os_abi (changed_if d.page_size (changed_if d.stack_flags image.changed))))))
        ∙ ap (λ b. b || is_some d.needs) (marks_if d.symbols (changed_if d.entries (changed_if (text_model d.interpreter) (changed_if d.os_abi (changed_if d.page_size (changed_if d.stack_flags image.changed)))))
        ∙ ap (λ b. b || is_some d.symbols) (marks_if d.entries (changed_if (text_model d.interpreter) (changed_if d.os_abi (changed_if d.page_size (changed_if d.stack_flags image.changed))))
        ∙ ap (λ b. b || is_some d.entries) (marks_if (text_model d.interpreter) (changed_if d.os_abi (changed_if d.page_size (changed_if d.stack_flags image.changed)))
        ∙ ap (λ b. b || is_some (text_model d.interpreter)) (marks_if d.os_abi (changed_if d.page_size (changed_if d.stack_flags image.changed))
        ∙ ap (λ b. b || is_some d.os_abi) (marks_if d.page_size (changed_if d.stack_flags image.changed)
        ∙ ap (λ b. b || is_some d.page_size) (marks_if d.stack_flags image.changed))))))
        ∙ or_each image.changed (is_some d.stack_flags) (is_some d.page_size) (is_some d.os_abi) (is_some (text_model d.interpreter)) (is_some d.entries) (is_some d.symbols) (is_some d.needs)
        ∙ ap (λ b. image.changed || ((((((is_some d.stack_flags || is_some d.page_size) || is_some d.os_abi) || b) || is_some d.entries) || is_some d.symbols) || is_some d.needs)) (kept_there d.interpreter)

-- the flags of a stack that is there, and one that is added
flags_at_first : (b : Bool) (flags : ℕ) (p : SegmentHeader) (ps : List SegmentHeader) → with_stack_flags flags ps ≡ with_stack_changed (λ _. flags) ps
    → (if b then record p { p_flags = flags } ∷ ps else p ∷ with_stack_flags flags ps) ≡ (if b then record p { p_flags = flags } ∷ ps else p ∷ with_stack_changed (λ _. flags) ps)
flags_at_first true flags p ps rest = refl
flags_at_first false flags p ps rest = ap (λ l. p ∷ l) rest

pub flags_there : (flags : ℕ) (segments : List SegmentHeader) → is_some (segment_of_type PT_GNU_STACK segments) ≡ true → with_stack_flags flags segments ≡ with_stack_changed (λ _. flags) segments
unfolding with_stack_flags with_stack_changed
flags_there flags [] h = absurd (cc)
flags_there flags (p ∷ ps) h = by_test (p.p_type == PT_GNU_STACK)
    (λ holds. cond-true (p.p_type == PT_GNU_STACK) (record p { p_flags = flags } ∷ ps) (p ∷ with_stack_flags flags ps) holds ∙ sym (cond-true (p.p_type == PT_GNU_STACK) (record p { p_flags = flags } ∷ ps) (p ∷ with_stack_changed (λ _. flags) ps) holds))
    (λ fails. flags_at_first (p.p_type == PT_GNU_STACK) flags p ps (flags_there flags ps (sym (ap is_some (cond-false (p.p_type == PT_GNU_STACK) (Some p) (segment_of_type PT_GNU_STACK ps) fails)) ∙ h)))

pub flags_added : (flags : ℕ) (segments : List SegmentHeader) → segment_of_type PT_GNU_STACK segments ≡ None → with_stack_added flags segments ≡ with_stack_changed (λ _. flags) segments
unfolding with_stack_changed
flags_added flags [] h = refl
flags_added flags (p ∷ ps) h = by_test (p.p_type == PT_GNU_STACK)
    (λ holds. let some : Some p ≡ None = sym (cond-true (p.p_type == PT_GNU_STACK) (Some p) (segment_of_type PT_GNU_STACK ps) holds) ∙ h in absurd (cc))
    (λ fails.
    ap (λ l. p ∷ l) (flags_added flags ps (sym (cond-false (p.p_type == PT_GNU_STACK) (Some p) (segment_of_type PT_GNU_STACK ps) fails) ∙ h))
    ∙ sym (cond-false (p.p_type == PT_GNU_STACK) (record p { p_flags = flags } ∷ ps) (p ∷ with_stack_changed (λ _. flags) ps) fails))

-- what the question for a stack tells of the image's program headers
pub found_there : {A B : Type 0} (f : A → B) (r : Option A) (o : Option B) → option_map f r ≡ o → is_some r ≡ true → is_some o ≡ true
found_there f None o e h = absurd (cc)
found_there f (Some x) o e h = ap is_some (sym e)

pub not_found : {A B : Type 0} (f : A → B) (r : Option A) (o : Option B) → option_map f r ≡ o → is_some r ≡ false → o ≡ None
not_found f None o e h = sym e
not_found f (Some x) o e h = absurd (cc)

pub pushed : {E : Type 0} (r : Result (Unit {0}) E) (flags : ℕ) (old new : Image) → segment_of_type PT_GNU_STACK old.segments ≡ None
    → MatchResult r (λ _. new ≡ record old { changed = true; segments = with_stack_added flags old.segments }) (λ _. new ≡ old)
    → MatchResult r (λ _. new ≡ with_flags_put (Some flags) old) (λ _. new ≡ old)
pushed (Ok x) flags old new none h = h ∙ ap (λ (l : List SegmentHeader). record old { changed = true; segments = l }) (flags_added flags old.segments none)
pushed (Err e) flags old new none h = h

-- what was written may be put in place, also after other parts were
pub can_put_interpreter : (d : Draft) (old now : Image) → IsDraftOf old d → now.interpreter ≡ old.interpreter → CanPutInterpreter now (text_model d.interpreter)
can_put_interpreter d old now is same = record { there = subst (λ (o : Option (List ℕ)). IfSome (text_model d.interpreter) (λ _. IsSome o)) (sym same) is.interpreter_there; whole = is.interpreter }

listed_each : (o : Option (Vec Dynamic Global)) (P : List Entry → Type 0) → IfSome (option_map (λ l. map entry_model l.items) o) P → IfSome o (λ l. P (map entry_model l.items))
listed_each None P h = h
listed_each (Some l) P h = h

pub can_put_entries : (d : Draft) (old now : Image) → IsDraftOf old d → now.entries ≡ old.entries → CanPutEntries now d.entries
can_put_entries d old now is same = record {
  tables = listed_each d.entries (KeepsTables now.entries) (subst (λ (o : Option (List Entry)). IfSome (entries_drafted d) (KeepsTables o)) (sym same) is.tables);
  entries = listed_each d.entries (All IsListed) is.entries;
}

-- entries with a tag, and without
pub retagged_some : (old new : ℕ) (image : Image) (found : Bool) → found ≡ lists_tag old (unwrap_or image.entries []) → found ≡ true → record image { changed = true; entries = option_map (with_tags_changed old new) image.entries } ≡ with_retagged old new image
retagged_some old new image found is holds = ap (λ b. record image { changed = b; entries = option_map (with_tags_changed old new) image.entries }) (sym (or_true image.changed) ∙ ap (λ b. image.changed || b) (sym holds ∙ is))

none_retagged : (old new : ℕ) (es : List Entry) → lists_tag old es ≡ false → with_tags_changed old new es ≡ es
none_retagged old new [] none = refl
none_retagged old new (e ∷ es) none =
    let parts = or_parts (entry_tag e == old) (lists_tag old es) none in
    ap (λ x. x ∷ with_tags_changed old new es) (cond-false (entry_tag e == old) (with_tag new e) e parts.0) ∙ ap (λ l. e ∷ l) (none_retagged old new es parts.1)

pub retagged_none : (old new : ℕ) (image : Image) (found : Bool) → found ≡ lists_tag old (unwrap_or image.entries []) → found ≡ false → image ≡ with_retagged old new image
retagged_none old new image found is fails =
    sym (ap (λ b. record image { changed = image.changed || b; entries = option_map (with_tags_changed old new) image.entries }) (sym is ∙ fails)
    ∙ ap (λ b. record image { changed = b; entries = option_map (with_tags_changed old new) image.entries }) (or_false image.changed)
    ∙ ap (λ (o : Option (List Entry)). record image { changed = image.changed; entries = o }) (by_list image.entries (sym is ∙ fails)))
  where
    by_list : (o : Option (List Entry)) → lists_tag old (unwrap_or o []) ≡ false → option_map (with_tags_changed old new) o ≡ o
    by_list None h = refl
    by_list (Some es) h = ap Some (none_retagged old new es h)

-- ## Symbols that are put in place

-- an image in which names have to stay has those that were read
pub can_put_symbols : (image : Image) (edited : EditedList) → IsEdited image → AreSymbolsFor image edited → IsPutFor image edited
can_put_symbols image edited is for =
    put_of_all image edited is for.read for.numbers (λ read is_read changed. by_test (can_renumber image)
    (λ holds. holds)
    (λ fails. tables_of_read read is_read
    (ap (λ (l : List (List ℕ)). not (are_same_texts (texts_of_symbols read.dynamic_symbols) l)) (sym (for.names fails)) ∙ changed)))
  where
    tables_of_read : (read : Image) → image_of image.source ≡ Ok read → are_names_changed read image ≡ true → can_renumber image ≡ true
    tables_of_read read is_read changed =
        let both : Ok is.read ≡ Ok read = sym is.is_read ∙ is_read in
        let same : is.read ≡ read = cc in
        is.is_edit.complete.tables (ap (λ (r : Image). are_names_changed r image) same ∙ changed)

pub symbols_put : (image : Image) (edited : EditedList) → edited.numbers ≡ image.dynamic_symbol_numbers → with_dynamic_symbols edited image ≡ with_symbols_put (Some edited) image
symbols_put image edited same = ap (λ (l : List ℕ). record image { changed = true; dynamic_symbols = edited.symbols; dynamic_symbol_numbers = l }) same

-- the symbols of a draft, or those that the image has
pub symbols_of_draft : (image : Image) (d : Draft) (made : EditedList) → IsDraftOf image d → Some made ≡ d.symbols → (made.symbols ≡ symbols_drafted d image.dynamic_symbols) × AreSymbolsFor image made
symbols_of_draft image d made is there = (
  ap (λ (o : Option EditedList). elim o as (λ _. List NamedSymbol) [ None ↦ image.dynamic_symbols | Some e ↦ e.symbols ]) there,
  subst (λ (o : Option EditedList). IfSome o (AreSymbolsFor image)) (sym there) is.symbols,
)

pub symbols_of_image : (image : Image) (d : Draft) (held : EditedList) → None ≡ d.symbols → OfRead image (λ read. held.read ≡ read.dynamic_symbols) → held.numbers ≡ image.dynamic_symbol_numbers → held.symbols ≡ image.dynamic_symbols
    → (held.symbols ≡ symbols_drafted d image.dynamic_symbols) × AreSymbolsFor image held
symbols_of_image image d held none read numbers symbols = (
  symbols ∙ ap (λ (o : Option EditedList). elim o as (λ _. List NamedSymbol) [ None ↦ image.dynamic_symbols | Some e ↦ e.symbols ]) none,
  record { read = read; numbers = numbers; names = λ fixed. ap texts_of_symbols symbols },
)

-- symbols that may be put in place, also after other parts were
pub symbols_still_for : (old now : Image) (o : Option EditedList) → IfSome o (AreSymbolsFor old) → now.source ≡ old.source → now.dynamic_symbol_numbers ≡ old.dynamic_symbol_numbers → now.dynamic_symbols ≡ old.dynamic_symbols
    → can_renumber now ≡ can_renumber old → IfSome o (AreSymbolsFor now)
symbols_still_for old now None h source numbers symbols can = tt
symbols_still_for old now (Some edited) h source numbers symbols can = record {
  read = λ read is_read. h.read read (ap image_of (sym source) ∙ is_read);
  numbers = h.numbers ∙ sym numbers;
  names = λ fixed. h.names (sym can ∙ fixed) ∙ sym (ap texts_of_symbols symbols);
}

-- What an edit makes of a view and of an image.
use Rattle.std.specs.Prelude.{ℕ, List, [], ◌∷◌, map, Bool, true, false, ◌||◌, Option, Some, None, unwrap_or, Result, Ok, Err, ◌==◌, ◌-◌, if◌then◌else◌, bit_and, bit_or}
use Rattle.std.specs.Option.{option_map}
use Rattle.elf_format.specs.declared.constants.TheConstants.{PF_X, PT_GNU_STACK, PT_LOAD}
use Rattle.elf_image.specs.Dynamic.{Entry}
use Rattle.elf_image.specs.Image.{Image}
use Rattle.elf_format.specs.declared.records.SegmentHeader.{SegmentHeader}
use Rattle.elf_image.specs.Leave.{spare_facts}
use Rattle.elf_image.specs.Views.{View}
use Rattle.elf_image.specs.Spare.{segments_reclaimed}
use Rattle.elf_edits.specs.declared.constants.TheConstants.{STACK_ALIGN, STACK_FLAGS}
use Rattle.elf_edits.specs.Abi.{abi_number, with_nul}
use Rattle.elf_edits.specs.Cause.{Cause, cause}
use Rattle.elf_edits.specs.Edit.{AllowDynamicMove, ClearExecStack, Edit, SetExecStack, SetInterpreter, SetOsAbi, SetPageSize, edited_entries, edited_needs, edited_symbols, touches_entries, touches_needs, touches_symbols}

-- ## Besides the dynamic list

-- the ABI byte
abbrev pub edited_abi : Edit → ℕ → ℕ
edited_abi (SetOsAbi name) old = unwrap_or (abi_number name) old
edited_abi _ old = old

-- the interpreter's bytes
abbrev pub edited_interpreter : Edit → Option (List ℕ) → Option (List ℕ)
edited_interpreter (SetInterpreter bytes) old = Some (with_nul bytes)
edited_interpreter _ old = old

-- flags without and with the permission to run (gABI, Program Header, PF_X)
abbrev pub without_run : ℕ → ℕ
without_run flags = flags - bit_and flags PF_X

abbrev pub with_run : ℕ → ℕ
with_run flags = bit_or flags PF_X

-- what an edit makes of the stack's flags, none where it leaves them
abbrev pub stack_change : Edit → Option (ℕ → ℕ)
stack_change ClearExecStack = Some without_run
stack_change SetExecStack = Some with_run
stack_change _ = None

-- the flags of the stack, which without a program header for it are those of an added one
abbrev pub stack_flags_changed : Option (ℕ → ℕ) → Option ℕ → Option ℕ
stack_flags_changed None flags = flags
stack_flags_changed (Some change) flags = Some (change (unwrap_or flags STACK_FLAGS))

-- the program header of a stack with these flags, as it is added
abbrev pub added_stack : ℕ → SegmentHeader
added_stack flags = record { p_type = PT_GNU_STACK; p_flags = flags; p_offset = 0; p_vaddr = 0; p_paddr = 0; p_filesz = 0; p_memsz = 0; p_align = STACK_ALIGN }

-- the first program header of a stack has its flags changed; without one, one is added last
unfoldable pub with_stack_changed : (ℕ → ℕ) → List SegmentHeader → List SegmentHeader
with_stack_changed change [] = added_stack (change STACK_FLAGS) ∷ []
with_stack_changed change (p ∷ ps) = if p.p_type == PT_GNU_STACK then record p { p_flags = change p.p_flags } ∷ ps else p ∷ with_stack_changed change ps

-- every loaded segment gets the alignment
abbrev pub with_align : ℕ → SegmentHeader → SegmentHeader
with_align size p = record p { p_align = if p.p_type == PT_LOAD then size else p.p_align }

abbrev pub with_load_align : ℕ → List SegmentHeader → List SegmentHeader
with_load_align size segments = map (with_align size) segments

-- the program headers, where leave is given without spare segments
abbrev pub segments_with_leave : Bool → Image → List SegmentHeader
segments_with_leave leave image = if leave then segments_reclaimed (spare_facts image) else image.segments

-- the program headers after an edit
abbrev pub edited_segments : Edit → Image → List SegmentHeader
edited_segments ClearExecStack image = with_stack_changed without_run image.segments
edited_segments SetExecStack image = with_stack_changed with_run image.segments
edited_segments (SetPageSize size) image = with_load_align size image.segments
edited_segments AllowDynamicMove image = segments_with_leave image.changed image
edited_segments _ image = image.segments

abbrev pub edited_page_size : Edit → Option ℕ → Option ℕ
edited_page_size (SetPageSize size) old = Some size
edited_page_size _ old = old

-- leave that the dynamic section moves; it is given where something was changed
abbrev pub edited_leave : Edit → Bool → Bool → Bool
edited_leave AllowDynamicMove changed old = old || changed
edited_leave _ changed old = old

-- ## Views and images

-- What is shown after an edit. `machine` is the image's, which no view shows.
abbrev pub edited_view : ℕ → Edit → View → View
edited_view machine edit view = record view {
  os_abi = edited_abi edit view.os_abi;
  stack_flags = stack_flags_changed (stack_change edit) view.stack_flags;
  interpreter = edited_interpreter edit view.interpreter;
  entries = option_map (edited_entries machine edit) view.entries;
  symbols = option_map (edited_symbols edit) view.symbols;
  needs = option_map (edited_needs edit) view.needs;
}

-- an edit of something else than the dynamic list and symbols writes it, be it with what stands there already
abbrev pub touches_rest : Edit → Bool
touches_rest (SetInterpreter bytes) = true
touches_rest (SetOsAbi name) = true
touches_rest ClearExecStack = true
touches_rest SetExecStack = true
touches_rest (SetPageSize size) = true
touches_rest _ = false

-- what is asked of the dynamic list; no without one
abbrev pub is_list_with : (List Entry → Bool) → Option (List Entry) → Bool
is_list_with test None = false
is_list_with test (Some entries) = test entries

-- Whether an edit adds, removes or writes something. An edit that finds nothing of what it looks for doesn't.
abbrev pub touches : Edit → Image → Bool
touches edit image =
    touches_rest edit || touches_symbols edit image.dynamic_symbols || touches_needs edit image.needs
    || is_list_with (touches_entries image.header.e_machine edit) image.entries

-- The image after an edit: these parts, and all others as they were.
unfoldable pub edited_image : Edit → Image → Image
edited_image edit image = record image {
  changed = image.changed || touches edit image;
  header = record image.header { os_abi = edited_abi edit image.header.os_abi };
  segments = edited_segments edit image;
  dynamic_symbols = edited_symbols edit image.dynamic_symbols;
  needs = edited_needs edit image.needs;
  entries = option_map (edited_entries image.header.e_machine edit) image.entries;
  interpreter = edited_interpreter edit image.interpreter;
  page_size = edited_page_size edit image.page_size;
  moves_dynamic = edited_leave edit image.changed image.moves_dynamic;
}

-- One edit: the image after it, or the first cause that stands against it.
unfoldable pub step : Edit → Image → Result Image Cause
step edit image = elim (cause edit image) [ None ↦ Ok (edited_image edit image) | Some reason ↦ Err reason ]

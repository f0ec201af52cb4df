-- Why an edit is refused.
use Rattle.std.specs.Prelude.{ℕ, List, [], length, Bool, false, Option, Some, None, is_none, is_some, not, ◌&&◌, ◌==◌, nat_le, if◌then◌else◌}
use Rattle.std.specs.List.{list_any}
use Rattle.std.specs.Int.{is_power_of_two}
use Rattle.elf_format.specs.declared.constants.TheConstants.{EM_MIPS, PT_GNU_STACK}
use Rattle.elf_image.specs.Dynamic.{Entry}
use Rattle.elf_image.specs.File.{segment_of_type}
use Rattle.elf_image.specs.Image.{Image}
use Rattle.elf_image.specs.Options.{first_there}
use Rattle.elf_image.specs.Renumbering.{can_renumber}
use Rattle.elf_edits.specs.declared.constants.TheConstants.{MOST_SEGMENTS, SMALLEST_PAGE}
use Rattle.elf_edits.specs.Abi.{abi_number, lowercase_name}
use Rattle.elf_edits.specs.Edit.{Edit, ClearExecStack, RenameDynamicSymbols, SetExecStack, SetInterpreter, SetOsAbi, SetPageSize, ShrinkRpath, task_of, texts_of}
use Rattle.elf_edits.specs.Entries.{is_run_path}
pub use Rattle.elf_edits.specs.Facts.{Facts}
use Rattle.elf_edits.specs.Symbols.{has_new_name, names_behind_first}
use Rattle.elf_edits.specs.Texts.{holds_nul}

-- A cause, with what its text tells.
pub data Cause : Type 0 where
  -- the machine is MIPS
  MipsImage : Cause
  -- there is no dynamic section; what was to be done
  NoDynamic : List ℕ → Cause
  -- there is no interpreter
  NoInterpreter : Cause
  -- a text that was handed in has a NUL in it
  NulInText : Cause
  -- no ABI has this name, whose ASCII letters are lowered
  UnknownAbi : List ℕ → Cause
  -- a page size that is no power of two or too small
  BadPageSize : ℕ → Cause
  -- no entry has a run path
  NoRunPath : Cause
  -- a dynamic symbol is to have another name, and hash tables or relocations can't follow
  CannotRenumber : Cause
  -- there would be more program headers than a file can have
  TooManyHeaders : Cause

abbrev pub cause_if : Bool → Cause → Option Cause
cause_if stands cause = if stands then Some cause else None

-- a power of two from the smallest page size on
abbrev pub is_page_size : ℕ → Bool
is_page_size size = is_power_of_two size && nat_le SMALLEST_PAGE size

-- a program header for the stack has to be added, and no further one can be
abbrev pub has_no_room_for_stack : Image → Bool
has_no_room_for_stack image = is_none (segment_of_type PT_GNU_STACK image.segments) && nat_le MOST_SEGMENTS (length image.segments)

-- some entry has a run path
abbrev pub lists_run_path : Option (List Entry) → Bool
lists_run_path None = false
lists_run_path (Some entries) = list_any is_run_path entries

-- The names of the dynamic symbols but the first, where hash tables or relocations can't follow when a symbol gets another one.
abbrev pub fixed_names : Image → List (List ℕ)
fixed_names image = if can_renumber image then [] else names_behind_first image.dynamic_symbols

-- What of an image causes look at.
abbrev pub facts_of : Image → Facts
facts_of image = record {
  machine = image.header.e_machine;
  has_list = is_some image.entries;
  has_run_path = lists_run_path image.entries;
  has_interpreter = is_some image.interpreter;
  is_full = has_no_room_for_stack image;
  fixed_names = fixed_names image;
}

-- the dynamic section that an edit of its list needs
abbrev pub list_missing : Option (List ℕ) → Facts → Option Cause
list_missing None facts = None
list_missing (Some task) facts = cause_if (not facts.has_list) (NoDynamic task)

-- the interpreter that is to get other bytes
abbrev pub interpreter_missing : Edit → Facts → Option Cause
interpreter_missing (SetInterpreter bytes) facts = cause_if (not facts.has_interpreter) NoInterpreter
interpreter_missing _ facts = None

-- what stands against one kind of edit alone
abbrev pub own_cause : Edit → Facts → Option Cause
own_cause (SetOsAbi name) facts = cause_if (is_none (abi_number name)) (UnknownAbi (lowercase_name name))
own_cause (SetPageSize size) facts = cause_if (not (is_page_size size)) (BadPageSize size)
own_cause (ShrinkRpath prefixes answers) facts = cause_if (not facts.has_run_path) NoRunPath
own_cause (RenameDynamicSymbols pairs) facts = cause_if (list_any (has_new_name pairs) facts.fixed_names) CannotRenumber
own_cause ClearExecStack facts = cause_if facts.is_full TooManyHeaders
own_cause SetExecStack facts = cause_if facts.is_full TooManyHeaders
own_cause _ facts = None

-- the first cause by these facts: the machine, what the edit needs and isn't there, a NUL in a text, and then what
-- stands against this edit alone
unfoldable pub first_cause : Edit → Facts → Option Cause
first_cause edit facts =
    first_there (cause_if (facts.machine == EM_MIPS) MipsImage)
    (first_there (list_missing (task_of edit) facts)
    (first_there (interpreter_missing edit facts)
    (first_there (cause_if (list_any holds_nul (texts_of edit)) NulInText)
    (own_cause edit facts))))

-- The first cause that stands against an edit of an image.
unfoldable pub cause : Edit → Image → Option Cause
cause edit image = first_cause edit (facts_of image)

-- The five edits of a list of load commands, and why an edit is refused, apart from memory.
use Rattle.std.specs.Prelude.{ℕ, List}

-- what is asked
pub data Call : Type 0 where
  add_rpath : (new : List ℕ) → Call
  change_rpath : (old new : List ℕ) → Call
  remove_rpath : (old : List ℕ) → Call
  change_install_id : (new : List ℕ) → Call
  change_install_name : (old new : List ℕ) → Call

-- why an edit is refused
pub data Cause : Type 0 where
  -- no rpath command has this text
  rpath_missing : (text : List ℕ) → Cause
  -- no command that loads a library has this text
  name_missing : (text : List ℕ) → Cause
  -- no command holds the library's own name
  id_missing : Cause
  -- the new text has its first NUL at this position
  nul_inside : (position : ℕ) → Cause
  -- the new command's size does not fit 32 bits
  too_long : Cause
  -- the new commands' end, and the greatest offset where they may end
  no_room : (needed available : ℕ) → Cause
  -- what no edit is refused by: the cause of an error that no edit answers
  unanswered : Cause

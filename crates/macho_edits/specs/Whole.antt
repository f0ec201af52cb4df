-- What holds of every list of load commands that edits of an accepted file can lead to, and of every
-- state with such a list.
use Rattle.std.specs.Prelude.{ℕ, ◌≡◌, ◌≤◌, List, length, None, All, ⊤}
use Rattle.std.specs.List.{flat_map}
use Rattle.patch_bytes.specs.declared.number.ByteOrder2.{ByteOrder2}
use Rattle.patch_bytes.specs.Bytes.{AreBytes}
use Rattle.macho_image.specs.Checks.{file_fault}
use Rattle.macho_image.specs.Command.{IsCommand, contents_of}
use Rattle.macho_image.specs.Commands.{commands_of}
use Rattle.macho_image.specs.Form.{ctx_of}
use Rattle.macho_edits.specs.Call.{Call}
use Rattle.macho_edits.specs.Call.Call.{add_rpath, change_install_id, change_install_name, change_rpath, remove_rpath}
use Rattle.macho_edits.specs.State.{State, end_of}

-- a load command, of bytes
pub record IsWhole (order : ByteOrder2) (c : List ℕ) : Type 0 where
  pub command : IsCommand order c
  pub bytes : AreBytes c

-- a list made of another one: each command is whole, and the contents that they name are the same
pub record KeepsContents (order : ByteOrder2) (old new : List (List ℕ)) : Type 0 where
  pub whole : All (IsWhole order) new
  pub contents : flat_map (contents_of order) new ≡ flat_map (contents_of order) old

-- a state that edits of an accepted file can lead to
pub record IsState (s : State) : Type 0 where
  pub accepted : file_fault s.old ≡ None
  pub bytes : AreBytes s.old
  pub whole : All (IsWhole (ctx_of s.old).le) s.list
  pub low : end_of (ctx_of s.old) s.list ≤ s.high
  pub inside : s.high ≤ length s.old
  pub contents : flat_map (contents_of (ctx_of s.old).le) s.list ≡ flat_map (contents_of (ctx_of s.old).le) (commands_of s.old)

-- the new texts of a call are bytes
abbrev pub TextsAreBytes : Call → Type 0
TextsAreBytes (add_rpath new) = AreBytes new
TextsAreBytes (change_rpath old new) = AreBytes new
TextsAreBytes (remove_rpath old) = ⊤
TextsAreBytes (change_install_id new) = AreBytes new
TextsAreBytes (change_install_name old new) = AreBytes new

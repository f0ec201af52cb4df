-- What the bytes of a state show to whoever parses them again.
use Rattle.std.specs.Prelude.{ℕ, ◌≡◌, List, length, None}
use Rattle.macho_image.specs.Checks.{file_fault}
use Rattle.macho_image.specs.Commands.{commands_of, first_content_of}
use Rattle.macho_image.specs.Form.{ctx_of}
use Rattle.macho_edits.specs.State.{State}

-- no check of them fails; they have the form of the bytes as read, the state's list of load commands, the
-- same first content, and as many bytes as were read
pub record Shows (s : State) (bytes : List ℕ) : Type 0 where
  pub accepted : file_fault bytes ≡ None
  pub form : ctx_of bytes ≡ ctx_of s.old
  pub commands : commands_of bytes ≡ s.list
  pub first : first_content_of bytes ≡ first_content_of s.old
  pub long : length bytes ≡ length s.old

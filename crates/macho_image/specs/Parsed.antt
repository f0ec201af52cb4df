-- What the fields of a parsed file are, as functions of its bytes.
use Rattle.std.specs.Prelude.{◌≡◌, None, is_some}
use Rattle.patch_bytes.specs.ByteString.{bytes_model}
use Rattle.macho_image.specs.declared.image.MachO.TheInside.{Inside}
use Rattle.macho_image.specs.Checks.{file_fault}
use Rattle.macho_image.specs.Commands.{first_content_of, load_commands_of}
use Rattle.macho_image.specs.Form.{ctx_of, header_of}
use Rattle.macho_image.specs.Image.{Image}

-- the bytes as they are now: the edited copy, or where there is none the bytes as read
abbrev pub image_of : Inside → Image
image_of m = record { bytes = bytes_model m.source.bytes m.edited; is_edited = is_some m.edited }

-- no check of the bytes fails, and each kept field is what the bytes show
pub record IsParsed (m : Inside) : Type 0 where
  pub accepted : file_fault (image_of m).bytes ≡ None
  pub form : m.ctx ≡ ctx_of (image_of m).bytes
  pub fields : m.header ≡ header_of m.ctx (image_of m).bytes
  pub commands : m.commands.items ≡ load_commands_of (image_of m).bytes
  pub first : m.first_content ≡ first_content_of (image_of m).bytes

-- A new area of load commands that waits to be stored.
use Rattle.std.specs.Prelude.{ℕ, ◌≡◌, List, Option, Some, None, if◌then◌else◌}
use Rattle.macho_image.specs.declared.format.Ctx.{Ctx}
use Rattle.macho_image.specs.Form.{ctx_of}
use Rattle.macho_image.specs.Image.{Image}

-- the form of the file that it is for, how many commands the area has, the area, and a copy of the
-- file's bytes where these weren't copied before
pub record NewArea : Type 0 where
  pub form : Ctx
  pub count : ℕ
  pub area : List ℕ
  pub copy : Option (List ℕ)

-- the copy that an image still wants: of its bytes, unless they are a copy already
abbrev pub copy_for : Image → Option (List ℕ)
copy_for image = if image.is_edited then None else Some image.bytes

-- the area was made for an image like this one, with these bytes
pub record IsMadeFor (image : Image) (count : ℕ) (area : List ℕ) (made : NewArea) : Type 0 where
  pub same_form : made.form ≡ ctx_of image.bytes
  pub same_count : made.count ≡ count
  pub same_area : made.area ≡ area
  pub same_copy : made.copy ≡ copy_for image

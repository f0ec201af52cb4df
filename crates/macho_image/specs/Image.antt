-- What a parsed file shows to its callers, and how a new list of commands is laid over its bytes.
use Rattle.std.specs.Prelude.{ℕ, ◌+◌, ◌-◌, ◌≤◌, Bool, true, false, List, ◌++◌, length, take, drop, replicate}
use Rattle.patch_bytes.specs.Number.{bytes_of}
use Rattle.macho_image.specs.declared.format.Ctx.{Ctx}
use Rattle.macho_image.specs.declared.format.TheConstants.{NCMDS_AT, SIZEOFCMDS_AT}
use Rattle.macho_image.specs.Form.{ctx_of, header_size}

-- the bytes of a parsed file, and whether they are a copy that was edited
pub record Image : Type 0 where
  pub bytes : List ℕ
  pub is_edited : Bool

-- a file as it was parsed
abbrev pub fresh_image : List ℕ → Image
fresh_image bytes = record { bytes = bytes; is_edited = false }

-- where the two counts of a header end
abbrev pub COUNTS_END : ℕ
COUNTS_END = SIZEOFCMDS_AT + 4

-- a file with another area of load commands: the header with the two counts, the area, zeros up to
-- `high`, and from there on the old bytes
unfoldable pub with_area : Ctx → List ℕ → ℕ → List ℕ → ℕ → List ℕ
with_area ctx old count area high =
    take NCMDS_AT old
    ++ (bytes_of ctx.le 4 count
    ++ (bytes_of ctx.le 4 (length area)
    ++ (take (header_size ctx.container - COUNTS_END) (drop COUNTS_END old)
    ++ (area
    ++ (replicate (high - (header_size ctx.container + length area)) 0
    ++ drop high old)))))

-- a parsed file with another area stored in it
abbrev pub stored_image : Image → ℕ → List ℕ → ℕ → Image
stored_image image count area high = record { bytes = with_area (ctx_of image.bytes) image.bytes count area high; is_edited = true }

-- the front of a parsed file with another area: behind it the bytes stay
abbrev pub front_stored : Image → ℕ → List ℕ → ℕ → List ℕ
front_stored image count area high = take high (stored_image image count area high).bytes

-- an area of so many bytes lies behind the header of a parsed file, and ends at or before this offset
abbrev pub HasRoom : Image → ℕ → ℕ → Type 0
HasRoom image size end = header_size (ctx_of image.bytes).container + size ≤ end

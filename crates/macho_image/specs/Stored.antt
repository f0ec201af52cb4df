-- A stored area of load commands: where it may lie, and the header that goes with it.
use Rattle.std.specs.Prelude.{ℕ, ◌+◌, ◌-◌, ◌^◌, ◌<◌, ◌≤◌, ◌≡◌, List, ◌++◌, length, take, drop, None}
use Rattle.patch_bytes.specs.Number.{bytes_of}
use Rattle.macho_image.specs.declared.format.Ctx.{Ctx}
use Rattle.macho_image.specs.declared.format.TheConstants.{NCMDS_AT}
use Rattle.macho_image.specs.Checks.{area_fault, file_fault}
use Rattle.macho_image.specs.Image.{COUNTS_END}
use Rattle.macho_image.specs.Form.{ctx_of, header_size}

-- an area behind the header that ends at or before `high`, and `high` in the bytes
pub record Fits (ctx : Ctx) (old area : List ℕ) (high : ℕ) : Type 0 where
  pub room : header_size ctx.container + length area ≤ high
  pub inside : high ≤ length old

-- the header's fields behind the two counts
abbrev pub fields_behind : Ctx → List ℕ → List ℕ
fields_behind ctx old = take (header_size ctx.container - COUNTS_END) (drop COUNTS_END old)

-- the header with other counts
abbrev pub header_with : Ctx → List ℕ → ℕ → ℕ → List ℕ
header_with ctx old count size =
    take NCMDS_AT old ++ (bytes_of ctx.le 4 count ++ (bytes_of ctx.le 4 size ++ fields_behind ctx old))

-- what it takes to store an area of commands over an accepted file
pub record IsStored (old : List ℕ) (count : ℕ) (area : List ℕ) (high : ℕ) : Type 0 where
  pub accepted : file_fault old ≡ None
  pub commands : area_fault (ctx_of old).le count area ≡ None
  pub counted : count < 2 ^ 32
  pub room : header_size (ctx_of old).container + length area ≤ high
  pub inside : high ≤ length old

-- What it means that a file is accepted, and where its content begins.
use Rattle.std.specs.Prelude.{ℕ, ◌≡◌, List, length, None}
use Rattle.macho_image.specs.declared.fat.FatArch.{FatArch}
use Rattle.macho_image.specs.declared.format.Ctx.{Ctx}
use Rattle.macho_image.specs.Checks.{file_fault}
use Rattle.macho_image.specs.Commands.{IsLeastOf, commands_of, first_content_of, named_contents}
use Rattle.macho_image.specs.Fat.{IsFatFile, archs_of, table_fault}
use Rattle.macho_image.specs.File.{IsFile}
use Rattle.macho_image.specs.Form.{ctx_of}

-- a file without a fault is a file of its form with its commands
abbrev pub AcceptedIsFile : Type 0
AcceptedIsFile = (bytes : List ℕ) → file_fault bytes ≡ None → IsFile bytes (ctx_of bytes) (commands_of bytes)

-- bytes have no fault, and this form and these commands
pub record ShowsCommands (bytes : List ℕ) (ctx : Ctx) (commands : List (List ℕ)) : Type 0 where
  pub accepted : file_fault bytes ≡ None
  pub form : ctx_of bytes ≡ ctx
  pub list : commands_of bytes ≡ commands

-- every file of a form with commands has no fault, and that form and those commands
abbrev pub FileIsAccepted : Type 0
FileIsAccepted = (bytes : List ℕ) (ctx : Ctx) (commands : List (List ℕ)) → IsFile bytes ctx commands → ShowsCommands bytes ctx commands

-- a table without a fault is that of a fat file, and the other way round, up to where its slices are looked into
abbrev pub AcceptedIsFatFile : Type 0
AcceptedIsFatFile = (bytes : List ℕ) → table_fault bytes ≡ None → IsFatFile bytes (archs_of bytes)

abbrev pub FatFileIsAccepted : Type 0
FatFileIsAccepted = (bytes : List ℕ) (archs : List FatArch) → IsFatFile bytes archs → (table_fault bytes ≡ None) × (archs_of bytes ≡ archs)

-- the first content is at most the length and each content that a command names, and is one of them
abbrev pub FirstContentIsLeast : Type 0
FirstContentIsLeast = (bytes : List ℕ) → IsLeastOf (first_content_of bytes) (length bytes) (named_contents bytes)

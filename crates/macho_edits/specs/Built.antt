-- A built load command: its fixed part, the text, and zeros up to a size that suits the file
-- (loader.h, `rpath_command` and `dylib_command`).
use Rattle.std.specs.Prelude.{ℕ, ◌+◌, ◌*◌, ◌-◌, ◌^◌, ◌==◌, nat_lt, List, [], ◌∷◌, ◌++◌, length, replicate, position, Option, Some, None, Result, Ok, Err, if◌then◌else◌}
use Rattle.std.specs.Int.{next_multiple_of}
use Rattle.patch_bytes.specs.declared.number.ByteOrder2.{ByteOrder2}
use Rattle.patch_bytes.specs.declared.number.Wide.{Wide}
use Rattle.patch_bytes.specs.Number.{bytes_of, word_size}
use Rattle.macho_image.specs.declared.command.DylibCommand.{DylibCommand}
use Rattle.macho_image.specs.declared.command.TheConstants.{DYLIB_COMMAND_SIZE, LC_RPATH, RPATH_COMMAND_SIZE}
use Rattle.macho_image.specs.declared.format.Ctx.{Ctx}
use Rattle.macho_edits.specs.Call.{Cause}
use Rattle.macho_edits.specs.Call.Cause.{nul_inside, too_long}

-- the bytes of fields of 32 bits, one behind the other
abbrev pub fields : ByteOrder2 → List ℕ → List ℕ
fields order [] = []
fields order (x ∷ xs) = bytes_of order 4 x ++ fields order xs

-- the size of a command with a fixed part of so many bytes and this text: behind the fixed part the
-- text and one NUL, padded to a multiple of 4, and the whole padded to a word of the file
unfoldable pub built_size : Wide → ℕ → List ℕ → ℕ
built_size wide fixed text = next_multiple_of (fixed + next_multiple_of (length text + 1) 4) (word_size wide)

-- the text behind a fixed part of so many bytes, and zeros up to the size
abbrev pub padded_text : ℕ → ℕ → List ℕ → List ℕ
padded_text size fixed text = text ++ replicate (size - (fixed + length text)) 0

-- fields, the text behind them, and zeros up to the size
abbrev pub padded_command : ByteOrder2 → List ℕ → ℕ → List ℕ → List ℕ
padded_command order numbers size text = fields order numbers ++ padded_text size (4 * length numbers) text

-- the rpath command with this text
unfoldable pub built_rpath : Ctx → List ℕ → List ℕ
built_rpath ctx text =
    fields ctx.le (LC_RPATH ∷ built_size ctx.container RPATH_COMMAND_SIZE text ∷ RPATH_COMMAND_SIZE ∷ []) ++ padded_text (built_size ctx.container RPATH_COMMAND_SIZE text) RPATH_COMMAND_SIZE text

-- the library command with this text, and with the kind and the numbers of an old one
unfoldable pub built_dylib : Ctx → List ℕ → DylibCommand → List ℕ
built_dylib ctx text old =
    fields ctx.le (old.cmd ∷ built_size ctx.container DYLIB_COMMAND_SIZE text ∷ DYLIB_COMMAND_SIZE ∷ old.dylib.timestamp ∷ old.dylib.current_version ∷ old.dylib.compatibility_version ∷ [])
    ++ padded_text (built_size ctx.container DYLIB_COMMAND_SIZE text) DYLIB_COMMAND_SIZE text

-- a command of this size with this text, or why there is none: the text's first NUL, else a size that
-- does not fit 32 bits
abbrev pub sized_command : ℕ → List ℕ → Result (List ℕ) Cause
sized_command size command = if nat_lt (2 ^ 32 - 1) size then Err too_long else Ok command

abbrev pub unless_nul : Option ℕ → Result (List ℕ) Cause → Result (List ℕ) Cause
unless_nul (Some i) built = Err (nul_inside i)
unless_nul None built = built

-- where the text's first NUL is
abbrev pub nul_position : List ℕ → Option ℕ
nul_position text = position (λ b. b == 0) text

unfoldable pub rpath_built : Ctx → List ℕ → Result (List ℕ) Cause
rpath_built ctx text = unless_nul (nul_position text) (sized_command (built_size ctx.container RPATH_COMMAND_SIZE text) (built_rpath ctx text))

unfoldable pub dylib_built : Ctx → List ℕ → DylibCommand → Result (List ℕ) Cause
dylib_built ctx text old = unless_nul (nul_position text) (sized_command (built_size ctx.container DYLIB_COMMAND_SIZE text) (built_dylib ctx text old))

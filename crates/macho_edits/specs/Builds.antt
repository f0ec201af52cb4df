-- What a builder's answer says: the command that the definitions build, with its fields, or why there is none,
-- memory apart.
use Rattle.std.specs.Prelude.{ℕ, ◌≡◌, List, Result, Ok, MatchResult}
use Rattle.std.specs.declared.alloc.Global.{Global}
use Rattle.std.specs.declared.vec.Vec.{Vec}
use Rattle.patch_bytes.specs.declared.number.Wide.{Wide}
use Rattle.macho_image.specs.declared.command.DylibCommand.{DylibCommand}
use Rattle.macho_image.specs.declared.command.RpathCommand.{RpathCommand}
use Rattle.macho_image.specs.declared.format.Ctx.{Ctx}
use Rattle.macho_image.specs.Command.{dylib_of, rpath_of}
use Rattle.macho_edits.specs.declared.commands.CommandBuilderError.{CommandBuilderError as BuilderError}
use Rattle.macho_edits.specs.Built.{built_size, dylib_built, nul_position, rpath_built, sized_command, unless_nul}
use Rattle.macho_edits.specs.Refused.{Refuses, builder_cause}

-- the size of a command with a fixed part of so many bytes and this text, of which it can be built; or why
-- none is built
abbrev pub SizesCommand : Wide → ℕ → List ℕ → Result ℕ BuilderError → Type 0
SizesCommand wide fixed text answer =
    MatchResult answer
    (λ size. (size ≡ built_size wide fixed text) × ((c : List ℕ) → unless_nul (nul_position text) (sized_command size c) ≡ Ok c))
    (λ e. (c : List ℕ) → Refuses (builder_cause e) (unless_nul (nul_position text) (sized_command (built_size wide fixed text) c)))

abbrev pub BuildsRpath : Ctx → List ℕ → Result (RpathCommand × Vec ℕ Global) BuilderError → Type 0
BuildsRpath ctx text answer =
    MatchResult answer
    (λ built. (rpath_built ctx text ≡ Ok built.1.items) × (built.0 ≡ rpath_of ctx.le built.1.items))
    (λ e. Refuses (builder_cause e) (rpath_built ctx text))

abbrev pub BuildsDylib : Ctx → List ℕ → DylibCommand → Result (DylibCommand × Vec ℕ Global) BuilderError → Type 0
BuildsDylib ctx text old answer =
    MatchResult answer
    (λ built. (dylib_built ctx text old ≡ Ok built.1.items) × (built.0 ≡ dylib_of ctx.le built.1.items))
    (λ e. Refuses (builder_cause e) (dylib_built ctx text old))

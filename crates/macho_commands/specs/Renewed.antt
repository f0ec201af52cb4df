-- What a command makes of a store that it edits by fronts alone, where these are enough.
use Rattle.std.specs.Prelude.{ℕ, List, None, Option, Some, string_bytes}
use Rattle.std.specs.declared.alloc.Global.{Global}
use Rattle.std.specs.declared.string.String.{String}
use Rattle.byte_store.specs.Known.{Stays}
use Rattle.command_words.specs.declared.noting.Notes.{Notes}
use Rattle.macho_commands.specs.Meaning.{MachoMeaning}
use Rattle.macho_commands.specs.Notes.{TellsWantedAt}
use Rattle.macho_commands.specs.Stores.{Patched}
use Rattle.macho_commands.specs.declared.signing.Signing.{Signing}

-- the bytes are patched and the line is told; or they stay, where there is none
abbrev pub PatchesOr : Signing → MachoMeaning → Notes → Option (List ℕ) → Option (List ℕ) → Option (String Global) → Type 0
PatchesOr choice meaning notes old new None = Stays old new
PatchesOr choice meaning notes old new (Some told) = Patched choice meaning old new × TellsWantedAt choice meaning notes old (string_bytes told)

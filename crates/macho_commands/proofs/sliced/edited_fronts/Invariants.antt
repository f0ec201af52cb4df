-- What was made so far is what edits make of the fronts so far.
use Rattle.std.proofs.Common.{map, string_bytes, take}
use Rattle.byte_store.specs.Composed.{owned_patches}
use Rattle.macho_commands.specs.Engine.{asked}
use Rattle.macho_commands.specs.Meaning.{file_of, macho_command_model}
use Rattle.macho_commands.specs.Sliced.{MakesEdited, MakesFronts, TellsFronts}
use Rattle.macho_commands.proofs.sliced.edited_fronts.Given as goal

abbrev pub invariant-loop-front : goal.invariant-loop-front
invariant-loop-front l = record {
  makes : MakesFronts (asked (macho_command_model l.command)) (take l.front-index l.fronts) (owned_patches l.pieces.items);
  edited : MakesEdited (asked (macho_command_model l.command)) (take l.front-index l.fronts) (map (λ new. new.items) l.edited.items) (owned_patches l.pieces.items);
  told : TellsFronts l.notes (file_of (macho_command_model l.command)) (take l.front-index l.fronts) (string_bytes l.text);
}

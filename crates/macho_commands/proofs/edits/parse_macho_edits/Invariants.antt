use Rattle.std.proofs.Common.{◌≡◌, length}
use Rattle.macho_edits.specs.Batch.{calls_of}
use Rattle.macho_commands.specs.Edits.{macho_group_edit}
use Rattle.command_words.proofs.ForCallers.{IsReadTo}
use Rattle.macho_commands.proofs.edits.parse_macho_edits.Given as goal

abbrev pub invariant-loop-group : goal.invariant-loop-group
invariant-loop-group l = record {
  counted : length l.edits.items ≡ length l.yielded;
  read : IsReadTo macho_group_edit l.words (length l.edits.items) (calls_of l.edits.items);
}

use Rattle.std.proofs.Common.{◌≡◌, drop, slice_get}
use Rattle.std.specs.List.{filter_map}
use Rattle.macho_edits.specs.Patched.{as_id}
use Rattle.macho_edits.proofs.patcher.find_dylib_id.Given as goal

abbrev pub invariant-loop-command : goal.invariant-loop-command
invariant-loop-command l = slice_get (filter_map as_id (drop l.command-index l.commands)) 0 ≡ slice_get (filter_map as_id l.commands) 0

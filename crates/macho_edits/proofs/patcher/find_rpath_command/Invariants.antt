use Rattle.std.proofs.Common.{◌≡◌, drop, slice_get}
use Rattle.std.specs.List.{filter_map}
use Rattle.macho_edits.specs.Patched.{as_rpath}
use Rattle.macho_edits.proofs.patcher.find_rpath_command.Given as goal

abbrev pub invariant-loop-command : goal.invariant-loop-command
invariant-loop-command l = slice_get (filter_map as_rpath (drop l.command-index l.commands)) l.left ≡ slice_get (filter_map as_rpath l.commands) l.index

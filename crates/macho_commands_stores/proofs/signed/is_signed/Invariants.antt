use Rattle.std.proofs.Common.{◌≡◌, drop}
use Rattle.std.specs.List.{list_any}
use Rattle.macho_image.specs.Commands.{load_commands_of}
use Rattle.macho_commands_stores.specs.Signed.{is_signature}
use Rattle.macho_commands_stores.proofs.signed.is_signed.Given as goal

-- no command so far tells of a signature
abbrev pub invariant-loop-command : goal.invariant-loop-command
invariant-loop-command l = list_any is_signature (drop l.command-index l.command-items) ≡ list_any is_signature (load_commands_of l.macho.bytes)

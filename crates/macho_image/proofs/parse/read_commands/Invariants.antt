-- What was made so far and what is left give all.
use Rattle.std.proofs.Common.{◌≡◌, ◌+◌, ◌-◌, ◌++◌, length}
use Rattle.std.specs.List.{flat_map}
use Rattle.macho_image.specs.Checks.{area_fault}
use Rattle.macho_image.specs.Command.{contents_of}
use Rattle.macho_image.specs.Commands.{cut_commands, least, located_commands}
use Rattle.macho_image.proofs.parse.read_commands.Given as goal

abbrev pub invariant-loop-i : goal.invariant-loop-i
invariant-loop-i l = record {
  place : l.offset + length l.rest ≡ l.start + length l.fn.area;
  checked : area_fault l.order (l.count - l._i) l.rest ≡ area_fault l.order l.count l.fn.area;
  listed : l.commands.items ++ located_commands l.order l.offset (cut_commands l.order (l.count - l._i) l.rest) ≡ located_commands l.order l.start (cut_commands l.order l.count l.fn.area);
  lowered : least l.first_content (flat_map (contents_of l.order) (cut_commands l.order (l.count - l._i) l.rest)) ≡ least l.limit (flat_map (contents_of l.order) (cut_commands l.order l.count l.fn.area));
}

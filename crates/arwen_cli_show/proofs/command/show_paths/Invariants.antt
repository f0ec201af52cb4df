use Rattle.std.proofs.Common.{◌≡◌, ◌<◌, false, map, string_bytes, take}
use Rattle.arwen_cli_show.specs.Command.{AreShown, TellingAt}
use Rattle.arwen_cli_show.proofs.command.show_paths.Given as goal

-- the writers got what is told of the files so far
abbrev pub invariant-loop-path : goal.invariant-loop-path
invariant-loop-path g l = record {
  shown : AreShown (TellingAt (g.F.FileBytes.may_fail l.files) (g.F.FileBytes.contents l.files) l.style) (map string_bytes (take l.path-index l.paths)) l.are_all
      (g.W.Write.contents l.initial.out) (g.W.Write.contents l.out) (g.E.Write.contents l.initial.err) (g.E.Write.contents l.err);
  some : l.are_all ≡ false → 0 < l.path-index;
}

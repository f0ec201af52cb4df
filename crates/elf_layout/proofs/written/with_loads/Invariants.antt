use Rattle.std.proofs.Common.{◌≡◌, ◌++◌, count_by, drop}
use Rattle.elf_format.specs.File.{is_loaded}
use Rattle.elf_layout_plan.specs.Written.{behind_last_load}
use Rattle.elf_layout.proofs.written.with_loads.Given as goal

abbrev pub invariant-loop-p : goal.invariant-loop-p
invariant-loop-p l = record {
  whole : l.made.items ++ behind_last_load l.loads (drop l.p-index l.headers) ≡ behind_last_load l.loads l.headers;
  left : l.left ≡ count_by is_loaded (drop l.p-index l.headers);
}

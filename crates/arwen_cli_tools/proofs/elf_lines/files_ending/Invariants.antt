use Rattle.std.proofs.Common.{Bor, drop}
use Rattle.std.specs.Prelude.{option_map}
use Rattle.arwen_cli_patchelf.specs.Counted.{sink_failures, sink_inner}
use Rattle.arwen_cli_patchelf.specs.Plans.{plan_model}
use Rattle.arwen_cli_options.specs.Options.{Text}
use Rattle.arwen_cli_tools.specs.Answered.{IsAnswered, known_files, known_outputs}
use Rattle.arwen_cli_tools.proofs.RunLaws.{Leads}
use Rattle.arwen_cli_tools.proofs.elf_lines.files_ending.Given as goal

-- what is done of the files that are left, and where they stop, is so of all
abbrev pub invariant-loop-path : goal.invariant-loop-path
invariant-loop-path g l = Leads g.W.Write.contents g.W.CountedWrite.failed (g.P.Probe.may_find l.probe) l.prints (plan_model l.plan) (g.F.Opens.contents l.files)
    (IsAnswered (known_files (g.F.Opens.contents l.files) (g.F.Opens.may_fail l.files) g.F.Opened.Store.may_fail_read g.F.Opened.Store.may_fail_write g.F.Opened.Store.may_take_none g.F.Opened.Store.failed)
    (known_outputs (g.C.Creates.may_fail l.outputs) g.C.Creates.is_new g.C.Created.Write.contents sink_inner sink_failures) (g.P.Probe.may_find l.probe) (plan_model l.plan) (option_map (λ (path : Bor Text). path.now) l.output))
    l.paths l.initial.out (drop l.path-index l.paths) l.out

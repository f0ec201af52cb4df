-- The file of which not all is done is the one that is told.
use Rattle.std.proofs.Common.{Bor, ap, string_bytes, ◌∙◌}
use Rattle.std.specs.Prelude.{option_map}
use Rattle.arwen_cli_patchelf.specs.Counted.{sink_failures, sink_inner}
use Rattle.arwen_cli_patchelf.specs.ElfCommandError.{ElfCommandError}
use Rattle.arwen_cli_patchelf.specs.Plans.{plan_model}
use Rattle.arwen_cli_options.specs.Options.{Text}
use Rattle.arwen_cli_tools.specs.Answered.{IsAnswered, known_files, known_outputs}
use Rattle.arwen_cli_tools.proofs.RunLaws.{ends_by, one_more, stops_here}
use Rattle.arwen_cli_tools.proofs.elf_lines.files_ending.Goals as goal

pub returns-in-Err : goal.returns-in-Err
returns-in-Err g c =
    let answered : Text → ElfCommandError → Type 0 = (IsAnswered (known_files (g.F.Opens.contents c.args.files.now) (g.F.Opens.may_fail c.args.files.now) g.F.Opened.Store.may_fail_read g.F.Opened.Store.may_fail_write g.F.Opened.Store.may_take_none g.F.Opened.Store.failed)
    (known_outputs (g.C.Creates.may_fail c.args.outputs.now) g.C.Creates.is_new g.C.Created.Write.contents sink_inner sink_failures) (g.P.Probe.may_find c.args.probe.now) (plan_model c.args.plan.now) (option_map (λ (path : Bor Text). path.now) c.args.output)) in
    ends_by g.W.Write.contents g.W.CountedWrite.failed (g.P.Probe.may_find c.args.probe.now) c.args.prints.now (plan_model c.args.plan.now) (g.F.Opens.contents c.args.files.now) answered c.args.paths.now c.args.out.now (g.B.FileBytes.contents c.args.reader.now)
    c.fault_ending.result c.as_str-path.result.now c.run_file.new.out c.in-Err.error c.fault_ending.ensures
    (stops_here g.W.Write.contents g.W.CountedWrite.failed (g.P.Probe.may_find c.args.probe.now) c.args.prints.now (plan_model c.args.plan.now) (g.F.Opens.contents c.args.files.now) answered c.args.paths.now c.args.out.now
    c.loop-path.path-index c.path-item.result c.as_str-path.result.now c.loop-path.out c.run_file.new.out c.in-Err.error c.loop-path-test.true
    (c.as_str-path.ensures.value ∙ ap string_bytes c.path-item.is) c.loop-path.invariant c.in-Err.ensures.stopped)

pub loop-path-preserved : goal.loop-path-preserved
loop-path-preserved g c =
    let answered : Text → ElfCommandError → Type 0 = (IsAnswered (known_files (g.F.Opens.contents c.args.files.now) (g.F.Opens.may_fail c.args.files.now) g.F.Opened.Store.may_fail_read g.F.Opened.Store.may_fail_write g.F.Opened.Store.may_take_none g.F.Opened.Store.failed)
    (known_outputs (g.C.Creates.may_fail c.args.outputs.now) g.C.Creates.is_new g.C.Created.Write.contents sink_inner sink_failures) (g.P.Probe.may_find c.args.probe.now) (plan_model c.args.plan.now) (option_map (λ (path : Bor Text). path.now) c.args.output)) in
    one_more g.W.Write.contents g.W.CountedWrite.failed (g.P.Probe.may_find c.args.probe.now) c.args.prints.now (plan_model c.args.plan.now) (g.F.Opens.contents c.args.files.now) answered c.args.paths.now c.args.out.now
    c.loop-path.path-index c.path-item.result c.as_str-path.result.now c.loop-path.out c.run_file.new.out c.loop-path-test.true
    (c.as_str-path.ensures.value ∙ ap string_bytes c.path-item.is) c.loop-path.invariant c.in-Ok.ensures.done

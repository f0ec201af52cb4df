-- A line gives a pair, ends the map, or is the first that is wrong.
use Rattle.std.proofs.Common.{Bor, []}
use Rattle.arwen_cli_options.specs.Options.{Text}
use Rattle.arwen_cli_patchelf_lines.proofs.MapLaws.{all_read, ends_here, one_read, wrong_here}
use Rattle.arwen_cli_patchelf_lines.proofs.name_maps.put_pairs.Goals as goal

abbrev none : Bor Text
none = record { ref_ptr = (0, 0); now = [] }

pub loop-i-preserved : goal.loop-i-preserved
loop-i-preserved c = one_read c.args.lines.now c.loop-i.i c.loop-i.pairs.items _ c.loop-i.invariant none c.as_slice.result.now c.in_ok-pair_in.field-0
    c.loop-i-test.true c.as_slice.ensures.value c.in_ok-pair_in.ensures c.in-Some-Ok.pair c.in-Some-Ok.field-0 c.push.new.self.items
    c.in-Some-Ok.is c.in-Some-Ok.field-0-is c.in_ok-push-in-Some-Ok.ensures.items

pub returns-in-None-clause-ok : goal.returns-in-None-clause-ok
returns-in-None-clause-ok c = ends_here c.args.lines.now c.loop-i.i c.loop-i.pairs.items _ c.loop-i.invariant none c.as_slice.result.now c.in_ok-pair_in.field-0
    c.loop-i-test.true c.as_slice.ensures.value c.in_ok-pair_in.ensures c.in-None.is

pub returns-in-Some-Err-clause-err : goal.returns-in-Some-Err-clause-err
returns-in-Some-Err-clause-err c = wrong_here c.args.lines.now c.loop-i.i c.loop-i.pairs.items _ c.loop-i.invariant none c.as_slice.result.now c.in_ok-pair_in.field-0
    c.loop-i-test.true c.as_slice.ensures.value c.in_ok-pair_in.ensures c.in-Some-Err.wrong c.in-Some-Err.field-0 c.in-Some-Err.is c.in-Some-Err.field-0-is

pub returns-clause-ok : goal.returns-clause-ok
returns-clause-ok c = all_read c.args.lines.now c.loop-i.i c.loop-i.pairs.items _ c.loop-i.invariant c.loop-i-test.false

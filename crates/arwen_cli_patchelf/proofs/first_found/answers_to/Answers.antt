-- The answer for one more pair.
use Rattle.std.proofs.Common.{Bor, List, [], get_or, map, string_bytes}
use Rattle.std.specs.HashSet.{keys}
use Rattle.std.proofs.lemmas.List.{get_or_default}
use Rattle.arwen_cli_options.specs.Options.{Text}
use Rattle.arwen_cli_patchelf.proofs.FirstSteps.{answers_more, set_more}
use Rattle.arwen_cli_patchelf.proofs.first_found.answers_to.Goals as goal

pub loop-directory-preserved : goal.loop-directory-preserved
loop-directory-preserved g c =
    let finds = g.P.Probe.may_find c.args.probe.now in
    let prefixes : List Text = map string_bytes c.args.prefixes.now in
    let pairs = c.args.questions.now in
    let i = c.loop-directory.directory-index in
    let pair : Bor Text × Bor Text = get_or pairs i (record { ref_ptr = (0, 0); now = [] }, record { ref_ptr = (0, 0); now = [] }) in
    let here = c.loop-directory-test.true in
    record {
      given = answers_more finds prefixes c.args.machine pairs i pair c.loop-directory.answers.items c.push.new.self.items c.in_ok-answer.answer c.has-is_settled.result c.in_ok-push.ensures.items (keys c.loop-directory.settled)
          c.loop-directory.invariant.settled c.in_ok-answer.ensures here (get_or_default pairs i _ pair here) c.has-is_settled.ensures c.loop-directory.invariant.given;
      settled = set_more finds prefixes c.args.machine pairs i pair c.loop-directory.answers.items c.push.new.self.items c.in_ok-answer.answer c.has-is_settled.result c.in_ok-push.ensures.items (keys c.loop-directory.settled)
          c.loop-directory.invariant.settled c.in_ok-answer.ensures (keys c.put_if.new.set) c.is_found.result c.is_found.ensures c.in_ok-put_if.ensures;
    }

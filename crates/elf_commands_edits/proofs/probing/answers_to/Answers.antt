-- The answer for one more pair.
use Rattle.std.proofs.Common.{Bor, [], get_or}
use Rattle.std.proofs.lemmas.List.{get_or_default}
use Rattle.command_words.specs.Rows.{Text}
use Rattle.elf_commands_edits.specs.Shrinking.{IsFound}
use Rattle.elf_commands_edits.proofs.Answered.{asked_more, found_more}
use Rattle.elf_commands_edits.proofs.probing.answers_to.Goals as goal

pub loop-directory-preserved : goal.loop-directory-preserved
loop-directory-preserved g c =
    let pairs = c.args.questions.now in
    let i = c.loop-directory.directory-index in
    let pair : Bor Text × Bor Text = get_or pairs i (record { ref_ptr = (0, 0); now = [] }, record { ref_ptr = (0, 0); now = [] }) in
    let here = c.loop-directory-test.true in
    record {
      asked = asked_more pairs i pair c.loop-directory.answers.items c.push.new.self.items c.in_ok-answer_to.field-0 c.in_ok-push.ensures.items here (get_or_default pairs i _ pair here) c.loop-directory.invariant.asked c.in_ok-answer_to.ensures.0;
      found = found_more pairs i pair c.loop-directory.answers.items c.push.new.self.items c.in_ok-answer_to.field-0 c.in_ok-push.ensures.items (IsFound (g.P.Probe.may_find c.args.probe.now)) c.loop-directory.invariant.found c.in_ok-answer_to.ensures.1;
    }

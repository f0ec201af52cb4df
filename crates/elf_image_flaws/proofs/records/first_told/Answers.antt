-- One record after another.
use Rattle.std.proofs.Common.{◌≤◌, ◌+◌, ◌-◌, ◌*◌, ◌/◌, ℕ, List, length, sym, ap, ◌∙◌, subst}
use Rattle.std.proofs.lemmas.List.{length-drop}
use Rattle.elf_format.specs.Form.{records}
use Rattle.elf_format.proofs.ForCallers.TableSteps.{rest_left}
use Rattle.elf_image_flaws.specs.Flaws.{first_told}
use Rattle.elf_image_flaws.proofs.FlawSteps.{told_done, told_goes, told_here}
use Rattle.elf_image_flaws.proofs.records.first_told.Goals as goal

pub returns-in-Some : goal.returns-in-Some
returns-in-Some g c =
    let told = g.T.RecordTest.told c.args.test.now in
    told_here told c.args.size (length c.args.bytes.now / c.args.size) c.loop-number.number c.loop-number.rest.now c.in-Some.flaw _ c.loop-number-test.true
    (sym (ap (told c.loop-number.number) c.split_at.ensures.front) ∙ sym c.in-Some.ensures) c.loop-number.invariant.same

pub loop-number-preserved : goal.loop-number-preserved
loop-number-preserved g c =
    let told = g.T.RecordTest.told c.args.test.now in
    let size : ℕ = c.args.size in
    let count : ℕ = length c.args.bytes.now / size in
    let rest : List ℕ = c.loop-number.rest.now in
    let left : ℕ = count - (c.loop-number.number + 1) in
    let room : left * size ≤ length rest - size = rest_left count c.loop-number.number size (length rest) c.loop-number-test.true c.loop-number.invariant.room in
    record {
      room = subst (λ b. left * size ≤ length b) (sym c.split_at.ensures.back) (subst (λ n. left * size ≤ n) (sym (length-drop size rest)) room);
      same = ap (λ b. first_told told (c.loop-number.number + 1) (records (λ r. r) size left b)) c.split_at.ensures.back
          ∙ told_goes told size count c.loop-number.number rest _ c.loop-number-test.true (sym (ap (told c.loop-number.number) c.split_at.ensures.front) ∙ sym c.told.ensures ∙ c.in_default.is) c.loop-number.invariant.same;
    }

pub returns : goal.returns
returns g c =
    told_done (g.T.RecordTest.told c.args.test.now) c.args.size (length c.args.bytes.now / c.args.size) c.loop-number.number c.loop-number.rest.now _ c.loop-number-test.false c.loop-number.invariant.same

-- One record after another.
use Rattle.std.proofs.Common.{◌≡◌, ◌≤◌, ◌+◌, ◌-◌, ◌*◌, ◌++◌, ◌∷◌, [], ℕ, List, length, take, sym, ap, ◌∙◌, subst}
use Rattle.std.proofs.lemmas.List.{length-drop}
use Rattle.elf_format.specs.Form.{records}
use Rattle.elf_format.proofs.TableSteps.{records_done, records_goes, rest_left}
use Rattle.elf_format.proofs.tables.read_records.Goals as goal

pub loop-preserved : goal.loop-preserved
loop-preserved g c =
    let size : ℕ = c.args.size in
    let rest : List ℕ = c.loop.rest.now in
    let decode = g.R.Record.decode c.args.form in
    let left : ℕ = c.args.count - (c.loop.counter + 1) in
    let pushed : c.push.new.self.items ≡ c.loop.made.items ++ decode (take size rest) ∷ [] =
    c.in_ok-push.ensures.items ∙ ap (λ r. c.loop.made.items ++ r ∷ []) (c.read.ensures ∙ ap decode c.split_at.ensures.front) in
    let room : left * size ≤ length rest - size = rest_left c.args.count c.loop.counter size (length rest) c.loop-test.true c.loop.invariant.room in
    record {
      room = subst (λ b. left * size ≤ length b) (sym c.split_at.ensures.back) (subst (λ n. left * size ≤ n) (sym (length-drop size rest)) room);
      made = ap (λ m. m ++ records decode size left c.split_at.result.1.now) pushed
          ∙ ap (λ b. (c.loop.made.items ++ decode (take size rest) ∷ []) ++ records decode size left b) c.split_at.ensures.back
          ∙ records_goes decode size c.loop.made.items c.args.count c.loop.counter rest (records decode size c.args.count c.args.bytes.now) c.loop-test.true c.loop.invariant.made;
    }

pub returns : goal.returns
returns g c =
    let decode = g.R.Record.decode c.args.form in
    records_done decode c.args.size c.loop.made.items c.args.count c.loop.counter c.loop.rest.now (records decode c.args.size c.args.count c.args.bytes.now) c.loop-test.false c.loop.invariant.made

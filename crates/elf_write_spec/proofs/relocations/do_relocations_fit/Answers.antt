-- One relocation after another.
use Rattle.std.proofs.Common.{ℕ, length, sym, ap, ◌∙◌, subst}
use Rattle.std.specs.Prelude.{IsTrue, nat_lt}
use Rattle.elf_format.specs.Records.{Relocation}
use Rattle.elf_write_spec.specs.Renumbered.{do_relocations_fit, does_relocation_fit, is_symbol_below, new_symbol, symbol_limit}
use Rattle.elf_write_spec.proofs.EntryLaws.{symbol_of}
use Rattle.elf_write_spec.proofs.TableSteps.{Turn, at_end, count_of, first_decides, none_fails, others_decide, passes, room_left, turn}
use Rattle.elf_write_spec.proofs.relocations.do_relocations_fit.Goals as goal

pub does_symbol_fit-requires : goal.does_symbol_fit-requires
does_symbol_fit-requires c =
    let turned : Turn c.args.form c.args.kind c.loop.counter c.args.content.now c.loop.rest.now c.split_at.result.0.now c.split_at.result.1.now =
    turn c.args.form c.args.kind c.loop.counter c.relocation_size-size.result c.args.content.now c.loop.rest.now c.split_at.result.0.now c.split_at.result.1.now
    c.relocation_size-size.ensures.value c.loop-test.true c.split_at.ensures.front c.split_at.ensures.back in
    let named = passes c.args.form c.args.kind c.loop.counter c.args.content.now c.loop.rest.now c.split_at.result.0.now c.split_at.result.1.now turned
    (λ (x : Relocation). is_symbol_below (length c.args.numbers.now) x.r_symbol) c.loop.invariant.named in
    subst (λ (n : ℕ). IsTrue (is_symbol_below (length c.args.numbers.now) n)) (symbol_of c.args.form c.args.kind c.split_at.result.0.now) named.0

pub returns-then-not-does_symbol_fit : goal.returns-then-not-does_symbol_fit
returns-then-not-does_symbol_fit c =
    let turned : Turn c.args.form c.args.kind c.loop.counter c.args.content.now c.loop.rest.now c.split_at.result.0.now c.split_at.result.1.now =
    turn c.args.form c.args.kind c.loop.counter c.relocation_size-size.result c.args.content.now c.loop.rest.now c.split_at.result.0.now c.split_at.result.1.now
    c.relocation_size-size.ensures.value c.loop-test.true c.split_at.ensures.front c.split_at.ensures.back in
    first_decides c.args.form c.args.kind c.loop.counter c.args.content.now c.loop.rest.now c.split_at.result.0.now c.split_at.result.1.now turned
    (does_relocation_fit c.args.form c.args.numbers.now) (do_relocations_fit c.args.form c.args.kind c.args.numbers.now c.args.content.now)
    (ap (λ (n : ℕ). nat_lt (new_symbol c.args.numbers.now n) (symbol_limit c.args.form)) (symbol_of c.args.form c.args.kind c.split_at.result.0.now)
    ∙ sym c.does_symbol_fit.ensures ∙ c.if-not-does_symbol_fit.true)
    c.loop.invariant.fit

pub loop-preserved : goal.loop-preserved
loop-preserved c =
    let turned : Turn c.args.form c.args.kind c.loop.counter c.args.content.now c.loop.rest.now c.split_at.result.0.now c.split_at.result.1.now =
    turn c.args.form c.args.kind c.loop.counter c.relocation_size-size.result c.args.content.now c.loop.rest.now c.split_at.result.0.now c.split_at.result.1.now
    c.relocation_size-size.ensures.value c.loop-test.true c.split_at.ensures.front c.split_at.ensures.back in
    record {
      room = room_left c.args.form c.args.kind c.loop.counter c.args.content.now c.loop.rest.now c.split_at.result.0.now c.split_at.result.1.now turned c.loop.invariant.room;
      named = (passes c.args.form c.args.kind c.loop.counter c.args.content.now c.loop.rest.now c.split_at.result.0.now c.split_at.result.1.now turned (λ (x : Relocation). is_symbol_below (length c.args.numbers.now) x.r_symbol) c.loop.invariant.named).1;
      fit =
          others_decide c.args.form c.args.kind c.loop.counter c.args.content.now c.loop.rest.now c.split_at.result.0.now c.split_at.result.1.now turned
          (does_relocation_fit c.args.form c.args.numbers.now) (do_relocations_fit c.args.form c.args.kind c.args.numbers.now c.args.content.now)
          (ap (λ (n : ℕ). nat_lt (new_symbol c.args.numbers.now n) (symbol_limit c.args.form)) (symbol_of c.args.form c.args.kind c.split_at.result.0.now)
          ∙ sym c.does_symbol_fit.ensures ∙ c.if-not-does_symbol_fit.false)
          c.loop.invariant.fit;
    }

pub returns : goal.returns
returns c =
    let past = at_end c.args.form c.args.kind c.loop.counter c.relocation_size-size.result c.args.content.now c.relocation_size-size.ensures.value c.loop-test.false in
    sym (none_fails (does_relocation_fit c.args.form c.args.numbers.now) c.args.form c.args.kind (count_of c.args.form c.args.kind c.args.content.now) c.loop.counter c.loop.rest.now past) ∙ c.loop.invariant.fit

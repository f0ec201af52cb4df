-- One relocation after another, and what lies behind the last one.
use Rattle.std.proofs.Common.{◌≡◌, ℕ, ◌<◌, Bool, List, length, sym, ◌∙◌, subst}
use Rattle.std.specs.Prelude.{IsTrue}
use Rattle.std.specs.List.{list_all}
use Rattle.std.proofs.lemmas.Bool.{ltb-true}
use Rattle.elf_format.specs.Form.{records}
use Rattle.elf_format.specs.Records.{Relocation, relocation, relocation_size}
use Rattle.elf_write_spec.specs.Renumbered.{AreRenumbered, does_relocation_fit, is_symbol_below, new_symbol, symbol_limit}
use Rattle.elf_write_spec.proofs.EntryLaws.{symbol_of, two_words_there}
use Rattle.elf_write_spec.proofs.TableSteps.{Turn, all_there, at_end, changed_bytes, count_of, from_start, made-ends, made-goes, made-starts, passes, renumbered-changed, room_left, turn}
use Rattle.elf_write_spec.proofs.relocations.renumber.Goals as goal

pub loop-init : goal.loop-init
loop-init c =
    let size : ℕ = relocation_size c.args.form c.args.kind in
    let content : List ℕ = c.args.content.now in
    let all = λ (test : Relocation → Bool). from_start (λ (n : ℕ). list_all test (records (relocation c.args.form c.args.kind) size n content)) (count_of c.args.form c.args.kind content) in
    record {
      room = all_there size (length content);
      named = all (λ (x : Relocation). is_symbol_below (length c.args.numbers.now) x.r_symbol) ∙ c.requires.named;
      fit = all (does_relocation_fit c.args.form c.args.numbers.now) ∙ c.requires.fit;
      made = made-starts c.args.form c.args.kind c.args.numbers.now content c.in_ok-bytes.bytes.items c.in_ok-bytes.ensures.items;
    }

pub push_renumbered-requires-clause-long : goal.push_renumbered-requires-clause-long
push_renumbered-requires-clause-long c =
    let whole : length c.split_at.result.0.now ≡ relocation_size c.args.form c.args.kind = c.split_at.ensures.front_len ∙ c.relocation_size-size.ensures.value in
    two_words_there c.args.form c.args.kind c.split_at.result.0.now whole

pub push_renumbered-requires-clause-named : goal.push_renumbered-requires-clause-named
push_renumbered-requires-clause-named c =
    let turned : Turn c.args.form c.args.kind c.loop.counter c.args.content.now c.loop.rest.now c.split_at.result.0.now c.split_at.result.1.now =
    turn c.args.form c.args.kind c.loop.counter c.relocation_size-size.result c.args.content.now c.loop.rest.now c.split_at.result.0.now c.split_at.result.1.now
    c.relocation_size-size.ensures.value c.loop-test.true c.split_at.ensures.front c.split_at.ensures.back in
    let named = passes c.args.form c.args.kind c.loop.counter c.args.content.now c.loop.rest.now c.split_at.result.0.now c.split_at.result.1.now turned
    (λ (x : Relocation). is_symbol_below (length c.args.numbers.now) x.r_symbol) c.loop.invariant.named in
    subst (λ (n : ℕ). IsTrue (is_symbol_below (length c.args.numbers.now) n)) (symbol_of c.args.form c.args.kind c.split_at.result.0.now) named.0

pub push_renumbered-requires-clause-fits : goal.push_renumbered-requires-clause-fits
push_renumbered-requires-clause-fits c =
    let turned : Turn c.args.form c.args.kind c.loop.counter c.args.content.now c.loop.rest.now c.split_at.result.0.now c.split_at.result.1.now =
    turn c.args.form c.args.kind c.loop.counter c.relocation_size-size.result c.args.content.now c.loop.rest.now c.split_at.result.0.now c.split_at.result.1.now
    c.relocation_size-size.ensures.value c.loop-test.true c.split_at.ensures.front c.split_at.ensures.back in
    let fit = passes c.args.form c.args.kind c.loop.counter c.args.content.now c.loop.rest.now c.split_at.result.0.now c.split_at.result.1.now turned
    (does_relocation_fit c.args.form c.args.numbers.now) c.loop.invariant.fit in
    subst (λ (n : ℕ). new_symbol c.args.numbers.now n < symbol_limit c.args.form) (symbol_of c.args.form c.args.kind c.split_at.result.0.now)
    (ltb-true (new_symbol c.args.numbers.now (relocation c.args.form c.args.kind c.split_at.result.0.now).r_symbol) (symbol_limit c.args.form) fit.0)

pub loop-preserved : goal.loop-preserved
loop-preserved c =
    let turned : Turn c.args.form c.args.kind c.loop.counter c.args.content.now c.loop.rest.now c.split_at.result.0.now c.split_at.result.1.now =
    turn c.args.form c.args.kind c.loop.counter c.relocation_size-size.result c.args.content.now c.loop.rest.now c.split_at.result.0.now c.split_at.result.1.now
    c.relocation_size-size.ensures.value c.loop-test.true c.split_at.ensures.front c.split_at.ensures.back in
    record {
      room = room_left c.args.form c.args.kind c.loop.counter c.args.content.now c.loop.rest.now c.split_at.result.0.now c.split_at.result.1.now turned c.loop.invariant.room;
      named = (passes c.args.form c.args.kind c.loop.counter c.args.content.now c.loop.rest.now c.split_at.result.0.now c.split_at.result.1.now turned (λ (x : Relocation). is_symbol_below (length c.args.numbers.now) x.r_symbol) c.loop.invariant.named).1;
      fit = (passes c.args.form c.args.kind c.loop.counter c.args.content.now c.loop.rest.now c.split_at.result.0.now c.split_at.result.1.now turned (does_relocation_fit c.args.form c.args.numbers.now) c.loop.invariant.fit).1;
      made =
          made-goes c.args.form c.args.kind c.args.numbers.now c.args.content.now c.loop.counter c.loop.rest.now c.split_at.result.0.now c.split_at.result.1.now c.loop.bytes.items
          c.push_renumbered.new.bytes.items turned c.in_ok-push_renumbered.ensures c.loop.invariant.made;
    }

pub returns : goal.returns
returns c =
    let content : List ℕ = c.args.content.now in
    let past = at_end c.args.form c.args.kind c.loop.counter c.relocation_size-size.result content c.relocation_size-size.ensures.value c.loop-test.false in
    let made : c.extend_from_slice.new.self.items ≡ changed_bytes c.args.form c.args.kind c.args.numbers.now content =
    c.in_ok-extend_from_slice.ensures.items ∙ made-ends c.args.form c.args.kind c.args.numbers.now content c.loop.counter c.loop.rest.now c.loop.bytes.items past c.loop.invariant.made in
    subst (AreRenumbered c.args.form c.args.kind c.args.numbers.now content) (sym made) (renumbered-changed c.args.form c.args.kind c.args.numbers.now content c.requires.fit)

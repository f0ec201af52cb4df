-- One relocation after another.
use Rattle.std.proofs.Common.{ℕ, ap, ◌∙◌}
use Rattle.elf_format.specs.Records.{relocation}
use Rattle.elf_image_uses.specs.Steps.{names_one_of}
use Rattle.elf_image_uses.proofs.RecordSteps.{any_record, record_done, record_ends, record_goes}
use Rattle.elf_image_uses.proofs.relocations.some_name_one_of.Goals as goal

pub returns-then-names_one_of : goal.returns-then-names_one_of
returns-then-names_one_of c =
    let size : ℕ = c.relocation_size-size.result in
    record_ends (names_one_of c.args.numbers.now) (relocation c.args.form c.args.kind) size c.loop-rest.rest.now c.split_at.result.0.now c.names_one_of.result
    (any_record (names_one_of c.args.numbers.now) (relocation c.args.form c.args.kind) size c.args.content.now)
    c.relocation_size-size.ensures.positive c.loop-rest-test.true c.split_at.ensures.front c.names_one_of.ensures c.if-names_one_of.true c.loop-rest.invariant
    ∙ ap (λ n. any_record (names_one_of c.args.numbers.now) (relocation c.args.form c.args.kind) n c.args.content.now) c.relocation_size-size.ensures.value

pub loop-rest-preserved : goal.loop-rest-preserved
loop-rest-preserved c =
    let size : ℕ = c.relocation_size-size.result in
    record_goes (names_one_of c.args.numbers.now) (relocation c.args.form c.args.kind) size c.loop-rest.rest.now c.split_at.result.0.now c.split_at.result.1.now c.names_one_of.result
    (any_record (names_one_of c.args.numbers.now) (relocation c.args.form c.args.kind) size c.args.content.now)
    c.relocation_size-size.ensures.positive c.loop-rest-test.true c.split_at.ensures.front c.split_at.ensures.back c.names_one_of.ensures c.if-names_one_of.false c.loop-rest.invariant

pub returns : goal.returns
returns c =
    let size : ℕ = c.relocation_size-size.result in
    record_done (names_one_of c.args.numbers.now) (relocation c.args.form c.args.kind) size c.loop-rest.rest.now
    (any_record (names_one_of c.args.numbers.now) (relocation c.args.form c.args.kind) size c.args.content.now) c.loop-rest-test.false c.loop-rest.invariant
    ∙ ap (λ n. any_record (names_one_of c.args.numbers.now) (relocation c.args.form c.args.kind) n c.args.content.now) c.relocation_size-size.ensures.value

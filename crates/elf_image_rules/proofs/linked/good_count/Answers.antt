-- One relocation after another.
use Rattle.std.proofs.Common.{subst}
use Rattle.elf_image_rules.specs.LinkSteps.{names_below_limit}
use Rattle.elf_format.specs.Records.{relocation, relocation_size}
use Rattle.elf_image_rules.proofs.KindSteps.{Counted, counting_ends, counting_goes, counting_starts}
use Rattle.elf_image_rules.proofs.linked.good_count.Goals as goal

pub loop-rest-init : goal.loop-rest-init
loop-rest-init c = counting_starts (names_below_limit c.args.limit) (relocation c.args.form c.args.kind) c.relocation_size-size.result c.args.bytes.now

pub returns-then-not-names_below-clause-all : goal.returns-then-not-names_below-clause-all
returns-then-not-names_below-clause-all c =
    let counted =
    counting_ends (names_below_limit c.args.limit) (relocation c.args.form c.args.kind) c.relocation_size-size.result c.args.bytes.now c.loop-rest.rest.now c.split_at.result.0.now c.loop-rest.count c.names_below.result
    c.relocation_size-size.ensures.positive c.loop-rest-test.true c.split_at.ensures.front c.names_below.ensures c.if-not-names_below.true c.loop-rest.invariant in
    let wide : Counted (names_below_limit c.args.limit) (relocation c.args.form c.args.kind) (relocation_size c.args.form c.args.kind) c.args.bytes.now c.loop-rest.count =
    subst (λ w. Counted (names_below_limit c.args.limit) (relocation c.args.form c.args.kind) w c.args.bytes.now c.loop-rest.count) c.relocation_size-size.ensures.value counted in
    wide.all

pub loop-rest-preserved : goal.loop-rest-preserved
loop-rest-preserved c =
    counting_goes (names_below_limit c.args.limit) (relocation c.args.form c.args.kind) c.relocation_size-size.result c.args.bytes.now c.loop-rest.rest.now c.split_at.result.0.now c.split_at.result.1.now c.loop-rest.count c.names_below.result
    c.relocation_size-size.ensures.positive c.loop-rest-test.true c.split_at.ensures.front c.split_at.ensures.back c.names_below.ensures c.if-not-names_below.false c.loop-rest.invariant

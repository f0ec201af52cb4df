-- One tag after the other.
use Rattle.std.proofs.Common.{arith}
use Rattle.elf_apply.specs.Drafted.{with_tags_dropped}
use Rattle.elf_apply.proofs.DropLaws.{last_dropped, next_dropped}
use Rattle.elf_apply.proofs.steps.drop_tags.Goals as goal

pub drop_tag-requires : goal.drop_tag-requires
drop_tag-requires c = c.requires c.loop-tag.tag-index 0 c.loop-tag-test.true

pub loop-tag-preserved : goal.loop-tag-preserved
loop-tag-preserved c =
    next_dropped c.args.tags.now c.loop-tag.tag-index 0 c.loop-tag.builder c.drop_tag.new.builder (with_tags_dropped c.args.tags.now c.args.builder.now) c.loop-tag-test.true c.drop_tag.ensures c.loop-tag.invariant

pub returns : goal.returns
returns c = last_dropped c.args.tags.now c.loop-tag.tag-index c.loop-tag.builder (with_tags_dropped c.args.tags.now c.args.builder.now) (omega arith) c.loop-tag.invariant

use Rattle.elf_write_strings.specs.VersionPlaces.{TellsNeed}
use Rattle.elf_write_strings.proofs.VersionsPlacing.{more-trans, need_at_place, need_more, up_to}
use Rattle.elf_write_strings.proofs.versions.needing.place_needs.Goals as goal

pub place_need-requires : goal.place_need-requires
place_need-requires c =
    need_at_place c.args.table.now c.loop-i.table c.args.needs.now c.args.records.now c.loop-i.i c.index-needs-i.result
    c.index-records-i.result c.requires c.loop-i.invariant.more c.loop-i-test.true c.index-needs-i.is c.index-records-i.is

pub loop-i-preserved : goal.loop-i-preserved
loop-i-preserved c = record {
  more = more-trans c.args.table.now c.loop-i.table c.place_need.new.table c.loop-i.invariant.more c.in_ok-place_need.ensures.more;
  told = up_to (TellsNeed c.loop-i.table) (TellsNeed c.place_need.new.table) c.args.needs.now c.loop-i.i c.index-needs-i.result
      (need_more c.loop-i.table c.place_need.new.table c.in_ok-place_need.ensures.more) c.loop-i.invariant.told c.loop-i-test.true
      c.index-needs-i.is c.in_ok-place_need.ensures.told;
}

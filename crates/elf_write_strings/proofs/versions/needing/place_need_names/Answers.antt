use Rattle.std.proofs.Common.{subst, List, ℕ}
use Rattle.elf_write_strings.specs.VersionPlaces.{Tells, TellsName}
use Rattle.elf_write_strings.proofs.VersionsPlacing.{more-trans, name_at_place, up_to}
use Rattle.elf_write_strings.proofs.versions.needing.place_need_names.Goals as goal

pub place_text-requires : goal.place_text-requires
place_text-requires c =
    name_at_place c.args.table.now c.loop-i.table c.args.versions.now c.args.records.now c.loop-i.i
    (record { index = 0; name = 0; flags = 0 }) c.index-versions-i.result c.as_slice.result.now c.requires c.loop-i.invariant.more
    c.loop-i-test.true c.index-versions-i.is c.as_slice.ensures

pub loop-i-preserved : goal.loop-i-preserved
loop-i-preserved c = record {
  more = more-trans c.args.table.now c.loop-i.table c.place_text.new.table c.loop-i.invariant.more c.in_ok-place_text.ensures.more;
  told = up_to (TellsName c.loop-i.table) (TellsName c.place_text.new.table) c.args.versions.now c.loop-i.i c.index-versions-i.result
      (λ v h. c.in_ok-place_text.ensures.more.had _ h) c.loop-i.invariant.told c.loop-i-test.true c.index-versions-i.is
      (subst (λ (text : List ℕ). Tells c.place_text.new.table text) c.as_slice.ensures c.in_ok-place_text.ensures.told);
}

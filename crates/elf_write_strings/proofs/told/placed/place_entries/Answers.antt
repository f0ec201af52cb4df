-- One entry more.
use Rattle.std.proofs.Common.{arith}
use Rattle.elf_image.specs.declared.dynamic.Dynamic.{Dynamic}
use Rattle.elf_image.specs.ImageModel.{entry_model}
use Rattle.elf_write_strings.specs.PlacedTexts.{TellsEntry}
use Rattle.elf_write_strings.proofs.TellsPlaced.{entries_long, entries_told, entry_at_place, entry_more}
use Rattle.elf_write_strings.proofs.VersionsPlacing.{more-trans, up_to}
use Rattle.elf_write_strings.proofs.told.placed.place_entries.Goals as goal

pub bounds-numbers-i : goal.bounds-numbers-i
bounds-numbers-i c =
    omega (arith, c.loop-i-test.true, entries_long c.args.table.now.bytes c.args.entries.now c.args.numbers.now c.requires.stand)

pub place_entry-requires-clause-stands : goal.place_entry-requires-clause-stands
place_entry-requires-clause-stands c =
    entry_at_place c.args.table.now c.loop-i.table c.args.entries.now c.args.numbers.now c.loop-i.i c.index-entries-i.result
    (record { d_tag = 0; d_value = 0 }) c.requires.stand c.loop-i.invariant.more c.loop-i-test.true c.index-entries-i.is

pub loop-i-preserved : goal.loop-i-preserved
loop-i-preserved c = record {
  more = more-trans c.args.table.now c.loop-i.table c.place_entry.new.table c.loop-i.invariant.more c.in_ok-place_entry.ensures.more;
  told = up_to (λ (d : Dynamic). TellsEntry c.loop-i.table (entry_model d)) (λ (d : Dynamic). TellsEntry c.place_entry.new.table (entry_model d))
      c.args.entries.now c.loop-i.i c.index-entries-i.result
      (λ d h. entry_more c.loop-i.table c.place_entry.new.table c.in_ok-place_entry.ensures.more (entry_model d) h)
      c.loop-i.invariant.told c.loop-i-test.true c.index-entries-i.is c.in_ok-place_entry.ensures.told;
}

pub returns-clause-told : goal.returns-clause-told
returns-clause-told c =
    entries_told c.loop-i.table c.args.entries.now (λ k d within. c.loop-i.invariant.told k d (omega (arith, within)))

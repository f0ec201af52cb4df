-- One symbol more.
use Rattle.std.proofs.Common.{◌<◌, length, arith}
use Rattle.elf_format.specs.Views.{NamedSymbol}
use Rattle.elf_image_symbols.specs.Loan.{symbols_now}
use Rattle.elf_write_strings.proofs.TellsPlaced.{name_at, names_up_to, symbol_at_place, symbols_told}
use Rattle.elf_write_strings.proofs.VersionsPlacing.{more-trans}
use Rattle.elf_write_strings.proofs.told.placed.place_symbols.Goals as goal

pub place_text-requires : goal.place_text-requires
place_text-requires c =
    let within : c.loop-i.i < length (symbols_now c.args.symbols) = omega (arith, c.loop-i-test.true, c.len-i-end.ensures) in
    symbol_at_place c.args.table.now c.loop-i.table (symbols_now c.args.symbols) c.args.records.now c.loop-i.i
    (record { st_name = 0; st_info = 0; st_other = 0; st_shndx = 0; st_value = 0; st_size = 0 }) c.name.result.now c.requires
    c.loop-i.invariant.more within c.name.ensures

pub loop-i-preserved : goal.loop-i-preserved
loop-i-preserved c = record {
  more = more-trans c.args.table.now c.loop-i.table c.place_text.new.table c.loop-i.invariant.more c.in_ok-place_text.ensures.more;
  told = names_up_to (λ (y : NamedSymbol). y.name) c.loop-i.table c.place_text.new.table (symbols_now c.args.symbols) c.loop-i.i
      c.name.result.now c.in_ok-place_text.ensures.more c.loop-i.invariant.told
      (name_at (symbols_now c.args.symbols) c.loop-i.i c.name.result.now c.name.ensures) c.in_ok-place_text.ensures.told;
}

pub returns-clause-told : goal.returns-clause-told
returns-clause-told c =
    symbols_told c.loop-i.table (symbols_now c.args.symbols)
    (λ k d within. c.loop-i.invariant.told k d (omega (arith, within, c.loop-i-test.false, c.len-i-end.ensures)))

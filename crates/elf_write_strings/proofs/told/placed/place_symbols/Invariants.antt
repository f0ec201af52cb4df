use Rattle.std.proofs.Common.{ℕ, ◌<◌, get_or}
use Rattle.elf_format.specs.Views.{NamedSymbol}
use Rattle.elf_image_symbols.specs.Loan.{symbols_now}
use Rattle.elf_write_strings.specs.VersionPlaces.{HasMore, Tells}
use Rattle.elf_write_strings.proofs.told.placed.place_symbols.Given as goal

-- the names of the symbols so far are placed
abbrev pub invariant-loop-i : goal.invariant-loop-i
invariant-loop-i l = record {
  more : HasMore l.initial.table l.table;
  told : (k : ℕ) (d : NamedSymbol) → k < l.i → Tells l.table (get_or (symbols_now l.symbols) k d).name;
}

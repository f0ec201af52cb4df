use Rattle.std.proofs.Common.{◌≡◌, ℕ, ◌<◌, true, Some}
use Rattle.std.specs.Prelude.{is_some, slice_get}
use Rattle.elf_format.specs.Views.{NamedSymbol}
use Rattle.elf_image_symbols.specs.Loan.{symbols_now}
use Rattle.test_elf.proofs.hash_tables.built.have_versions.Given as goal

abbrev pub invariant-loop-i : goal.invariant-loop-i
invariant-loop-i l = (k : ℕ) (y : NamedSymbol) → k < l.i → slice_get (symbols_now l.symbols) k ≡ Some y → is_some y.version ≡ true

-- A table without records shows no symbol.
use Rattle.std.proofs.Common.{refl}
use Rattle.elf_format.specs.Form.{records}
use Rattle.elf_format.specs.Options.{each}
use Rattle.elf_format.specs.Views.{named_symbols}
use Rattle.elf_image_symbols.specs.TableSymbols.{table_symbols, versions_in}
use Rattle.elf_image_symbols.proofs.symbols.Symbols.none.Goals as goal

pub invariant_of-result : goal.invariant_of-result
unfolding table_symbols versions_in records each named_symbols
invariant_of-result c = refl

pub returns : goal.returns
unfolding table_symbols versions_in records each named_symbols
returns c = refl

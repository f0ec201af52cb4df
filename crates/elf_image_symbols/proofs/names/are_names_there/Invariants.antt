use Rattle.std.proofs.Common.{◌≡◌, ◌≤◌, ◌-◌, ◌*◌, length}
use Rattle.std.specs.Prelude.{is_some}
use Rattle.elf_format.specs.Memory.{memory_of}
use Rattle.elf_format.specs.Form.{records}
use Rattle.elf_format.specs.Records.{symbol_numbers}
use Rattle.elf_format.specs.Views.{names_of}
use Rattle.elf_image_symbols.proofs.names.are_names_there.Given as goal

-- all names are there where those that are left are
abbrev pub invariant-loop : goal.invariant-loop
invariant-loop l = record {
  room : (l.count - l.counter) * l.size ≤ length l.rest;
  same : is_some (names_of (length l.texts) (memory_of l.texts) (records (symbol_numbers l.form) l.size (l.count - l.counter) l.rest))
      ≡ is_some (names_of (length l.texts) (memory_of l.texts) (records (symbol_numbers l.form) l.size l.count l.bytes));
}

-- What the steps on a single relocation answer.
use Rattle.std.specs.Prelude.{ℕ, ◌+◌, ◌*◌, ◌/◌, ◌%◌, ◌^◌, List}
use Rattle.elf_format.specs.declared.form.Form.{Form}
use Rattle.elf_format.specs.Form.{by_class, field_of}
use Rattle.elf_write_spec.specs.Renumbered.{new_symbol}

-- as many types as a relocation can name
abbrev pub type_count : Form → ℕ
type_count form = by_class form.wide (2 ^ 8) (2 ^ 32)

-- the number that names symbol and type
abbrev pub info_in : Form → List ℕ → ℕ
info_in form entry = field_of form (4, 4) (8, 8) entry

-- the symbol
abbrev pub symbol_in : Form → List ℕ → ℕ
symbol_in form entry = info_in form entry / type_count form

-- the number that names the symbol by its new number, and the same type
abbrev pub new_info : Form → List ℕ → List ℕ → ℕ
new_info form numbers entry = new_symbol numbers (symbol_in form entry) * type_count form + info_in form entry % type_count form

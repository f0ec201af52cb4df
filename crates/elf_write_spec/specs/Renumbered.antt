-- Relocations whose symbols get other numbers (gABI, Relocation).
use Rattle.std.specs.Prelude.{ℕ, ◌+◌, ◌*◌, ◌/◌, ◌^◌, ◌≡◌, ◌≤◌, ◌<◌, List, length, map, slice_index}
use Rattle.std.specs.Prelude.{Bool, ◌||◌, ◌==◌, if◌then◌else◌, nat_lt}
use Rattle.std.specs.List.{list_all}
use Rattle.patch_bytes.specs.Number.{word_size}
use Rattle.elf_format.specs.declared.form.Form.{Form}
use Rattle.elf_format.specs.Form.{by_class}
use Rattle.elf_format.specs.Records.{Relocation, relocation_size, relocations_in}

-- ## The numbers of symbols

-- the number is 0, which names no symbol (gABI, Symbol Table, STN_UNDEF), or that of one of so many symbols
abbrev pub is_symbol_below : ℕ → ℕ → Bool
is_symbol_below limit symbol = symbol == 0 || nat_lt symbol limit

-- each relocation in bytes names no symbol, or one of so many
abbrev pub are_symbols_below : Form → ℕ → ℕ → List ℕ → Bool
are_symbols_below form kind limit bytes = list_all (λ x. is_symbol_below limit x.r_symbol) (relocations_in form kind bytes)

-- the new number of a symbol; 0 stays
abbrev pub new_symbol : List ℕ → ℕ → ℕ
new_symbol numbers symbol = if symbol == 0 then 0 else slice_index numbers symbol

-- the relocation with another symbol
abbrev pub renumbered : (ℕ → ℕ) → Relocation → Relocation
renumbered new x = record x { r_symbol = new x.r_symbol }

-- ## Their field

-- as many symbols as the field can name: it has 24 bits in 32-bit files, 32 bits in 64-bit files
abbrev pub symbol_limit : Form → ℕ
symbol_limit form = by_class form.wide (2 ^ 24) (2 ^ 32)

-- the new number of the relocation's symbol fits the field
abbrev pub does_relocation_fit : Form → List ℕ → Relocation → Bool
does_relocation_fit form numbers x = nat_lt (new_symbol numbers x.r_symbol) (symbol_limit form)

abbrev pub do_relocations_fit : Form → ℕ → List ℕ → List ℕ → Bool
do_relocations_fit form kind numbers bytes = list_all (does_relocation_fit form numbers) (relocations_in form kind bytes)

-- ## The bytes

-- The position lies in the r_info of a relocation, which is a word behind the one of r_offset.
pub record LiesInInfo (form : Form) (kind long i : ℕ) : Type 0 where
  pub entry : ℕ
  pub whole : entry < long / relocation_size form kind
  pub behind : entry * relocation_size form kind + word_size form.wide ≤ i
  pub before : i < entry * relocation_size form kind + 2 * word_size form.wide

-- These bytes hold the relocations of others, with the new numbers of their symbols; each byte that lies in no r_info is as
-- it was.
pub record AreRenumbered (form : Form) (kind : ℕ) (numbers old bytes : List ℕ) : Type 0 where
  pub relocations : relocations_in form kind bytes ≡ map (renumbered (new_symbol numbers)) (relocations_in form kind old)
  pub long : length bytes ≡ length old
  pub kept : (i : ℕ) → ¬ LiesInInfo form kind (length old) i → slice_index bytes i ≡ slice_index old i

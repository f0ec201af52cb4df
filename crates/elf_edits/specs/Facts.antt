-- What of an image causes look at.
use Rattle.std.specs.Prelude.{ℕ, List, [], Bool, Option, Some, None}
use Rattle.elf_image_symbols.specs.declared.symbols_now.SymbolsNow.{SymbolsNow}
use Rattle.elf_image_symbols.specs.Loan.{symbols_now}
use Rattle.elf_edits.specs.declared.facts.Facts.{Facts as FactsHeld}
use Rattle.elf_edits.specs.Symbols.{names_behind_first}

pub record Facts : Type 0 where
  -- the machine (gABI, ELF Header, e_machine)
  pub machine : ℕ
  -- there is a dynamic section, and its list has a run path
  pub has_list : Bool
  pub has_run_path : Bool
  pub has_interpreter : Bool
  -- there is no program header for the stack, and no room for one
  pub is_full : Bool
  -- the names of the dynamic symbols but the first, where these have to keep them; none where they can have others
  pub fixed_names : List (List ℕ)

-- ## In the code

-- the names of symbols that have to keep their names
abbrev pub names_fixed : Option SymbolsNow → List (List ℕ)
names_fixed None = []
names_fixed (Some symbols) = names_behind_first (symbols_now symbols)

abbrev pub facts_model : FactsHeld → Facts
facts_model f = record {
  machine = f.machine;
  has_list = f.has_list;
  has_run_path = f.has_run_path;
  has_interpreter = f.has_interpreter;
  is_full = f.is_full;
  fixed_names = names_fixed f.fixed_symbols;
}

-- Steps towards the entries of the dynamic list that are written.
use Rattle.std.specs.Prelude.{ℕ, List, [], ◌∷◌, drop, Option}
use Rattle.std.specs.List.{slice_get}
use Rattle.patch_bytes.specs.Memory.{◌>>=◌}
use Rattle.elf_format.specs.declared.records.EntryNumbers.{EntryNumbers}
use Rattle.elf_format.specs.Dynamic.{Auto, Entry, Integer, Text}
use Rattle.elf_format.specs.Image.{entry_tag}
use Rattle.elf_format.specs.Places.{Place}
use Rattle.elf_layout_plan.specs.Plan.{Plan}
use Rattle.elf_write_contents.specs.Numbers.{entry_with}

-- ## Places of sections

-- the place of the section at a position
abbrev pub place_at : Plan → Option ℕ → Option Place
place_at plan position = position >>= λ i. slice_get plan.places i

-- ## Entries

-- the value of an entry, by the values of tables and the places of the texts that are left
abbrev pub value_with : (ℕ → ℕ) → List ℕ → Entry → ℕ
value_with table places (Auto tag) = table tag
value_with table places (Integer tag number) = number
value_with table [] (Text tag text) = 0
value_with table (p ∷ ps) (Text tag text) = p

-- the places that are left behind an entry
abbrev pub places_behind : Entry → List ℕ → List ℕ
places_behind (Auto tag) places = places
places_behind (Integer tag number) places = places
places_behind (Text tag text) places = drop 1 places

-- the numbers of entries, each text at the next of the places
abbrev pub numbers_with : (ℕ → ℕ) → List ℕ → List Entry → List EntryNumbers
numbers_with table places [] = []
numbers_with table places (e ∷ es) =
    entry_with (entry_tag e) (value_with table places e) ∷ numbers_with table (places_behind e places) es

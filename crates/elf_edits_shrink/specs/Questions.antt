-- What has to be looked for before run paths shrink.
use Rattle.std.specs.Prelude.{ℕ, List, [], ◌∷◌, filter}
use Rattle.std.specs.List.{flat_map}
use Rattle.elf_image.specs.Dynamic.{Entry}
use Rattle.elf_edits.specs.Entries.{needed_names, run_paths}
use Rattle.elf_edits.specs.Shrunk.{is_absolute}
use Rattle.elf_edits.specs.Texts.{directories_in}

-- the pairs of an absolute directory and a library
abbrev pub pairs_of : List (List ℕ) → List (List ℕ) → List (List ℕ × List ℕ)
pairs_of needed directories = flat_map (λ directory. flat_map (λ name. (directory, name) ∷ []) needed) (filter is_absolute directories)

-- the pairs of a directory and a library that have to be looked for, in the order of the texts
abbrev pub questions_of : List (List ℕ) → List (List ℕ) → List (List ℕ × List ℕ)
questions_of needed texts = flat_map (λ text. pairs_of needed (directories_in text)) texts

-- what has to be looked for before the run paths of a list shrink
abbrev pub shrink_questions : List Entry → List (List ℕ × List ℕ)
shrink_questions entries = questions_of (needed_names entries) (run_paths entries)

-- Maps of names: texts with a pair of names on each line, an old one and a new one.
use Rattle.std.specs.Prelude.{ℕ, ◌≡◌, ◌+◌, ◌==◌, ◌||◌, Bool, List, [], ◌∷◌, ◌++◌, map, Option, Some, None, Result, Ok, Err, if◌then◌else◌, ⊤}
use Rattle.std.specs.List.{list_any, slice_split}
use Rattle.std.specs.Str.{bytes_eq}
use Rattle.std.specs.Str.Lines.{lines}
use Rattle.command_words.specs.Parts.{without_empty}
use Rattle.arwen_cli_options.specs.Options.{Text}
use Rattle.arwen_cli_patchelf_lines.specs.declared.name_maps.MapFault.{MapFault}
use Rattle.arwen_cli_patchelf_lines.specs.declared.name_maps.MapFault.TheVariants as fault
use Rattle.arwen_cli_patchelf_lines.specs.declared.name_maps.MapWrong.{MapWrong}
use Rattle.arwen_cli_patchelf_lines.specs.declared.name_maps.MapWrong.TheVariants.{OneName, Twice, Version}
use Rattle.arwen_cli_patchelf_lines.specs.declared.name_maps.NamePair.{NamePair}

-- ## What the program's values show

abbrev pub lent_pair : NamePair → Text × Text
lent_pair pair = (pair.old.now, pair.new.now)

abbrev pub pair_told : Result NamePair MapWrong → Result (Text × Text) MapWrong
pair_told (Ok pair) = Ok (lent_pair pair)
pair_told (Err wrong) = Err wrong

-- ## A line

-- tabs count as spaces
abbrev pub spaced : ℕ → ℕ
spaced byte = if byte == 9 then 32 else byte

abbrev pub spaced_all : List ℕ → List ℕ
spaced_all bytes = map spaced bytes

-- the names between the spaces of a line
abbrev pub names_of : Text → List Text
names_of line = without_empty (slice_split (λ byte. byte == 32) line)

-- a name has a version behind it
abbrev pub has_version : Text → Bool
has_version name = list_any (λ byte. byte == 64) name

-- a name is the old one of a pair
abbrev pub is_old : Text → List (Text × Text) → Bool
is_old name pairs = list_any (λ pair. bytes_eq pair.0 name) pairs

-- an old name and a new one behind these pairs
abbrev pub checked : List (Text × Text) → Text → Text → Result (Text × Text) MapWrong
checked pairs old new =
    if is_old old pairs then Err Twice
    else (if has_version old || has_version new then Err Version else Ok (old, new))

-- the pair that names are, behind these pairs; none where there is no name
abbrev pub pair_of : List (Text × Text) → List Text → Option (Result (Text × Text) MapWrong)
pair_of pairs [] = None
pair_of pairs (old ∷ []) = Some (Err OneName)
pair_of pairs (old ∷ new ∷ rest) = Some (checked pairs old new)

-- ## All lines

-- a pair and those behind it, or the first line that is wrong, which has this number; a line without a name ends the map
abbrev pub then_pairs : List (Text × Text) → ℕ → Option (Result (Text × Text) MapWrong)
    → (List (Text × Text) → Result (List (Text × Text)) (MapWrong × ℕ)) → Result (List (Text × Text)) (MapWrong × ℕ)
then_pairs pairs number None rest = Ok pairs
then_pairs pairs number (Some (Err wrong)) rest = Err (wrong, number)
then_pairs pairs number (Some (Ok pair)) rest = rest (pairs ++ pair ∷ [])

-- the pairs of lines behind these pairs; the first of the lines has this number
abbrev pub pairs_from : List (Text × Text) → ℕ → List Text → Result (List (Text × Text)) (MapWrong × ℕ)
pairs_from pairs number [] = Ok pairs
pairs_from pairs number (line ∷ rest) =
    then_pairs pairs number (pair_of pairs (names_of line)) (λ more. pairs_from more (number + 1) rest)

-- the pairs of a map
abbrev pub pairs_of : Text → Result (List (Text × Text)) (MapWrong × ℕ)
pairs_of text = pairs_from [] 1 (lines text)

-- an error tells the first line that is wrong, or want of memory
abbrev pub TellsMap : Result (List (Text × Text)) (MapWrong × ℕ) → MapFault → Type 0
TellsMap meant (fault.Line wrong number) = meant ≡ Err (wrong, number)
TellsMap meant fault.Memory = ⊤

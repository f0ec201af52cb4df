-- What the words of a line behind `show` ask for.
use Rattle.std.specs.Prelude.{ℕ, ◌≡◌, ◌==◌, ◌&&◌, ◌||◌, not, Bool, true, false, List, [], ◌∷◌, length, map, nat_lt, slice_index, Option, Some, None, codes, if◌then◌else◌, string_bytes, ⊤}
use Rattle.std.specs.Borrow.{Bor}
use Rattle.std.specs.Str.{bytes_eq}
use Rattle.arwen_cli_show.specs.declared.args.Args.{Args}
use Rattle.arwen_cli_show.specs.declared.args.ArgsFault.{ArgsFault}
use Rattle.arwen_cli_show.specs.declared.args.ArgsFault.TheVariants.{Help, Memory, NoPath, Unknown}
use Rattle.arwen_cli_show.specs.declared.show.Style.{Style}
use Rattle.arwen_cli_show.specs.declared.show.Style.TheVariants.{Json, Lines}

abbrev pub Text : Type 0
Text = List ℕ

pub record ShowMeaning : Type 0 where
  pub paths : List Text
  pub style : Style

abbrev pub args_model : Args → ShowMeaning
args_model args = record { paths = map string_bytes args.paths.items; style = args.style }

-- ## Words

-- the word behind which all are paths
abbrev pub is_mark : Text → Bool
is_mark word = bytes_eq word (codes "--")

abbrev pub is_json : Text → Bool
is_json word = bytes_eq word (codes "--json")

abbrev pub is_help : Text → Bool
is_help word = bytes_eq word (codes "-h") || bytes_eq word (codes "--help")

-- a hyphen, and more
abbrev pub is_option : Text → Bool
is_option word = nat_lt 1 (length word) && slice_index word 0 == 45

-- the first word that is an option and not --json
abbrev pub other_option : List Text → Option Text
other_option [] = None
other_option (word ∷ words) =
    if is_mark word then None
    else (if is_option word && not (is_json word) then Some word else other_option words)

abbrev pub asks_json : List Text → Bool
asks_json [] = false
asks_json (word ∷ words) = if is_mark word then false else (if is_json word then true else asks_json words)

-- the words that are paths: those behind the mark, and those before it that are no options
abbrev pub paths_given : List Text → List Text
paths_given [] = []
paths_given (word ∷ words) =
    if is_mark word then words
    else (if is_option word then paths_given words else word ∷ paths_given words)

-- ## A line

abbrev pub style_if : Bool → Style
style_if true = Json
style_if false = Lines

abbrev pub with_paths : Style → List Text → Option ShowMeaning
with_paths style [] = None
with_paths style (path ∷ paths) = Some (record { paths = path ∷ paths; style = style })

-- what is asked for with this first other option
abbrev pub meant_with : Option Text → List Text → Option ShowMeaning
meant_with (Some word) words = None
meant_with None words = with_paths (style_if (asks_json words)) (paths_given words)

-- words that have no other option and name a file ask for it to be shown
abbrev pub meaning_of_args : List Text → Option ShowMeaning
meaning_of_args words = meant_with (other_option words) words

-- what an option says that isn't --json
abbrev pub fault_with : Bor Text → ArgsFault
fault_with word = if is_help word.now then Help else Unknown word

-- why words ask for no file to be shown
abbrev pub IsFaultOf : List Text → ArgsFault → Type 0
IsFaultOf words Help = (word : Text) × (other_option words ≡ Some word) × (is_help word ≡ true)
IsFaultOf words (Unknown word) = (other_option words ≡ Some word.now) × (is_help word.now ≡ false)
IsFaultOf words NoPath = (other_option words ≡ None) × (paths_given words ≡ [])
IsFaultOf words Memory = ⊤

abbrev pub status_told : ArgsFault → ℕ
status_told Help = 0
status_told Memory = 1
status_told (Unknown word) = 2
status_told NoPath = 2

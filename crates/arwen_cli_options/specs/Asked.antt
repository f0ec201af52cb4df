-- What a line asks for, with texts of its own.
use Rattle.std.specs.Prelude.{ℕ, Bool, List, [], ◌∷◌, Option, Some, None, if◌then◌else◌, string_bytes}
use Rattle.std.specs.List.{list_any}
use Rattle.std.specs.Str.{bytes_eq}
use Rattle.std.specs.declared.alloc.Global.{Global}
use Rattle.std.specs.declared.vec.Vec.{Vec}
use Rattle.arwen_cli_options.specs.declared.asked.AskedOption.{AskedOption}
use Rattle.arwen_cli_options.specs.Options.{Asked, Text, values_of}

abbrev pub asked_model : AskedOption → Asked
asked_model option = record { name = option.name.now; first = string_bytes option.first; second = string_bytes option.second }

-- an option of this name is given
abbrev pub is_given : Text → List Asked → Bool
is_given name asked = list_any (λ a. bytes_eq a.name name) asked

-- the pairs of the options of a name, in order
abbrev pub pairs_of : Text → List Asked → List (Text × Text)
pairs_of name [] = []
pairs_of name (a ∷ rest) = if bytes_eq a.name name then (a.first, a.second) ∷ pairs_of name rest else pairs_of name rest

-- the bytes of a pair
abbrev pub pair_lent : Vec ℕ Global × Vec ℕ Global → Text × Text
pair_lent pair = (pair.0.items, pair.1.items)

-- the last of values, or this one where there are none
abbrev pub last_from : Option Text → List Text → Option Text
last_from before [] = before
last_from before (value ∷ values) = last_from (Some value) values

-- the value of the last option of this name
abbrev pub last_of : Text → List Asked → Option Text
last_of name asked = last_from None (values_of name asked)

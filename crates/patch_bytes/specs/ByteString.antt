-- What a byte string shows.
use Rattle.std.specs.Prelude.{ℕ, List, map, Bool, true, false, Option, Some, None}
use Rattle.std.specs.Option.{is_some}
use Rattle.std.specs.declared.vec.Vec.{Vec}
use Rattle.std.specs.declared.alloc.Global.{Global}

-- the bytes of a string, and whether it owns them
pub record StringValue : Type 0 where
  pub bytes : List ℕ
  pub is_owned : Bool

-- bytes that stay where they are
abbrev pub borrowed_string : List ℕ → StringValue
borrowed_string bytes = record { bytes = bytes; is_owned = false }

-- bytes that the string owns
abbrev pub owned_string : List ℕ → StringValue
owned_string bytes = record { bytes = bytes; is_owned = true }

-- the copy, or where there is none the borrowed bytes
abbrev pub bytes_model : List ℕ → Option (Vec ℕ Global) → List ℕ
bytes_model source None = source
bytes_model source (Some copy) = copy.items

-- a string owns its copy alone
abbrev pub string_model : List ℕ → Option (Vec ℕ Global) → StringValue
string_model source copy = record { bytes = bytes_model source copy; is_owned = is_some copy }

-- the bytes of each string
abbrev pub bytes_of_each : List StringValue → List (List ℕ)
bytes_of_each strings = map (λ string. string.bytes) strings

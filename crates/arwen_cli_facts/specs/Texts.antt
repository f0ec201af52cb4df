-- Texts as they are kept: each as UTF-8, with U+FFFD for what is no character.
use Rattle.std.specs.Prelude.{ℕ, List, map, Option, option_map, string_bytes, String}
use Rattle.std.specs.declared.alloc.Global.{Global}

-- the bytes of a text that may be missing, and of several
abbrev pub text_model : Option (String Global) → Option (List ℕ)
text_model text = option_map string_bytes text

abbrev pub texts_model : List (String Global) → List (List ℕ)
texts_model texts = map string_bytes texts

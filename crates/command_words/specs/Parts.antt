-- The parts of texts between separators.
use Rattle.std.specs.Prelude.{List, [], ◌∷◌, if◌then◌else◌, length, map, nat_lt}
use Rattle.std.specs.Borrow.{Bor}
use Rattle.command_words.specs.Rows.{Text}

-- what lent texts are
abbrev pub texts_lent : List (Bor Text) → List Text
texts_lent texts = map (λ text. text.now) texts

-- texts that have a byte
abbrev pub without_empty : List Text → List Text
without_empty [] = []
without_empty (text ∷ texts) = if nat_lt 0 (length text) then text ∷ without_empty texts else without_empty texts

-- The steps of looking whether texts are those that were read.
use Rattle.std.specs.Prelude.{ℕ, List, Bool}
use Rattle.std.specs.List.{slice_get}
use Rattle.std.specs.Str.{bytes_eq}
use Rattle.elf_format.specs.Options.{is_none_or, is_some_and}

-- the text at a position is the one that was read at its number
abbrev pub is_text_left : List (List ℕ) → List ℕ → List (List ℕ) → ℕ → Bool
is_text_left read ns ts i =
    is_none_or (λ n. is_none_or (λ t. is_some_and (bytes_eq t) (slice_get read n)) (slice_get ts i)) (slice_get ns i)

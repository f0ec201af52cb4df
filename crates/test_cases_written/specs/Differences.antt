-- Differences that are made.
use Rattle.std.specs.Prelude.{ℕ, ◌+◌, List, All, length}
use Rattle.byte_store.specs.Composed.{owned_patches}
use Rattle.byte_store.specs.Laid.{LiesIn}
use Rattle.byte_store.specs.declared.composed.Difference.{Difference}

-- each piece lies within the bytes of a source and what comes behind them
abbrev pub DoPiecesLieIn : List ℕ → Difference → Type 0
DoPiecesLieIn source difference = All (LiesIn (length source + length difference.growth.items)) (owned_patches difference.pieces.items)

-- Differences that change nothing.
use Rattle.std.specs.Prelude.{ℕ, ◌≡◌, ◌≤◌, length}
use Rattle.byte_store.specs.declared.composed.Difference.{Difference}

-- A difference that changes nothing of so many bytes.
pub record IsNothing (old_length : ℕ) (d : Difference) : Type 0 where
  pub growth : length d.growth.items ≡ 0
  pub pieces : length d.pieces.items ≡ 0
  pub end : old_length ≤ d.new_length

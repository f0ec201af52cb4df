-- A list of numbers that are bytes.
use Rattle.std.specs.Prelude.{ℕ, ◌<◌, List, slice_index}

-- each number is below 256
pub record AreBytes (xs : List ℕ) : Type 0 where
  pub each : (i : ℕ) → slice_index xs i < 256

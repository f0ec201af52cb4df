-- The new numbers of symbols that stand in another order.
use Rattle.std.specs.Prelude.{ℕ, ◌≡◌, ◌<◌, List, length, slice_index}

-- The order tells for each new position which old one stands there, the numbers for each old position the new one.
pub record IsInverse (order numbers : List ℕ) : Type 0 where
  pub long : length numbers ≡ length order
  pub inside : (old : ℕ) → old < length order → slice_index numbers old < length order
  pub from_old : (old : ℕ) → old < length order → slice_index order (slice_index numbers old) ≡ old
  pub from_new : (new : ℕ) → new < length order → slice_index numbers (slice_index order new) ≡ new

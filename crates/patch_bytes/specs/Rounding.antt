-- Rounding up to a multiple.
use Rattle.std.specs.Prelude.{ℕ, ◌%◌, ◌≤◌, ◌≡◌}

-- m is a multiple of the unit at or above n, and no multiple of the unit at or above n is below m
pub record IsLeastMultiple (n unit m : ℕ) : Type 0 where
  pub multiple : m % unit ≡ 0
  pub above : n ≤ m
  pub least : (k : ℕ) → k % unit ≡ 0 → n ≤ k → m ≤ k

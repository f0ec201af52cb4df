-- The number that `round_up` gives is the least multiple.
use Rattle.std.proofs.Common.{◌≡◌, ◌≤◌, ◌<◌, ℕ, ◌+◌, ◌*◌, ◌-◌, ◌/◌, ◌%◌, inl, inr, arith}
use Rattle.std.proofs.Math.Nat.{add-mul, div-add-mod', mod-eq_of_lt, mod-lt, mod_self, mul-le-mul_right, mul-mod_left, add-zero, sub-zero}
use Rattle.std.proofs.lemmas.Bool.{cases_lt, cases_eq}
use Rattle.std.specs.Int.{next_multiple_of}
use Rattle.patch_bytes.specs.Rounding.{IsLeastMultiple}

-- rounding up gives a multiple, at or above n and less than a unit above it
next_multiple : (n unit : ℕ) → 1 ≤ unit → (next_multiple_of n unit % unit ≡ 0) × (n ≤ next_multiple_of n unit) × (next_multiple_of n unit < n + unit)
next_multiple n unit h =
    let parts : n / unit * unit + n % unit ≡ n = div-add-mod' n unit in
    let small : n % unit < unit = mod-lt n h in
    let rest : (unit - n % unit) % unit < unit = mod-lt (unit - n % unit) h in
    elim (cases_eq (n % unit) 0) [
      | inl none ↦
          let whole : (unit - n % unit) % unit ≡ 0 = rw (none, sub-zero) (mod_self unit) in
          (rw (whole, add-zero) none, omega arith, omega arith)
      | inr some ↦
          let left : (unit - n % unit) % unit ≡ unit - n % unit = mod-eq_of_lt (omega arith) in
          let next : n + (unit - n % unit) ≡ (n / unit + 1) * unit = omega (arith, add-mul (n / unit) 1 unit) in
          (rw (left, next) (mul-mod_left (n / unit + 1) unit), omega arith, omega arith)
    ]

-- of two multiples, the lower is at least a unit below the higher
apart : (a b unit : ℕ) → a % unit ≡ 0 → b % unit ≡ 0 → a < b → a + unit ≤ b
apart a b unit ha hb lt =
    let of_a : a / unit * unit + a % unit ≡ a = div-add-mod' a unit in
    let of_b : b / unit * unit + b % unit ≡ b = div-add-mod' b unit in
    elim (cases_lt (a / unit) (b / unit)) [
      | inl below ↦
          let step : (a / unit + 1) * unit ≤ b / unit * unit = mul-le-mul_right unit (omega arith) in
          omega (arith, add-mul (a / unit) 1 unit)
      | inr above ↦
          let step : b / unit * unit ≤ a / unit * unit = mul-le-mul_right unit above in
          omega arith
    ]

-- rounding up gives the least multiple
pub least_multiple : (n unit : ℕ) → 1 ≤ unit → IsLeastMultiple n unit (next_multiple_of n unit)
least_multiple n unit h =
    let found = next_multiple n unit h in
    record {
      multiple = found.0;
      above = found.1;
      least = λ k whole above. elim (cases_lt k (next_multiple_of n unit)) [
        | inl below ↦ let gap : k + unit ≤ next_multiple_of n unit = apart k (next_multiple_of n unit) unit whole found.0 below in omega arith
        | inr done ↦ done
      ];
    }

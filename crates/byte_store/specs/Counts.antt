-- How the failures of calls are counted, up to `u64::MAX`.
use Rattle.std.specs.Prelude.{ℕ, ◌≡◌, ◌+◌, ◌-◌, ◌^◌, ◌<◌, ◌≤◌, Result, MatchResult}

-- a count that rose by one, or stands at `u64::MAX`
abbrev pub CountsOne : ℕ → ℕ → Type 0
CountsOne old new = (old < 2 ^ 64 - 1 → new ≡ old + 1) × (2 ^ 64 - 1 ≤ old → new ≡ old)

-- a call counts an error, and nothing else
abbrev pub CountsCall : {T E : Type 0} → Result T E → ℕ → ℕ → Type 0
CountsCall result old new = MatchResult result (λ _. new ≡ old) (λ _. CountsOne old new)

-- a write of `room` bytes counts an error, and an answer of no byte where there are some, and nothing else
abbrev pub CountsWrite : {E : Type 0} → Result ℕ E → ℕ → ℕ → ℕ → Type 0
CountsWrite result room old new = MatchResult result
    (λ n. (n ≡ 0 → 0 < room → CountsOne old new) × (0 < n → new ≡ old) × (room ≡ 0 → new ≡ old))
    (λ _. CountsOne old new)

-- a count that rose by `least` at least, or stands at `u64::MAX`, and by `most` at most
abbrev pub Rises : ℕ → ℕ → ℕ → ℕ → Type 0
Rises least most old new = (old ≤ new) × (new ≤ old + most) × (new < 2 ^ 64 - 1 → old + least ≤ new)

-- a count that rose by `least` at least, or stands at `u64::MAX`
abbrev pub RisesBy : ℕ → ℕ → ℕ → Type 0
RisesBy least old new = (old ≤ new) × (new < 2 ^ 64 - 1 → old + least ≤ new)

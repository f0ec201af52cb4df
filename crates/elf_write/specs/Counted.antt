-- What a writer that counts its failures did, and how many bytes came of it.
use Rattle.std.specs.Prelude.{ℕ, ◌≡◌, ◌+◌, ◌-◌, ◌*◌, ◌^◌, ◌<◌, ◌≤◌, ◌⊎◌, List, IsOk, Option, Result, Ok, Err, MatchResult, length, take}
use Rattle.std.specs.Io.KnownBytes.{Appends, Keeps}
use Rattle.std.specs.IoError.{error_kind}
use Rattle.std.specs.declared.io.Error.{Error}
use Rattle.std.specs.declared.io.ErrorKind.TheVariants.{TimedOut, WriteZero}
use Rattle.elf_write.specs.declared.counted.Sink.{Sink}

-- `sink.into_inner()`
abbrev pub sink_inner : {W : Type 0} → Sink W → W
sink_inner sink = sink.inner

-- how many failures a sink counted, up to `u64::MAX`
abbrev pub sink_failures : {W : Type 0} → Sink W → ℕ
sink_failures sink = sink.failures

-- a count that rose by one, or stands at `u64::MAX`
abbrev pub CountsOne : ℕ → ℕ → Type 0
CountsOne old new = (old < 2 ^ 64 - 1 → new ≡ old + 1) × (2 ^ 64 - 1 ≤ old → new ≡ old)

-- a write of `room` bytes counts an error, and an answer of no byte where there are some, and nothing else
abbrev pub CountsWrite : {E : Type 0} → Result ℕ E → ℕ → ℕ → ℕ → Type 0
CountsWrite result room old new = MatchResult result
    (λ n. (n ≡ 0 → 0 < room → CountsOne old new) × (0 < n → new ≡ old) × (room ≡ 0 → new ≡ old))
    (λ _. CountsOne old new)

-- a call without bytes counts an error, and nothing else
abbrev pub CountsCall : {T E : Type 0} → Result T E → ℕ → ℕ → Type 0
CountsCall result old new = MatchResult result (λ _. new ≡ old) (λ _. CountsOne old new)

-- a count that rose by `least` at least, or stands at `u64::MAX`, and by `most` at most
abbrev pub Rises : ℕ → ℕ → ℕ → ℕ → Type 0
Rises least most old new = (old ≤ new) × (new ≤ old + most) × (new < 2 ^ 64 - 1 → old + least ≤ new)

-- the first bytes were appended, but not all, and then a write failed, the last of 1,001 in a row or fewer; before
-- each byte that was taken 1,000 writes failed or fewer
abbrev pub Stops : List ℕ → Option (List ℕ) → Option (List ℕ) → ℕ → ℕ → Type 0
Stops bytes old new failed_old failed_new = (n : ℕ) × (n < length bytes) × Appends old new (take n bytes)
    × Rises 1 (1000 * n + 1001) failed_old failed_new

-- why writes that appended nothing ended: by an error that the writer may answer, by an answer of no byte, or by 1,001
-- failures
abbrev pub IsCause : (Result ℕ Error → Type 0) → Error → ℕ → ℕ → Type 0
IsCause may_answer e old new = may_answer (Err e)
    ⊎ ((error_kind e ≡ WriteZero) × may_answer (Ok 0))
    ⊎ ((error_kind e ≡ TimedOut) × Rises 1001 1001 old new)

-- since the writer was in some state its writes appended nothing, and ended for this cause
abbrev pub EndsBy : {W : Type 0} → (Result ℕ Error → Type 0) → (W → Option (List ℕ)) → (W → ℕ) → Error → W → Type 0
EndsBy {W} may_answer contents failed e new = (mid : W) × Keeps (contents mid) (contents new)
    × IsCause may_answer e (failed mid) (failed new)

-- success, and the very writer that there was
abbrev pub IsOkAndSame : {W T E : Type 0} → Result T E → W → W → Type 0
IsOkAndSame result old new = IsOk result × (new ≡ old)

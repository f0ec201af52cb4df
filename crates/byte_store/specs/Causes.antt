-- Why a run of calls of a store failed: by an error that a call may answer, and that is counted, or by what the bytes are.
use Rattle.std.specs.Prelude.{ℕ, ◌≡◌, ◌≢◌, ◌-◌, ◌^◌, ◌<◌, ◌⊎◌, List, Option, Some, length, ⊤}
use Rattle.std.specs.IoError.{error_kind}
use Rattle.std.specs.declared.io.Error.{Error}
use Rattle.std.specs.declared.io.ErrorKind.TheVariants.{FileTooLarge, InvalidInput, NotFound, Other, OutOfMemory, TimedOut, WriteZero}
use Rattle.byte_store.specs.Counts.{RisesBy}
use Rattle.byte_store.specs.declared.reading.ReadError.{ReadError}
use Rattle.byte_store.specs.declared.reading.ReadError.TheVariants as read
use Rattle.byte_store.specs.declared.difference.ReplaceError.{ReplaceError}
use Rattle.byte_store.specs.declared.difference.ReplaceError.TheVariants as replace

-- so many calls failed, or the count stands at `u64::MAX`; a call failed by an error that calls may answer
abbrev pub HasFailed : (Error → Type 0) → ℕ → ℕ → ℕ → Type 0
HasFailed may_fail times old new = RisesBy times old new × (0 < times → (e : Error) × may_fail e)

-- a call failed by this error
abbrev pub FailsBy : (Error → Type 0) → Error → ℕ → ℕ → Type 0
FailsBy may_fail e old new = may_fail e × RisesBy 1 old new

-- 4,294,967,295 reads didn't reach the end: known bytes that are fewer were read by fewer, and the others were interrupted
abbrev pub IsEndless : (Error → Type 0) → Option (List ℕ) → Error → ℕ → ℕ → Type 0
IsEndless may_fail known e old new = (error_kind e ≡ Other)
    × ((all : List ℕ) → known ≡ Some all → HasFailed may_fail (2 ^ 32 - 1 - length all) old new)

-- known bytes are more than so many
abbrev pub IsTooLong : ℕ → Option (List ℕ) → Error → Type 0
IsTooLong most known e = (error_kind e ≡ FileTooLarge) × ((all : List ℕ) → known ≡ Some all → most < length all)

-- why one read gave nothing: there was no memory, or it failed by this error
abbrev pub FailsRead : (Error → Type 0) → ℕ → ℕ → ReadError → Type 0
FailsRead may_fail old new read.Memory = ⊤
FailsRead may_fail old new (read.Io e) = FailsBy may_fail e old new

-- why the first bytes of a store were not read: there was no memory, a call failed, or there was no end
abbrev pub IsNotRead : (Error → Type 0) → Option (List ℕ) → ℕ → ℕ → ReadError → Type 0
IsNotRead may_fail known old new read.Memory = ⊤
IsNotRead may_fail known old new (read.Io e) = FailsBy may_fail e old new ⊎ IsEndless may_fail known e old new

-- why a store was not read whole: for one of these causes, or there were too many bytes
abbrev pub IsNotWhole : (Error → Type 0) → ℕ → Option (List ℕ) → ℕ → ℕ → ReadError → Type 0
IsNotWhole may_fail most known old new read.Memory = ⊤
IsNotWhole may_fail most known old new (read.Io e) =
    FailsBy may_fail e old new ⊎ IsEndless may_fail known e old new ⊎ IsTooLong most known e

-- why writes ended: a call failed by this error, a write took no byte, or one was interrupted 1,001 times in a row
abbrev pub EndsBy : (Error → Type 0) → Type 0 → Error → ℕ → ℕ → Type 0
EndsBy may_fail may_take_none e old new = FailsBy may_fail e old new
    ⊎ ((error_kind e ≡ WriteZero) × may_take_none × RisesBy 1 old new)
    ⊎ ((error_kind e ≡ TimedOut) × HasFailed may_fail 1001 old new)

-- why the bytes of a store were not replaced: there was no memory, or writes ended
abbrev pub IsNotWritten : (Error → Type 0) → Type 0 → ℕ → ℕ → ReplaceError → Type 0
IsNotWritten may_fail may_take_none old new replace.Memory = ⊤
IsNotWritten may_fail may_take_none old new (replace.Write e) = EndsBy may_fail may_take_none e.error old new

-- an error of writes to memory: there was none, or a write began behind the end
abbrev pub IsOfMemory : Error → Type 0
IsOfMemory e = (error_kind e ≡ OutOfMemory) ⊎ (error_kind e ≡ InvalidInput)

-- why a write to so many bytes in memory failed: there was none, or it began behind the end
abbrev pub FailsPut : ℕ → ℕ → Error → Type 0
FailsPut len offset e = (error_kind e ≡ OutOfMemory) ⊎ ((error_kind e ≡ InvalidInput) × (len < offset))

-- an error of an opening of the one file at a path: there was no memory, or another path was given
abbrev pub IsOfPath : List ℕ → List ℕ → Error → Type 0
IsOfPath path given e = (error_kind e ≡ OutOfMemory) ⊎ ((error_kind e ≡ NotFound) × (given ≢ path))

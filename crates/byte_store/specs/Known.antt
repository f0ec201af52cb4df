-- What is said of bytes only where they are known.
use Rattle.std.specs.Prelude.{ℕ, ◌≡◌, ◌+◌, ◌-◌, ◌<◌, ◌≤◌, List, ◌++◌, length, take, drop, replicate, Option, Some, None, Result, MatchResult, if◌then◌else◌, ⊤}
use Rattle.std.specs.Str.{bytes_eq}

-- known bytes become this function of them
abbrev pub Becomes : (List ℕ → List ℕ) → Option (List ℕ) → Option (List ℕ) → Type 0
Becomes f old new = (bytes : List ℕ) → old ≡ Some bytes → new ≡ Some (f bytes)

-- known bytes are as they were
abbrev pub KeepsKnown : Option (List ℕ) → Option (List ℕ) → Type 0
KeepsKnown old new = Becomes (λ bytes. bytes) old new

-- bytes stay as they were, known or not
abbrev pub Stays : Option (List ℕ) → Option (List ℕ) → Type 0
Stays old new = new ≡ old

-- where the bytes are known, there are so many
abbrev pub HasLength : Option (List ℕ) → ℕ → Type 0
HasLength known n = (bytes : List ℕ) → known ≡ Some bytes → length bytes ≡ n

-- where the bytes are known, these are all of them
abbrev pub IsAll : Option (List ℕ) → List ℕ → Type 0
IsAll known bytes = (all : List ℕ) → known ≡ Some all → bytes ≡ all

-- where the bytes are known, these are the first `most` of them, or all where there are fewer
abbrev pub IsFirst : ℕ → Option (List ℕ) → List ℕ → Type 0
IsFirst most known bytes = (all : List ℕ) → known ≡ Some all → bytes ≡ take most all

-- a read at an offset put known bytes at the front of a buffer, none of them only at the end or where there is no room
abbrev pub ReadsFrom : {E : Type 0} → ℕ → Result ℕ E → Option (List ℕ) → List ℕ → Type 0
ReadsFrom at result known buffer = MatchResult result (λ n. (bytes : List ℕ) → known ≡ Some bytes
    → (take n buffer ≡ take n (drop at bytes)) × (n ≡ 0 → 0 < length buffer → length bytes ≤ at)) (λ _. ⊤)

-- known bytes with a part over them from an offset on, which may reach past their end
abbrev pub put_at : ℕ → List ℕ → List ℕ → List ℕ
put_at at part bytes = take at bytes ++ (part ++ drop (at + length part) bytes)

-- a part stands over known bytes, if its offset isn't behind their end
abbrev pub Puts : ℕ → List ℕ → Option (List ℕ) → Option (List ℕ) → Type 0
Puts at part old new = (bytes : List ℕ) → old ≡ Some bytes → at ≤ length bytes → new ≡ Some (put_at at part bytes)

-- some first bytes of a part stand over known bytes
abbrev pub PutsFirst : ℕ → List ℕ → Option (List ℕ) → Option (List ℕ) → Type 0
PutsFirst at part old new = (n : ℕ) × (n ≤ length part) × Puts at (take n part) old new

-- a write at an offset put the bytes that it took, and none at an error
abbrev pub WritesAt : {E : Type 0} → ℕ → List ℕ → Result ℕ E → Option (List ℕ) → Option (List ℕ) → Type 0
WritesAt at part result old new = MatchResult result (λ n. Puts at (take n part) old new) (λ _. Stays old new)

-- bytes cut to a length, or with zeros behind them up to it
abbrev pub resized : ℕ → List ℕ → List ℕ
resized n bytes = take n bytes ++ replicate (n - length bytes) 0

-- known bytes get a length, or stay at an error
abbrev pub Resizes : {T E : Type 0} → ℕ → Result T E → Option (List ℕ) → Option (List ℕ) → Type 0
Resizes n result old new = MatchResult result (λ _. Becomes (resized n) old new) (λ _. Stays old new)

-- these bytes are the first of known bytes
abbrev pub IsFront : Option (List ℕ) → List ℕ → Type 0
IsFront known bytes = (all : List ℕ) → known ≡ Some all → bytes ≡ take (length bytes) all

-- bytes that are the first of known ones become others that are
abbrev pub KeepsFront : Option (List ℕ) → List ℕ → List ℕ → Type 0
KeepsFront known old new = (all : List ℕ) → known ≡ Some all → old ≡ take (length old) all → new ≡ take (length new) all

-- known bytes end within so many
abbrev pub EndsWithin : Option (List ℕ) → ℕ → Type 0
EndsWithin known n = (all : List ℕ) → known ≡ Some all → length all ≤ n

-- n known bytes from a position on stand at that position of a buffer too; none only at the end
abbrev pub ReadsInto : ℕ → ℕ → Option (List ℕ) → List ℕ → Type 0
ReadsInto n at known buffer = (all : List ℕ) → known ≡ Some all
    → (take n (drop at buffer) ≡ take n (drop at all)) × (n ≡ 0 → length all ≤ at)

-- the bytes of a file at a path, where there is no other
abbrev pub bytes_at : List ℕ → List ℕ → List ℕ → Option (List ℕ)
bytes_at path bytes asked = if bytes_eq asked path then Some bytes else None

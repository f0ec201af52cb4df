-- Bytes with the bytes of slices laid over them.
use Rattle.std.proofs.Common.{◌≡◌, ◌≤◌, ◌<◌, ◌+◌, ℕ, ◌⊎◌, inl, inr, true, false, nat_lt, List, [], ◌∷◌, length, take, drop, get_or, refl, sym, ap, ◌∙◌, arith}
use Rattle.std.specs.Prelude.{⊤}
use Rattle.std.proofs.lemmas.Bool.{cases_lt, lt-ltb}
use Rattle.macho_image.specs.declared.fat.FatArch.{FatArch}
use Rattle.macho_image.specs.Fat.{share_byte, slice_of}
use Rattle.arwen_macho.specs.FatState.{Slice, bytes_laid_over, put_at}
use Rattle.macho_edits.specs.State.{laid_bytes}
use Rattle.arwen_macho.specs.FatShown.{IsOutside}
use Rattle.arwen_macho.proofs.PutLaws.{get_or-put_at, length-put_at, put_at_comm, slice-put_at, slice-put_at_apart, take-put_at}

-- a slice lies in so many bytes, and its state has as many as the table says
pub record Lies (len : ℕ) (s : Slice) : Type 0 where
  pub inside : s.arch.offset + s.arch.size ≤ len
  pub long : length (laid_bytes s.state) ≡ s.arch.size

-- one ends before the other begins
abbrev pub Apart : FatArch → FatArch → Type 0
Apart a b = (a.offset + a.size ≤ b.offset) ⊎ (b.offset + b.size ≤ a.offset)

abbrev pub ApartFrom : FatArch → List Slice → Type 0
ApartFrom a [] = ⊤
ApartFrom a (s ∷ slices) = Apart a s.arch × ApartFrom a slices

-- slices of so many bytes, of which each two are apart
abbrev pub AreLaid : ℕ → List Slice → Type 0
AreLaid len [] = ⊤
AreLaid len (s ∷ slices) = Lies len s × (ApartFrom s.arch slices × AreLaid len slices)

-- a slice as it lies, in bytes of this length
room : (len : ℕ) (s : Slice) (bytes : List ℕ) → length bytes ≡ len → Lies len s → s.arch.offset + length (laid_bytes s.state) ≤ length bytes
room len s bytes long lies = let inside = lies.inside in let size = lies.long in omega arith

placed : (len : ℕ) (s : Slice) (bytes : List ℕ) → length bytes ≡ len → Lies len s → length (put_at s.arch.offset (laid_bytes s.state) bytes) ≡ len
placed len s bytes long lies = length-put_at s.arch.offset (laid_bytes s.state) bytes (room len s bytes long lies) ∙ long

pub length-laid_over : (len : ℕ) (slices : List Slice) (bytes : List ℕ) → length bytes ≡ len → AreLaid len slices → length (bytes_laid_over slices bytes) ≡ len
length-laid_over len [] bytes long lie = long
length-laid_over len (s ∷ slices) bytes long lie =
    length-laid_over len slices (put_at s.arch.offset (laid_bytes s.state) bytes) (placed len s bytes long lie.0) lie.1.1

-- apart from a slice as it lies
beside : (a : FatArch) (s : Slice) (len : ℕ) → Lies len s → Apart a s.arch → (a.offset + a.size ≤ s.arch.offset) ⊎ (s.arch.offset + length (laid_bytes s.state) ≤ a.offset)
beside a s len lies (inl below) = inl below
beside a s len lies (inr above) = inr (let size = lies.long in omega arith)

-- a part that is apart from the slices can be put before or after them
pub put-laid_over : (a : FatArch) (part : List ℕ) (len : ℕ) (slices : List Slice) (bytes : List ℕ) → length part ≡ a.size → a.offset + a.size ≤ len → length bytes ≡ len → ApartFrom a slices → AreLaid len slices → put_at a.offset part (bytes_laid_over slices bytes) ≡ bytes_laid_over slices (put_at a.offset part bytes)
put-laid_over a part len [] bytes sized inside long apart lie = refl
put-laid_over a part len (s ∷ slices) bytes sized inside long apart lie =
    put-laid_over a part len slices (put_at s.arch.offset (laid_bytes s.state) bytes) sized inside (placed len s bytes long lie.0) apart.1 lie.1.1
    ∙ ap (bytes_laid_over slices) (put_at_comm a.offset s.arch.offset part (laid_bytes s.state) bytes (parts (beside a s len lie.0 apart.0)) (omega arith) (room len s bytes long lie.0))
  where
    parts : (a.offset + a.size ≤ s.arch.offset) ⊎ (s.arch.offset + length (laid_bytes s.state) ≤ a.offset) → (a.offset + length part ≤ s.arch.offset) ⊎ (s.arch.offset + length (laid_bytes s.state) ≤ a.offset)
    parts (inl below) = inl (omega arith)
    parts (inr above) = inr above

-- a part that is apart from the slices holds what it held
pub slice-laid_over : (a : FatArch) (len : ℕ) (slices : List Slice) (bytes : List ℕ) → length bytes ≡ len → ApartFrom a slices → AreLaid len slices → slice_of (bytes_laid_over slices bytes) a ≡ slice_of bytes a
slice-laid_over a len [] bytes long apart lie = refl
slice-laid_over a len (s ∷ slices) bytes long apart lie =
    let fits = room len s bytes long lie.0 in
    slice-laid_over a len slices (put_at s.arch.offset (laid_bytes s.state) bytes) (placed len s bytes long lie.0) apart.1 lie.1.1
    ∙ slice-put_at_apart a.offset a.size s.arch.offset (laid_bytes s.state) bytes (beside a s len lie.0 apart.0) (omega arith)

-- what stands before all slices stays
abbrev pub AreBehind : ℕ → List Slice → Type 0
AreBehind n [] = ⊤
AreBehind n (s ∷ slices) = (n ≤ s.arch.offset) × AreBehind n slices

pub take-laid_over : (n len : ℕ) (slices : List Slice) (bytes : List ℕ) → length bytes ≡ len → AreBehind n slices → AreLaid len slices → take n (bytes_laid_over slices bytes) ≡ take n bytes
take-laid_over n len [] bytes long behind lie = refl
take-laid_over n len (s ∷ slices) bytes long behind lie =
    let fits = room len s bytes long lie.0 in
    take-laid_over n len slices (put_at s.arch.offset (laid_bytes s.state) bytes) (placed len s bytes long lie.0) behind.1 lie.1.1
    ∙ take-put_at n s.arch.offset (laid_bytes s.state) bytes behind.0 (omega arith)

-- a position that lies in none of the slices
abbrev pub OutsideAll : ℕ → List Slice → Type 0
OutsideAll p [] = ⊤
OutsideAll p (s ∷ slices) = IsOutside p s.arch × OutsideAll p slices

beyond : (p : ℕ) (s : Slice) (len : ℕ) → Lies len s → IsOutside p s.arch → (p < s.arch.offset) ⊎ (s.arch.offset + length (laid_bytes s.state) ≤ p)
beyond p s len lies (inl below) = inl below
beyond p s len lies (inr above) = inr (let size = lies.long in omega arith)

pub get_or-laid_over : (p d len : ℕ) (slices : List Slice) (bytes : List ℕ) → length bytes ≡ len → OutsideAll p slices → AreLaid len slices → get_or (bytes_laid_over slices bytes) p d ≡ get_or bytes p d
get_or-laid_over p d len [] bytes long outside lie = refl
get_or-laid_over p d len (s ∷ slices) bytes long outside lie =
    let fits = room len s bytes long lie.0 in
    get_or-laid_over p d len slices (put_at s.arch.offset (laid_bytes s.state) bytes) (placed len s bytes long lie.0) outside.1 lie.1.1
    ∙ get_or-put_at p d s.arch.offset (laid_bytes s.state) bytes (beyond p s len lie.0 outside.0) (omega arith)

-- each slice shows its own bytes
abbrev pub AreShown : List ℕ → List Slice → Type 0
AreShown bytes [] = ⊤
AreShown bytes (s ∷ slices) = (slice_of bytes s.arch ≡ laid_bytes s.state) × AreShown bytes slices

-- the head of slices shows its own
pub head-laid_over : (len : ℕ) (s : Slice) (slices : List Slice) (bytes : List ℕ) → length bytes ≡ len → AreLaid len (s ∷ slices) → slice_of (bytes_laid_over slices (put_at s.arch.offset (laid_bytes s.state) bytes)) s.arch ≡ laid_bytes s.state
head-laid_over len s slices bytes long lie =
    let fits = room len s bytes long lie.0 in
    slice-laid_over s.arch len slices (put_at s.arch.offset (laid_bytes s.state) bytes) (placed len s bytes long lie.0) lie.1.0 lie.1.1
    ∙ ap (λ (n : ℕ). take n (drop s.arch.offset (put_at s.arch.offset (laid_bytes s.state) bytes))) (sym lie.0.long)
    ∙ slice-put_at s.arch.offset (laid_bytes s.state) bytes (omega arith)

pub shown-laid_over : (len : ℕ) (slices : List Slice) (bytes : List ℕ) → length bytes ≡ len → AreLaid len slices → AreShown (bytes_laid_over slices bytes) slices
shown-laid_over len [] bytes long lie = tt
shown-laid_over len (s ∷ slices) bytes long lie =
    (head-laid_over len s slices bytes long lie, shown-laid_over len slices (put_at s.arch.offset (laid_bytes s.state) bytes) (placed len s bytes long lie.0) lie.1.1)

-- slices that don't share a byte, and aren't empty, are apart
pub apart_from_share : (a b : FatArch) → 0 < a.size → 0 < b.size → share_byte a b ≡ false → Apart a b
apart_from_share a b some_a some_b none = decide (cases_lt a.offset (b.offset + b.size)) (cases_lt b.offset (a.offset + a.size))
  where
    decide : (a.offset < b.offset + b.size) ⊎ (b.offset + b.size ≤ a.offset) → (b.offset < a.offset + a.size) ⊎ (a.offset + a.size ≤ b.offset) → Apart a b
    decide (inr above) other = inr above
    decide (inl low) (inr below) = inl below
    decide (inl low) (inl high) =
        let yes_a : nat_lt 0 a.size ≡ true = lt-ltb 0 a.size some_a in
        let yes_b : nat_lt 0 b.size ≡ true = lt-ltb 0 b.size some_b in
        let yes_low : nat_lt a.offset (b.offset + b.size) ≡ true = lt-ltb a.offset (b.offset + b.size) low in
        let yes_high : nat_lt b.offset (a.offset + a.size) ≡ true = lt-ltb b.offset (a.offset + a.size) high in
        let share : share_byte a b ≡ true = rw (yes_a, yes_b, yes_low, yes_high) refl in
        absurd (cc)

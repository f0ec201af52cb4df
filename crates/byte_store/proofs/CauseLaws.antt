-- Counts that rise, and why calls failed, in one step after another.
use Rattle.std.proofs.Common.{◌≡◌, ◌≤◌, ◌<◌, ◌+◌, ◌-◌, ℕ, zero, suc, List, Option, Some, ap, arith, inl, inr, length, refl, subst, take}
use Rattle.std.proofs.lemmas.List.{length-take}
use Rattle.std.specs.declared.io.Error.{Error}
use Rattle.byte_store.specs.Causes.{EndsBy, FailsRead, HasFailed, IsNotRead}
use Rattle.byte_store.specs.Counts.{RisesBy}
use Rattle.byte_store.specs.Known.{IsFirst, IsFront}
use Rattle.byte_store.specs.declared.reading.ReadError.{ReadError}
use Rattle.byte_store.specs.declared.reading.ReadError.TheVariants.{Io, Memory}

-- failures in a row
rises_on : (m n k a b c : ℕ) → k ≤ m + n → RisesBy m a b → RisesBy n b c → RisesBy k a c
rises_on m n k a b c bound first second = (omega arith, λ below. omega arith)

pub failed_on : (f : Error → Type 0) (m n k a b c : ℕ) → k ≤ m + n → HasFailed f m a b → HasFailed f n b c → HasFailed f k a c
failed_on f zero n k a b c bound first second = (
  rises_on 0 n k a b c bound first.0 second.0,
  λ some. second.1 (omega arith),
)
failed_on f (suc m) n k a b c bound first second = (
  rises_on (suc m) n k a b c bound first.0 second.0,
  λ some. first.1 (omega arith),
)

pub failed_none : (f : Error → Type 0) (n a b : ℕ) → n ≡ 0 → a ≡ b → HasFailed f n a b
failed_none f n a b none same = ((omega arith, λ below. omega arith), λ some. absurd (omega arith))

-- reads
pub read_ended : (f : Error → Type 0) (known : Option (List ℕ)) (e : ReadError) (a b c : ℕ) → a ≤ b → FailsRead f b c e → IsNotRead f known a c e
read_ended f known Memory a b c grows is = tt
read_ended f known (Io e) a b c grows is = inl (is.0, (omega arith, λ below. omega arith))

pub read_from : (f : Error → Type 0) (old mid : Option (List ℕ)) (e : ReadError) (a b c : ℕ) → mid ≡ old → b ≡ a → IsNotRead f mid b c e → IsNotRead f old a c e
read_from f old mid e a b c same is ended =
    let P : Option (List ℕ) → Type 0 = λ known. IsNotRead f known a c e in
    let Q : ℕ → Type 0 = λ n. IsNotRead f mid n c e in
    subst P same (subst Q is ended)

pub endless : (f : Error → Type 0) (known : Option (List ℕ)) (bytes : List ℕ) (n m len a b : ℕ) → n ≤ m → len ≡ length bytes → IsFront known bytes
    → HasFailed f (m - len) a b → (all : List ℕ) → known ≡ Some all → HasFailed f (n - length all) a b
endless f known bytes n m len a b few is front failed all knows =
    let long : length bytes ≡ length (take (length bytes) all) = ap length (front all knows) in
    failed_on f (m - len) 0 (n - length all) a b b (omega (arith, length-take (length bytes) all)) failed (failed_none f 0 b b refl refl)

pub too_many : (most : ℕ) (known : Option (List ℕ)) (bytes : List ℕ) → most < length bytes → IsFirst (most + 1) known bytes → (all : List ℕ) → known ≡ Some all → most < length all
too_many most known bytes more first all knows =
    let long : length bytes ≡ length (take (most + 1) all) = ap length (first all knows) in
    omega (arith, length-take (most + 1) all)

-- writes
pub ended_later : (f : Error → Type 0) (none : Type 0) (e : Error) (a b c : ℕ) → a ≤ b → EndsBy f none e b c → EndsBy f none e a c
ended_later f none e a b c grows (inl is) = inl (is.0, (omega arith, λ below. omega arith))
ended_later f none e a b c grows (inr (inl is)) = inr (inl (is.0, is.1, (omega arith, λ below. omega arith)))
ended_later f none e a b c grows (inr (inr is)) =
    inr (inr (is.0, ((omega arith, λ below. omega arith), is.1.1)))

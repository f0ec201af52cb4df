-- What a reader can see: a byte at each place, or none.
use Rattle.std.specs.Prelude.{ℕ, zero, suc, ◌+◌, ◌≡◌, List, [], ◌∷◌, Option, Some, None, nat_lt, if◌then◌else◌, slice_get}
use Rattle.patch_bytes.specs.Number.{value_of}
use Rattle.patch_bytes.specs.declared.number.ByteOrder2.{ByteOrder2}

-- the byte at each place, where there is one
abbrev pub Memory : Type 0
Memory = ℕ → Option ℕ

-- goes on with a value where there is one
infixl 10 ◌>>=◌
abbrev pub ◌>>=◌ : {A B : Type 0} → Option A → (A → Option B) → Option B
(Some x) >>= f = f x
None >>= f = None

-- the first, or where it isn't there the second
abbrev pub first_there : {A : Type 0} → Option A → Option A → Option A
first_there None other = other
first_there (Some x) other = Some x

-- the bytes of a list, the first at 0
abbrev pub memory_of : List ℕ → Memory
memory_of bytes = λ a. slice_get bytes a

-- no byte at all
abbrev pub nowhere : Memory
nowhere = λ _. None

-- what is seen from a place on
abbrev pub from : Memory → ℕ → Memory
from memory start = λ a. memory (start + a)

-- the first n places alone
abbrev pub first_places : ℕ → Memory → Memory
first_places n memory = λ a. if nat_lt a n then memory a else None

-- the n bytes from a place on
unfoldable pub bytes_at : ℕ → Memory → ℕ → Option (List ℕ)
bytes_at zero memory a = Some []
bytes_at (suc n) memory a = do
  byte ← memory a
  rest ← bytes_at n memory (a + 1)
  Some (byte ∷ rest)

-- the number in the n bytes from a place on
unfoldable pub number_in : ByteOrder2 → ℕ → Memory → ℕ → Option ℕ
number_in order n memory a = do
  bytes ← bytes_at n memory a
  Some (value_of order bytes)

-- the bytes from a place up to the first NUL, which is one of the first `room` bytes
unfoldable pub text_at : ℕ → Memory → ℕ → Option (List ℕ)
text_at zero memory a = None
text_at (suc room) memory a = do
  byte ← memory a
  elim byte [ zero ↦ Some [] | suc b ↦ text_at room memory (a + 1) >>= (λ rest. Some (suc b ∷ rest)) ]

-- wherever the first memory has a byte, the second has the same
abbrev pub Keeps : Memory → Memory → Type 0
Keeps f g = (a x : ℕ) → f a ≡ Some x → g a ≡ Some x

-- where the first is there, so is the second, and they are equal
abbrev pub Agrees : {A : Type 0} → Option A → Option A → Type 0
Agrees {A} o p = (x : A) → o ≡ Some x → p ≡ Some x

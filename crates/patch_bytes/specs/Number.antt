-- Numbers that stand in bytes. A list of bytes is a list of numbers below 256.
use Rattle.std.specs.Prelude.{ℕ, ◌+◌, ◌*◌, ◌^◌, ◌≤◌, ◌<◌, ◌≡◌, List, [], ◌∷◌, ◌++◌, length, take, drop, Result, MatchResult}
use Rattle.std.specs.Int.{bytes_high_first, bytes_low_first}
use Rattle.patch_bytes.specs.declared.number.ByteOrder2.{ByteOrder2}
use Rattle.patch_bytes.specs.declared.number.ByteOrder2.TheVariants.{Little, Big}
use Rattle.patch_bytes.specs.declared.number.Wide.{Wide}
use Rattle.patch_bytes.specs.declared.number.Wide.TheVariants.{W32, W64}
use Rattle.patch_bytes.specs.declared.number.Outside.{Outside}

-- the sum of the bytes times powers of 256, the first byte the lowest
abbrev pub low_first_value : List ℕ → ℕ
low_first_value [] = 0
low_first_value (b ∷ bs) = b + 256 * low_first_value bs

-- the sum of the bytes times powers of 256, the first byte the highest
abbrev pub high_first_value : List ℕ → ℕ
high_first_value [] = 0
high_first_value (b ∷ bs) = b * 256 ^ length bs + high_first_value bs

-- the number that bytes spell in an order
abbrev pub value_of : ByteOrder2 → List ℕ → ℕ
value_of Little bs = low_first_value bs
value_of Big bs = high_first_value bs

-- the lowest n bytes of a number, in an order
abbrev pub bytes_of : ByteOrder2 → ℕ → ℕ → List ℕ
bytes_of Little n x = bytes_low_first 0 n x
bytes_of Big n x = bytes_high_first n x

-- the n bytes from a position on
abbrev pub field : ℕ → ℕ → List ℕ → List ℕ
field n pos bytes = take n (drop pos bytes)

-- the number in the n bytes from a position on
unfoldable pub number_at : ByteOrder2 → ℕ → ℕ → List ℕ → ℕ
number_at order n pos bytes = value_of order (field n pos bytes)

-- the bytes with the n bytes from a position on replaced by those of a number
unfoldable pub with_number : ByteOrder2 → ℕ → ℕ → ℕ → List ℕ → List ℕ
with_number order n pos x bytes = take pos bytes ++ (bytes_of order n x ++ drop (pos + n) bytes)

-- how many bytes a word has
abbrev pub word_size : Wide → ℕ
word_size W32 = 4
word_size W64 = 8

-- the answer to a read of n bytes: the number there, or `Outside` where they don't all lie in the bytes
abbrev pub ReadsNumber : ByteOrder2 → ℕ → ℕ → List ℕ → Result ℕ Outside → Type 0
ReadsNumber order n pos bytes answer =
    MatchResult answer (λ x. (pos + n ≤ length bytes) × (x ≡ number_at order n pos bytes)) (λ _. length bytes < pos + n)

-- the answer to a write of n bytes and what it leaves: the field changed, or `Outside` and nothing changed
abbrev pub WritesNumber : ByteOrder2 → ℕ → ℕ → ℕ → List ℕ → List ℕ → Result Unit Outside → Type 0
WritesNumber order n pos x old new answer =
    MatchResult answer (λ _. (pos + n ≤ length old) × (new ≡ with_number order n pos x old)) (λ _. (length old < pos + n) × (new ≡ old))

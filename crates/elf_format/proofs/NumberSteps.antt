-- The steps of reading a number byte by byte.
use Rattle.std.proofs.Common.{◌≡◌, ◌≤◌, ◌<◌, ℕ, ◌+◌, ◌*◌, ◌^◌, List, [], ◌∷◌, ◌++◌, length, take, drop, get_or, sym, ap, ◌∙◌, arith, add-one}
use Rattle.std.proofs.Math.Nat.{pow-le-pow_right, pow-suc}
use Rattle.std.proofs.lemmas.List.{length-append, length-take, take_more}
use Rattle.patch_bytes.specs.Bytes.{AreBytes}
use Rattle.patch_bytes.specs.Number.{field, high_first_value, number_at, value_of}
use Rattle.patch_bytes.specs.declared.number.ByteOrder2.{ByteOrder2}
use Rattle.patch_bytes.proofs.NumberLaws.{AreBytes-drop, AreBytes-take, value_of-lt}

-- one more byte keeps a number of less than eight bytes below 2^64
pub one_more_fits : (n b i : ℕ) → i < 8 → n < 256 ^ i → b < 256 → n * 256 + b < 2 ^ 64
one_more_fits n b i less below byte =
    let pos : 0 < 256 = omega arith in
    let le : i ≤ 7 = omega arith in
    let top : 256 ^ i ≤ 256 ^ 7 = pow-le-pow_right pos le in
    omega arith

pub one_more_below : (n b i : ℕ) → n < 256 ^ i → b < 256 → n * 256 + b < 256 ^ (i + 1)
one_more_below n b i below byte = rw (add-one, pow-suc) (omega arith)

-- a byte at the end is the lowest
high_first_value-push : (xs : List ℕ) (b : ℕ) → high_first_value (xs ++ b ∷ []) ≡ high_first_value xs * 256 + b
high_first_value-push [] b = omega arith
high_first_value-push (x ∷ xs) b =
    let long : length (xs ++ b ∷ []) ≡ length xs + 1 = length-append xs (b ∷ []) in
    let power : 256 ^ length (xs ++ b ∷ []) ≡ 256 ^ length xs * 256 = ap (λ n. 256 ^ n) (long ∙ add-one (length xs)) ∙ pow-suc 256 (length xs) in
    let rest : high_first_value (xs ++ b ∷ []) ≡ high_first_value xs * 256 + b = high_first_value-push xs b in
    ap (λ n. x * n + high_first_value (xs ++ b ∷ [])) power ∙ ap (λ n. x * (256 ^ length xs * 256) + n) rest ∙ omega arith

pub high_first_value-more : (xs : List ℕ) (i n : ℕ) → i < length xs → n ≡ high_first_value (take i xs) → n * 256 + get_or xs i 0 ≡ high_first_value (take (i + 1) xs)
high_first_value-more xs i n less h =
    ap (λ m. m * 256 + get_or xs i 0) h ∙ sym (high_first_value-push (take i xs) (get_or xs i 0)) ∙ ap high_first_value (sym (take_more xs i 0 less))

-- a number of n bytes, as far as they are there, is below 256 ^ n
pub number_at-below : (order : ByteOrder2) (n pos : ℕ) (xs : List ℕ) → AreBytes xs → number_at order n pos xs < 256 ^ n
unfolding number_at
number_at-below order n pos xs are =
    let bytes : List ℕ = field n pos xs in
    let below : value_of order bytes < 256 ^ length bytes = value_of-lt order bytes (AreBytes-take n (drop pos xs) (AreBytes-drop pos xs are)) in
    let top : 256 ^ length bytes ≤ 256 ^ n = pow-le-pow_right (omega arith) (rw (length-take n (drop pos xs)) (omega arith)) in
    omega arith

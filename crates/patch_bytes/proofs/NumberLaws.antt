-- The laws of numbers that stand in lists of bytes: where they stand, what bound they have, and that
-- the bytes of a number and the number of bytes undo each other.
use Rattle.std.proofs.Common.{◌≡◌, ◌≤◌, ◌<◌, ℕ, zero, suc, ◌+◌, ◌*◌, ◌-◌, ◌/◌, ◌^◌, List, [], ◌∷◌, ◌++◌, length, take, drop, get_or, refl, sym, ap, ◌∙◌, subst, arith}
use Rattle.std.proofs.Math.Nat.{mod-lt, pow-suc, mul-le-mul_right}
use Rattle.std.proofs.lemmas.List.{append-nil, drop-append-le, drop-drop, drop-take, drop_at, get_or-drop, length-append, length-drop, length-take-le, take-append-le, take-take, take_at}
use Rattle.std.proofs.lemmas.Nat.{div-mul-add}
use Rattle.std.specs.Int.{byte_at, bytes_high_first, bytes_low_first}
use Rattle.byteorder.specs.Endian.{big_from, little_from}
use Rattle.byteorder.specs.Numbers.{big_number-reads_back, length-bytes_high_first, length-bytes_low_first, little_number-reads_back}
use Rattle.patch_bytes.specs.declared.number.ByteOrder2.{ByteOrder2}
use Rattle.patch_bytes.specs.declared.number.ByteOrder2.TheVariants.{Big, Little}
use Rattle.patch_bytes.specs.Bytes.{AreBytes}
use Rattle.patch_bytes.specs.Number.{bytes_of, field, high_first_value, low_first_value, number_at, value_of, with_number}
use Rattle.patch_bytes.proofs.NumberLemmas.{big_from-all, length-field, little_from-all}

-- two lists with the same field hold the same number there
pub number_at-same : (order : ByteOrder2) (n p q : ℕ) (xs ys : List ℕ) → field n p xs ≡ field n q ys → number_at order n p xs ≡ number_at order n q ys
unfolding number_at
number_at-same order n p q xs ys same = ap (value_of order) same

-- a field of the front of two lists
field-append_left : (n pos : ℕ) (xs ys : List ℕ) → pos + n ≤ length xs → field n pos (xs ++ ys) ≡ field n pos xs
field-append_left n pos xs ys h =
    let left : n ≤ length (drop pos xs) = omega (arith, length-drop pos xs) in
    ap (take n) (drop-append-le pos xs ys (omega arith)) ∙ take-append-le n (drop pos xs) ys left

pub number_at-append_left : (order : ByteOrder2) (n pos : ℕ) (xs ys : List ℕ) → pos + n ≤ length xs → number_at order n pos (xs ++ ys) ≡ number_at order n pos xs
number_at-append_left order n pos xs ys h = number_at-same order n pos pos (xs ++ ys) xs (field-append_left n pos xs ys h)

-- a number behind a front of m bytes
pub number_at-append_right : (order : ByteOrder2) (n m pos : ℕ) (xs ys : List ℕ) → length xs ≡ m → number_at order n (m + pos) (xs ++ ys) ≡ number_at order n pos ys
number_at-append_right order n m pos xs ys h =
    number_at-same order n (m + pos) pos (xs ++ ys) ys (ap (take n) (sym (drop-drop pos m (xs ++ ys)) ∙ ap (drop pos) (drop_at xs ys m h)))

-- a number in what lies from position m on
pub number_at-drop : (order : ByteOrder2) (n m pos : ℕ) (xs : List ℕ) → number_at order n pos (drop m xs) ≡ number_at order n (m + pos) xs
number_at-drop order n m pos xs = number_at-same order n pos (m + pos) (drop m xs) xs (ap (take n) (drop-drop pos m xs))

-- a number in the first m bytes
pub number_at-take : (order : ByteOrder2) (n m pos : ℕ) (xs : List ℕ) → pos + n ≤ m → number_at order n pos (take m xs) ≡ number_at order n pos xs
number_at-take order n m pos xs h =
    let e : pos + (m - pos) ≡ m = omega arith in
    let P : ℕ → Type 0 = λ k. field n pos (take k xs) ≡ field n pos xs in
    let moved : field n pos (take (pos + (m - pos)) xs) ≡ field n pos xs = ap (take n) (drop-take pos (m - pos) xs) ∙ take-take n (m - pos) (drop pos xs) (omega arith) in
    number_at-same order n pos pos (take m xs) xs (subst P e moved)

-- bytes stay bytes in a part of the list
pub AreBytes-drop : (n : ℕ) (xs : List ℕ) → AreBytes xs → AreBytes (drop n xs)
AreBytes-drop n xs h = record { each = λ i. rw get_or-drop (h.each (n + i)) }

get_or-take-lt : (n : ℕ) (xs : List ℕ) (i : ℕ) → get_or (take n xs) i 0 ≤ get_or xs i 0
get_or-take-lt zero xs i = omega arith
get_or-take-lt (suc n) [] i = omega arith
get_or-take-lt (suc n) (x ∷ xs) zero = omega arith
get_or-take-lt (suc n) (x ∷ xs) (suc i) = get_or-take-lt n xs i

pub AreBytes-take : (n : ℕ) (xs : List ℕ) → AreBytes xs → AreBytes (take n xs)
AreBytes-take n xs h = record { each = λ i. let below = get_or-take-lt n xs i in let byte = h.each i in omega arith }

tail_bytes : (x : ℕ) (xs : List ℕ) → AreBytes (x ∷ xs) → AreBytes xs
tail_bytes x xs h = record { each = λ i. h.each (suc i) }

-- a byte before bytes
cons_bytes : (x : ℕ) (xs : List ℕ) → x < 256 → AreBytes xs → AreBytes (x ∷ xs)
cons_bytes x xs byte rest = record { each = each_of }
  where
    each_of : (i : ℕ) → get_or (x ∷ xs) i 0 < 256
    each_of zero = byte
    each_of (suc i) = rest.each i

-- bytes joined are bytes
pub AreBytes-append : (xs ys : List ℕ) → AreBytes xs → AreBytes ys → AreBytes (xs ++ ys)
AreBytes-append [] ys h k = k
AreBytes-append (x ∷ xs) ys h k = cons_bytes x (xs ++ ys) (h.each 0) (AreBytes-append xs ys (tail_bytes x xs h) k)

-- the value of bytes is below the power of their number
low_first_value-lt : (xs : List ℕ) → AreBytes xs → low_first_value xs < 256 ^ length xs
low_first_value-lt [] h = omega arith
low_first_value-lt (x ∷ xs) h =
    let byte : x < 256 = h.each 0 in
    let rest = low_first_value-lt xs (tail_bytes x xs h) in
    rw (pow-suc 256 (length xs)) (omega arith)

high_first_value-lt : (xs : List ℕ) → AreBytes xs → high_first_value xs < 256 ^ length xs
high_first_value-lt [] h = omega arith
high_first_value-lt (x ∷ xs) h =
    let byte : x < 256 = h.each 0 in
    let rest = high_first_value-lt xs (tail_bytes x xs h) in
    let top : x * 256 ^ length xs ≤ 255 * 256 ^ length xs = mul-le-mul_right (256 ^ length xs) (omega arith) in
    rw (pow-suc 256 (length xs)) (omega arith)

pub value_of-lt : (order : ByteOrder2) (xs : List ℕ) → AreBytes xs → value_of order xs < 256 ^ length xs
value_of-lt Little xs h = low_first_value-lt xs h
value_of-lt Big xs h = high_first_value-lt xs h

-- a number of n bytes that lie in the list is below 256 ^ n
pub number_at-lt : (order : ByteOrder2) (n pos : ℕ) (xs : List ℕ) → AreBytes xs → pos + n ≤ length xs → number_at order n pos xs < 256 ^ n
unfolding number_at
number_at-lt order n pos xs h inside =
    let P : ℕ → Type 0 = λ m. value_of order (field n pos xs) < 256 ^ m in
    subst P (length-field n pos xs inside) (value_of-lt order (field n pos xs) (AreBytes-take n (drop pos xs) (AreBytes-drop pos xs h)))

-- there are n bytes of a number
pub length-bytes_of : (order : ByteOrder2) (n x : ℕ) → length (bytes_of order n x) ≡ n
length-bytes_of Little n x = length-bytes_low_first 0 n x
length-bytes_of Big n x = length-bytes_high_first n x

-- a number is spelled by its bytes
pub value_of-bytes_of : (order : ByteOrder2) (n x : ℕ) → x < 256 ^ n → value_of order (bytes_of order n x) ≡ x
value_of-bytes_of Little n x h =
    let P : ℕ → Type 0 = λ m. little_from 0 m (bytes_low_first 0 n x) ≡ low_first_value (bytes_low_first 0 n x) in
    let whole : little_from 0 n (bytes_low_first 0 n x) ≡ low_first_value (bytes_low_first 0 n x) = subst P (length-bytes_low_first 0 n x) (little_from-all (bytes_low_first 0 n x)) in
    let back = rw append-nil at (little_number-reads_back n x [] h) in
    sym whole ∙ back
value_of-bytes_of Big n x h =
    let P : ℕ → Type 0 = λ m. big_from 0 m (bytes_high_first n x) ≡ high_first_value (bytes_high_first n x) in
    let whole : big_from 0 n (bytes_high_first n x) ≡ high_first_value (bytes_high_first n x) = subst P (length-bytes_high_first n x) (big_from-all (bytes_high_first n x)) in
    let back = rw append-nil at (big_number-reads_back n x [] h) in
    sym whole ∙ back

-- every byte of a number is a byte
byte_at-lt : (k x : ℕ) → byte_at k x < 256
byte_at-lt zero x = mod-lt x (omega arith)
byte_at-lt (suc k) x = mod-lt (x / 256 ^ suc k) (omega arith)

bytes_low_first-bytes : (i n x : ℕ) → AreBytes (bytes_low_first i n x)
bytes_low_first-bytes i zero x = record { each = λ k. omega arith }
bytes_low_first-bytes i (suc n) x = cons_bytes (byte_at i x) (bytes_low_first (suc i) n x) (byte_at-lt i x) (bytes_low_first-bytes (suc i) n x)

bytes_high_first-bytes : (n x : ℕ) → AreBytes (bytes_high_first n x)
bytes_high_first-bytes zero x = record { each = λ k. omega arith }
bytes_high_first-bytes (suc n) x = cons_bytes (byte_at n x) (bytes_high_first n x) (byte_at-lt n x) (bytes_high_first-bytes n x)

pub AreBytes-bytes_of : (order : ByteOrder2) (n x : ℕ) → AreBytes (bytes_of order n x)
AreBytes-bytes_of Little n x = bytes_low_first-bytes 0 n x
AreBytes-bytes_of Big n x = bytes_high_first-bytes n x

-- lists of bytes of one length with one value are one list
low_first_value-same : (xs ys : List ℕ) → AreBytes xs → AreBytes ys → length xs ≡ length ys → low_first_value xs ≡ low_first_value ys → xs ≡ ys
low_first_value-same [] [] h k l e = refl
low_first_value-same [] (y ∷ ys) h k l e = absurd (omega arith)
low_first_value-same (x ∷ xs) [] h k l e = absurd (omega arith)
low_first_value-same (x ∷ xs) (y ∷ ys) h k l e =
    let a : x < 256 = h.each 0 in
    let b : y < 256 = k.each 0 in
    let first : x ≡ y = omega arith in
    let rest : xs ≡ ys = low_first_value-same xs ys (tail_bytes x xs h) (tail_bytes y ys k) (omega arith) (omega arith) in
    cc

high_first_value-same : (xs ys : List ℕ) → AreBytes xs → AreBytes ys → length xs ≡ length ys → high_first_value xs ≡ high_first_value ys → xs ≡ ys
high_first_value-same [] [] h k l e = refl
high_first_value-same [] (y ∷ ys) h k l e = absurd (omega arith)
high_first_value-same (x ∷ xs) [] h k l e = absurd (omega arith)
high_first_value-same (x ∷ xs) (y ∷ ys) h k l e =
    let same_length : length xs ≡ length ys = omega arith in
    let a : high_first_value xs < 256 ^ length xs = high_first_value-lt xs (tail_bytes x xs h) in
    let b : high_first_value ys < 256 ^ length xs = rw same_length (high_first_value-lt ys (tail_bytes y ys k)) in
    let e' : x * 256 ^ length xs + high_first_value xs ≡ y * 256 ^ length xs + high_first_value ys = rw (← same_length) at e in
    let first : x ≡ y = sym (div-mul-add x (256 ^ length xs) (high_first_value xs) a) ∙ ap (λ (n : ℕ). n / 256 ^ length xs) e' ∙ div-mul-add y (256 ^ length xs) (high_first_value ys) b in
    let P : ℕ → Type 0 = λ v. v * 256 ^ length xs + high_first_value xs ≡ y * 256 ^ length xs + high_first_value ys in
    let e'' : y * 256 ^ length xs + high_first_value xs ≡ y * 256 ^ length xs + high_first_value ys = subst P first e' in
    let rest : xs ≡ ys = high_first_value-same xs ys (tail_bytes x xs h) (tail_bytes y ys k) same_length (omega arith) in
    cc

pub value_of-same : (order : ByteOrder2) (xs ys : List ℕ) → AreBytes xs → AreBytes ys → length xs ≡ length ys → value_of order xs ≡ value_of order ys → xs ≡ ys
value_of-same Little xs ys h k l e = low_first_value-same xs ys h k l e
value_of-same Big xs ys h k l e = high_first_value-same xs ys h k l e

-- the bytes of the number that bytes spell are these bytes
pub bytes_of-value_of : (order : ByteOrder2) (n : ℕ) (xs : List ℕ) → AreBytes xs → length xs ≡ n → bytes_of order n (value_of order xs) ≡ xs
bytes_of-value_of order n xs h l =
    let P : ℕ → Type 0 = λ m. value_of order xs < 256 ^ m in
    let fits : value_of order xs < 256 ^ n = subst P l (value_of-lt order xs h) in
    value_of-same order (bytes_of order n (value_of order xs)) xs (AreBytes-bytes_of order n (value_of order xs)) h (length-bytes_of order n (value_of order xs) ∙ sym l) (value_of-bytes_of order n (value_of order xs) fits)

-- the bytes of the number in a field are the field
pub bytes_of-number_at : (order : ByteOrder2) (n pos : ℕ) (xs : List ℕ) → AreBytes xs → pos + n ≤ length xs → bytes_of order n (number_at order n pos xs) ≡ field n pos xs
unfolding number_at
bytes_of-number_at order n pos xs h inside =
    bytes_of-value_of order n (field n pos xs) (AreBytes-take n (drop pos xs) (AreBytes-drop pos xs h)) (length-field n pos xs inside)

-- the number in the bytes of a number at the front
pub number_at-bytes_of : (order : ByteOrder2) (n x : ℕ) (rest : List ℕ) → x < 256 ^ n → number_at order n 0 (bytes_of order n x ++ rest) ≡ x
unfolding number_at
number_at-bytes_of order n x rest h = ap (value_of order) (take_at (bytes_of order n x) rest n (length-bytes_of order n x)) ∙ value_of-bytes_of order n x h

-- a written list is as long as before
pub length-with_number : (order : ByteOrder2) (n pos x : ℕ) (xs : List ℕ) → pos + n ≤ length xs → length (with_number order n pos x xs) ≡ length xs
unfolding with_number
length-with_number order n pos x xs h =
    omega (arith, length-append (take pos xs) (bytes_of order n x ++ drop (pos + n) xs), length-append (bytes_of order n x) (drop (pos + n) xs), length-bytes_of order n x, length-drop (pos + n) xs, length-take-le pos xs (omega arith))

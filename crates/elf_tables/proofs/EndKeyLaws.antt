-- The numbers of texts' ends, and the order that they tell.
use Rattle.std.proofs.Common.{◌≡◌, ◌≢◌, ℕ, ◌+◌, ◌-◌, ◌*◌, ◌^◌, ◌<◌, ◌≤◌, zero, suc, List, [], ◌∷◌, ◌++◌, drop, length, get_or, reverse, nat_eq, false, refl, sym, subst, ap, ◌∙◌, inl, inr, arith}
use Rattle.std.specs.List.{ends_with}
use Rattle.std.specs.Cmp.{nat_cmp_is}
use Rattle.std.specs.Cmp.Lexicographic.{slice_cmp}
use Rattle.std.specs.Ordering.{nat_cmp, ordering_then}
use Rattle.std.specs.declared.cmp.Ordering.{Ordering}
use Rattle.std.specs.declared.cmp.Ordering.TheVariants.{Equal, Greater, Less}
use Rattle.std.proofs.Math.Nat.{mul-le-mul_right, pow-le-pow_right, pow-succ'}
use Rattle.std.proofs.lemmas.Bool.{cases_lt, cases_order, false_from_ne_true}
use Rattle.std.proofs.lemmas.List.{get_or-drop, get_or-reverse, get_or_past, length-reverse, reverse-append}
use Rattle.patch_bytes.specs.Bytes.{AreBytes}
use Rattle.byteorder.specs.Endian.{little_from, little_number}
use Rattle.elf_tables.specs.EndKeys.{end_key, front_number}
use Rattle.elf_tables.proofs.TextOrder.{IsEnd, IsEnd-from}

bytes_behind : (x : ℕ) (xs : List ℕ) → AreBytes (x ∷ xs) → AreBytes xs
bytes_behind x xs are = record { each = λ i. are.each (suc i) }

pub AreBytes-reverse : (xs : List ℕ) → AreBytes xs → AreBytes (reverse xs)
AreBytes-reverse xs are = record {
  each = λ i. elim (cases_lt i (length xs)) [
    | inl within ↦ subst (λ (n : ℕ). n < 256) (sym (get_or-reverse xs i 0 within)) (are.each (length xs - 1 - i))
    | inr past ↦ let long : length (reverse xs) ≤ i = omega (arith, length-reverse {A = ℕ}) in
        subst (λ (n : ℕ). n < 256) (sym (get_or_past (reverse xs) i 0 long)) (omega arith)
  ];
}

-- ## One byte more

front_number-more : (n : ℕ) (xs : List ℕ) → front_number (suc n) xs ≡ front_number n xs * 256 + get_or xs n 0
unfolding front_number
front_number-more zero [] = refl
front_number-more zero (x ∷ xs) = omega arith
front_number-more (suc n) [] = refl
front_number-more (suc n) (x ∷ xs) =
    let inner : front_number (suc n) xs ≡ front_number n xs * 256 + get_or xs n 0 = front_number-more n xs in
    let power : 256 ^ suc n ≡ 256 * 256 ^ n = pow-succ' 256 n in
    let product : x * 256 ^ suc n ≡ x * (256 * 256 ^ n) = ap (λ p. x * p) power in
    omega (arith, inner, product)

pub front_number-below : (n : ℕ) (xs : List ℕ) → AreBytes xs → front_number n xs < 256 ^ n
unfolding front_number
front_number-below zero xs are = omega arith
front_number-below (suc n) [] are =
    let power : 256 ^ suc n ≡ 256 * 256 ^ n = pow-succ' 256 n in
    let inner : front_number n [] < 256 ^ n = front_number-below n [] are in
    omega (arith, power, inner)
front_number-below (suc n) (x ∷ xs) are =
    let power : 256 ^ suc n ≡ 256 * 256 ^ n = pow-succ' 256 n in
    let inner : front_number n xs < 256 ^ n = front_number-below n xs (bytes_behind x xs are) in
    let byte : x < 256 = are.each 0 in
    let most : x * 256 ^ n ≤ 255 * 256 ^ n = mul-le-mul_right (256 ^ n) (omega arith) in
    omega (arith, power, inner, most)

-- ## Their order

less_is : (x y : ℕ) → x < y → nat_cmp x y ≡ Less
less_is x y h = sym (nat_cmp_is x y Less h)

equal_is : (x y : ℕ) → x ≡ y → nat_cmp x y ≡ Equal
equal_is x y h = sym (nat_cmp_is x y Equal h)

greater_is : (x y : ℕ) → y < x → nat_cmp x y ≡ Greater
greater_is x y h = sym (nat_cmp_is x y Greater h)

-- the number of a list that begins with a smaller byte is smaller
below_by_byte : (x y p f g : ℕ) → f < p → x < y → x * p + f < y * p + g
below_by_byte x y p f g low h =
    let room : suc x * p ≤ y * p = mul-le-mul_right p h in
    omega (arith, room)

-- where the first bytes are one, what lies behind decides
by_rest : (x p f g : ℕ) → nat_cmp (x * p + f) (x * p + g) ≡ nat_cmp f g
by_rest x p f g = elim (cases_order f g) [
  | inl same ↦ equal_is (x * p + f) (x * p + g) (ap (λ k. x * p + k) same) ∙ sym (equal_is f g same)
  | inr other ↦ elim other [
    | inl below ↦ less_is (x * p + f) (x * p + g) (omega arith) ∙ sym (less_is f g below)
    | inr above ↦ greater_is (x * p + f) (x * p + g) (omega arith) ∙ sym (greater_is f g above)
  ]
]

-- a byte and what lies behind it
by_byte : (x y p f g : ℕ) (o : Ordering) → f < p → g < p → x * p + f ≢ y * p + g → ((f ≢ g) → nat_cmp f g ≡ o)
    → nat_cmp (x * p + f) (y * p + g) ≡ ordering_then (nat_cmp x y) o
by_byte x y p f g o low high apart behind = elim (cases_order x y) [
  | inl same ↦
      let rest : nat_cmp f g ≡ o = behind (λ e. apart (ap (λ k. k * p + f) same ∙ ap (λ k. y * p + k) e)) in
      ap (λ k. nat_cmp (k * p + f) (y * p + g)) same ∙ by_rest y p f g ∙ rest ∙ sym (ap (λ r. ordering_then r o) (equal_is x y same))
  | inr other ↦ elim other [
    | inl below ↦ less_is (x * p + f) (y * p + g) (below_by_byte x y p f g low below) ∙ sym (ap (λ r. ordering_then r o) (less_is x y below))
    | inr above ↦ greater_is (x * p + f) (y * p + g) (below_by_byte y x p g f high above) ∙ sym (ap (λ r. ordering_then r o) (greater_is x y above))
  ]
]

-- numbers that differ stand as their lists do
pub front_number-cmp : (n : ℕ) (xs ys : List ℕ) → AreBytes xs → AreBytes ys → front_number n xs ≢ front_number n ys
    → nat_cmp (front_number n xs) (front_number n ys) ≡ slice_cmp nat_cmp xs ys
unfolding front_number
front_number-cmp zero xs ys bytes others apart = absurd (apart refl)
front_number-cmp (suc n) [] [] bytes others apart = absurd (apart refl)
front_number-cmp (suc n) [] (y ∷ ys) bytes others apart = less_is 0 (y * 256 ^ n + front_number n ys) (omega arith)
front_number-cmp (suc n) (x ∷ xs) [] bytes others apart = greater_is (x * 256 ^ n + front_number n xs) 0 (omega arith)
front_number-cmp (suc n) (x ∷ xs) (y ∷ ys) bytes others apart =
    by_byte x y (256 ^ n) (front_number n xs) (front_number n ys) (slice_cmp nat_cmp xs ys)
    (front_number-below n xs (bytes_behind x xs bytes)) (front_number-below n ys (bytes_behind y ys others)) apart
    (front_number-cmp n xs ys (bytes_behind x xs bytes) (bytes_behind y ys others))

-- ## Texts

-- texts whose ends have other numbers stand as these do
pub end_key-cmp : (text other : List ℕ) → AreBytes text → AreBytes other → end_key text ≢ end_key other
    → nat_cmp (end_key text) (end_key other) ≡ slice_cmp nat_cmp (reverse text) (reverse other)
end_key-cmp text other bytes others apart = front_number-cmp 8 (reverse text) (reverse other) (AreBytes-reverse text bytes) (AreBytes-reverse other others) apart

-- one byte more of a text, from its end
pub end-more : (text : List ℕ) (back : ℕ) → front_number (back + 1) (reverse text) ≡ front_number back (reverse text) * 256 + get_or (reverse text) back 0
end-more text back =
    let one_more : back + 1 ≡ suc back = omega arith in
    ap (λ n. front_number n (reverse text)) one_more ∙ front_number-more back (reverse text)

pub end-low : (text : List ℕ) (back : ℕ) → AreBytes text → front_number back (reverse text) < 256 ^ back
end-low text back bytes = front_number-below back (reverse text) (AreBytes-reverse text bytes)

-- a byte more still fits 64 bits
pub end-fits : (back key : ℕ) → back < 8 → key < 256 ^ back → key * 256 + 255 < 2 ^ 64
end-fits back key within low =
    let most : 256 ^ back ≤ 256 ^ 7 = pow-le-pow_right {n = 256} (omega arith) {i = back} {j = 7} (omega arith) in
    omega (arith, most)

-- ## Single bytes

pub byte-within : (text : List ℕ) (back : ℕ) → back < length text → get_or text (length text - 1 - back) 0 ≡ get_or (reverse text) back 0
byte-within text back within = sym (get_or-reverse text back 0 within)

-- ## Ends that are read at once

-- the last bytes of a text, so many, as a number that is read the lowest first
end_read : (text : List ℕ) (i n : ℕ) → 8 ≤ length text → i + n ≡ 8 → little_from i n (drop (length text - 8) text) ≡ front_number n (reverse text)
unfolding front_number
end_read text i zero long is = refl
end_read text i (suc n) long is =
    let place : length text - 8 + i ≡ length text - 1 - n = omega (arith, is, long) in
    let byte : get_or (drop (length text - 8) text) i 0 ≡ get_or (reverse text) n 0 =
    get_or-drop (length text - 8) text i 0 ∙ ap (λ k. get_or text k 0) place ∙ byte-within text n (omega (arith, is, long)) in
    let inner : little_from (suc i) n (drop (length text - 8) text) ≡ front_number n (reverse text) = end_read text (suc i) n long (omega (arith, is)) in
    let more : front_number (suc n) (reverse text) ≡ front_number n (reverse text) * 256 + get_or (reverse text) n 0 = front_number-more n (reverse text) in
    omega (arith, byte, inner, more)

pub end_key-read : (text : List ℕ) → 8 ≤ length text → little_number 8 (drop (length text - 8) text) ≡ end_key text
end_key-read text long = end_read text 0 8 long refl

-- ## Ends of ends

front_number-append : (n : ℕ) (xs ys : List ℕ) → n ≤ length xs → front_number n (xs ++ ys) ≡ front_number n xs
unfolding front_number
front_number-append zero xs ys long = refl
front_number-append (suc n) [] ys long = absurd (omega arith)
front_number-append (suc n) (x ∷ xs) ys long = ap (λ f. x * 256 ^ n + f) (front_number-append n xs ys (omega arith))

-- a text that ends another, and has 8 bytes, has the number of its end
pub end_key-of_end : (text end : List ℕ) → IsEnd text end → 8 ≤ length end → end_key end ≡ end_key text
end_key-of_end text end h long =
    let whole : reverse text ≡ reverse end ++ reverse h.front = ap reverse h.is ∙ reverse-append h.front end in
    let enough : 8 ≤ length (reverse end) = omega (arith, length-reverse {A = ℕ}) in
    sym (ap (front_number 8) whole ∙ front_number-append 8 (reverse end) (reverse h.front) enough)

-- a text with 8 bytes and another number ends no such text
pub no_end-of_keys : (text end : List ℕ) → 8 ≤ length end → end_key end ≢ end_key text → ends_with nat_eq text end ≡ false
no_end-of_keys text end long apart = false_from_ne_true (ends_with nat_eq text end) (λ ends. apart (end_key-of_end text end (IsEnd-from text end ends) long))

-- The crate's numbers are those that `byteorder` reads and writes.
use Rattle.std.proofs.Common.{◌≡◌, ◌≤◌, ℕ, ◌+◌, ◌*◌, ◌^◌, List, [], ◌∷◌, ◌++◌, length, take, drop, refl, sym, ap, ◌∙◌, subst, arith}
use Rattle.std.proofs.lemmas.List.{append_assoc, drop-append-le, drop-drop, length-drop, length-take, length-take-le, take-append-drop}
use Rattle.byteorder.specs.Endian.{big_from, little_from, big_number, little_number}
use Rattle.byteorder.specs.Numbers.{big_from-cons, little_from-cons}
use Rattle.patch_bytes.specs.declared.number.ByteOrder2.TheVariants.{Little, Big}
use Rattle.patch_bytes.specs.Number.{field, high_first_value, low_first_value, number_at}

-- the number in all the bytes of a list, the lowest first
pub little_from-all : (xs : List ℕ) → little_from 0 (length xs) xs ≡ low_first_value xs
little_from-all [] = refl
little_from-all (x ∷ xs) = ap (λ (r : ℕ). x + 256 * r) (little_from-cons 0 (length xs) x xs ∙ little_from-all xs)

-- the number in all the bytes of a list, the highest first
pub big_from-all : (xs : List ℕ) → big_from 0 (length xs) xs ≡ high_first_value xs
big_from-all [] = refl
big_from-all (x ∷ xs) = ap (λ (r : ℕ). x * 256 ^ length xs + r) (big_from-cons 0 (length xs) x xs ∙ big_from-all xs)

-- a field inside the bytes has its width
pub length-field : (n pos : ℕ) (bytes : List ℕ) → pos + n ≤ length bytes → length (field n pos bytes) ≡ n
length-field n pos bytes h =
    let left : n ≤ length (drop pos bytes) = omega (arith, length-drop pos bytes) in length-take-le n (drop pos bytes) left

-- what `byteorder` reads in a field
pub little_number-field : (n pos : ℕ) (bytes : List ℕ) → pos + n ≤ length bytes → little_number n (field n pos bytes) ≡ number_at Little n pos bytes
unfolding number_at
little_number-field n pos bytes h =
    let P : ℕ → Type 0 = λ m. little_from 0 m (field n pos bytes) ≡ low_first_value (field n pos bytes) in
    subst P (length-field n pos bytes h) (little_from-all (field n pos bytes))

-- what `byteorder` reads in a field, the highest byte first
pub big_number-field : (n pos : ℕ) (bytes : List ℕ) → pos + n ≤ length bytes → big_number n (field n pos bytes) ≡ number_at Big n pos bytes
unfolding number_at
big_number-field n pos bytes h =
    let P : ℕ → Type 0 = λ m. big_from 0 m (field n pos bytes) ≡ high_first_value (field n pos bytes) in
    subst P (length-field n pos bytes h) (big_from-all (field n pos bytes))

-- a list from position n on, of which the first k places are taken apart
drop-parts : (n k : ℕ) (xs : List ℕ) → n ≤ k → n ≤ length xs → drop n (take k xs) ++ drop k xs ≡ drop n xs
drop-parts n k xs small inside =
    let front : n ≤ length (take k xs) = omega (arith, length-take k xs) in
    sym (drop-append-le n (take k xs) (drop k xs) front) ∙ ap (drop n) (take-append-drop k xs)

-- bytes that are written over the first n of the k that stand from a position on
pub put_number : (spelled bytes : List ℕ) (n pos k : ℕ) → n ≤ k → pos + n ≤ length bytes → take pos bytes ++ ((spelled ++ drop n (take k (drop pos bytes))) ++ drop k (drop pos bytes)) ≡ take pos bytes ++ (spelled ++ drop (pos + n) bytes)
put_number spelled bytes n pos k small inside =
    let left : n ≤ length (drop pos bytes) = omega (arith, length-drop pos bytes) in
    ap (λ (r : List ℕ). take pos bytes ++ r) (append_assoc spelled (drop n (take k (drop pos bytes))) (drop k (drop pos bytes))
    ∙ ap (λ (r : List ℕ). spelled ++ r) (drop-parts n k (drop pos bytes) small left ∙ drop-drop n pos bytes))

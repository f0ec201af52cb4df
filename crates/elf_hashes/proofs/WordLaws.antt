-- Numbers of one width that stand end to end, read in a memory that keeps them.
use Rattle.std.proofs.Common.{◌≡◌, ℕ, zero, suc, ◌+◌, ◌*◌, ◌^◌, ◌<◌, ◌≤◌, List, [], ◌∷◌, ◌++◌, length, get_or, map, take, sym, ap, ◌∙◌, Option, Some, arith}
use Rattle.std.specs.Prelude.{slice_get}
use Rattle.std.proofs.lemmas.List.{append_assoc, length-append, map-append, take_more}
use Rattle.std.proofs.lemmas.Option.{none-some, same_Some}
use Rattle.patch_bytes.specs.declared.number.ByteOrder2.{ByteOrder2}
use Rattle.patch_bytes.specs.Memory.{◌>>=◌, Keeps, Memory, memory_of, number_in}
use Rattle.patch_bytes.specs.Number.{bytes_of, field, number_at, value_of}
use Rattle.patch_bytes.proofs.MemoryLaws.{bytes_at-keeps, bytes_at-memory_of}
use Rattle.patch_bytes.proofs.NumberLaws.{length-bytes_of, number_at-append_right, number_at-bytes_of}
use Rattle.elf_tables.specs.Fields.{fields, words}
use Rattle.elf_tables.proofs.ForCallers.{fields-append}

-- numbers, each told with how many bytes it takes
abbrev pub as_wide : ℕ → List ℕ → List (ℕ × ℕ)
as_wide n ws = map (λ w. (n, w)) ws

pub length-as_wide : (order : ByteOrder2) (n : ℕ) (ws : List ℕ) → length (fields order (as_wide n ws)) ≡ n * length ws
length-as_wide order n [] = omega arith
length-as_wide order n (w ∷ ws) =
    length-append (bytes_of order n w) (fields order (as_wide n ws)) ∙ omega (arith, length-bytes_of order n w, length-as_wide order n ws)

-- the number with that position
number_there : (order : ByteOrder2) (n : ℕ) (ws back : List ℕ) (k x : ℕ) → slice_get ws k ≡ Some x → x < 256 ^ n
    → number_at order n (n * k) (fields order (as_wide n ws) ++ back) ≡ x
number_there order n [] back k x at fits = absurd (none-some x at)
number_there order n (w ∷ ws) back zero x at fits =
    let same : w ≡ x = same_Some w x at in
    let begin : n * 0 ≡ 0 = omega arith in
    ap (λ (p : ℕ). number_at order n p ((bytes_of order n w ++ fields order (as_wide n ws)) ++ back)) begin
    ∙ ap (number_at order n 0) (append_assoc (bytes_of order n w) (fields order (as_wide n ws)) back)
    ∙ ap (λ (v : ℕ). number_at order n 0 (bytes_of order n v ++ (fields order (as_wide n ws) ++ back))) same
    ∙ number_at-bytes_of order n x (fields order (as_wide n ws) ++ back) fits
number_there order n (w ∷ ws) back (suc k) x at fits =
    let next : n * suc k ≡ n + n * k = omega arith in
    ap (λ (p : ℕ). number_at order n p ((bytes_of order n w ++ fields order (as_wide n ws)) ++ back)) next
    ∙ ap (number_at order n (n + n * k)) (append_assoc (bytes_of order n w) (fields order (as_wide n ws)) back)
    ∙ number_at-append_right order n n (n * k) (bytes_of order n w) (fields order (as_wide n ws) ++ back) (length-bytes_of order n w)
    ∙ number_there order n ws back k x at fits

-- the number at a position ends within all numbers
ends_within : (n : ℕ) (ws : List ℕ) (k x : ℕ) → slice_get ws k ≡ Some x → n * k + n ≤ n * length ws
ends_within n [] k x at = absurd (none-some x at)
ends_within n (w ∷ ws) zero x at = omega arith
ends_within n (w ∷ ws) (suc k) x at = omega (arith, ends_within n ws k x at)

-- a number of a table is read in a memory that keeps the table
number_held : (order : ByteOrder2) (n a : ℕ) (table : List ℕ) (m : Memory) → Keeps (memory_of table) m → a + n ≤ length table
    → number_in order n m a ≡ Some (number_at order n a table)
unfolding number_in number_at
number_held order n a table m held within =
    ap (λ (o : Option (List ℕ)). o >>= (λ b. Some (value_of order b)))
    (bytes_at-keeps n (memory_of table) m held a (field n a table) (bytes_at-memory_of n a table within))

-- Numbers of a width stand in a table behind so many bytes.
pub record StandIn (order : ByteOrder2) (n at : ℕ) (ws table : List ℕ) : Type 0 where
  pub front : List ℕ
  pub back : List ℕ
  pub long : length front ≡ at
  pub whole : table ≡ front ++ (fields order (as_wide n ws) ++ back)

-- each number of a table is read in a memory that keeps the table
pub word_held : (order : ByteOrder2) (n at : ℕ) (ws table : List ℕ) (m : Memory) (k x : ℕ) → StandIn order n at ws table → Keeps (memory_of table) m
    → slice_get ws k ≡ Some x → x < 256 ^ n → number_in order n m (at + n * k) ≡ Some x
word_held order n at ws table m k x stand held there fits =
    let body : List ℕ = fields order (as_wide n ws) ++ stand.back in
    let long : length table ≡ at + (n * length ws + length stand.back) =
    ap length stand.whole ∙ length-append stand.front body
    ∙ omega (arith, stand.long, length-append (fields order (as_wide n ws)) stand.back, length-as_wide order n ws) in
    let within : at + n * k + n ≤ length table = omega (arith, long, ends_within n ws k x there) in
    number_held order n (at + n * k) table m held within
    ∙ ap (λ (v : ℕ). Some v) (ap (number_at order n (at + n * k)) stand.whole
    ∙ number_at-append_right order n at (n * k) stand.front body stand.long
    ∙ number_there order n ws stand.back k x there fits)

-- ## Words behind words

words-append : (order : ByteOrder2) (xs ys : List ℕ) → fields order (words (xs ++ ys)) ≡ fields order (words xs) ++ fields order (words ys)
words-append order xs ys = ap (fields order) (map-append (λ (w : ℕ). (4, w)) xs ys) ∙ fields-append order (words xs) (words ys)

-- three times words are appended
pub three-appended : (order : ByteOrder2) (a b c first second third : List ℕ) → first ≡ fields order (words a) → second ≡ first ++ fields order (words b)
    → third ≡ second ++ fields order (words c) → third ≡ fields order (words (a ++ (b ++ c)))
three-appended order a b c first second third one two three =
    let x : List ℕ = fields order (words a) in
    let y : List ℕ = fields order (words b) in
    let z : List ℕ = fields order (words c) in
    three ∙ ap (λ l. l ++ z) (two ∙ ap (λ l. l ++ y) one) ∙ append_assoc x y z
    ∙ ap (λ l. x ++ l) (sym (words-append order b c)) ∙ sym (words-append order a (b ++ c))

-- one number more is appended
pub number-appended : (order : ByteOrder2) (seen : ℕ → ℕ × ℕ) (items was now numbers : List ℕ) (i : ℕ) → i < length numbers
    → was ≡ items ++ fields order (map seen (take i numbers))
    → now ≡ was ++ fields order (seen (get_or numbers i 0) ∷ [])
    → now ≡ items ++ fields order (map seen (take (i + 1) numbers))
number-appended order seen items was now numbers i inside before step =
    let made : List ℕ = fields order (map seen (take i numbers)) in
    let more : List ℕ = fields order (seen (get_or numbers i 0) ∷ []) in
    step ∙ ap (λ l. l ++ more) before ∙ append_assoc items made more
    ∙ ap (λ l. items ++ l) (sym (fields-append order (map seen (take i numbers)) (seen (get_or numbers i 0) ∷ [])))
    ∙ ap (λ l. items ++ fields order l) (sym (map-append seen (take i numbers) (get_or numbers i 0 ∷ [])))
    ∙ ap (λ l. items ++ fields order (map seen l)) (sym (take_more numbers i 0 inside))

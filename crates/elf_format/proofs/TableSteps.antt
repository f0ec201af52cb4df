-- The steps of reading records that stand end to end, and ranges of bytes.
use Rattle.std.proofs.Common.{◌≡◌, ◌≤◌, ◌<◌, ℕ, zero, suc, ◌+◌, ◌-◌, ◌*◌, List, [], ◌∷◌, ◌++◌, length, take, drop, refl, sym, ap, ◌∙◌, Option, Some, None, arith}
use Rattle.std.specs.List.{slice_get}
use Rattle.std.proofs.Math.Nat.{suc-mul}
use Rattle.std.proofs.lemmas.List.{append-nil, append_assoc}
use Rattle.std.proofs.lemmas.Option.{slice_get_past}
use Rattle.patch_bytes.specs.Memory.{◌>>=◌, bytes_at, memory_of}
use Rattle.elf_format.specs.Form.{records}

module _ {A : Type 0} (decode : List ℕ → A) (size : ℕ) where
  pub records_goes : (made : List A) (count i : ℕ) (rest : List ℕ) (whole : List A) → i < count → made ++ records decode size (count - i) rest ≡ whole
      → (made ++ decode (take size rest) ∷ []) ++ records decode size (count - (i + 1)) (drop size rest) ≡ whole
  unfolding records
  records_goes made count i rest whole less so_far =
      let k : count - i ≡ suc (count - (i + 1)) = omega arith in
      append_assoc made (decode (take size rest) ∷ []) (records decode size (count - (i + 1)) (drop size rest))
      ∙ sym (ap (λ n. made ++ records decode size n rest) k) ∙ so_far

  pub records_done : (made : List A) (count i : ℕ) (rest : List ℕ) (whole : List A) → count ≤ i → made ++ records decode size (count - i) rest ≡ whole → made ≡ whole
  unfolding records
  records_done made count i rest whole past so_far =
      let k : count - i ≡ 0 = omega arith in
      sym (append-nil made) ∙ sym (ap (λ n. made ++ records decode size n rest) k) ∙ so_far

-- a record is there while one is left, and the rest holds what is left
pub one_left : (count i size long : ℕ) → i < count → (count - i) * size ≤ long → size ≤ long
one_left count i size long less room =
    let k : count - i ≡ suc (count - (i + 1)) = omega arith in
    let e : (count - i) * size ≡ (count - (i + 1)) * size + size = ap (λ n. n * size) k ∙ suc-mul (count - (i + 1)) size in
    omega arith

pub rest_left : (count i size long : ℕ) → i < count → (count - i) * size ≤ long → (count - (i + 1)) * size ≤ long - size
rest_left count i size long less room =
    let k : count - i ≡ suc (count - (i + 1)) = omega arith in
    let e : (count - i) * size ≡ (count - (i + 1)) * size + size = ap (λ n. n * size) k ∙ suc-mul (count - (i + 1)) size in
    omega arith

-- bytes past the end of a list aren't there
pub bytes_at-past : (n a : ℕ) (xs : List ℕ) → 0 < n → length xs < a + n → bytes_at n (memory_of xs) a ≡ None
unfolding bytes_at
bytes_at-past zero a xs pos past = absurd (omega arith)
bytes_at-past (suc zero) a xs pos past = ap (λ o. o >>= (λ b. Some (b ∷ []))) (slice_get_past xs a (omega arith))
bytes_at-past (suc (suc n)) a xs pos past =
    let more : bytes_at (suc n) (memory_of xs) (a + 1) ≡ None = bytes_at-past (suc n) (a + 1) xs (omega arith) (omega arith) in
    any_byte xs a (bytes_at (suc n) (memory_of xs) (a + 1)) more (slice_get xs a)
  where
    any_byte : (ys : List ℕ) (b : ℕ) (o : Option (List ℕ)) → o ≡ None → (first : Option ℕ) → (first >>= (λ c. o >>= (λ r. Some (c ∷ r)))) ≡ None
    any_byte ys b o e None = refl
    any_byte ys b o e (Some c) = ap (λ v. v >>= (λ r. Some (c ∷ r))) e

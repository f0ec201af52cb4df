-- That the counts, the area and the zeros, written one after the other, make the file with the area.
use Rattle.std.proofs.Common.{◌≡◌, ◌≤◌, ℕ, suc, ◌+◌, ◌-◌, List, [], ◌∷◌, ◌++◌, length, take, drop, replicate, refl, sym, ap, ◌∙◌, subst, arith}
use Rattle.std.proofs.lemmas.List.{append_assoc, drop_at, drop-drop, length-append, length-take-le, take_at}
use Rattle.std.proofs.lemmas.Slice.{drop-put_mid, take-put_mid}
use borrow.Rule.Slice.PartMut.{put_mid}
use Rattle.patch_bytes.specs.Number.{bytes_of, with_number}
use Rattle.patch_bytes.proofs.NumberLaws.{length-bytes_of, length-with_number}
use Rattle.macho_image.specs.Stored.{Fits, fields_behind, header_with}
use Rattle.macho_image.specs.declared.format.Ctx.{Ctx}
use Rattle.macho_image.specs.Form.{header_size}
use Rattle.macho_image.specs.Image.{with_area}
use Rattle.macho_image.proofs.FileLaws.{header_size-least}
use Rattle.macho_image.proofs.StoredParts.{with_area-parts}

-- the front of two lists that goes past the first
take-past : (n k : ℕ) (xs ys : List ℕ) → length xs ≡ n → take (n + k) (xs ++ ys) ≡ xs ++ take k ys
take-past n k [] ys e =
    let same : n + k ≡ k = omega arith in
    rw same refl
take-past n k (x ∷ xs) ys e =
    let same : n + k ≡ suc (length xs + k) = omega arith in
    rw same (ap (λ (r : List ℕ). x ∷ r) (take-past (length xs) k xs ys refl))

-- the bytes with both counts written
abbrev pub with_counts : Ctx → List ℕ → ℕ → ℕ → List ℕ
with_counts ctx old count size = with_number ctx.le 4 20 size (with_number ctx.le 4 16 count old)

-- a number that is written behind another
with_counts-parts : (ctx : Ctx) (old : List ℕ) (count size : ℕ) → 24 ≤ length old → with_counts ctx old count size ≡ ((take 16 old ++ bytes_of ctx.le 4 count) ++ bytes_of ctx.le 4 size) ++ drop 24 old
unfolding with_number
with_counts-parts ctx old count size h =
    let one : List ℕ = take 16 old ++ bytes_of ctx.le 4 count in
    let two : List ℕ = take 16 old ++ (bytes_of ctx.le 4 count ++ drop 20 old) in
    let front : length (take 16 old) ≡ 16 = length-take-le 16 old (omega arith) in
    let long : length one ≡ 20 = omega (arith, length-append (take 16 old) (bytes_of ctx.le 4 count), length-bytes_of ctx.le 4 count) in
    let whole : two ≡ one ++ drop 20 old = sym (append_assoc (take 16 old) (bytes_of ctx.le 4 count) (drop 20 old)) in
    let start : take 20 two ≡ one = ap (take 20) whole ∙ take_at one (drop 20 old) 20 long in
    let after : drop 20 two ≡ drop 20 old = ap (drop 20) whole ∙ drop_at one (drop 20 old) 20 long in
    let rest : drop 24 two ≡ drop 24 old = sym (drop-drop 4 20 two) ∙ ap (drop 4) after ∙ drop-drop 4 20 old in
    rw (start, rest) (sym (append_assoc one (bytes_of ctx.le 4 size) (drop 24 old)))

length-front : (ctx : Ctx) (old : List ℕ) (count size : ℕ) → 24 ≤ length old → length ((take 16 old ++ bytes_of ctx.le 4 count) ++ bytes_of ctx.le 4 size) ≡ 24
length-front ctx old count size h =
    let front : length (take 16 old) ≡ 16 = length-take-le 16 old (omega arith) in
    simp length-append (omega (arith, front, length-bytes_of ctx.le 4 count, length-bytes_of ctx.le 4 size))

-- the header with both counts written
take-with_counts : (ctx : Ctx) (old : List ℕ) (count size : ℕ) → 24 ≤ length old → take (header_size ctx.container) (with_counts ctx old count size) ≡ header_with ctx old count size
take-with_counts ctx old count size h =
    let least : 28 ≤ header_size ctx.container = header_size-least ctx.container in
    let front : List ℕ = (take 16 old ++ bytes_of ctx.le 4 count) ++ bytes_of ctx.le 4 size in
    let e : 24 + (header_size ctx.container - 24) ≡ header_size ctx.container = omega arith in
    let P : ℕ → Type 0 = λ n. take n (front ++ drop 24 old) ≡ front ++ fields_behind ctx old in
    let start : take (header_size ctx.container) (front ++ drop 24 old) ≡ front ++ fields_behind ctx old = subst P e (take-past 24 (header_size ctx.container - 24) front (drop 24 old) (length-front ctx old count size h)) in
    let joined : front ++ fields_behind ctx old ≡ header_with ctx old count size = simp append_assoc in
    ap (take (header_size ctx.container)) (with_counts-parts ctx old count size h) ∙ start ∙ joined

-- what stands behind the counts is as before
drop-with_counts : (ctx : Ctx) (old : List ℕ) (count size n : ℕ) → 24 ≤ length old → 24 ≤ n → drop n (with_counts ctx old count size) ≡ drop n old
drop-with_counts ctx old count size n h above =
    let new : List ℕ = with_counts ctx old count size in
    let front : List ℕ = (take 16 old ++ bytes_of ctx.le 4 count) ++ bytes_of ctx.le 4 size in
    let back : drop 24 new ≡ drop 24 old = ap (drop 24) (with_counts-parts ctx old count size h) ∙ drop_at front (drop 24 old) 24 (length-front ctx old count size h) in
    let e : 24 + (n - 24) ≡ n = omega arith in
    let P : ℕ → Type 0 = λ k. drop k new ≡ drop k old in
    subst P e (sym (drop-drop (n - 24) 24 new) ∙ ap (drop (n - 24)) back ∙ drop-drop (n - 24) 24 old)

length-with_counts : (ctx : Ctx) (old : List ℕ) (count size : ℕ) → 24 ≤ length old → length (with_counts ctx old count size) ≡ length old
length-with_counts ctx old count size h =
    let one : length (with_number ctx.le 4 16 count old) ≡ length old = length-with_number ctx.le 4 16 count old (omega arith) in
    let two : length (with_counts ctx old count size) ≡ length (with_number ctx.le 4 16 count old) = length-with_number ctx.le 4 20 size (with_number ctx.le 4 16 count old) (omega arith) in
    two ∙ one

-- two parts that are written one behind the other
two_writes : (xs ys zs : List ℕ) (start end high : ℕ) → end ≡ start + length ys → end ≤ high → high ≤ length xs → put_mid end (high - end) (put_mid start (end - start) xs ys) zs ≡ take start xs ++ (ys ++ (zs ++ drop high xs))
two_writes xs ys zs start end high ends above inside =
    let once : List ℕ = put_mid start (end - start) xs ys in
    let front : take end once ≡ take start xs ++ ys = take-put_mid start (end - start) xs ys end ends (omega arith) in
    let back : drop end once ≡ drop end xs = drop-put_mid start (end - start) xs ys end (omega arith) (omega arith) (omega arith) in
    let e : end + (high - end) ≡ high = omega arith in
    let P : ℕ → Type 0 = λ n. drop (high - end) (drop end once) ≡ drop n xs in
    let rest : drop (high - end) (drop end once) ≡ drop high xs = subst P e (ap (drop (high - end)) back ∙ drop-drop (high - end) end xs) in
    rw (front, rest) (append_assoc (take start xs) ys (zs ++ drop high xs))

-- the counts, then the area from `start` to `end`, then zeros from there to `high`
pub with_area-written : (ctx : Ctx) (old : List ℕ) (count : ℕ) (area : List ℕ) (high : ℕ) (zeros : List ℕ) (start end : ℕ) → Fits ctx old area high → start ≡ header_size ctx.container → end ≡ start + length area → zeros ≡ replicate (high - end) 0
    → put_mid end (high - end) (put_mid start (end - start) (with_counts ctx old count (length area)) area) zeros ≡ with_area ctx old count area high
with_area-written ctx old count area high zeros start end fit starts ends filled =
    let least : 28 ≤ header_size ctx.container = header_size-least ctx.container in
    let room : header_size ctx.container + length area ≤ high = fit.room in
    let inside : high ≤ length old = fit.inside in
    let counts : List ℕ = with_counts ctx old count (length area) in
    let long : length counts ≡ length old = length-with_counts ctx old count (length area) (omega arith) in
    let written = two_writes counts area zeros start end high ends (omega arith) (omega arith) in
    let front : take start counts ≡ header_with ctx old count (length area) = rw starts (take-with_counts ctx old count (length area) (omega arith)) in
    let back : drop high counts ≡ drop high old = drop-with_counts ctx old count (length area) high (omega arith) (omega arith) in
    let size : high - end ≡ high - (header_size ctx.container + length area) = omega arith in
    let zero : zeros ≡ replicate (high - (header_size ctx.container + length area)) 0 = filled ∙ ap (λ (n : ℕ). replicate n 0) size in
    written ∙ rw (front, back, zero) (sym (with_area-parts ctx old count area high))

-- Where the parts of a file with a stored area stand.
use Rattle.std.proofs.Common.{◌≡◌, ◌≤◌, ◌<◌, ◌^◌, ℕ, ◌+◌, ◌-◌, List, [], ◌++◌, length, take, drop, replicate, refl, sym, ap, ◌∙◌, subst, arith}
use Rattle.std.proofs.lemmas.List.{append-nil, append_assoc, drop_all, drop_at, drop-drop, drop-take, length-append, length-drop, length-replicate, length-take-le, take-take, take_at}
use Rattle.patch_bytes.specs.declared.number.ByteOrder2.{ByteOrder2}
use Rattle.patch_bytes.specs.Number.{bytes_of, number_at}
use Rattle.patch_bytes.proofs.NumberLaws.{length-bytes_of, number_at-append_right, number_at-bytes_of, number_at-drop, number_at-take}
use Rattle.macho_image.specs.Stored.{Fits, fields_behind, header_with}
use Rattle.macho_image.specs.declared.format.Ctx.{Ctx}
use Rattle.macho_image.specs.Form.{header_size}
use Rattle.macho_image.specs.Image.{with_area}
use Rattle.macho_image.proofs.FileLaws.{header_size-least}

-- what stands behind the header
abbrev pub behind_header : Ctx → List ℕ → List ℕ → ℕ → List ℕ
behind_header ctx old area high =
    area ++ (replicate (high - (header_size ctx.container + length area)) 0 ++ drop high old)

-- the lengths of the parts
record Lengths (ctx : Ctx) (old area : List ℕ) (high count size : ℕ) : Type 0 where
  least : 28 ≤ header_size ctx.container
  front : length (take 16 old) ≡ 16
  counts : length (bytes_of ctx.le 4 count) ≡ 4
  sizes : length (bytes_of ctx.le 4 size) ≡ 4
  fields : length (fields_behind ctx old) ≡ header_size ctx.container - 24
  zeros : length {A = ℕ} (replicate (high - (header_size ctx.container + length area)) 0) ≡ high - (header_size ctx.container + length area)
  back : length (drop high old) ≡ length old - high

lengths : (ctx : Ctx) (old area : List ℕ) (high count size : ℕ) → Fits ctx old area high → Lengths ctx old area high count size
lengths ctx old area high count size fits =
    let least : 28 ≤ header_size ctx.container = header_size-least ctx.container in
    let room : header_size ctx.container + length area ≤ high = fits.room in
    let inside : high ≤ length old = fits.inside in
    let behind : length (drop 24 old) ≡ length old - 24 = length-drop 24 old in
    record {
      least = least;
      front = length-take-le 16 old (omega arith);
      counts = length-bytes_of ctx.le 4 count;
      sizes = length-bytes_of ctx.le 4 size;
      fields = length-take-le (header_size ctx.container - 24) (drop 24 old) (omega arith);
      zeros = length-replicate {A = ℕ} (high - (header_size ctx.container + length area)) 0;
      back = length-drop high old;
    }

-- the file is the header with what stands behind it
pub with_area-parts : (ctx : Ctx) (old : List ℕ) (count : ℕ) (area : List ℕ) (high : ℕ) → with_area ctx old count area high ≡ header_with ctx old count (length area) ++ behind_header ctx old area high
unfolding with_area
with_area-parts ctx old count area high = simp append_assoc

-- the header is as long as before
pub length-header_with : (ctx : Ctx) (old area : List ℕ) (high count size : ℕ) → Fits ctx old area high → length (header_with ctx old count size) ≡ header_size ctx.container
length-header_with ctx old area high count size fits =
    let parts : Lengths ctx old area high count size = lengths ctx old area high count size fits in
    simp length-append (omega (arith, parts.least, parts.front, parts.counts, parts.sizes, parts.fields))

-- the file is as long as before
pub length-with_area : (ctx : Ctx) (old : List ℕ) (count : ℕ) (area : List ℕ) (high : ℕ) → Fits ctx old area high → length (with_area ctx old count area high) ≡ length old
unfolding with_area
length-with_area ctx old count area high fits =
    let parts : Lengths ctx old area high count (length area) = lengths ctx old area high count (length area) fits in
    let room : header_size ctx.container + length area ≤ high = fits.room in
    let inside : high ≤ length old = fits.inside in
    simp length-append (omega (arith, parts.least, parts.front, parts.counts, parts.sizes, parts.fields, parts.zeros, parts.back))

-- behind the header stands the area
pub drop-with_area_header : (ctx : Ctx) (old : List ℕ) (count : ℕ) (area : List ℕ) (high : ℕ) → Fits ctx old area high → drop (header_size ctx.container) (with_area ctx old count area high) ≡ behind_header ctx old area high
drop-with_area_header ctx old count area high fits =
    ap (drop (header_size ctx.container)) (with_area-parts ctx old count area high)
    ∙ drop_at (header_with ctx old count (length area)) (behind_header ctx old area high) (header_size ctx.container) (length-header_with ctx old area high count (length area) fits)

pub take-with_area_area : (ctx : Ctx) (old : List ℕ) (count : ℕ) (area : List ℕ) (high : ℕ) → Fits ctx old area high → take (length area) (drop (header_size ctx.container) (with_area ctx old count area high)) ≡ area
take-with_area_area ctx old count area high fits =
    ap (take (length area)) (drop-with_area_header ctx old count area high fits)
    ∙ take_at area (replicate (high - (header_size ctx.container + length area)) 0 ++ drop high old) (length area) refl

-- the first 16 bytes are as before
pub take-with_area_front : (ctx : Ctx) (old : List ℕ) (count : ℕ) (area : List ℕ) (high : ℕ) → Fits ctx old area high → take 16 (with_area ctx old count area high) ≡ take 16 old
unfolding with_area
take-with_area_front ctx old count area high fits =
    let parts : Lengths ctx old area high count (length area) = lengths ctx old area high count (length area) fits in
    take_at (take 16 old) _ 16 parts.front

-- the fields behind the counts are as before
drop-with_area_counts : (ctx : Ctx) (old : List ℕ) (count : ℕ) (area : List ℕ) (high : ℕ) → Fits ctx old area high → drop 24 (with_area ctx old count area high) ≡ fields_behind ctx old ++ behind_header ctx old area high
unfolding with_area
drop-with_area_counts ctx old count area high fits =
    let parts : Lengths ctx old area high count (length area) = lengths ctx old area high count (length area) fits in
    let front : List ℕ = (take 16 old ++ bytes_of ctx.le 4 count) ++ bytes_of ctx.le 4 (length area) in
    let whole : with_area ctx old count area high ≡ front ++ (fields_behind ctx old ++ behind_header ctx old area high) = simp append_assoc in
    let long : length front ≡ 24 = simp length-append (omega (arith, parts.front, parts.counts, parts.sizes)) in
    ap (drop 24) whole ∙ drop_at front (fields_behind ctx old ++ behind_header ctx old area high) 24 long

pub fields_behind-with_area : (ctx : Ctx) (old : List ℕ) (count : ℕ) (area : List ℕ) (high : ℕ) → Fits ctx old area high → fields_behind ctx (with_area ctx old count area high) ≡ fields_behind ctx old
fields_behind-with_area ctx old count area high fits =
    let parts : Lengths ctx old area high count (length area) = lengths ctx old area high count (length area) fits in
    ap (take (header_size ctx.container - 24)) (drop-with_area_counts ctx old count area high fits)
    ∙ take_at (fields_behind ctx old) (behind_header ctx old area high) (header_size ctx.container - 24) parts.fields

-- from `high` on the bytes are as before
drop-with_area_at : (ctx : Ctx) (old : List ℕ) (count : ℕ) (area : List ℕ) (high : ℕ) → Fits ctx old area high → drop high (with_area ctx old count area high) ≡ drop high old
drop-with_area_at ctx old count area high fits =
    let zeros : List ℕ = replicate (high - (header_size ctx.container + length area)) 0 in
    let head : List ℕ = header_with ctx old count (length area) in
    let room : header_size ctx.container + length area ≤ high = fits.room in
    let whole : head ++ (area ++ (zeros ++ drop high old)) ≡ (head ++ (area ++ zeros)) ++ drop high old = simp append_assoc in
    let long : length (head ++ (area ++ zeros)) ≡ high = omega (arith, length-append head (area ++ zeros), length-append area zeros, length-header_with ctx old area high count (length area) fits, length-replicate {A = ℕ} (high - (header_size ctx.container + length area)) 0) in
    ap (drop high) (with_area-parts ctx old count area high ∙ whole) ∙ drop_at (head ++ (area ++ zeros)) (drop high old) high long

pub drop-with_area_high : (ctx : Ctx) (old : List ℕ) (count : ℕ) (area : List ℕ) (high n : ℕ) → Fits ctx old area high → high ≤ n → drop n (with_area ctx old count area high) ≡ drop n old
drop-with_area_high ctx old count area high n fits above =
    let new : List ℕ = with_area ctx old count area high in
    let split : high + (n - high) ≡ n = omega arith in
    let P : ℕ → Type 0 = λ k. drop k new ≡ drop k old in
    subst P split (sym (drop-drop (n - high) high new) ∙ ap (drop (n - high)) (drop-with_area_at ctx old count area high fits) ∙ drop-drop (n - high) high old)

-- the counts are read back
pub ncmds-with_area : (ctx : Ctx) (old : List ℕ) (count : ℕ) (area : List ℕ) (high : ℕ) → Fits ctx old area high → count < 2 ^ 32 → number_at ctx.le 4 16 (with_area ctx old count area high) ≡ count
unfolding with_area
ncmds-with_area ctx old count area high fits small =
    let parts : Lengths ctx old area high count (length area) = lengths ctx old area high count (length area) fits in
    let rest : List ℕ = bytes_of ctx.le 4 (length area) ++ (fields_behind ctx old ++ behind_header ctx old area high) in
    number_at-append_right ctx.le 4 16 0 (take 16 old) (bytes_of ctx.le 4 count ++ rest) parts.front
    ∙ number_at-bytes_of ctx.le 4 count rest small

pub sizeofcmds-with_area : (ctx : Ctx) (old : List ℕ) (count : ℕ) (area : List ℕ) (high : ℕ) → Fits ctx old area high → length area < 2 ^ 32 → number_at ctx.le 4 20 (with_area ctx old count area high) ≡ length area
unfolding with_area
sizeofcmds-with_area ctx old count area high fits small =
    let parts : Lengths ctx old area high count (length area) = lengths ctx old area high count (length area) fits in
    let rest : List ℕ = fields_behind ctx old ++ behind_header ctx old area high in
    number_at-append_right ctx.le 4 16 4 (take 16 old) (bytes_of ctx.le 4 count ++ (bytes_of ctx.le 4 (length area) ++ rest)) parts.front
    ∙ number_at-append_right ctx.le 4 4 0 (bytes_of ctx.le 4 count) (bytes_of ctx.le 4 (length area) ++ rest) parts.counts
    ∙ number_at-bytes_of ctx.le 4 (length area) rest small

-- the numbers of the header before the counts are as before, in either order
pub number_at-with_area_front : (order : ByteOrder2) (n pos : ℕ) (ctx : Ctx) (old : List ℕ) (count : ℕ) (area : List ℕ) (high : ℕ) → Fits ctx old area high → pos + n ≤ 16 → number_at order n pos (with_area ctx old count area high) ≡ number_at order n pos old
number_at-with_area_front order n pos ctx old count area high fits small =
    let new : List ℕ = with_area ctx old count area high in
    sym (number_at-take order n 16 pos new small) ∙ ap (number_at order n pos) (take-with_area_front ctx old count area high fits) ∙ number_at-take order n 16 pos old small

-- the numbers of the header behind the counts are as before
pub number_at-with_area_fields : (order : ByteOrder2) (n pos : ℕ) (ctx : Ctx) (old : List ℕ) (count : ℕ) (area : List ℕ) (high : ℕ) → Fits ctx old area high → 24 + pos + n ≤ header_size ctx.container → number_at order n (24 + pos) (with_area ctx old count area high) ≡ number_at order n (24 + pos) old
number_at-with_area_fields order n pos ctx old count area high fits small =
    let new : List ℕ = with_area ctx old count area high in
    let size : ℕ = header_size ctx.container - 24 in
    let inside : pos + n ≤ size = omega arith in
    sym (number_at-take order n size pos (drop 24 new) inside ∙ number_at-drop order n 24 pos new)
    ∙ ap (number_at order n pos) (fields_behind-with_area ctx old count area high fits)
    ∙ number_at-take order n size pos (drop 24 old) inside ∙ number_at-drop order n 24 pos old

-- the front of the file is that of the old bytes' front
fields_behind-take : (ctx : Ctx) (old : List ℕ) (high : ℕ) → header_size ctx.container ≤ high → fields_behind ctx (take high old) ≡ fields_behind ctx old
fields_behind-take ctx old high room =
    let least : 28 ≤ header_size ctx.container = header_size-least ctx.container in
    let split : 24 + (high - 24) ≡ high = omega arith in
    let P : ℕ → Type 0 = λ k. take (header_size ctx.container - 24) (drop 24 (take k old)) ≡ fields_behind ctx old in
    subst P split
    (ap (take (header_size ctx.container - 24)) (drop-take 24 (high - 24) old)
    ∙ take-take (header_size ctx.container - 24) (high - 24) (drop 24 old) (omega arith))

header_with-take : (ctx : Ctx) (old : List ℕ) (count size high : ℕ) → header_size ctx.container ≤ high → header_with ctx (take high old) count size ≡ header_with ctx old count size
header_with-take ctx old count size high room =
    let least : 28 ≤ header_size ctx.container = header_size-least ctx.container in
    rw (take-take 16 high old (omega arith), fields_behind-take ctx old high room) refl

pub take-with_area_high : (ctx : Ctx) (old : List ℕ) (count : ℕ) (area : List ℕ) (high : ℕ) → Fits ctx old area high → with_area ctx (take high old) count area high ≡ take high (with_area ctx old count area high)
take-with_area_high ctx old count area high fits =
    let zeros : List ℕ = replicate (high - (header_size ctx.container + length area)) 0 in
    let head : List ℕ = header_with ctx old count (length area) in
    let room : header_size ctx.container + length area ≤ high = fits.room in
    let whole : head ++ (area ++ (zeros ++ drop high old)) ≡ (head ++ (area ++ zeros)) ++ drop high old = simp append_assoc in
    let long : length (head ++ (area ++ zeros)) ≡ high = omega (arith, length-append head (area ++ zeros), length-append area zeros, length-header_with ctx old area high count (length area) fits, length-replicate {A = ℕ} (high - (header_size ctx.container + length area)) 0) in
    let none : drop high (take high old) ≡ [] = drop_all high (take high old) (omega (arith, length-take-le high old fits.inside)) in
    let front : with_area ctx (take high old) count area high ≡ head ++ (area ++ (zeros ++ [])) =
    with_area-parts ctx (take high old) count area high
    ∙ ap (λ (l : List ℕ). l ++ (area ++ (zeros ++ drop high (take high old)))) (header_with-take ctx old count (length area) high (omega arith))
    ∙ ap (λ (l : List ℕ). head ++ (area ++ (zeros ++ l))) none in
    front
    ∙ ap (λ (l : List ℕ). head ++ (area ++ l)) (append-nil zeros)
    ∙ sym (ap (take high) (with_area-parts ctx old count area high ∙ whole) ∙ take_at (head ++ (area ++ zeros)) (drop high old) high long)

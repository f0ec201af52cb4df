-- What the patcher's steps make of bytes.
use Rattle.std.proofs.Common.{◌≡◌, ◌≤◌, ◌<◌, ℕ, ◌+◌, ◌-◌, ◌^◌, List, ◌++◌, length, take, drop, replicate, refl, sym, ap, ◌∙◌, subst, arith}
use Rattle.std.proofs.lemmas.List.{append_assoc, drop-append-le, drop-drop, drop-take, drop_at, length-append, length-drop, length-take-le, take-append-drop, take-append-le, take-take, take_at}
use Rattle.patch_bytes.specs.declared.number.ByteOrder2.{ByteOrder2}
use Rattle.patch_bytes.specs.Number.{bytes_of, with_number}
use Rattle.patch_bytes.proofs.NumberLaws.{length-bytes_of}
use Rattle.macho_image.specs.Stored.{Fits}
use Rattle.macho_image.specs.declared.format.Ctx.{Ctx}
use Rattle.macho_image.specs.declared.format.Header.{Header}
use Rattle.macho_image.specs.Form.{area_of, commands_end, header_of, header_size, ncmds_of, sizeofcmds_of}
use Rattle.macho_image.specs.Image.{with_area}
use Rattle.macho_image.proofs.ForCallers.{header_of-with_area, header_size-least, length-area_of}
use Rattle.macho_edits.specs.Patched.{InsertsAt, RemovesAt, inserted_command, removed_bytes}
use borrow.Rule.Slice.PartMut.{put_mid}

-- a list in three parts, the second of which is taken over
put_mid-parts : (front part back filled : List ℕ) (a k : ℕ) → length front ≡ a → length part ≡ k → put_mid a k (front ++ (part ++ back)) filled ≡ front ++ (filled ++ back)
put_mid-parts front part back filled a k la lk =
    let behind : drop a (front ++ (part ++ back)) ≡ part ++ back = drop_at front (part ++ back) a la in
    rw (take_at front (part ++ back) a la, behind, drop_at part back k lk) refl

-- bytes of a list from `at` on, which are turned to the end of the part that ends at `end`
abbrev part_of : List ℕ → ℕ → ℕ → List ℕ
part_of xs at end = take (end - at) (drop at xs)

abbrev turned : List ℕ → ℕ → ℕ → ℕ → List ℕ
turned xs at size end = drop size (part_of xs at end) ++ take size (part_of xs at end)

-- what stands before them then
abbrev front_of : List ℕ → ℕ → ℕ → ℕ → List ℕ
front_of xs at size end = take at xs ++ drop size (part_of xs at end)

record IsTurned (xs : List ℕ) (at size end : ℕ) : Type 0 where
  whole : put_mid at (end - at) xs (turned xs at size end) ≡ front_of xs at size end ++ (take size (part_of xs at end) ++ drop end xs)
  length_front : length (front_of xs at size end) ≡ end - size
  length_gone : length (take size (part_of xs at end)) ≡ size
  kept : drop size (part_of xs at end) ≡ take (end - (at + size)) (drop (at + size) xs)

is_turned : (xs : List ℕ) (at size end : ℕ) → at + size ≤ end → end ≤ length xs → IsTurned xs at size end
is_turned xs at size end order room =
    let whole : length (part_of xs at end) ≡ end - at = length-take-le (end - at) (drop at xs) (omega (arith, length-drop at xs)) in
    let kept : length (drop size (part_of xs at end)) ≡ end - at - size = length-drop size (part_of xs at end) ∙ ap (λ (n : ℕ). n - size) whole in
    let to_end : at + (end - at) ≡ end = omega arith in
    let back : drop (end - at) (drop at xs) ≡ drop end xs = drop-drop (end - at) at xs ∙ ap (λ (n : ℕ). drop n xs) to_end in
    let sum : end - at ≡ size + (end - (at + size)) = omega arith in
    let P : ℕ → Type 0 = λ n. drop size (take n (drop at xs)) ≡ take (end - (at + size)) (drop (at + size) xs) in
    record {
      whole = rw back (simp append_assoc);
      length_front = omega (arith, length-append (take at xs) (drop size (part_of xs at end)), length-take-le at xs (omega arith));
      length_gone = length-take-le size (part_of xs at end) (omega arith);
      kept = subst P (sym sum) (drop-take size (end - (at + size)) (drop at xs) ∙ ap (take (end - (at + size))) (drop-drop size at xs));
    }

-- the bytes at the end of the part are as many
pub length-turned_end : (xs rotated : List ℕ) (at size end : ℕ) → at + size ≤ end → end ≤ length xs → rotated ≡ turned xs at size end → length (take (end - (end - size)) (drop (end - size) (put_mid at (end - at) xs rotated))) ≡ size
length-turned_end xs rotated at size end order room e =
    let is : IsTurned xs at size end = is_turned xs at size end order room in
    let count : end - (end - size) ≡ size = omega arith in
    rw (e, is.whole, count, drop_at (front_of xs at size end) (take size (part_of xs at end) ++ drop end xs) (end - size) is.length_front, take_at (take size (part_of xs at end)) (drop end xs) size is.length_gone) is.length_gone

-- the bytes behind the part's start close up where they are filled
pub closed_up : (xs rotated filled : List ℕ) (at size end : ℕ) → at + size ≤ end → end ≤ length xs → rotated ≡ turned xs at size end → put_mid (end - size) (end - (end - size)) (put_mid at (end - at) xs rotated) filled ≡ take at xs ++ (take (end - (at + size)) (drop (at + size) xs) ++ (filled ++ drop end xs))
closed_up xs rotated filled at size end order room e =
    let is : IsTurned xs at size end = is_turned xs at size end order room in
    let count : end - (end - size) ≡ size = omega arith in
    let filled_in : put_mid (end - size) (end - (end - size)) (front_of xs at size end ++ (take size (part_of xs at end) ++ drop end xs)) filled ≡ front_of xs at size end ++ (filled ++ drop end xs) = put_mid-parts (front_of xs at size end) (take size (part_of xs at end)) (drop end xs) filled (end - size) (end - (end - size)) is.length_front (is.length_gone ∙ sym count) in
    ap (λ (r : List ℕ). put_mid (end - size) (end - (end - size)) r filled) (ap (λ (r : List ℕ). put_mid at (end - at) xs r) e ∙ is.whole)
    ∙ filled_in
    ∙ append_assoc (take at xs) (drop size (part_of xs at end)) (filled ++ drop end xs)
    ∙ ap (λ (r : List ℕ). take at xs ++ (r ++ (filled ++ drop end xs))) is.kept

-- the two counts are written over the bytes that hold them
with_counts : (order : ByteOrder2) (xs : List ℕ) (count size : ℕ) → 24 ≤ length xs → with_number order 4 20 size (with_number order 4 16 count xs) ≡ take 16 xs ++ (bytes_of order 4 count ++ (bytes_of order 4 size ++ drop 24 xs))
unfolding with_number
with_counts order xs count size room =
    let front : List ℕ = take 16 xs ++ bytes_of order 4 count in
    let length_front : length front ≡ 20 = omega (arith, length-append (take 16 xs) (bytes_of order 4 count), length-take-le 16 xs (omega arith), length-bytes_of order 4 count) in
    let once : List ℕ = take 16 xs ++ (bytes_of order 4 count ++ drop 20 xs) in
    let regroup : once ≡ front ++ drop 20 xs = sym (append_assoc (take 16 xs) (bytes_of order 4 count) (drop 20 xs)) in
    let before : take 20 once ≡ front = ap (take 20) regroup ∙ take_at front (drop 20 xs) 20 length_front in
    let behind : drop 20 once ≡ drop 20 xs = ap (drop 20) regroup ∙ drop_at front (drop 20 xs) 20 length_front in
    let behind_both : drop 24 once ≡ drop 24 xs = sym (drop-drop 4 20 once) ∙ ap (drop 4) behind ∙ drop-drop 4 20 xs in
    rw (before, behind_both) (append_assoc (take 16 xs) (bytes_of order 4 count) (bytes_of order 4 size ++ drop 24 xs))

-- a list from position n on, in two parts
drop_in_parts : (n m : ℕ) (xs : List ℕ) → n ≤ m → drop n xs ≡ drop n (take m xs) ++ drop m xs
drop_in_parts n m xs h =
    let sum : n + (m - n) ≡ m = omega arith in
    let P : ℕ → Type 0 = λ k. drop n xs ≡ drop n (take k xs) ++ drop k xs in
    subst P sum (sym (take-append-drop (m - n) (drop n xs)) ∙ ap (λ (r : List ℕ). r ++ drop (m - n) (drop n xs)) (sym (drop-take n (m - n) xs)) ∙ ap (λ (r : List ℕ). drop n (take (n + (m - n)) xs) ++ r) (drop-drop (m - n) n xs))

-- a front of a list, from position n on
front_from : (n m : ℕ) (xs : List ℕ) → n ≤ m → drop n (take m xs) ≡ take (m - n) (drop n xs)
front_from n m xs h =
    let sum : n + (m - n) ≡ m = omega arith in
    let P : ℕ → Type 0 = λ k. drop n (take k xs) ≡ take (m - n) (drop n xs) in
    subst P sum (drop-take n (m - n) xs)

-- bytes with the header of others, behind which an area, zeros and the other bytes stand, are the others
-- with that area once the counts are written
laid_over : (ctx : Ctx) (old new area : List ℕ) (count size high : ℕ) → header_size ctx.container ≤ length new → take (header_size ctx.container) new ≡ take (header_size ctx.container) old → drop (header_size ctx.container) new ≡ area ++ (replicate (high - (header_size ctx.container + length area)) 0 ++ drop high old) → size ≡ length area → with_number ctx.le 4 20 size (with_number ctx.le 4 16 count new) ≡ with_area ctx old count area high
unfolding with_area
laid_over ctx old new area count size high room same behind sized =
    let h : ℕ = header_size ctx.container in
    let least : 28 ≤ h = header_size-least ctx.container in
    let first : take 16 new ≡ take 16 old = sym (take-take 16 h new (omega arith)) ∙ ap (take 16) same ∙ take-take 16 h old (omega arith) in
    let middle : drop 24 (take h new) ≡ take (h - 24) (drop 24 old) = ap (drop 24) same ∙ front_from 24 h old (omega arith) in
    let rest : drop 24 new ≡ take (h - 24) (drop 24 old) ++ (area ++ (replicate (high - (h + length area)) 0 ++ drop high old)) = drop_in_parts 24 h new (omega arith) ∙ rw (middle, behind) refl in
    with_counts ctx.le new count size (omega arith) ∙ rw (first, rest, sized) refl

-- the area with the command
abbrev area_with : Ctx → List ℕ → ℕ → List ℕ → List ℕ
area_with ctx bytes at command =
    take (at - header_size ctx.container) (area_of ctx bytes) ++ (command ++ drop (at - header_size ctx.container) (area_of ctx bytes))

length-area_with : (ctx : Ctx) (bytes command : List ℕ) (at : ℕ) → InsertsAt ctx bytes at (length command) → length (area_with ctx bytes at command) ≡ sizeofcmds_of ctx bytes + length command
length-area_with ctx bytes command at is =
    let h : ℕ = header_size ctx.container in
    let whole : length (area_of ctx bytes) ≡ sizeofcmds_of ctx bytes = length-area_of ctx bytes (omega (arith, is.room)) in
    omega (arith, is.from, is.to, length-append (take (at - h) (area_of ctx bytes)) (command ++ drop (at - h) (area_of ctx bytes)), length-append command (drop (at - h) (area_of ctx bytes)), length-take-le (at - h) (area_of ctx bytes) (omega (arith, is.to)), length-drop (at - h) (area_of ctx bytes))

-- the commands before an offset, and those from there on
area_front : (ctx : Ctx) (bytes : List ℕ) (at : ℕ) → header_size ctx.container ≤ at → at ≤ commands_end ctx bytes → take (at - header_size ctx.container) (area_of ctx bytes) ≡ take (at - header_size ctx.container) (drop (header_size ctx.container) bytes)
area_front ctx bytes at from to =
    take-take (at - header_size ctx.container) (sizeofcmds_of ctx bytes) (drop (header_size ctx.container) bytes) (omega arith)

area_back : (ctx : Ctx) (bytes : List ℕ) (at : ℕ) → header_size ctx.container ≤ at → at ≤ commands_end ctx bytes → drop (at - header_size ctx.container) (area_of ctx bytes) ≡ take (commands_end ctx bytes - at) (drop at bytes)
area_back ctx bytes at from to =
    let h : ℕ = header_size ctx.container in
    let left : sizeofcmds_of ctx bytes - (at - h) ≡ commands_end ctx bytes - at = omega arith in
    let back : h + (at - h) ≡ at = omega arith in
    front_from (at - h) (sizeofcmds_of ctx bytes) (drop h bytes) (omega arith) ∙ ap (λ (n : ℕ). take n (drop (at - h) (drop h bytes))) left
    ∙ ap (take (commands_end ctx bytes - at)) (drop-drop (at - h) h bytes ∙ ap (λ (n : ℕ). drop n bytes) back)

-- what the shifted bytes are once the counts are written
pub inserted-made : (ctx : Ctx) (bytes command : List ℕ) (at count size : ℕ) → InsertsAt ctx bytes at (length command) → count ≡ ncmds_of ctx bytes + 1 → size ≡ sizeofcmds_of ctx bytes + length command → with_number ctx.le 4 20 size (with_number ctx.le 4 16 count (take at bytes ++ (command ++ (take (commands_end ctx bytes - at) (drop at bytes) ++ drop (commands_end ctx bytes + length command) bytes)))) ≡ inserted_command ctx bytes at command
unfolding inserted_command
inserted-made ctx bytes command at count size is counted sized =
    let h : ℕ = header_size ctx.container in
    let end : ℕ = commands_end ctx bytes in
    let from : h ≤ at = is.from in
    let to : at ≤ end = is.to in
    let room : end + length command ≤ length bytes = is.room in
    let front_length : length (take at bytes) ≡ at = length-take-le at bytes (omega arith) in
    let back : List ℕ = drop (end + length command) bytes in
    let behind : List ℕ = command ++ (take (end - at) (drop at bytes) ++ back) in
    let same : take h (take at bytes ++ behind) ≡ take h bytes = take-append-le h (take at bytes) behind (omega arith) ∙ take-take h at bytes from in
    let area : length (area_with ctx bytes at command) ≡ sizeofcmds_of ctx bytes + length command = length-area_with ctx bytes command at is in
    let none : end + length command - (h + length (area_with ctx bytes at command)) ≡ 0 = omega arith in
    let shown : drop h (take at bytes ++ behind) ≡ take (at - h) (drop h bytes) ++ behind = drop-append-le h (take at bytes) behind (omega arith) ∙ ap (λ (r : List ℕ). r ++ behind) (front_from h at bytes from) in
    let wanted : area_with ctx bytes at command ++ (replicate (end + length command - (h + length (area_with ctx bytes at command))) 0 ++ back) ≡ take (at - h) (drop h bytes) ++ behind = rw (none, area_front ctx bytes at from to, area_back ctx bytes at from to) (simp append_assoc) in
    laid_over ctx bytes (take at bytes ++ behind) (area_with ctx bytes at command) count size (end + length command) (omega (arith, length-append (take at bytes) behind)) same (shown ∙ sym wanted) (sized ∙ sym area)
    ∙ ap (λ (n : ℕ). with_area ctx bytes n (area_with ctx bytes at command) (end + length command)) counted

-- the header once the counts are written
pub header_of-inserted : (ctx : Ctx) (bytes command : List ℕ) (at : ℕ) → InsertsAt ctx bytes at (length command) → ncmds_of ctx bytes + 1 < 2 ^ 32 → sizeofcmds_of ctx bytes + length command < 2 ^ 32 → header_of ctx (inserted_command ctx bytes at command) ≡ record (header_of ctx bytes) { ncmds = ncmds_of ctx bytes + 1; sizeofcmds = sizeofcmds_of ctx bytes + length command }
unfolding inserted_command
header_of-inserted ctx bytes command at is count size =
    let area : length (area_with ctx bytes at command) ≡ sizeofcmds_of ctx bytes + length command = length-area_with ctx bytes command at is in
    let fit : Fits ctx bytes (area_with ctx bytes at command) (commands_end ctx bytes + length command) = record { room = omega arith; inside = is.room } in
    header_of-with_area ctx bytes (ncmds_of ctx bytes + 1) (area_with ctx bytes at command) (commands_end ctx bytes + length command) fit count (omega arith)
    ∙ ap (λ (n : ℕ). record (header_of ctx bytes) { ncmds = ncmds_of ctx bytes + 1; sizeofcmds = n }) area

-- the area without it
abbrev area_without : Ctx → List ℕ → ℕ → ℕ → List ℕ
area_without ctx bytes at gone =
    take (at - header_size ctx.container) (area_of ctx bytes) ++ drop (at - header_size ctx.container + gone) (area_of ctx bytes)

length-area_without : (ctx : Ctx) (bytes : List ℕ) (at gone : ℕ) → RemovesAt ctx bytes at gone → length (area_without ctx bytes at gone) ≡ sizeofcmds_of ctx bytes - gone
length-area_without ctx bytes at gone is =
    let h : ℕ = header_size ctx.container in
    let whole : length (area_of ctx bytes) ≡ sizeofcmds_of ctx bytes = length-area_of ctx bytes (omega (arith, is.room)) in
    omega (arith, is.from, is.to, length-append (take (at - h) (area_of ctx bytes)) (drop (at - h + gone) (area_of ctx bytes)), length-take-le (at - h) (area_of ctx bytes) (omega (arith, is.to)), length-drop (at - h + gone) (area_of ctx bytes))

pub removed-made : (ctx : Ctx) (bytes : List ℕ) (at gone count size : ℕ) → RemovesAt ctx bytes at gone → count ≡ ncmds_of ctx bytes - 1 → size ≡ sizeofcmds_of ctx bytes - gone → with_number ctx.le 4 20 size (with_number ctx.le 4 16 count (take at bytes ++ (take (commands_end ctx bytes - (at + gone)) (drop (at + gone) bytes) ++ (replicate gone 0 ++ drop (commands_end ctx bytes) bytes)))) ≡ removed_bytes ctx bytes at gone
unfolding removed_bytes
removed-made ctx bytes at gone count size is counted sized =
    let h : ℕ = header_size ctx.container in
    let end : ℕ = commands_end ctx bytes in
    let from : h ≤ at = is.from in
    let to : at + gone ≤ end = is.to in
    let room : end ≤ length bytes = is.room in
    let front_length : length (take at bytes) ≡ at = length-take-le at bytes (omega arith) in
    let behind : List ℕ = take (end - (at + gone)) (drop (at + gone) bytes) ++ (replicate gone 0 ++ drop end bytes) in
    let same : take h (take at bytes ++ behind) ≡ take h bytes = take-append-le h (take at bytes) behind (omega arith) ∙ take-take h at bytes from in
    let area : length (area_without ctx bytes at gone) ≡ sizeofcmds_of ctx bytes - gone = length-area_without ctx bytes at gone is in
    let zeros : end - (h + length (area_without ctx bytes at gone)) ≡ gone = omega arith in
    let shown : drop h (take at bytes ++ behind) ≡ take (at - h) (drop h bytes) ++ behind = drop-append-le h (take at bytes) behind (omega arith) ∙ ap (λ (r : List ℕ). r ++ behind) (front_from h at bytes from) in
    let shift : at + gone - h ≡ at - h + gone = omega arith in
    let rest = rw shift at (area_back ctx bytes (at + gone) (omega arith) to) in
    let wanted : area_without ctx bytes at gone ++ (replicate (end - (h + length (area_without ctx bytes at gone))) 0 ++ drop end bytes) ≡ take (at - h) (drop h bytes) ++ behind = rw (zeros, area_front ctx bytes at from (omega arith), rest) (simp append_assoc) in
    laid_over ctx bytes (take at bytes ++ behind) (area_without ctx bytes at gone) count size end (omega (arith, length-append (take at bytes) behind)) same (shown ∙ sym wanted) (sized ∙ sym area)
    ∙ ap (λ (n : ℕ). with_area ctx bytes n (area_without ctx bytes at gone) end) counted

pub header_of-removed : (ctx : Ctx) (bytes : List ℕ) (at gone : ℕ) → RemovesAt ctx bytes at gone → ncmds_of ctx bytes < 2 ^ 32 → sizeofcmds_of ctx bytes < 2 ^ 32 → header_of ctx (removed_bytes ctx bytes at gone) ≡ record (header_of ctx bytes) { ncmds = ncmds_of ctx bytes - 1; sizeofcmds = sizeofcmds_of ctx bytes - gone }
unfolding removed_bytes
header_of-removed ctx bytes at gone is count size =
    let area : length (area_without ctx bytes at gone) ≡ sizeofcmds_of ctx bytes - gone = length-area_without ctx bytes at gone is in
    let fit : Fits ctx bytes (area_without ctx bytes at gone) (commands_end ctx bytes) = record { room = omega (arith, is.to); inside = is.room } in
    header_of-with_area ctx bytes (ncmds_of ctx bytes - 1) (area_without ctx bytes at gone) (commands_end ctx bytes) fit (omega arith) (omega arith)
    ∙ ap (λ (n : ℕ). record (header_of ctx bytes) { ncmds = ncmds_of ctx bytes - 1; sizeofcmds = n }) area

-- what a held header says of the commands
pub held_ncmds : (ctx : Ctx) (bytes : List ℕ) (header : Header) → header ≡ header_of ctx bytes → header.ncmds ≡ ncmds_of ctx bytes
unfolding header_of
held_ncmds ctx bytes header e = ap (λ (h : Header). h.ncmds) e

pub held_sizeofcmds : (ctx : Ctx) (bytes : List ℕ) (header : Header) → header ≡ header_of ctx bytes → header.sizeofcmds ≡ sizeofcmds_of ctx bytes
unfolding header_of
held_sizeofcmds ctx bytes header e = ap (λ (h : Header). h.sizeofcmds) e

-- the bytes after the steps of an insertion, and of a removal
pub insert_done : (ctx : Ctx) (bytes command shifted new : List ℕ) (at end count size : ℕ) → InsertsAt ctx bytes at (length command) → end ≡ commands_end ctx bytes → count ≡ ncmds_of ctx bytes + 1 → size ≡ sizeofcmds_of ctx bytes + length command → shifted ≡ take at bytes ++ (command ++ (take (end - at) (drop at bytes) ++ drop (end + length command) bytes)) → new ≡ with_number ctx.le 4 20 size (with_number ctx.le 4 16 count shifted) → new ≡ inserted_command ctx bytes at command
insert_done ctx bytes command shifted new at end count size is ends counted sized shift written =
    let Q : ℕ → Type 0 = λ n. shifted ≡ take at bytes ++ (command ++ (take (n - at) (drop at bytes) ++ drop (n + length command) bytes)) in
    written ∙ ap (λ (r : List ℕ). with_number ctx.le 4 20 size (with_number ctx.le 4 16 count r)) (subst Q ends shift)
    ∙ inserted-made ctx bytes command at count size is counted sized

pub remove_done : (ctx : Ctx) (bytes shifted new : List ℕ) (at gone end count size : ℕ) → RemovesAt ctx bytes at gone → end ≡ commands_end ctx bytes → count ≡ ncmds_of ctx bytes - 1 → size ≡ sizeofcmds_of ctx bytes - gone → shifted ≡ take at bytes ++ (take (end - (at + gone)) (drop (at + gone) bytes) ++ (replicate gone 0 ++ drop end bytes)) → new ≡ with_number ctx.le 4 20 size (with_number ctx.le 4 16 count shifted) → new ≡ removed_bytes ctx bytes at gone
remove_done ctx bytes shifted new at gone end count size is ends counted sized shift written =
    let Q : ℕ → Type 0 = λ n. shifted ≡ take at bytes ++ (take (n - (at + gone)) (drop (at + gone) bytes) ++ (replicate gone 0 ++ drop n bytes)) in
    written ∙ ap (λ (r : List ℕ). with_number ctx.le 4 20 size (with_number ctx.le 4 16 count r)) (subst Q ends shift)
    ∙ removed-made ctx bytes at gone count size is counted sized

-- the header after an insertion, and after a removal
pub insert_header : (ctx : Ctx) (bytes command : List ℕ) (at : ℕ) (header : Header) (count size : ℕ) → InsertsAt ctx bytes at (length command) → header ≡ header_of ctx bytes → count ≡ ncmds_of ctx bytes + 1 → size ≡ sizeofcmds_of ctx bytes + length command → count < 2 ^ 32 → size < 2 ^ 32 → record header { ncmds = count; sizeofcmds = size } ≡ header_of ctx (inserted_command ctx bytes at command)
insert_header ctx bytes command at header count size is held counted sized small short =
    ap (λ (h : Header). record h { ncmds = count; sizeofcmds = size }) held
    ∙ ap (λ (n : ℕ). record (header_of ctx bytes) { ncmds = n; sizeofcmds = size }) counted
    ∙ ap (λ (n : ℕ). record (header_of ctx bytes) { ncmds = ncmds_of ctx bytes + 1; sizeofcmds = n }) sized
    ∙ sym (header_of-inserted ctx bytes command at is (omega arith) (omega arith))

pub remove_header : (ctx : Ctx) (bytes : List ℕ) (at gone : ℕ) (header : Header) (count size : ℕ) → RemovesAt ctx bytes at gone → header ≡ header_of ctx bytes → header.ncmds < 2 ^ 32 → header.sizeofcmds < 2 ^ 32 → count ≡ ncmds_of ctx bytes - 1 → size ≡ sizeofcmds_of ctx bytes - gone → record header { ncmds = count; sizeofcmds = size } ≡ header_of ctx (removed_bytes ctx bytes at gone)
remove_header ctx bytes at gone header count size is held small short counted sized =
    ap (λ (h : Header). record h { ncmds = count; sizeofcmds = size }) held
    ∙ ap (λ (n : ℕ). record (header_of ctx bytes) { ncmds = n; sizeofcmds = size }) counted
    ∙ ap (λ (n : ℕ). record (header_of ctx bytes) { ncmds = ncmds_of ctx bytes - 1; sizeofcmds = n }) sized
    ∙ sym (header_of-removed ctx bytes at gone is (omega (arith, held_ncmds ctx bytes header held)) (omega (arith, held_sizeofcmds ctx bytes header held)))

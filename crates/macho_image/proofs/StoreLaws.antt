-- The laws of a stored area of load commands: a file with it is accepted, has the old form, and shows
-- the commands that were cut from the area; a later area stands in place of an earlier one; and the
-- area that a file has leaves it as it is.
use Rattle.std.proofs.Common.{◌≡◌, ◌≤◌, ◌<◌, ◌^◌, ℕ, ◌+◌, ◌-◌, List, [], ◌++◌, length, take, drop, replicate, None, refl, sym, ap, ◌∙◌, subst, arith}
use Rattle.std.proofs.lemmas.List.{drop-drop, take-append-drop}
use Rattle.std.specs.List.{concat, flat_map}
use Rattle.patch_bytes.specs.declared.number.Wide.{Wide}
use Rattle.patch_bytes.specs.declared.number.Wide.TheVariants.{W32, W64}
use Rattle.patch_bytes.specs.Bytes.{AreBytes}
use Rattle.patch_bytes.specs.Number.{bytes_of, field, number_at}
use Rattle.patch_bytes.proofs.NumberLaws.{bytes_of-number_at}
use Rattle.macho_image.specs.Stored.{Fits, IsStored}
use Rattle.macho_image.specs.declared.format.Ctx.{Ctx}
use Rattle.macho_image.specs.Checks.{file_fault}
use Rattle.macho_image.specs.Command.{contents_of}
use Rattle.macho_image.specs.Commands.{commands_of, cut_commands, first_content_of, least, load_commands_of, located_commands}
use Rattle.macho_image.specs.File.{IsFile}
use Rattle.macho_image.specs.Form.{area_of, commands_end, ctx_of, form_of, header_of, header_size, ncmds_of, reserved_of, sizeofcmds_of}
use Rattle.macho_image.specs.Image.{with_area}
use Rattle.macho_image.proofs.CutLaws.{concat-cut, cut_are_commands, length-cut}
use Rattle.macho_image.proofs.FileLaws.{form_of-same, header_size-least, length-area_of, only}
use Rattle.macho_image.proofs.FormLaws.{file_passes}
use Rattle.macho_image.proofs.StoredParts.{drop-with_area_high, fields_behind-with_area, length-with_area, ncmds-with_area, number_at-with_area_fields, number_at-with_area_front, sizeofcmds-with_area, take-with_area_area, take-with_area_front}

fits : (old : List ℕ) (count : ℕ) (area : List ℕ) (high : ℕ) → IsStored old count area high → Fits (ctx_of old) old area high
fits old count area high is = record { room = is.room; inside = is.inside }

-- the form is as before
pub form_of-with_area : (ctx : Ctx) (old : List ℕ) (count : ℕ) (area : List ℕ) (high : ℕ) → Fits ctx old area high → form_of (with_area ctx old count area high) ≡ form_of old
form_of-with_area ctx old count area high fit =
    form_of-same (with_area ctx old count area high) old (λ order. number_at-with_area_front order 4 0 ctx old count area high fit (omega arith))

pub ctx_of-with_area : (ctx : Ctx) (old : List ℕ) (count : ℕ) (area : List ℕ) (high : ℕ) → Fits ctx old area high → ctx_of (with_area ctx old count area high) ≡ ctx_of old
unfolding ctx_of
ctx_of-with_area ctx old count area high fit = rw (form_of-with_area ctx old count area high fit) refl

-- an area in a file of less than 2 ^ 32 bytes is shorter than that
short_area : (old : List ℕ) (count : ℕ) (area : List ℕ) (high : ℕ) → IsStored old count area high → length area < 2 ^ 32
short_area old count area high is =
    let short : length old < 2 ^ 32 = (file_passes old is.accepted).0 in
    let room : header_size (ctx_of old).container + length area ≤ high = is.room in
    let inside : high ≤ length old = is.inside in
    omega arith

-- the file with the area is a file of the old form with the commands that are cut from the area
pub IsFile-with_area : (old : List ℕ) (count : ℕ) (area : List ℕ) (high : ℕ) → IsStored old count area high → IsFile (with_area (ctx_of old) old count area high) (ctx_of old) (cut_commands (ctx_of old).le count area)
IsFile-with_area old count area high is =
    let ctx : Ctx = ctx_of old in
    let passes = file_passes old is.accepted in
    let fit : Fits ctx old area high = fits old count area high is in
    let long : length (with_area ctx old count area high) ≡ length old = length-with_area ctx old count area high fit in
    let whole : concat (cut_commands ctx.le count area) ≡ area = concat-cut ctx.le count area is.commands in
    let room : header_size ctx.container + length area ≤ length old = let a : header_size ctx.container + length area ≤ high = is.room in let b : high ≤ length old = is.inside in omega arith in
    record {
      short = rw long passes.0;
      magic = form_of-with_area ctx old count area high fit ∙ passes.1;
      room = rw (whole, long) room;
      count = ncmds-with_area ctx old count area high fit is.counted ∙ sym (length-cut ctx.le count area);
      size = rw whole (sizeofcmds-with_area ctx old count area high fit (short_area old count area high is));
      stand = rw whole (take-with_area_area ctx old count area high fit);
      each = cut_are_commands ctx.le count area is.commands;
    }

-- what the file with the area shows
pub file_fault-with_area : (old : List ℕ) (count : ℕ) (area : List ℕ) (high : ℕ) → IsStored old count area high → file_fault (with_area (ctx_of old) old count area high) ≡ None
file_fault-with_area old count area high is =
    (only (with_area (ctx_of old) old count area high) (ctx_of old) (cut_commands (ctx_of old).le count area) (IsFile-with_area old count area high is)).0

pub commands_of-with_area : (old : List ℕ) (count : ℕ) (area : List ℕ) (high : ℕ) → IsStored old count area high → commands_of (with_area (ctx_of old) old count area high) ≡ cut_commands (ctx_of old).le count area
commands_of-with_area old count area high is =
    (only (with_area (ctx_of old) old count area high) (ctx_of old) (cut_commands (ctx_of old).le count area) (IsFile-with_area old count area high is)).2

pub load_commands_of-with_area : (old : List ℕ) (count : ℕ) (area : List ℕ) (high : ℕ) → IsStored old count area high → load_commands_of (with_area (ctx_of old) old count area high) ≡ located_commands (ctx_of old).le (header_size (ctx_of old).container) (cut_commands (ctx_of old).le count area)
unfolding load_commands_of
load_commands_of-with_area old count area high is =
    rw (ctx_of-with_area (ctx_of old) old count area high (fits old count area high is), commands_of-with_area old count area high is) refl

pub first_content_of-with_area : (old : List ℕ) (count : ℕ) (area : List ℕ) (high : ℕ) → IsStored old count area high → first_content_of (with_area (ctx_of old) old count area high) ≡ least (length old) (flat_map (contents_of (ctx_of old).le) (cut_commands (ctx_of old).le count area))
unfolding first_content_of
first_content_of-with_area old count area high is =
    rw (ctx_of-with_area (ctx_of old) old count area high (fits old count area high is), commands_of-with_area old count area high is, length-with_area (ctx_of old) old count area high (fits old count area high is)) refl

-- the header is as before but for the two counts
reserved_of-with_area : (wide : Wide) (ctx : Ctx) (old : List ℕ) (count : ℕ) (area : List ℕ) (high : ℕ) → ctx.container ≡ wide → Fits ctx old area high → reserved_of wide ctx.le (with_area ctx old count area high) ≡ reserved_of wide ctx.le old
reserved_of-with_area W32 ctx old count area high is fit = refl
reserved_of-with_area W64 ctx old count area high is fit =
    let room : 24 + 4 + 4 ≤ header_size ctx.container = rw is (omega arith) in
    number_at-with_area_fields ctx.le 4 4 ctx old count area high fit room

pub header_of-with_area : (ctx : Ctx) (old : List ℕ) (count : ℕ) (area : List ℕ) (high : ℕ) → Fits ctx old area high → count < 2 ^ 32 → length area < 2 ^ 32 → header_of ctx (with_area ctx old count area high) ≡ record (header_of ctx old) { ncmds = count; sizeofcmds = length area }
unfolding header_of
header_of-with_area ctx old count area high fit small short =
    let least : 28 ≤ header_size ctx.container = header_size-least ctx.container in
    let e0 = number_at-with_area_front ctx.le 4 0 ctx old count area high fit (omega arith) in
    let e4 = number_at-with_area_front ctx.le 4 4 ctx old count area high fit (omega arith) in
    let e8 = number_at-with_area_front ctx.le 4 8 ctx old count area high fit (omega arith) in
    let e12 = number_at-with_area_front ctx.le 4 12 ctx old count area high fit (omega arith) in
    let e16 = ncmds-with_area ctx old count area high fit small in
    let e20 = sizeofcmds-with_area ctx old count area high fit short in
    let e24 : number_at ctx.le 4 24 (with_area ctx old count area high) ≡ number_at ctx.le 4 24 old = number_at-with_area_fields ctx.le 4 0 ctx old count area high fit (omega arith) in
    let e28 = reserved_of-with_area ctx.container ctx old count area high refl fit in
    cc

-- an area that is stored over another one stands in its place, from its end or beyond
pub with_area-with_area : (ctx : Ctx) (old : List ℕ) (count : ℕ) (area : List ℕ) (high count' : ℕ) (area' : List ℕ) (high' : ℕ) → Fits ctx old area high → high ≤ high' → with_area ctx (with_area ctx old count area high) count' area' high' ≡ with_area ctx old count' area' high'
unfolding with_area
with_area-with_area ctx old count area high count' area' high' fit above =
    let front = take-with_area_front ctx old count area high fit in
    let fields = fields_behind-with_area ctx old count area high fit in
    let back = drop-with_area_high ctx old count area high high' fit above in
    rw (front, fields, back) refl

-- n bytes from a position on and those behind them
take-drop-split : (n pos : ℕ) (xs : List ℕ) → take n (drop pos xs) ++ drop (pos + n) xs ≡ drop pos xs
take-drop-split n pos xs = ap (λ (r : List ℕ). take n (drop pos xs) ++ r) (sym (drop-drop n pos xs)) ∙ take-append-drop n (drop pos xs)

-- the area that a file has leaves the file as it is
pub with_area-same : (ctx : Ctx) (old : List ℕ) → AreBytes old → commands_end ctx old ≤ length old → with_area ctx old (ncmds_of ctx old) (area_of ctx old) (commands_end ctx old) ≡ old
unfolding with_area
with_area-same ctx old bytes room =
    let least : 28 ≤ header_size ctx.container = header_size-least ctx.container in
    let size : ℕ = header_size ctx.container in
    let long : length (area_of ctx old) ≡ sizeofcmds_of ctx old = length-area_of ctx old room in
    let counts : bytes_of ctx.le 4 (ncmds_of ctx old) ≡ field 4 16 old = bytes_of-number_at ctx.le 4 16 old bytes (omega arith) in
    let sizes : bytes_of ctx.le 4 (sizeofcmds_of ctx old) ≡ field 4 20 old = bytes_of-number_at ctx.le 4 20 old bytes (omega arith) in
    let none : commands_end ctx old - (size + length (area_of ctx old)) ≡ 0 = omega arith in
    let zeros : replicate {A = ℕ} (commands_end ctx old - (size + length (area_of ctx old))) 0 ≡ [] = rw none refl in
    let areas : area_of ctx old ++ drop (commands_end ctx old) old ≡ drop size old = take-drop-split (sizeofcmds_of ctx old) size old in
    let fields : take (size - 24) (drop 24 old) ++ drop size old ≡ drop 24 old =
    let P : ℕ → Type 0 = λ k. take (size - 24) (drop 24 old) ++ drop k old ≡ drop 24 old in
    let e : 24 + (size - 24) ≡ size = omega arith in
    subst P e (take-drop-split (size - 24) 24 old) in
    let at20 : field 4 20 old ++ drop 24 old ≡ drop 20 old = take-drop-split 4 20 old in
    let at16 : field 4 16 old ++ drop 20 old ≡ drop 16 old = take-drop-split 4 16 old in
    rw (zeros, long, counts, sizes, areas, fields, at20, at16) (take-append-drop 16 old)

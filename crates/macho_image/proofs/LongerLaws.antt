-- A file that begins as an accepted one.
use Rattle.std.proofs.Common.{◌≡◌, ◌≤◌, ◌<◌, ◌^◌, ◌+◌, ◌-◌, ℕ, List, ◌++◌, length, take, drop, None, ap, ◌∙◌, arith}
use Rattle.std.specs.List.{concat}
use Rattle.std.proofs.lemmas.List.{drop-append-le, length-append, length-drop, take-append-le}
use Rattle.patch_bytes.proofs.NumberLaws.{number_at-append_left}
use Rattle.macho_image.specs.declared.format.Ctx.{Ctx}
use Rattle.macho_image.specs.Checks.{file_fault}
use Rattle.macho_image.specs.Commands.{commands_of}
use Rattle.macho_image.specs.File.{IsFile}
use Rattle.macho_image.specs.Form.{commands_end, ctx_of, header_size}
use Rattle.macho_image.proofs.FileLaws.{form_of-same, found, header_size-least, only}

longer_file : (front rest : List ℕ) (ctx : Ctx) (commands : List (List ℕ)) → length (front ++ rest) < 2 ^ 32 → IsFile front ctx commands → IsFile (front ++ rest) ctx commands
longer_file front rest ctx commands short is =
    let least : 28 ≤ header_size ctx.container = header_size-least ctx.container in
    let room : header_size ctx.container + length (concat commands) ≤ length front = is.room in
    let behind : length (drop (header_size ctx.container) front) ≡ length front - header_size ctx.container = length-drop (header_size ctx.container) front in
    let dropped : drop (header_size ctx.container) (front ++ rest) ≡ drop (header_size ctx.container) front ++ rest = drop-append-le (header_size ctx.container) front rest (omega arith) in
    record {
      short = short;
      magic = form_of-same (front ++ rest) front (λ order. number_at-append_left order 4 0 front rest (omega arith)) ∙ is.magic;
      room = omega (arith, length-append front rest);
      count = number_at-append_left ctx.le 4 16 front rest (omega arith) ∙ is.count;
      size = number_at-append_left ctx.le 4 20 front rest (omega arith) ∙ is.size;
      stand = ap (take (length (concat commands))) dropped ∙ take-append-le (length (concat commands)) (drop (header_size ctx.container) front) rest (omega arith) ∙ is.stand;
      each = is.each;
    }

-- a file that begins as an accepted one is accepted, and has the same form and the same commands
pub accepts : (front rest : List ℕ) → length (front ++ rest) < 2 ^ 32 → file_fault front ≡ None → (file_fault (front ++ rest) ≡ None) × (ctx_of (front ++ rest) ≡ ctx_of front) × (commands_of (front ++ rest) ≡ commands_of front)
accepts front rest short ok = only (front ++ rest) (ctx_of front) (commands_of front) (longer_file front rest (ctx_of front) (commands_of front) short (found front ok))

-- how long an accepted file is at least
pub least_length : (front : List ℕ) → file_fault front ≡ None → (28 ≤ header_size (ctx_of front).container) × (header_size (ctx_of front).container + length (concat (commands_of front)) ≤ length front)
least_length front ok = (header_size-least (ctx_of front).container, (found front ok).room)

-- the commands of an accepted file end in it, and there in a longer file too
pub commands_within : (front : List ℕ) → file_fault front ≡ None → commands_end (ctx_of front) front ≤ length front
commands_within front ok =
    let is : IsFile front (ctx_of front) (commands_of front) = found front ok in
    let end : commands_end (ctx_of front) front ≡ header_size (ctx_of front).container + length (concat (commands_of front)) = ap (λ (n : ℕ). header_size (ctx_of front).container + n) is.size in
    omega (arith, end, is.room)

pub commands_end-longer : (front rest : List ℕ) → file_fault front ≡ None → commands_end (ctx_of front) (front ++ rest) ≡ commands_end (ctx_of front) front
commands_end-longer front rest ok =
    let least = least_length front ok in
    ap (λ (n : ℕ). header_size (ctx_of front).container + n) (number_at-append_left (ctx_of front).le 4 20 front rest (omega (arith, least.0, least.1)))

-- What an accepted file is, and that what is a file is accepted.
use Rattle.std.proofs.Common.{◌≡◌, ◌≤◌, ◌<◌, ◌^◌, ℕ, ◌-◌, ltb, List, length, drop, Some, None, refl, sym, arith}
use Rattle.std.proofs.lemmas.Bool.{le-ltb}
use Rattle.std.proofs.lemmas.List.{length-drop, length-take-le}
use Rattle.std.specs.List.{concat}
use Rattle.patch_bytes.specs.declared.number.ByteOrder2.{ByteOrder2}
use Rattle.patch_bytes.specs.declared.number.ByteOrder2.TheVariants.{Little, Big}
use Rattle.patch_bytes.specs.declared.number.Wide.{Wide}
use Rattle.patch_bytes.specs.declared.number.Wide.TheVariants.{W32, W64}
use Rattle.patch_bytes.specs.Number.{number_at}
use Rattle.macho_image.specs.declared.format.Ctx.{Ctx}
use Rattle.macho_image.specs.declared.format.MachFault.TheVariants.{TooLong, Truncated}
use Rattle.macho_image.specs.Checks.{area_fault, file_fault, form_fault, magic_fault}
use Rattle.macho_image.specs.Commands.{commands_of, cut_commands}
use Rattle.macho_image.specs.File.{IsFile}
use Rattle.macho_image.specs.Form.{area_of, commands_end, ctx_of, form_of, header_size, ncmds_of, sizeofcmds_of}
use Rattle.macho_image.proofs.AreaLaws.{area_fault-concat, cut-concat, passes_check}
use Rattle.macho_image.proofs.CutLaws.{concat-cut, cut_are_commands, length-cut}
use Rattle.macho_image.proofs.FormLaws.{file_passes, form_passes}

-- a header has 28 bytes at least
pub header_size-least : (wide : Wide) → 28 ≤ header_size wide
header_size-least W32 = omega arith
header_size-least W64 = omega arith

-- the area of commands lies in the bytes
pub length-area_of : (ctx : Ctx) (bytes : List ℕ) → commands_end ctx bytes ≤ length bytes → length (area_of ctx bytes) ≡ sizeofcmds_of ctx bytes
length-area_of ctx bytes h = length-take-le (sizeofcmds_of ctx bytes) (drop (header_size ctx.container) bytes) (omega (arith, length-drop (header_size ctx.container) bytes))

-- the form that the magic tells
pub ctx_of-some : (bytes : List ℕ) (ctx : Ctx) → form_of bytes ≡ Some ctx → ctx_of bytes ≡ ctx
unfolding ctx_of
ctx_of-some bytes ctx e = rw e refl

-- the form is told by the first four bytes alone
pub form_of-same : (xs ys : List ℕ) → ((order : ByteOrder2) → number_at order 4 0 xs ≡ number_at order 4 0 ys) → form_of xs ≡ form_of ys
unfolding form_of
form_of-same xs ys same =
    let low : number_at Little 4 0 xs ≡ number_at Little 4 0 ys = same Little in
    let high : number_at Big 4 0 xs ≡ number_at Big 4 0 ys = same Big in
    rw (low, high) refl

-- no check of a file of a known form fails whose commands lie in the bytes and pass
form_fault-none : (ctx : Ctx) (bytes : List ℕ) → commands_end ctx bytes ≤ length bytes → area_fault ctx.le (ncmds_of ctx bytes) (area_of ctx bytes) ≡ None → form_fault ctx bytes ≡ None
unfolding form_fault
form_fault-none ctx bytes room area =
    passes_check (ltb (length bytes) (header_size ctx.container)) Truncated _
    (le-ltb (length bytes) (header_size ctx.container) (omega arith))
    (passes_check (ltb (length bytes) (commands_end ctx bytes)) Truncated _
    (le-ltb (length bytes) (commands_end ctx bytes) room) area)

-- the area of an accepted file is its commands end to end
pub concat-commands_of : (bytes : List ℕ) → file_fault bytes ≡ None → concat (commands_of bytes) ≡ area_of (ctx_of bytes) bytes
unfolding commands_of
concat-commands_of bytes e = concat-cut (ctx_of bytes).le (ncmds_of (ctx_of bytes) bytes) (area_of (ctx_of bytes) bytes) (form_passes (ctx_of bytes) bytes (file_passes bytes e).2).2

-- an accepted file is a file of the form that its magic tells, with the commands that are cut from it
pub found : (bytes : List ℕ) → file_fault bytes ≡ None → IsFile bytes (ctx_of bytes) (commands_of bytes)
unfolding commands_of
found bytes e =
    let ctx : Ctx = ctx_of bytes in
    let passed = file_passes bytes e in
    let form = form_passes ctx bytes passed.2 in
    let whole : concat (cut_commands ctx.le (ncmds_of ctx bytes) (area_of ctx bytes)) ≡ area_of ctx bytes = concat-cut ctx.le (ncmds_of ctx bytes) (area_of ctx bytes) form.2 in
    let long : length (area_of ctx bytes) ≡ sizeofcmds_of ctx bytes = length-area_of ctx bytes form.1 in
    record {
      short = passed.0;
      magic = passed.1;
      room = rw (whole, long) form.1;
      count = sym (length-cut ctx.le (ncmds_of ctx bytes) (area_of ctx bytes));
      size = rw (whole, long) refl;
      stand = rw (whole, long) refl;
      each = cut_are_commands ctx.le (ncmds_of ctx bytes) (area_of ctx bytes) form.2;
    }

-- the area of a file is its commands end to end
area_of-file : (bytes : List ℕ) (ctx : Ctx) (commands : List (List ℕ)) → IsFile bytes ctx commands → area_of ctx bytes ≡ concat commands
area_of-file bytes ctx commands is = rw is.size is.stand

file_fault-none : (bytes : List ℕ) (ctx : Ctx) → length bytes < 2 ^ 32 → form_of bytes ≡ Some ctx → form_fault ctx bytes ≡ None → commands_end ctx bytes ≤ length bytes → file_fault bytes ≡ None
unfolding file_fault
file_fault-none bytes ctx short magic passes room =
    let least : 28 ≤ header_size ctx.container = header_size-least ctx.container in
    let form : magic_fault (form_of bytes) bytes ≡ None = rw magic passes in
    passes_check (ltb (2 ^ 32 - 1) (length bytes)) TooLong _
    (le-ltb (2 ^ 32 - 1) (length bytes) (omega arith))
    (passes_check (ltb (length bytes) 4) Truncated _ (le-ltb (length bytes) 4 (omega arith)) form)

commands_of-file : (bytes : List ℕ) (ctx : Ctx) (commands : List (List ℕ)) → IsFile bytes ctx commands → commands_of bytes ≡ commands
unfolding commands_of
commands_of-file bytes ctx commands is =
    rw (ctx_of-some bytes ctx is.magic, is.count, area_of-file bytes ctx commands is) (cut-concat ctx.le commands is.each)

-- a file is accepted, and shows its form and its commands
pub only : (bytes : List ℕ) (ctx : Ctx) (commands : List (List ℕ)) → IsFile bytes ctx commands → (file_fault bytes ≡ None) × (ctx_of bytes ≡ ctx) × (commands_of bytes ≡ commands)
only bytes ctx commands is =
    let room : commands_end ctx bytes ≤ length bytes = rw is.size is.room in
    let area : area_fault ctx.le (ncmds_of ctx bytes) (area_of ctx bytes) ≡ None = rw (is.count, area_of-file bytes ctx commands is) (area_fault-concat ctx.le commands is.each) in
    (file_fault-none bytes ctx is.short is.magic (form_fault-none ctx bytes room area) room, ctx_of-some bytes ctx is.magic, commands_of-file bytes ctx commands is)

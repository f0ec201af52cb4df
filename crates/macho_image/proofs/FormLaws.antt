-- The checks of a file whose header and commands lie in the bytes are those of its commands.
use Rattle.std.proofs.Common.{◌≡◌, ℕ, ◌+◌, ◌-◌, ◌<◌, ◌≤◌, List, length, take, drop, Option, Some, None, refl, ap, ◌∙◌, arith, if◌then◌else◌, nat_lt, ◌^◌, unwrap_or}
use Rattle.std.proofs.lemmas.Bool.{le-ltb, lt-ltb, ltb-false}
use Rattle.patch_bytes.specs.declared.number.ByteOrder2.TheVariants.{Little}
use Rattle.patch_bytes.specs.declared.number.Wide.TheVariants.{W64}
use Rattle.macho_image.specs.declared.format.Ctx.{Ctx}
use Rattle.macho_image.specs.declared.format.Header.{Header}
use Rattle.macho_image.specs.declared.format.MachFault.TheVariants.{TooLong, Truncated}
use Rattle.macho_image.specs.Checks.{area_fault, file_fault, form_fault, magic_fault}
use Rattle.macho_image.specs.Form.{area_of, commands_end, ctx_of, form, form_of, header_of, header_size, ncmds_of, sizeofcmds_of}
use Rattle.macho_image.proofs.CommandLaws.{passes}

pub form_fault-inside : (ctx : Ctx) (bytes : List ℕ) → header_size ctx.container ≤ length bytes → commands_end ctx bytes ≤ length bytes → form_fault ctx bytes ≡ area_fault ctx.le (ncmds_of ctx bytes) (area_of ctx bytes)
unfolding form_fault
form_fault-inside ctx bytes header commands =
    let first = le-ltb (length bytes) (header_size ctx.container) header in
    let second = le-ltb (length bytes) (commands_end ctx bytes) commands in
    rw (first, second) refl

pub form_fault-short : (ctx : Ctx) (bytes : List ℕ) → header_size ctx.container ≤ length bytes → length bytes < commands_end ctx bytes → form_fault ctx bytes ≡ Some Truncated
unfolding form_fault
form_fault-short ctx bytes header commands =
    let first = le-ltb (length bytes) (header_size ctx.container) header in
    let second = lt-ltb (length bytes) (commands_end ctx bytes) commands in
    rw (first, second) refl

-- the counts are fields of the header
pub ncmds-header_of : (ctx : Ctx) (bytes : List ℕ) (header : Header) → header ≡ header_of ctx bytes → header.ncmds ≡ ncmds_of ctx bytes
unfolding header_of
ncmds-header_of ctx bytes header is = ap (λ h. h.ncmds) is

pub sizeofcmds-header_of : (ctx : Ctx) (bytes : List ℕ) (header : Header) → header ≡ header_of ctx bytes → header.sizeofcmds ≡ sizeofcmds_of ctx bytes
unfolding header_of
sizeofcmds-header_of ctx bytes header is = ap (λ h. h.sizeofcmds) is

-- the bytes between the header's end and that of the commands
pub area_between : (ctx : Ctx) (bytes : List ℕ) (start size : ℕ) → start ≡ header_size ctx.container → size ≡ sizeofcmds_of ctx bytes → take (start + size - start) (drop start bytes) ≡ area_of ctx bytes
area_between ctx bytes start size header commands =
    let e : start + size - start ≡ size = omega arith in
    ap (λ n. take n (drop start bytes)) (e ∙ commands) ∙ ap (λ n. take (sizeofcmds_of ctx bytes) (drop n bytes)) header

-- what the checks of a file of a known form show
pub form_passes : (ctx : Ctx) (bytes : List ℕ) → form_fault ctx bytes ≡ None → (header_size ctx.container ≤ length bytes) × (commands_end ctx bytes ≤ length bytes) × (area_fault ctx.le (ncmds_of ctx bytes) (area_of ctx bytes) ≡ None)
unfolding form_fault
form_passes ctx bytes pass =
    let commands = area_fault ctx.le (ncmds_of ctx bytes) (area_of ctx bytes) in
    let header = passes (nat_lt (length bytes) (header_size ctx.container)) Truncated (if nat_lt (length bytes) (commands_end ctx bytes) then Some Truncated else commands) pass in
    let room = passes (nat_lt (length bytes) (commands_end ctx bytes)) Truncated commands header.1 in
    (ltb-false (length bytes) (header_size ctx.container) header.0, ltb-false (length bytes) (commands_end ctx bytes) room.0, room.1)

magic_passes : (told : Option Ctx) (other : Ctx) (bytes : List ℕ) → magic_fault told bytes ≡ None → (told ≡ Some (unwrap_or told other)) × (form_fault (unwrap_or told other) bytes ≡ None)
magic_passes None other bytes pass = cc
magic_passes (Some ctx) other bytes pass = (refl, pass)

-- what the checks of a file show
pub file_passes : (bytes : List ℕ) → file_fault bytes ≡ None → (length bytes < 2 ^ 32) × (form_of bytes ≡ Some (ctx_of bytes)) × (form_fault (ctx_of bytes) bytes ≡ None)
unfolding file_fault ctx_of
file_passes bytes pass =
    let magic = magic_fault (form_of bytes) bytes in
    let short = passes (nat_lt (2 ^ 32 - 1) (length bytes)) TooLong (if nat_lt (length bytes) 4 then Some Truncated else magic) pass in
    let some = passes (nat_lt (length bytes) 4) Truncated magic short.1 in
    let told = magic_passes (form_of bytes) (form W64 Little) bytes some.1 in
    let bound = ltb-false (2 ^ 32 - 1) (length bytes) short.0 in
    (omega arith, told.0, told.1)

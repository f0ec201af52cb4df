-- What a load command of a kind has room for.
use Rattle.std.proofs.Common.{◌≡◌, ℕ, ◌+◌, ◌*◌, ◌≤◌, ◌&&◌, ◌||◌, if◌then◌else◌, nat_lt, IsTrue, Bool, cond, Option, true, false, List, length, take, refl, sym, ◌∙◌, subst, arith, Some, None}
use Rattle.std.proofs.lemmas.Bool.{ltb-false}
use Rattle.std.proofs.lemmas.Bool.Decides.{nat_tests}
use Rattle.std.proofs.lemmas.List.{length-take-le}
use Rattle.patch_bytes.proofs.NumberLaws.{number_at-take}
use Rattle.patch_bytes.specs.declared.number.ByteOrder2.{ByteOrder2}
use Rattle.macho_image.specs.declared.command.TheConstants.{LC_RPATH, LC_SEGMENT, LC_SEGMENT_64, LC_SYMTAB}
use Rattle.macho_image.specs.declared.format.MachFault.{MachFault}
use Rattle.macho_image.specs.declared.format.MachFault.TheVariants.{BadCommandSize, BadNameOffset}
use Rattle.macho_image.specs.Checks.{command_fault, fields_fault}
use Rattle.macho_image.specs.Command.{IsCommand, SegmentForm, cmd_of, cmdsize_of, is_dylib_kind, is_text_kind, least_size, narrow_form, nsects_of, segment_size, text_offset, wide_form}

pub least_size-rpath : (order : ByteOrder2) (c : List ℕ) → cmd_of order c ≡ LC_RPATH → least_size order c ≡ 12
unfolding least_size
least_size-rpath order c is = rw is refl

pub least_size-symtab : (order : ByteOrder2) (c : List ℕ) → cmd_of order c ≡ LC_SYMTAB → least_size order c ≡ 24
unfolding least_size
least_size-symtab order c is = rw is refl

pub least_size-narrow : (order : ByteOrder2) (c : List ℕ) → cmd_of order c ≡ LC_SEGMENT → least_size order c ≡ segment_size narrow_form order c
unfolding least_size
least_size-narrow order c is = rw is refl

pub least_size-wide : (order : ByteOrder2) (c : List ℕ) → cmd_of order c ≡ LC_SEGMENT_64 → least_size order c ≡ segment_size wide_form order c
unfolding least_size
least_size-wide order c is = rw is refl

pub least_size-dylib : (order : ByteOrder2) (c : List ℕ) → IsTrue (is_dylib_kind (cmd_of order c)) → least_size order c ≡ 24
unfolding least_size
least_size-dylib order c is = grind (arith, nat_tests)

pub least_size-text : (order : ByteOrder2) (c : List ℕ) → IsTrue (is_text_kind (cmd_of order c)) → 12 ≤ least_size order c
unfolding least_size
least_size-text order c is = grind (arith, nat_tests)

pub ruleset least_sizes = (least_size-rpath, least_size-symtab, least_size-dylib, least_size-text)

-- a segment command that is no shorter than its least size has its fixed part and its sections
pub has_sections : (f : SegmentForm) (order : ByteOrder2) (c : List ℕ) → segment_size f order c ≤ length c → (f.fixed ≤ length c) × (f.fixed + f.section * nsects_of f order c ≤ length c)
unfolding segment_size
has_sections f order c room = grind (arith, nat_tests)

pub has_narrow_sections : (order : ByteOrder2) (c : List ℕ) → IsCommand order c → cmd_of order c ≡ LC_SEGMENT → (56 ≤ length c) × (56 + 68 * nsects_of narrow_form order c ≤ length c)
has_narrow_sections order c is kind =
    let P : ℕ → Type 0 = λ n. n ≤ length c in
    has_sections narrow_form order c (subst P (least_size-narrow order c kind) is.has_fixed_part)

pub has_wide_sections : (order : ByteOrder2) (c : List ℕ) → IsCommand order c → cmd_of order c ≡ LC_SEGMENT_64 → (72 ≤ length c) × (72 + 80 * nsects_of wide_form order c ≤ length c)
has_wide_sections order c is kind =
    let P : ℕ → Type 0 = λ n. n ≤ length c in
    has_sections wide_form order c (subst P (least_size-wide order c kind) is.has_fixed_part)

-- a check that is passed: its test is false, and the checks behind it are passed
pub passes : (b : Bool) (fault : MachFault) (next : Option MachFault) → cond b (Some fault) next ≡ None → (b ≡ false) × (next ≡ None)
passes true fault next pass = cc
passes false fault next pass = (refl, pass)

both_false : (a b : Bool) → (a || b) ≡ false → (a ≡ false) × (b ≡ false)
both_false true b h = cc
both_false false b h = (refl, h)

second_false : (a b : Bool) → (a && b) ≡ false → IsTrue a → b ≡ false
second_false true b h is = h
second_false false b h is = cc

-- what the checks of a command's fields show
fields_pass : (order : ByteOrder2) (c : List ℕ) → fields_fault order c ≡ None → (least_size order c ≤ length c) × (IsTrue (is_text_kind (cmd_of order c)) → text_offset order c ≤ length c)
unfolding fields_fault
fields_pass order c pass =
    let outside = is_text_kind (cmd_of order c) && nat_lt (length c) (text_offset order c) in
    let size = passes (nat_lt (length c) (least_size order c)) BadCommandSize (if outside then Some BadNameOffset else None) pass in
    let text = passes outside BadNameOffset None size.1 in
    (ltb-false (length c) (least_size order c) size.0, λ kind. ltb-false (length c) (text_offset order c) (second_false _ _ text.0 kind))

-- what the checks of a command show
pub command_passes : (order : ByteOrder2) (rest : List ℕ) → command_fault order rest ≡ None → (8 ≤ cmdsize_of order rest) × (cmdsize_of order rest ≤ length rest) × (fields_fault order (take (cmdsize_of order rest) rest) ≡ None)
unfolding command_fault
command_passes order rest pass =
    let n = cmdsize_of order rest in
    let fields = fields_fault order (take n rest) in
    let badly_sized = nat_lt n 8 || nat_lt (length rest) n in
    let header = passes (nat_lt (length rest) 8) BadCommandSize (if badly_sized then Some BadCommandSize else fields) pass in
    let size = passes badly_sized BadCommandSize fields header.1 in
    let both = both_false (nat_lt n 8) (nat_lt (length rest) n) size.0 in
    (ltb-false n 8 both.0, ltb-false (length rest) n both.1, size.1)

pub is_command : (order : ByteOrder2) (rest : List ℕ) → command_fault order rest ≡ None → IsCommand order (take (cmdsize_of order rest) rest)
is_command order rest pass =
    let checked = command_passes order rest pass in
    let n = cmdsize_of order rest in
    let long : length (take n rest) ≡ n = length-take-le n rest checked.1 in
    let fields = fields_pass order (take n rest) checked.2 in
    record {
      header = omega arith;
      says_size = number_at-take order 4 n 4 rest checked.0 ∙ sym long;
      has_fixed_part = fields.0;
      has_text = fields.1;
    }

-- What built commands are: load commands of their kind that hold the text.
use Rattle.std.proofs.Common.{◌≡◌, ◌≤◌, ◌<◌, ℕ, zero, suc, ◌+◌, ◌*◌, ◌-◌, ◌^◌, ◌==◌, nat_lt, Bool, true, false, List, [], ◌∷◌, ◌++◌, length, drop, replicate, get_or, Option, Some, None, Ok, refl, sym, ap, ◌∙◌, subst, inl, inr, arith}
use Rattle.std.proofs.lemmas.Bool.{cases_Bool, eqb-true, ltb-false, or_right, false≢true}
use Rattle.std.proofs.lemmas.List.{append_assoc, drop_at, length-append, length-replicate}
use Rattle.std.specs.Int.{next_multiple_of}
use Rattle.patch_bytes.specs.declared.number.ByteOrder2.{ByteOrder2}
use Rattle.patch_bytes.specs.declared.number.Wide.{Wide}
use Rattle.patch_bytes.specs.declared.number.Wide.TheVariants.{W32, W64}
use Rattle.patch_bytes.specs.Bytes.{AreBytes}
use Rattle.patch_bytes.specs.Number.{bytes_of, number_at, word_size}
use Rattle.patch_bytes.proofs.NumberLaws.{AreBytes-append, AreBytes-bytes_of, length-bytes_of, number_at-append_right, number_at-bytes_of, number_at-lt}
use Rattle.patch_bytes.proofs.RoundingLemmas.{least_multiple}
use Rattle.macho_image.specs.declared.command.DylibCommand.{DylibCommand}
use Rattle.macho_image.specs.declared.command.TheConstants.{LC_RPATH}
use Rattle.macho_image.specs.declared.format.Ctx.{Ctx}
use Rattle.macho_image.specs.Command.{IsCommand, before_nul, cmd_of, cmdsize_of, contents_of, dylib_of, is_dylib_kind, is_text_kind, least_size, rpath_of, text_of, text_offset}
use Rattle.macho_image.proofs.ForCallers.{HoldsNoNul-from_position, before_nul-zeros, contents_of-text}
use Rattle.macho_edits.specs.Built.{built_dylib, built_rpath, built_size, dylib_built, fields, nul_position, padded_text, rpath_built, sized_command, unless_nul}

-- the four numbers that a library command keeps from an old one fit their fields
pub record AreWords (old : DylibCommand) : Type 0 where
  pub cmd : old.cmd < 2 ^ 32
  pub timestamp : old.dylib.timestamp < 2 ^ 32
  pub current_version : old.dylib.current_version < 2 ^ 32
  pub compatibility_version : old.dylib.compatibility_version < 2 ^ 32

-- the number of a field among fields
number_at-fields : (order : ByteOrder2) (xs : List ℕ) (i : ℕ) (rest : List ℕ) → i < length xs → get_or xs i 0 < 2 ^ 32 → number_at order 4 (4 * i) (fields order xs ++ rest) ≡ get_or xs i 0
number_at-fields order [] i rest inside fits = absurd (omega arith)
number_at-fields order (x ∷ xs) zero rest inside fits =
    rw (append_assoc (bytes_of order 4 x) (fields order xs) rest) (number_at-bytes_of order 4 x (fields order xs ++ rest) fits)
number_at-fields order (x ∷ xs) (suc i) rest inside fits =
    let e : 4 * suc i ≡ 4 + 4 * i = omega arith in
    rw (e, append_assoc (bytes_of order 4 x) (fields order xs) rest) (number_at-append_right order 4 4 (4 * i) (bytes_of order 4 x) (fields order xs ++ rest) (length-bytes_of order 4 x) ∙ number_at-fields order xs i rest (omega arith) fits)

pub length-fields : (order : ByteOrder2) (xs : List ℕ) → length (fields order xs) ≡ 4 * length xs
length-fields order [] = refl
length-fields order (x ∷ xs) = omega (arith, length-append (bytes_of order 4 x) (fields order xs), length-bytes_of order 4 x, length-fields order xs)

AreBytes-nil : AreBytes []
AreBytes-nil = record { each = λ i. omega arith }

AreBytes-fields : (order : ByteOrder2) (xs : List ℕ) → AreBytes (fields order xs)
AreBytes-fields order [] = AreBytes-nil
AreBytes-fields order (x ∷ xs) = AreBytes-append (bytes_of order 4 x) (fields order xs) (AreBytes-bytes_of order 4 x) (AreBytes-fields order xs)

-- so many zeros
abbrev zeros : ℕ → List ℕ
zeros n = replicate n 0

get_or-zeros : (n i : ℕ) → get_or (zeros n) i 0 ≡ 0
get_or-zeros zero i = refl
get_or-zeros (suc n) zero = refl
get_or-zeros (suc n) (suc i) = get_or-zeros n i

pub AreBytes-zeros : (n : ℕ) → AreBytes (replicate n 0)
AreBytes-zeros n = record { each = λ i. omega (arith, get_or-zeros n i) }

-- rounding up does not go below the number
above : (n unit : ℕ) → 1 ≤ unit → n ≤ next_multiple_of n unit
above n unit h = (least_multiple n unit h).above

above_word : (n : ℕ) (wide : Wide) → n ≤ next_multiple_of n (word_size wide)
above_word n W32 = above n 4 (omega arith)
above_word n W64 = above n 8 (omega arith)

-- a built command has room for its text and a NUL
pub built_size-above : (wide : Wide) (fixed : ℕ) (text : List ℕ) → fixed + length text + 1 ≤ built_size wide fixed text
unfolding built_size
built_size-above wide fixed text =
    let padded : length text + 1 ≤ next_multiple_of (length text + 1) 4 = above (length text + 1) 4 (omega arith) in
    let whole : fixed + next_multiple_of (length text + 1) 4 ≤ next_multiple_of (fixed + next_multiple_of (length text + 1) 4) (word_size wide) = above_word (fixed + next_multiple_of (length text + 1) 4) wide in
    omega arith

-- a command of these fields and this text
command_length : (order : ByteOrder2) (xs text : List ℕ) (size : ℕ) → 4 * length xs + length text ≤ size → length (fields order xs ++ padded_text size (4 * length xs) text) ≡ size
command_length order xs text size h =
    omega (arith, length-append (fields order xs) (padded_text size (4 * length xs) text), length-append text (replicate (size - (4 * length xs + length text)) 0), length-fields order xs, length-replicate {A = ℕ} (size - (4 * length xs + length text)) 0)

command_bytes : (order : ByteOrder2) (xs text : List ℕ) (size fixed : ℕ) → AreBytes text → AreBytes (fields order xs ++ padded_text size fixed text)
command_bytes order xs text size fixed h =
    AreBytes-append (fields order xs) (padded_text size fixed text) (AreBytes-fields order xs) (AreBytes-append text (replicate (size - (fixed + length text)) 0) h (AreBytes-zeros (size - (fixed + length text))))

command_text : (order : ByteOrder2) (xs text : List ℕ) (size fixed : ℕ) → fixed ≡ 4 * length xs → nul_position text ≡ None → before_nul (drop fixed (fields order xs ++ padded_text size fixed text)) ≡ text
command_text order xs text size fixed e none =
    ap before_nul (drop_at (fields order xs) (padded_text size fixed text) fixed (length-fields order xs ∙ sym e))
    ∙ before_nul-zeros text (size - (fixed + length text)) (HoldsNoNul-from_position text none)

-- a number of a kind is none that is not of the kind
differs : (is_kind : ℕ → Bool) (cmd other : ℕ) → is_kind cmd ≡ true → is_kind other ≡ false → (cmd == other) ≡ false
differs is_kind cmd other h k =
    elim (cases_Bool (cmd == other)) [
      | inl same ↦
          let P : ℕ → Type 0 = λ k. is_kind k ≡ true in absurd (false≢true (sym k ∙ subst P (eqb-true cmd other same) h))
      | inr ne ↦ ne
    ]

text_kind-rpath : (cmd : ℕ) → cmd ≡ LC_RPATH → is_text_kind cmd ≡ true
text_kind-rpath cmd e = ap is_text_kind e

text_kind-dylib : (cmd : ℕ) → is_dylib_kind cmd ≡ true → is_text_kind cmd ≡ true
text_kind-dylib cmd h = or_right (cmd == LC_RPATH) (is_dylib_kind cmd) h

-- the fixed parts of the two kinds
least_size-rpath : (order : ByteOrder2) (c : List ℕ) → cmd_of order c ≡ LC_RPATH → least_size order c ≤ 12
unfolding least_size
least_size-rpath order c e = rw e (omega arith)

least_size-dylib : (order : ByteOrder2) (c : List ℕ) → is_dylib_kind (cmd_of order c) ≡ true → least_size order c ≤ 24
unfolding least_size
least_size-dylib order c kind =
    let other : (cmd_of order c == LC_RPATH) ≡ false = differs is_dylib_kind (cmd_of order c) LC_RPATH kind refl in
    rw (other, kind) (omega arith)

-- the fields of the built rpath command
abbrev rpath_fields : Ctx → List ℕ → List ℕ
rpath_fields ctx text = LC_RPATH ∷ built_size ctx.container 12 text ∷ 12 ∷ []

rpath_number : (ctx : Ctx) (text : List ℕ) (i : ℕ) → i < 3 → get_or (rpath_fields ctx text) i 0 < 2 ^ 32 → number_at ctx.le 4 (4 * i) (built_rpath ctx text) ≡ get_or (rpath_fields ctx text) i 0
unfolding built_rpath
rpath_number ctx text i inside fits = number_at-fields ctx.le (rpath_fields ctx text) i (padded_text (built_size ctx.container 12 text) 12 text) inside fits

pub length-built_rpath : (ctx : Ctx) (text : List ℕ) → length (built_rpath ctx text) ≡ built_size ctx.container 12 text
unfolding built_rpath
length-built_rpath ctx text = command_length ctx.le (rpath_fields ctx text) text (built_size ctx.container 12 text) (omega (arith, built_size-above ctx.container 12 text))

pub cmd_of-built_rpath : (ctx : Ctx) (text : List ℕ) → cmd_of ctx.le (built_rpath ctx text) ≡ LC_RPATH
cmd_of-built_rpath ctx text = rpath_number ctx text 0 (omega arith) (omega arith)

pub rpath_of-built_rpath : (ctx : Ctx) (text : List ℕ) → built_size ctx.container 12 text < 2 ^ 32 → rpath_of ctx.le (built_rpath ctx text) ≡ record { cmd = LC_RPATH; cmdsize = built_size ctx.container 12 text; path = 12 }
rpath_of-built_rpath ctx text fits =
    let kind = cmd_of-built_rpath ctx text in
    let size = rpath_number ctx text 1 (omega arith) fits in
    let path = rpath_number ctx text 2 (omega arith) (omega arith) in
    rw (kind, size, path) refl

pub IsCommand-built_rpath : (ctx : Ctx) (text : List ℕ) → built_size ctx.container 12 text < 2 ^ 32 → IsCommand ctx.le (built_rpath ctx text)
IsCommand-built_rpath ctx text fits =
    let size : cmdsize_of ctx.le (built_rpath ctx text) ≡ built_size ctx.container 12 text = rpath_number ctx text 1 (omega arith) fits in
    let path : text_offset ctx.le (built_rpath ctx text) ≡ 12 = rpath_number ctx text 2 (omega arith) (omega arith) in
    let whole = length-built_rpath ctx text in
    let room = built_size-above ctx.container 12 text in
    let least = least_size-rpath ctx.le (built_rpath ctx text) (cmd_of-built_rpath ctx text) in
    record { header = omega arith; says_size = size ∙ sym whole; has_fixed_part = omega arith; has_text = λ _. omega arith }

pub text_of-built_rpath : (ctx : Ctx) (text : List ℕ) → nul_position text ≡ None → text_of ctx.le (built_rpath ctx text) ≡ text
unfolding text_of built_rpath
text_of-built_rpath ctx text none =
    let path : text_offset ctx.le (built_rpath ctx text) ≡ 12 = rpath_number ctx text 2 (omega arith) (omega arith) in
    rw path (command_text ctx.le (rpath_fields ctx text) text (built_size ctx.container 12 text) 12 refl none)

pub contents_of-built_rpath : (ctx : Ctx) (text : List ℕ) → contents_of ctx.le (built_rpath ctx text) ≡ []
contents_of-built_rpath ctx text = contents_of-text ctx.le (built_rpath ctx text) (text_kind-rpath (cmd_of ctx.le (built_rpath ctx text)) (cmd_of-built_rpath ctx text))

pub AreBytes-built_rpath : (ctx : Ctx) (text : List ℕ) → AreBytes text → AreBytes (built_rpath ctx text)
unfolding built_rpath
AreBytes-built_rpath ctx text h = command_bytes ctx.le (rpath_fields ctx text) text (built_size ctx.container 12 text) 12 h

-- the fields of the built library command
abbrev dylib_fields : Ctx → List ℕ → DylibCommand → List ℕ
dylib_fields ctx text old =
    old.cmd ∷ built_size ctx.container 24 text ∷ 24 ∷ old.dylib.timestamp ∷ old.dylib.current_version ∷ old.dylib.compatibility_version ∷ []

dylib_number : (ctx : Ctx) (text : List ℕ) (old : DylibCommand) (i : ℕ) → i < 6 → get_or (dylib_fields ctx text old) i 0 < 2 ^ 32 → number_at ctx.le 4 (4 * i) (built_dylib ctx text old) ≡ get_or (dylib_fields ctx text old) i 0
unfolding built_dylib
dylib_number ctx text old i inside fits = number_at-fields ctx.le (dylib_fields ctx text old) i (padded_text (built_size ctx.container 24 text) 24 text) inside fits

pub length-built_dylib : (ctx : Ctx) (text : List ℕ) (old : DylibCommand) → length (built_dylib ctx text old) ≡ built_size ctx.container 24 text
unfolding built_dylib
length-built_dylib ctx text old = command_length ctx.le (dylib_fields ctx text old) text (built_size ctx.container 24 text) (omega (arith, built_size-above ctx.container 24 text))

pub cmd_of-built_dylib : (ctx : Ctx) (text : List ℕ) (old : DylibCommand) → AreWords old → cmd_of ctx.le (built_dylib ctx text old) ≡ old.cmd
cmd_of-built_dylib ctx text old words = dylib_number ctx text old 0 (omega arith) words.cmd

pub dylib_of-built_dylib : (ctx : Ctx) (text : List ℕ) (old : DylibCommand) → AreWords old → built_size ctx.container 24 text < 2 ^ 32 → dylib_of ctx.le (built_dylib ctx text old) ≡ record { cmd = old.cmd; cmdsize = built_size ctx.container 24 text; dylib = record { name = 24; timestamp = old.dylib.timestamp; current_version = old.dylib.current_version; compatibility_version = old.dylib.compatibility_version } }
dylib_of-built_dylib ctx text old words fits =
    let kind = cmd_of-built_dylib ctx text old words in
    let size = dylib_number ctx text old 1 (omega arith) fits in
    let name = dylib_number ctx text old 2 (omega arith) (omega arith) in
    let timestamp = dylib_number ctx text old 3 (omega arith) words.timestamp in
    let current = dylib_number ctx text old 4 (omega arith) words.current_version in
    let compatibility = dylib_number ctx text old 5 (omega arith) words.compatibility_version in
    rw (kind, size, name, timestamp, current, compatibility) refl

pub IsCommand-built_dylib : (ctx : Ctx) (text : List ℕ) (old : DylibCommand) → AreWords old → is_dylib_kind old.cmd ≡ true → built_size ctx.container 24 text < 2 ^ 32 → IsCommand ctx.le (built_dylib ctx text old)
IsCommand-built_dylib ctx text old words kind fits =
    let size : cmdsize_of ctx.le (built_dylib ctx text old) ≡ built_size ctx.container 24 text = dylib_number ctx text old 1 (omega arith) fits in
    let name : text_offset ctx.le (built_dylib ctx text old) ≡ 24 = dylib_number ctx text old 2 (omega arith) (omega arith) in
    let whole = length-built_dylib ctx text old in
    let room = built_size-above ctx.container 24 text in
    let least = least_size-dylib ctx.le (built_dylib ctx text old) (ap is_dylib_kind (cmd_of-built_dylib ctx text old words) ∙ kind) in
    record { header = omega arith; says_size = size ∙ sym whole; has_fixed_part = omega arith; has_text = λ _. omega arith }

pub text_of-built_dylib : (ctx : Ctx) (text : List ℕ) (old : DylibCommand) → nul_position text ≡ None → text_of ctx.le (built_dylib ctx text old) ≡ text
unfolding text_of built_dylib
text_of-built_dylib ctx text old none =
    let name : text_offset ctx.le (built_dylib ctx text old) ≡ 24 = dylib_number ctx text old 2 (omega arith) (omega arith) in
    rw name (command_text ctx.le (dylib_fields ctx text old) text (built_size ctx.container 24 text) 24 refl none)

pub contents_of-built_dylib : (ctx : Ctx) (text : List ℕ) (old : DylibCommand) → AreWords old → is_dylib_kind old.cmd ≡ true → contents_of ctx.le (built_dylib ctx text old) ≡ []
contents_of-built_dylib ctx text old words kind =
    contents_of-text ctx.le (built_dylib ctx text old) (text_kind-dylib (cmd_of ctx.le (built_dylib ctx text old)) (ap is_dylib_kind (cmd_of-built_dylib ctx text old words) ∙ kind))

pub AreBytes-built_dylib : (ctx : Ctx) (text : List ℕ) (old : DylibCommand) → AreBytes text → AreBytes (built_dylib ctx text old)
unfolding built_dylib
AreBytes-built_dylib ctx text old h = command_bytes ctx.le (dylib_fields ctx text old) text (built_size ctx.container 24 text) 24 h

-- the numbers of a command of bytes fit their fields
pub AreWords-dylib_of : (order : ByteOrder2) (c : List ℕ) → AreBytes c → 24 ≤ length c → AreWords (dylib_of order c)
AreWords-dylib_of order c h size =
    record {
      cmd = number_at-lt order 4 0 c h (omega arith);
      timestamp = number_at-lt order 4 12 c h (omega arith);
      current_version = number_at-lt order 4 16 c h (omega arith);
      compatibility_version = number_at-lt order 4 20 c h (omega arith);
    }

-- where a build gives a command
unless_nul-ok : (nul : Option ℕ) (size : ℕ) (command c : List ℕ) → unless_nul nul (sized_command size command) ≡ Ok c → (c ≡ command) × (nul ≡ None) × (size < 2 ^ 32)
unless_nul-ok (Some i) size command c built = cc
unless_nul-ok None size command c built =
    elim (cases_Bool (nat_lt (2 ^ 32 - 1) size)) [
      | inl long ↦ let refused = rw long at built in cc
      | inr fits ↦
          let same = rw fits at built in
          let below : size ≤ 2 ^ 32 - 1 = ltb-false (2 ^ 32 - 1) size fits in
          (cc, refl, omega arith)
    ]

-- what a build says where it succeeds
pub rpath_built-at_ok : (ctx : Ctx) (text c : List ℕ) → rpath_built ctx text ≡ Ok c → (c ≡ built_rpath ctx text) × (nul_position text ≡ None) × (built_size ctx.container 12 text < 2 ^ 32)
unfolding rpath_built
rpath_built-at_ok ctx text c built = unless_nul-ok (nul_position text) (built_size ctx.container 12 text) (built_rpath ctx text) c built

pub dylib_built-at_ok : (ctx : Ctx) (text : List ℕ) (old : DylibCommand) (c : List ℕ) → dylib_built ctx text old ≡ Ok c → (c ≡ built_dylib ctx text old) × (nul_position text ≡ None) × (built_size ctx.container 24 text < 2 ^ 32)
unfolding dylib_built
dylib_built-at_ok ctx text old c built = unless_nul-ok (nul_position text) (built_size ctx.container 24 text) (built_dylib ctx text old) c built

-- a command of this kind with this text, which names no content
pub record HoldsText (order : ByteOrder2) (cmd : ℕ) (text c : List ℕ) : Type 0 where
  pub is_command : IsCommand order c
  pub kind : cmd_of order c ≡ cmd
  pub shown : text_of order c ≡ text
  pub no_content : contents_of order c ≡ []

-- the command that a build gives
pub HoldsText-rpath_built : (ctx : Ctx) (text c : List ℕ) → rpath_built ctx text ≡ Ok c → HoldsText ctx.le LC_RPATH text c
HoldsText-rpath_built ctx text c built =
    let is = rpath_built-at_ok ctx text c built in
    let P : List ℕ → Type 0 = λ d. HoldsText ctx.le LC_RPATH text d in
    subst P (sym is.0) (record {
      is_command = IsCommand-built_rpath ctx text is.2;
      kind = cmd_of-built_rpath ctx text;
      shown = text_of-built_rpath ctx text is.1;
      no_content = contents_of-built_rpath ctx text;
    })

pub AreBytes-rpath_built : (ctx : Ctx) (text c : List ℕ) → AreBytes text → rpath_built ctx text ≡ Ok c → AreBytes c
AreBytes-rpath_built ctx text c h built = subst AreBytes (sym (rpath_built-at_ok ctx text c built).0) (AreBytes-built_rpath ctx text h)

pub HoldsText-dylib_built : (ctx : Ctx) (text : List ℕ) (old : DylibCommand) (c : List ℕ) → AreWords old → is_dylib_kind old.cmd ≡ true → dylib_built ctx text old ≡ Ok c → HoldsText ctx.le old.cmd text c
HoldsText-dylib_built ctx text old c words kind built =
    let is = dylib_built-at_ok ctx text old c built in
    let P : List ℕ → Type 0 = λ d. HoldsText ctx.le old.cmd text d in
    subst P (sym is.0) (record {
      is_command = IsCommand-built_dylib ctx text old words kind is.2;
      kind = cmd_of-built_dylib ctx text old words;
      shown = text_of-built_dylib ctx text old is.1;
      no_content = contents_of-built_dylib ctx text old words kind;
    })

pub AreBytes-dylib_built : (ctx : Ctx) (text : List ℕ) (old : DylibCommand) (c : List ℕ) → AreBytes text → dylib_built ctx text old ≡ Ok c → AreBytes c
AreBytes-dylib_built ctx text old c h built = subst AreBytes (sym (dylib_built-at_ok ctx text old c built).0) (AreBytes-built_dylib ctx text old h)

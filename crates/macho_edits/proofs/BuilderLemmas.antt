-- What the builders' steps compute: the size of a command, the bytes of its fields, and where a build is
-- refused.
use Rattle.std.proofs.Common.{◌≡◌, ◌≤◌, ◌<◌, ℕ, ◌+◌, ◌*◌, ◌-◌, ◌^◌, nat_lt, true, false, List, [], ◌∷◌, ◌++◌, length, take, replicate, get_or, None, Ok, Err, refl, sym, ap, ◌∙◌, subst, arith}
use Rattle.std.proofs.lemmas.Bool.{le-ltb, lt-ltb}
use Rattle.std.proofs.lemmas.List.{append-nil, append_assoc, length-append, take_more}
use Rattle.std.specs.Int.{next_multiple_of}
use Rattle.patch_bytes.specs.declared.number.ByteOrder2.{ByteOrder2}
use Rattle.patch_bytes.specs.declared.number.Wide.{Wide}
use Rattle.patch_bytes.specs.declared.number.Wide.TheVariants.{W32, W64}
use Rattle.patch_bytes.specs.Number.{bytes_of, word_size}
use Rattle.patch_bytes.specs.Rounding.{IsLeastMultiple}
use Rattle.patch_bytes.proofs.RoundingLemmas.{least_multiple}
use Rattle.macho_image.specs.declared.command.DylibCommand.{DylibCommand}
use Rattle.macho_image.specs.declared.command.TheConstants.{LC_RPATH}
use Rattle.macho_image.specs.declared.format.Ctx.{Ctx}
use Rattle.macho_image.specs.Command.{dylib_of, rpath_of}
use Rattle.macho_edits.specs.Built.{built_dylib, built_rpath, built_size, dylib_built, fields, nul_position, padded_text, rpath_built, sized_command, unless_nul}
use Rattle.macho_edits.proofs.BuiltLaws.{AreWords, dylib_built-at_ok, dylib_of-built_dylib, length-fields, rpath_built-at_ok, rpath_of-built_rpath}
use Rattle.macho_edits.specs.Call.Cause.{too_long}

-- the fields of a command with one more
pub fields-push : (order : ByteOrder2) (xs : List ℕ) (x : ℕ) → fields order (xs ++ x ∷ []) ≡ fields order xs ++ bytes_of order 4 x
fields-push order [] x = append-nil (bytes_of order 4 x)
fields-push order (y ∷ ys) x = ap (λ (r : List ℕ). bytes_of order 4 y ++ r) (fields-push order ys x) ∙ sym (append_assoc (bytes_of order 4 y) (fields order ys) (bytes_of order 4 x))

-- there is one least multiple
same_multiple : (n unit a b : ℕ) → IsLeastMultiple n unit a → IsLeastMultiple n unit b → a ≡ b
same_multiple n unit a b h k =
    let low : a ≤ b = h.least b k.multiple k.above in
    let high : b ≤ a = k.least a h.multiple h.above in
    omega arith

next_is : (n unit a : ℕ) → 1 ≤ unit → IsLeastMultiple n unit a → a ≡ next_multiple_of n unit
next_is n unit a h least = same_multiple n unit a (next_multiple_of n unit) least (least_multiple n unit h)

next_word : (n : ℕ) (wide : Wide) (a : ℕ) → IsLeastMultiple n (word_size wide) a → a ≡ next_multiple_of n (word_size wide)
next_word n W32 a least = next_is n 4 a (omega arith) least
next_word n W64 a least = next_is n 8 a (omega arith) least

-- rounding up stays below 2 ^ 64 for numbers a good deal below it
pub align-fits : (n : ℕ) (wide : Wide) → n ≤ 2 ^ 34 → next_multiple_of n (word_size wide) ≤ 2 ^ 34
align-fits n W32 h = (least_multiple n 4 (omega arith)).least (2 ^ 34) refl h
align-fits n W64 h = (least_multiple n 8 (omega arith)).least (2 ^ 34) refl h

pub padded-fits : (n a : ℕ) → n ≤ 2 ^ 33 → IsLeastMultiple n 4 a → a ≤ 2 ^ 33
padded-fits n a h least = least.least (2 ^ 33) refl h

-- the size that is computed in two steps
pub size_is : (wide : Wide) (fixed : ℕ) (text : List ℕ) (a b : ℕ) → IsLeastMultiple (length text + 1) 4 a → IsLeastMultiple (fixed + a) (word_size wide) b → b ≡ built_size wide fixed text
unfolding built_size
size_is wide fixed text a b padded whole =
    next_word (fixed + a) wide b whole ∙ ap (λ (n : ℕ). next_multiple_of (fixed + n) (word_size wide)) (next_is (length text + 1) 4 a (omega arith) padded)

-- where a build is refused, and where not
pub refused_long : (text : List ℕ) (size : ℕ) (c : List ℕ) → nul_position text ≡ None → 2 ^ 32 ≤ size → unless_nul (nul_position text) (sized_command size c) ≡ Err too_long
refused_long text size c none long =
    let over : nat_lt (2 ^ 32 - 1) size ≡ true = lt-ltb (2 ^ 32 - 1) size (omega arith) in
    ap (λ nul. unless_nul nul (sized_command size c)) none ∙ rw over refl

pub not_refused : (text : List ℕ) (size : ℕ) (c : List ℕ) → nul_position text ≡ None → size < 2 ^ 32 → unless_nul (nul_position text) (sized_command size c) ≡ Ok c
not_refused text size c none fits =
    let below : nat_lt (2 ^ 32 - 1) size ≡ false = le-ltb (2 ^ 32 - 1) size (omega arith) in
    ap (λ nul. unless_nul nul (sized_command size c)) none ∙ rw below refl

-- one more field behind those that were appended
pub fields_more : (order : ByteOrder2) (items was now numbers : List ℕ) (i : ℕ) → i < length numbers → was ≡ items ++ fields order (take i numbers) → now ≡ was ++ bytes_of order 4 (get_or numbers i 0) → now ≡ items ++ fields order (take (i + 1) numbers)
fields_more order items was now numbers i inside before step =
    step ∙ ap (λ (r : List ℕ). r ++ bytes_of order 4 (get_or numbers i 0)) before
    ∙ append_assoc items (fields order (take i numbers)) (bytes_of order 4 (get_or numbers i 0))
    ∙ ap (λ (r : List ℕ). items ++ r) (sym (fields-push order (take i numbers) (get_or numbers i 0)) ∙ ap (fields order) (sym (take_more numbers i 0 inside)))

-- the steps of a command's bytes: first none, then the fields, then the text
pub text_behind : (order : ByteOrder2) (numbers text none with_fields with_text : List ℕ) → none ≡ [] → with_fields ≡ none ++ fields order numbers → with_text ≡ with_fields ++ text → with_text ≡ fields order numbers ++ text
text_behind order numbers text none with_fields with_text a b c = cc

pub length-text_behind : (order : ByteOrder2) (numbers text with_text : List ℕ) → with_text ≡ fields order numbers ++ text → length with_text ≡ 4 * length numbers + length text
length-text_behind order numbers text with_text e =
    omega (arith, ap length e, length-append (fields order numbers) text, length-fields order numbers)

-- the zeros stand behind the text of a command
pub zeros_behind : (order : ByteOrder2) (numbers text with_text whole : List ℕ) (size n : ℕ) → with_text ≡ fields order numbers ++ text → n ≡ length with_text → whole ≡ with_text ++ replicate (size - n) 0 → whole ≡ fields order numbers ++ padded_text size (4 * length numbers) text
zeros_behind order numbers text with_text whole size n e l f =
    let P : ℕ → Type 0 = λ n. whole ≡ with_text ++ replicate (size - n) 0 in
    let counted : whole ≡ with_text ++ replicate (size - (4 * length numbers + length text)) 0 = subst P (l ∙ length-text_behind order numbers text with_text e) f in
    counted ∙ ap (λ (r : List ℕ). r ++ replicate (size - (4 * length numbers + length text)) 0) e
    ∙ append_assoc (fields order numbers) text (replicate (size - (4 * length numbers + length text)) 0)

-- an old command with the size and the place of a new name
abbrev pub with_name : ℕ → DylibCommand → DylibCommand
with_name size old =
    record {
      cmd = old.cmd;
      cmdsize = size;
      dylib = record {
        name = 24;
        timestamp = old.dylib.timestamp;
        current_version = old.dylib.current_version;
        compatibility_version = old.dylib.compatibility_version;
      };
    }

-- a build that isn't refused
pub rpath_made : (ctx : Ctx) (text items : List ℕ) (cmdsize : ℕ) → cmdsize ≡ built_size ctx.container 12 text → ((c : List ℕ) → unless_nul (nul_position text) (sized_command cmdsize c) ≡ Ok c) → items ≡ fields ctx.le (LC_RPATH ∷ cmdsize ∷ 12 ∷ []) ++ padded_text cmdsize 12 text → (rpath_built ctx text ≡ Ok items) × (record { cmd = LC_RPATH; cmdsize = cmdsize; path = 12 } ≡ rpath_of ctx.le items)
unfolding rpath_built built_rpath
rpath_made ctx text items cmdsize size built made =
    let same : items ≡ built_rpath ctx text = rw size at made in
    let whole : rpath_built ctx text ≡ Ok items = ap (λ n. unless_nul (nul_position text) (sized_command n (built_rpath ctx text))) (sym size) ∙ ap (λ c. unless_nul (nul_position text) (sized_command cmdsize c)) (sym same) ∙ built items in
    let fits : built_size ctx.container 12 text < 2 ^ 32 = (rpath_built-at_ok ctx text items whole).2 in
    (whole, ap (λ n. record { cmd = LC_RPATH; cmdsize = n; path = 12 }) size ∙ sym (rpath_of-built_rpath ctx text fits) ∙ ap (rpath_of ctx.le) (sym same))

pub dylib_made : (ctx : Ctx) (text items : List ℕ) (old : DylibCommand) (cmdsize : ℕ) → AreWords old → cmdsize ≡ built_size ctx.container 24 text → ((c : List ℕ) → unless_nul (nul_position text) (sized_command cmdsize c) ≡ Ok c) → items ≡ fields ctx.le (old.cmd ∷ cmdsize ∷ 24 ∷ old.dylib.timestamp ∷ old.dylib.current_version ∷ old.dylib.compatibility_version ∷ []) ++ padded_text cmdsize 24 text → (dylib_built ctx text old ≡ Ok items) × (with_name cmdsize old ≡ dylib_of ctx.le items)
unfolding dylib_built built_dylib
dylib_made ctx text items old cmdsize words size built made =
    let same : items ≡ built_dylib ctx text old = rw size at made in
    let whole : dylib_built ctx text old ≡ Ok items = ap (λ n. unless_nul (nul_position text) (sized_command n (built_dylib ctx text old))) (sym size) ∙ ap (λ c. unless_nul (nul_position text) (sized_command cmdsize c)) (sym same) ∙ built items in
    let fits : built_size ctx.container 24 text < 2 ^ 32 = (dylib_built-at_ok ctx text old items whole).2 in
    (whole, ap (λ n. with_name n old) size ∙ sym (dylib_of-built_dylib ctx text old words fits) ∙ ap (dylib_of ctx.le) (sym same))

-- Edits that make twice what they make once.
use Rattle.std.proofs.Common.{◌≡◌, ℕ, Bool, true, false, not, ◌||◌, List, [], ◌∷◌, ◌++◌, refl, sym, ap, ◌∙◌, Option, Some, None, option_map, is_some, Ok, arith}
use Rattle.std.proofs.lemmas.Nat.Bits.{bit_at_or, same_from_bits}
use Rattle.std.specs.Prelude.{if◌then◌else◌, ◌==◌, bit_or, codes}
use Rattle.std.specs.List.{list_any}
use Rattle.std.proofs.lemmas.Bool.{cond-true, cond-false, or_right}
use Rattle.std.proofs.lemmas.List.{map-append}
use Rattle.std.proofs.lemmas.List.Folds.{list_any-append}
use Rattle.elf_format.specs.declared.constants.TheConstants.{DT_DEBUG, DT_FLAGS_1, DT_RPATH, DT_RUNPATH, EM_MIPS}
use Rattle.elf_image.specs.Dynamic.{Auto, Entry, Integer, Text}
use Rattle.elf_image.specs.Image.{Image, lists_tag}
use Rattle.elf_image.specs.Options.{first_there}
use Rattle.elf_edits.specs.declared.constants.TheConstants.{DF_1_NODEFLIB}
use Rattle.elf_edits.specs.Cause.{Cause, MipsImage, NoDynamic, cause, cause_if, first_cause}
use Rattle.elf_edits.specs.Edit.{AddDebugTag, Edit, NoDefaultLib, ForceRpath, edited_entries, touches_entries}
use Rattle.elf_edits.specs.Edited.{edited_image, is_list_with, step, touches}
use Rattle.elf_edits.specs.Entries.{changed_where, has_tag, with_bits, with_tag}
use Rattle.elf_edits.specs.Laws.{ChangesNothingAgain, IsDoneAtOnce, TwiceIsOnce}
use Rattle.elf_edits.proofs.ListLaws.{by_test, changed_where_none, list_any-map, map_twice, none_after}
use Rattle.elf_edits.proofs.ShownLaws.{accepted_step, step_of}

-- ## DT_RUNPATH becomes DT_RPATH

rpath_if : Entry → Entry
rpath_if e = if has_tag DT_RUNPATH e then with_tag DT_RPATH e else e

not_runpath : (e : Entry) → has_tag DT_RUNPATH (with_tag DT_RPATH e) ≡ false
not_runpath (Auto tag) = refl
not_runpath (Integer tag value) = refl
not_runpath (Text tag text) = refl

no_runpath_left : (es : List Entry) → list_any (has_tag DT_RUNPATH) (changed_where (has_tag DT_RUNPATH) (with_tag DT_RPATH) es) ≡ false
unfolding rpath_if
no_runpath_left es = none_after (has_tag DT_RUNPATH) rpath_if each es
  where
    each : (e : Entry) → has_tag DT_RUNPATH (if has_tag DT_RUNPATH e then with_tag DT_RPATH e else e) ≡ false
    each e = by_test (has_tag DT_RUNPATH e)
        (λ holds. ap (has_tag DT_RUNPATH) (cond-true (has_tag DT_RUNPATH e) (with_tag DT_RPATH e) e holds) ∙ not_runpath e)
        (λ fails. ap (has_tag DT_RUNPATH) (cond-false (has_tag DT_RUNPATH e) (with_tag DT_RPATH e) e fails) ∙ fails)

rpath_twice : IsDoneAtOnce ForceRpath
unfolding edited_entries
rpath_twice machine es = changed_where_none (has_tag DT_RUNPATH) (with_tag DT_RPATH) (changed_where (has_tag DT_RUNPATH) (with_tag DT_RPATH) es) (no_runpath_left es)

-- ## No default directories

flag_if : Entry → Entry
flag_if e = if has_tag DT_FLAGS_1 e then with_bits DF_1_NODEFLIB e else e

same_kind : (e : Entry) → has_tag DT_FLAGS_1 (with_bits DF_1_NODEFLIB e) ≡ has_tag DT_FLAGS_1 e
same_kind (Auto tag) = refl
same_kind (Integer tag value) = refl
same_kind (Text tag text) = refl

-- bits that are set twice
bits_set_twice : (a b : ℕ) → bit_or (bit_or a b) b ≡ bit_or a b
bits_set_twice a b = same_from_bits (bit_or (bit_or a b) b) (bit_or a b) (λ i.
    let outer = bit_at_or (bit_or a b) b i in
    let inner = bit_at_or a b i in
    omega (arith, outer, inner))

bits_twice : (e : Entry) → with_bits DF_1_NODEFLIB (with_bits DF_1_NODEFLIB e) ≡ with_bits DF_1_NODEFLIB e
bits_twice (Auto tag) = refl
bits_twice (Integer tag value) = ap (Integer tag) (bits_set_twice value DF_1_NODEFLIB)
bits_twice (Text tag text) = refl

flag_kind : (e : Entry) → has_tag DT_FLAGS_1 (flag_if e) ≡ has_tag DT_FLAGS_1 e
unfolding flag_if
flag_kind e = by_test (has_tag DT_FLAGS_1 e)
    (λ holds. ap (has_tag DT_FLAGS_1) (cond-true (has_tag DT_FLAGS_1 e) (with_bits DF_1_NODEFLIB e) e holds) ∙ same_kind e)
    (λ fails. ap (has_tag DT_FLAGS_1) (cond-false (has_tag DT_FLAGS_1 e) (with_bits DF_1_NODEFLIB e) e fails))

flag_twice : (e : Entry) → flag_if (flag_if e) ≡ flag_if e
unfolding flag_if
flag_twice e = by_test (has_tag DT_FLAGS_1 e)
    (λ holds.
    let once : flag_if e ≡ with_bits DF_1_NODEFLIB e = cond-true (has_tag DT_FLAGS_1 e) (with_bits DF_1_NODEFLIB e) e holds in
    ap flag_if once
    ∙ cond-true (has_tag DT_FLAGS_1 (with_bits DF_1_NODEFLIB e)) (with_bits DF_1_NODEFLIB (with_bits DF_1_NODEFLIB e)) (with_bits DF_1_NODEFLIB e) (same_kind e ∙ holds)
    ∙ bits_twice e ∙ sym once)
    (λ fails. ap flag_if (cond-false (has_tag DT_FLAGS_1 e) (with_bits DF_1_NODEFLIB e) e fails))

flagged : List Entry → List Entry
flagged es = changed_where (has_tag DT_FLAGS_1) (with_bits DF_1_NODEFLIB) es

flag_entry : Entry
flag_entry = Integer DT_FLAGS_1 DF_1_NODEFLIB

with_flag : List Entry → List Entry
with_flag es = if list_any (has_tag DT_FLAGS_1) es then flagged es else es ++ flag_entry ∷ []

flags_twice : (es : List Entry) → with_flag (with_flag es) ≡ with_flag es
unfolding flagged flag_if flag_entry with_flag
flags_twice es = by_test (list_any (has_tag DT_FLAGS_1) es)
    (λ some.
    let once : with_flag es ≡ flagged es = cond-true (list_any (has_tag DT_FLAGS_1) es) (flagged es) (es ++ flag_entry ∷ []) some in
    ap with_flag once
    ∙ cond-true (list_any (has_tag DT_FLAGS_1) (flagged es)) (flagged (flagged es)) (flagged es ++ flag_entry ∷ []) (list_any-map (has_tag DT_FLAGS_1) flag_if flag_kind es ∙ some)
    ∙ map_twice flag_if flag_twice es ∙ sym once)
    (λ none.
    let once : with_flag es ≡ es ++ flag_entry ∷ [] = cond-false (list_any (has_tag DT_FLAGS_1) es) (flagged es) (es ++ flag_entry ∷ []) none in
    ap with_flag once
    ∙ cond-true (list_any (has_tag DT_FLAGS_1) (es ++ flag_entry ∷ [])) (flagged (es ++ flag_entry ∷ [])) ((es ++ flag_entry ∷ []) ++ flag_entry ∷ [])
    (list_any-append (has_tag DT_FLAGS_1) es (flag_entry ∷ []) ∙ or_right (list_any (has_tag DT_FLAGS_1) es) true refl)
    ∙ map-append flag_if es (flag_entry ∷ [])
    ∙ ap (λ l. l ++ flag_entry ∷ []) (changed_where_none (has_tag DT_FLAGS_1) (with_bits DF_1_NODEFLIB) es none) ∙ sym once)

no_default_twice : IsDoneAtOnce NoDefaultLib
unfolding edited_entries with_flag flagged flag_entry
no_default_twice machine es = flags_twice es

-- ## An entry for a debugger

debug_entry : Entry
debug_entry = Integer DT_DEBUG 0

with_debug : List Entry → List Entry
with_debug es = if lists_tag DT_DEBUG es then es else es ++ debug_entry ∷ []

debug_there : (es : List Entry) → lists_tag DT_DEBUG (with_debug es) ≡ true
unfolding with_debug debug_entry
debug_there es = by_test (lists_tag DT_DEBUG es)
    (λ some. ap (lists_tag DT_DEBUG) (cond-true (lists_tag DT_DEBUG es) es (es ++ debug_entry ∷ []) some) ∙ some)
    (λ none. ap (lists_tag DT_DEBUG) (cond-false (lists_tag DT_DEBUG es) es (es ++ debug_entry ∷ []) none)
    ∙ list_any-append (has_tag DT_DEBUG) es (debug_entry ∷ []) ∙ or_right (lists_tag DT_DEBUG es) true refl)

debug_twice : IsDoneAtOnce AddDebugTag
unfolding edited_entries with_debug debug_entry
debug_twice machine es = cond-true (lists_tag DT_DEBUG (with_debug es)) (with_debug es) (with_debug es ++ debug_entry ∷ []) (debug_there es)

-- ## Images

or_false : (b c : Bool) → c ≡ false → (b || c) ≡ b
or_false true c h = refl
or_false false c h = h

or_again : (b c : Bool) → ((b || c) || c) ≡ (b || c)
or_again true c = refl
or_again false true = refl
or_again false false = refl

option_twice : {A : Type 0} (f : A → A) → ((x : A) → f (f x) ≡ f x) → (o : Option A) → option_map f (option_map f o) ≡ option_map f o
option_twice f same None = refl
option_twice f same (Some x) = ap Some (same x)

-- an edit of the list alone, which makes of an edited image what it is
record IsSettled (edit : Edit) : Type 0 where
  cause_kept : (old : Image) → cause edit (edited_image edit old) ≡ cause edit old
  done : (old : Image) → edited_image edit (edited_image edit old) ≡ edited_image edit old

nothing_again : (edit : Edit) → IsSettled edit → ChangesNothingAgain edit
nothing_again edit is old new h =
    let made = accepted_step edit old new h in
    let again : step edit (edited_image edit old) ≡ Ok (edited_image edit (edited_image edit old)) = step_of edit (edited_image edit old) (is.cause_kept old ∙ made.0) in
    ap (step edit) made.1 ∙ again ∙ ap Ok (is.done old) ∙ sym (ap Ok made.1)

-- the image with another list and mark
image_at : Image → Bool → Option (List Entry) → Image
image_at old changed es = record old { changed = changed; entries = es }

-- the cause of an edit of the list alone hangs on the machine, and on whether there is a list
is_some-option_map : {A : Type 0} (f : A → A) (o : Option A) → is_some (option_map f o) ≡ is_some o
is_some-option_map f None = refl
is_some-option_map f (Some x) = refl

cause_of_list : ℕ → List ℕ → Bool → Option Cause
cause_of_list m task there = first_there (cause_if (m == EM_MIPS) MipsImage) (first_there (cause_if (not there) (NoDynamic task)) None)

cause_same : (m : ℕ) (task : List ℕ) (f : List Entry → List Entry) (es : Option (List Entry)) → cause_of_list m task (is_some (option_map f es)) ≡ cause_of_list m task (is_some es)
cause_same m task f es = ap (cause_of_list m task) (is_some-option_map f es)

-- none of these edits touches what it made
rpath_untouched : (m : ℕ) (es : Option (List Entry)) → is_list_with (touches_entries m ForceRpath) (option_map (edited_entries m ForceRpath) es) ≡ false
unfolding edited_entries touches_entries
rpath_untouched m None = refl
rpath_untouched m (Some es) = no_runpath_left es

debug_untouched : (m : ℕ) (es : Option (List Entry)) → is_list_with (touches_entries m AddDebugTag) (option_map (edited_entries m AddDebugTag) es) ≡ false
unfolding edited_entries touches_entries with_debug debug_entry
debug_untouched m None = refl
debug_untouched m (Some es) = ap not (debug_there es)

-- or the edit touches its list again, as it did before
no_default_touched : (m : ℕ) (es : Option (List Entry)) → is_list_with (touches_entries m NoDefaultLib) (option_map (edited_entries m NoDefaultLib) es) ≡ is_list_with (touches_entries m NoDefaultLib) es
unfolding touches_entries
no_default_touched m None = refl
no_default_touched m (Some es) = refl

rpath_settled : IsSettled ForceRpath
unfolding cause cause_of_list edited_image first_cause image_at
rpath_settled = record {
  cause_kept = λ old. cause_same old.header.e_machine (codes "change rpath") (edited_entries old.header.e_machine ForceRpath) old.entries;
  done = λ old.
      ap (image_at old ((old.changed || touches ForceRpath old) || touches ForceRpath (edited_image ForceRpath old))) (option_twice (edited_entries old.header.e_machine ForceRpath) (rpath_twice old.header.e_machine) old.entries)
      ∙ ap (λ c. image_at old c (option_map (edited_entries old.header.e_machine ForceRpath) old.entries)) (or_false (old.changed || touches ForceRpath old) (touches ForceRpath (edited_image ForceRpath old)) (rpath_untouched old.header.e_machine old.entries));
}

debug_settled : IsSettled AddDebugTag
unfolding cause cause_of_list edited_image first_cause image_at
debug_settled = record {
  cause_kept = λ old. cause_same old.header.e_machine (codes "add debug entry") (edited_entries old.header.e_machine AddDebugTag) old.entries;
  done = λ old.
      ap (image_at old ((old.changed || touches AddDebugTag old) || touches AddDebugTag (edited_image AddDebugTag old))) (option_twice (edited_entries old.header.e_machine AddDebugTag) (debug_twice old.header.e_machine) old.entries)
      ∙ ap (λ c. image_at old c (option_map (edited_entries old.header.e_machine AddDebugTag) old.entries)) (or_false (old.changed || touches AddDebugTag old) (touches AddDebugTag (edited_image AddDebugTag old)) (debug_untouched old.header.e_machine old.entries));
}

no_default_settled : IsSettled NoDefaultLib
unfolding cause cause_of_list edited_image first_cause image_at
no_default_settled = record {
  cause_kept = λ old. cause_same old.header.e_machine (codes "set soname") (edited_entries old.header.e_machine NoDefaultLib) old.entries;
  done = λ old.
      ap (image_at old ((old.changed || touches NoDefaultLib old) || touches NoDefaultLib (edited_image NoDefaultLib old))) (option_twice (edited_entries old.header.e_machine NoDefaultLib) (no_default_twice old.header.e_machine) old.entries)
      ∙ ap (λ c. image_at old c (option_map (edited_entries old.header.e_machine NoDefaultLib) old.entries))
      (ap (λ b. (old.changed || touches NoDefaultLib old) || b) (no_default_touched old.header.e_machine old.entries) ∙ or_again old.changed (touches NoDefaultLib old));
}

pub twice_is_once : TwiceIsOnce
twice_is_once = record {
  rpath = rpath_twice;
  no_default = no_default_twice;
  debug = debug_twice;
  rpath_of_images = nothing_again ForceRpath rpath_settled;
  no_default_of_images = nothing_again NoDefaultLib no_default_settled;
  debug_of_images = nothing_again AddDebugTag debug_settled;
}

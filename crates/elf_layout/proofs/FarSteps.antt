-- When a number of the plan doesn't fit.
use Rattle.std.proofs.Common.{◌≡◌, ℕ, ◌+◌, ◌*◌, ◌^◌, ◌≤◌, List, [], ◌∷◌, ◌++◌, Bool, true, false, cond, Option, Some, None, map, zero, suc, refl, sym, ap, ◌∙◌, subst, arith}
use Rattle.std.specs.Prelude.{max, nat_lt, slice_get, is_some}
use Rattle.std.specs.Int.{next_multiple_of}
use Rattle.std.specs.List.{list_all}
use Rattle.std.proofs.lemmas.Bool.{and_left, and_right, le-ltb}
use Rattle.std.proofs.lemmas.List.{map-append}
use Rattle.patch_bytes.specs.declared.number.Wide.{Wide}
use Rattle.patch_bytes.specs.declared.number.Wide.TheVariants.{W32, W64}
use Rattle.patch_bytes.specs.Number.{word_size}
use Rattle.elf_format.specs.declared.form.Form.{Form}
use Rattle.elf_format.specs.Form.{by_class}
use Rattle.elf_format.specs.Places.{Place}
use Rattle.elf_format.specs.Records.{segment_header_size}
use Rattle.elf_layout_plan.specs.Added.{AddedLoad, Slot, added_loads, greatest, header_count, kept_end}
use Rattle.elf_layout_plan.specs.Memory.{Resized, SizedSection, table_load}
use Rattle.elf_layout_plan.specs.Plan.{does_place_fit, does_plan_fit, plan_for}
use Rattle.elf_layout_plan.specs.Sizes.{fits_field}
use Rattle.elf_layout_plan.specs.Standing.{UnloadedSlot, content_end, unloaded_slot_of, unloaded_slots, unloaded_start, next_table, place_in, places, slot_of, stands_at, stays_at, sections_offset, segments_end, table_offset}
use Rattle.elf_layout.specs.Inner.{IsPastField}
use Rattle.elf_layout.proofs.LoadSteps.{end_in_file}

-- ## Tests

not_by_class : (w : Wide) (n : ℕ) → 2 ^ 64 ≤ n → nat_lt n (by_class w (2 ^ 32) (2 ^ 64)) ≡ false
not_by_class W32 n far = le-ltb n (2 ^ 32) (omega arith)
not_by_class W64 n far = le-ltb n (2 ^ 64) far

pub no_field : (form : Form) (n : ℕ) → 2 ^ 64 ≤ n → fits_field form n ≡ false
no_field form n far = not_by_class form.wide n far

pub not_all : {X : Type 0} (test : X → Bool) (xs : List X) (i : ℕ) (x : X) → slice_get xs i ≡ Some x → test x ≡ false
    → list_all test xs ≡ false
not_all test [] i x there fails = let none : ⊥ = cc there in absurd none
not_all test (y ∷ xs) zero x there fails =
    let same : y ≡ x = cc there in
    and_left (test y) (list_all test xs) (ap test same ∙ fails)
not_all test (y ∷ xs) (suc i) x there fails = and_right (test y) (list_all test xs) (not_all test xs i x there fails)

-- ## Numbers of the plan

pub past_sections : (r : Resized) (moved : List ℕ) → 2 ^ 64 ≤ sections_offset r moved → IsPastField r moved
unfolding does_plan_fit plan_for
past_sections r moved far rounds looked =
    and_left _ _ (and_left _ _ (and_right _ _ (no_field r.image.form (sections_offset r moved) far)))

pub past_place : (r : Resized) (moved : List ℕ) (i : ℕ) (s : Place) → slice_get (places r moved) i ≡ Some s → 2 ^ 64 ≤ s.sh_addr
    → IsPastField r moved
unfolding does_plan_fit plan_for
past_place r moved i s there far rounds looked =
    let no : does_place_fit r.image.form s ≡ false = and_left _ _ (no_field r.image.form s.sh_addr far) in
    and_left _ _ (and_left _ _ (and_left _ _
    (and_left _ _ (and_left _ _ (not_all (does_place_fit r.image.form) (places r moved) i s there no)))))

-- ## What stands before what

pub greatest_above : (n : ℕ) (ns : List ℕ) → n ≤ greatest n ns
greatest_above n [] = omega arith
greatest_above n (m ∷ ns) =
    let more : max n m ≤ greatest (max n m) ns = greatest_above (max n m) ns in
    omega arith

pub greatest_within : (n : ℕ) (ms : List ℕ) (m : ℕ) (ns : List ℕ) → m ≤ greatest n (ms ++ m ∷ ns)
greatest_within n [] m ns =
    let more : max n m ≤ greatest (max n m) ns = greatest_above (max n m) ns in
    omega arith
greatest_within n (k ∷ ms) m ns = greatest_within (max n k) ms m ns

pub next_above : (n unit : ℕ) → n ≤ next_multiple_of n unit
next_above n unit = omega arith

start_above : (b : Bool) (end offset size : ℕ) → end ≤ offset → end ≤ cond b end (offset + size)
start_above true end offset size below = omega arith
start_above false end offset size below = omega arith

pub table_there : (b : Bool) (end old next size : ℕ) → cond b end (cond b old next + size) ≡ cond b end (next + size)
table_there true end old next size = refl
table_there false end old next size = refl

pub unloaded_above : (r : Resized) (moved : List ℕ) → segments_end r moved ≤ unloaded_start r moved
unfolding unloaded_start table_offset
unloaded_above r moved =
    let b : Bool = is_some (table_load r) in
    let end : ℕ = segments_end r moved in
    let next : ℕ = next_table r end in
    let size : ℕ = header_count r moved * segment_header_size r.image.form in
    let least : end ≤ cond b end (next + size) = start_above b end next size (next_above end (word_size r.image.form.wide)) in
    subst (λ (n : ℕ). end ≤ n) (sym (table_there b end r.image.header.e_phoff next size)) least

pub content_above : (r : Resized) (moved : List ℕ) → unloaded_start r moved ≤ content_end r moved
unfolding content_end
content_above r moved = greatest_above (unloaded_start r moved) (map (λ s. s.offset + s.size) (unloaded_slots r moved))

pub sections_above : (r : Resized) (moved : List ℕ) → content_end r moved ≤ sections_offset r moved
unfolding sections_offset
sections_above r moved = next_above (content_end r moved) (word_size r.image.form.wide)

pub past_content : (r : Resized) (moved : List ℕ) → 2 ^ 64 ≤ content_end r moved → IsPastField r moved
past_content r moved far = past_sections r moved (omega (arith, sections_above r moved, far))

pub past_start : (r : Resized) (moved : List ℕ) → 2 ^ 64 ≤ unloaded_start r moved → IsPastField r moved
past_start r moved far = past_content r moved (omega (arith, content_above r moved, far))

pub past_segments : (r : Resized) (moved : List ℕ) → 2 ^ 64 ≤ segments_end r moved → IsPastField r moved
past_segments r moved far = past_start r moved (omega (arith, unloaded_above r moved, far))

pub past_load_end : (r : Resized) (moved : List ℕ) (before after : List AddedLoad) (load : AddedLoad)
    → added_loads r moved ≡ before ++ load ∷ after
    → 2 ^ 64 ≤ end_in_file load → IsPastField r moved
unfolding segments_end
past_load_end r moved before after load all far =
    let ends : segments_end r moved ≡ greatest (kept_end r moved) (map end_in_file before ++ end_in_file load ∷ map end_in_file after) =
    ap (λ (l : List AddedLoad). greatest (kept_end r moved) (map end_in_file l)) all
    ∙ ap (λ (l : List ℕ). greatest (kept_end r moved) l) (map-append end_in_file before (load ∷ after)) in
    let within : end_in_file load ≤ greatest (kept_end r moved) (map end_in_file before ++ end_in_file load ∷ map end_in_file after) =
    greatest_within (kept_end r moved) (map end_in_file before) (end_in_file load) (map end_in_file after) in
    past_segments r moved (omega (arith, ends, within, far))

-- ## Where a section stands

-- a section's place, by the slots that are found for it
abbrev pub placed_as : Resized → List ℕ → SizedSection → Option Slot → Option UnloadedSlot → Place
placed_as r moved s (Some slot) unloaded = stands_at s slot.offset slot.address
placed_as r moved s None (Some slot) = stands_at s slot.offset s.kept.section.sh_addr
placed_as r moved s None None = stays_at r moved s

as_found : (r : Resized) (moved : List ℕ) (s : SizedSection) (o : Option Slot) (l : Option UnloadedSlot)
    → elim o [
      | Some slot ↦ stands_at s slot.offset slot.address
      | None ↦ elim l
          [ Some slot ↦ stands_at s slot.offset s.kept.section.sh_addr | None ↦ stays_at r moved s ]
    ]
    ≡ placed_as r moved s o l
as_found r moved s (Some x) l = refl
as_found r moved s None (Some x) = refl
as_found r moved s None None = refl

pub place_as : (r : Resized) (moved : List ℕ) (s : SizedSection)
    → place_in r moved s ≡ placed_as r moved s (slot_of r moved s) (unloaded_slot_of r moved s)
unfolding place_in
place_as r moved s = as_found r moved s (slot_of r moved s) (unloaded_slot_of r moved s)

-- The bytes of a written file are composed of its pieces and of what stays of the bytes that were read.
use Rattle.std.proofs.Common.{◌≡◌, ◌<◌, ◌≤◌, ◌+◌, ◌-◌, ◌∙◌, ◌⊎◌, inl, inr, ℕ, Bool, true, false, ◌&&◌, ◌||◌, not, List, [], ◌∷◌, length, map, take, drop, get_or, refl, sym, ap, All, arith}
use Rattle.std.specs.Prelude.{slice_index, nat_lt, if◌then◌else◌}
use Rattle.std.specs.List.{AllByRecursion, list_any}
use Rattle.std.proofs.lemmas.Bool.{cases_lt, le-ltb, lt-ltb, false≢true}
use Rattle.std.proofs.lemmas.Bool.Decides.{nat_tests}
use Rattle.std.proofs.lemmas.List.{get_or-drop, get_or-take, get_or_past}
use Rattle.std.proofs.lemmas.List.Elements.{All-from_recursion}
use Rattle.patch_bytes.specs.Number.{field}
use Rattle.byte_store.specs.Composed as composed
use Rattle.byte_store.specs.Composed.{IsComposed, Stands, is_in_spans, is_patched, is_patched_at, kept_byte}
use Rattle.byte_store.specs.Laid.{Patch}
use Rattle.byte_store.specs.declared.composed.Span.{Span}
use Rattle.elf_format.specs.declared.range.Range.{Range}
use Rattle.elf_format.specs.declared.records.SegmentHeader.{SegmentHeader}
use Rattle.elf_format.specs.File.{loads_of}
use Rattle.elf_format.specs.Placement.{file_part}
use Rattle.elf_format.specs.Ranges.{range}
use Rattle.elf_layout_plan.specs.FilePlaced.{written_size}
use Rattle.elf_layout_plan.specs.Memory.{Resized}
use Rattle.elf_layout_plan.specs.Plan.{resized}
use Rattle.elf_layout_plan.proofs.ForCallers.ApartBlocks.{or-false}
use Rattle.elf_layout_plan.proofs.ForCallers.ApartLists.{Each}
use Rattle.elf_write_contents.specs.Base.{base, base_byte, does_byte_stay, has_position, old_places}
use Rattle.elf_write_contents.specs.Output.{IsPlannedOutput, Output, patches, written_bytes}
use Rattle.elf_write_contents.proofs.ForCallers.Laying.{AreApart, StandsIn, range_of, value-at}
use Rattle.elf_write_contents.proofs.ForCallers.Patches.{keeps_base, length-written, patches_stand}
use Rattle.elf_write.specs.LayingSteps.{is_in_load}
use Rattle.elf_write.specs.PieceSteps.{IsOverBase, load_spans, span_in}
use Rattle.elf_format.proofs.ForCallers.{apart-before, apart-behind}

-- ## Lists

pub all_each : {A : Type 0} (P : A → Type 0) (xs : List A) → Each P xs → All P xs
all_each {A} P xs h = All-from_recursion P xs (by_recursion xs h)
  where
    by_recursion : (ys : List A) → Each P ys → AllByRecursion P ys
    by_recursion [] h = tt
    by_recursion (y ∷ ys) h = (h.0, by_recursion ys h.1)

-- ## Spans

-- a position among so many bytes is in the span of a range where it is in the range
same_position : (len k : ℕ) (x : Range) → k < len → composed.has_position k (span_in len x) ≡ has_position k x
same_position len k x within = grind (arith, nat_tests)

same_spans : {A : Type 0} (f : A → Range) (len k : ℕ) (xs : List A) → k < len
    → is_in_spans (map (λ x. span_in len (f x)) xs) k ≡ list_any (λ x. has_position k (f x)) xs
same_spans f len k [] within = refl
same_spans f len k (x ∷ xs) within =
    ap (λ (b : Bool). b || is_in_spans (map (λ y. span_in len (f y)) xs) k) (same_position len k (f x) within)
    ∙ ap (λ (b : Bool). has_position k (f x) || b) (same_spans f len k xs within)

chosen : (b : Bool) (n : ℕ) → (if b && true then n else 0) ≡ (if b then n else 0)
chosen true n = refl
chosen false n = refl

none_chosen : (b c : Bool) (m n : ℕ) → n ≡ 0 → (if b && false then m else 0) ≡ (if c then n else 0)
none_chosen true true m n none = sym none
none_chosen true false m n none = refl
none_chosen false true m n none = sym none
none_chosen false false m n none = refl

-- what is kept of the source is what stays of it
same_byte : (r : Resized) (k : ℕ)
    → kept_byte r.image.source (load_spans (length r.image.source) r.image.segments)
    (map (span_in (length r.image.source)) (old_places r.read r.image)) k ≡ base_byte r k
same_byte r k = by_length (cases_lt k len)
  where
    source : List ℕ
    source = r.image.source

    len : ℕ
    len = length source

    kept : Bool
    kept = is_in_spans (load_spans len r.image.segments) k

    cleared : Bool
    cleared = is_in_spans (map (span_in len) (old_places r.read r.image)) k

    by_length : (k < len) ⊎ (len ≤ k)
        → (if kept && not cleared && nat_lt k len then slice_index source k else 0) ≡ base_byte r k
    by_length (inl below) =
        ap (λ (b : Bool). if kept && not cleared && b then slice_index source k else 0) (lt-ltb k len below)
        ∙ chosen (kept && not cleared) (slice_index source k)
        ∙ ap (λ (b : Bool). if b && not cleared then slice_index source k else 0) (same_spans file_part len k (loads_of r.image.segments) below)
        ∙ ap (λ (b : Bool). if is_in_load r.image.segments k && not b then slice_index source k else 0)
        (same_spans (λ x. x) len k (old_places r.read r.image) below)
    by_length (inr past) =
        ap (λ (b : Bool). if kept && not cleared && b then slice_index source k else 0) (le-ltb k len past)
        ∙ none_chosen (kept && not cleared) (does_byte_stay r k) (slice_index source k) (slice_index source k) (get_or_past source k 0 past)

-- bytes over what stays of the source are composed of it
pub composed_of : (r : Resized) (source : List ℕ) (len : ℕ) (segments : List SegmentHeader) (places : List Range) (kept cleared : List Span)
    (patches : List Patch) (size : ℕ) (bytes : List ℕ)
    → source ≡ r.image.source → len ≡ length source → segments ≡ r.image.segments → places ≡ old_places r.read r.image
    → kept ≡ load_spans len segments → cleared ≡ map (span_in len) places
    → IsOverBase r patches size bytes → IsComposed source kept cleared patches size bytes
composed_of r source len segments places kept cleared patches size bytes is_source is_len is_segments is_places is_kept is_cleared is = record {
  sized = is.sized;
  stand = is.stand;
  stay = λ k less out. is.stay k less out ∙ sym (byte k);
}
  where
    read : List ℕ
    read = r.image.source

    long : len ≡ length read
    long = is_len ∙ ap length is_source

    kept_is : kept ≡ load_spans (length read) r.image.segments
    kept_is = is_kept ∙ ap (λ (n : ℕ). load_spans n segments) long ∙ ap (load_spans (length read)) is_segments

    cleared_is : cleared ≡ map (span_in (length read)) (old_places r.read r.image)
    cleared_is = is_cleared ∙ ap (λ (n : ℕ). map (span_in n) places) long ∙ ap (map (span_in (length read))) is_places

    byte : (k : ℕ) → kept_byte source kept cleared k ≡ base_byte r k
    byte k =
        ap (λ (l : List ℕ). kept_byte l kept cleared k) is_source
        ∙ ap (λ (l : List Span). kept_byte read l cleared k) kept_is
        ∙ ap (λ (l : List Span). kept_byte read (load_spans (length read) r.image.segments) l k) cleared_is
        ∙ same_byte r k

-- ## A written file

stands : (bytes : List ℕ) (q : Patch) → StandsIn bytes q → Stands bytes q
stands bytes q h =
    let many : q.offset + length q.bytes - q.offset ≡ length q.bytes = omega arith in
    ap (λ (n : ℕ). take n (drop q.offset bytes)) many ∙ h

all_stand : (bytes : List ℕ) (qs : List Patch) → Each (StandsIn bytes) qs → Each (Stands bytes) qs
all_stand bytes [] h = tt
all_stand bytes (q ∷ qs) h = (stands bytes q h.0, all_stand bytes qs h.1)

-- a position outside of a patch, as a range of one byte
clear_of : (k : ℕ) (q : Patch) → is_patched_at k q ≡ false → AreApart (range k 1) (range_of q)
clear_of k q out = elim (cases_lt k q.offset) [
  | inl before ↦ apart-before (range k 1) (range_of q) (omega arith)
  | inr from ↦ elim (cases_lt k (q.offset + length q.bytes)) [
    | inl inside ↦ absurd (false≢true (sym out ∙ grind (arith, nat_tests)))
    | inr behind ↦ apart-behind (range k 1) (range_of q) behind
  ]
]

clear_of_all : (k : ℕ) (qs : List Patch) → is_patched qs k ≡ false → Each (λ q. AreApart (range k 1) (range_of q)) qs
clear_of_all k [] out = tt
clear_of_all k (q ∷ qs) out =
    let both = or-false (is_patched_at k q) (is_patched qs k) out in
    (clear_of k q both.0, clear_of_all k qs both.1)

byte_there : (k : ℕ) (bytes : List ℕ) → get_or (field 1 k bytes) 0 0 ≡ slice_index bytes k
byte_there k bytes =
    let here : k + 0 ≡ k = omega arith in
    get_or-take 1 (drop k bytes) 0 0 (omega arith) ∙ get_or-drop k bytes 0 0 ∙ ap (λ (n : ℕ). slice_index bytes n) here

byte_of_base : (r : Resized) (size k : ℕ) → k < size → slice_index (base r size) k ≡ base_byte r k
unfolding base
byte_of_base r size k less =
    let here : 0 + k ≡ k = omega arith in
    value-at (base_byte r) 0 size k less ∙ ap (base_byte r) here

pub over_base : (w : Output) → IsPlannedOutput w
    → IsOverBase (resized w.image) (patches w) (written_size (resized w.image) w.plan) (written_bytes w)
over_base w is = record {
  sized = length-written w is;
  stand = all_each (Stands (written_bytes w)) (patches w) (all_stand (written_bytes w) (patches w) (patches_stand w is));
  stay = λ k less out.
      sym (byte_there k (written_bytes w))
      ∙ ap (λ (l : List ℕ). get_or l 0 0) (keeps_base w is (range k 1) (clear_of_all k (patches w) out))
      ∙ byte_there k (base (resized w.image) (written_size (resized w.image) w.plan))
      ∙ byte_of_base (resized w.image) (written_size (resized w.image) w.plan) k less;
}

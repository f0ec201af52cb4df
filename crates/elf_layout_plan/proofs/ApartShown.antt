-- In a plan notes are shown as they were.
use Rattle.std.proofs.Common.{◌≡◌, ℕ, ◌+◌, ◌≤◌, Bool, true, false, List, [], ◌∷◌, map, refl, ap, arith, Option, Some, None}
use Rattle.std.specs.Prelude.{◌==◌, nat_le, nat_lt, if◌then◌else◌}
use Rattle.std.specs.List.{slice_get}
use Rattle.std.proofs.lemmas.Bool.{and_from, eq-eqb, le-leb, ltb-false, ltb-true}
use Rattle.std.proofs.lemmas.Option.{none-some}
use Rattle.elf_format.specs.declared.form.Form.{Form}
use Rattle.elf_format.specs.declared.records.SegmentHeader.{SegmentHeader}
use Rattle.elf_format.specs.Placement.{file_part, shows_at}
use Rattle.elf_format.specs.Places.{Place, file_range, occupies_memory}
use Rattle.elf_format.specs.Ranges.{end_of, lies_in, range}
use Rattle.elf_layout_plan.specs.Added.{greatest}
use Rattle.elf_layout_plan.specs.Apart.{shows_place}
use Rattle.elf_layout_plan.specs.Written.{Target, address_in_memory, first_in_file, anchored_to, target_at, target_over, targets_over}
use Rattle.elf_layout_plan.proofs.ApartBlocks.{greatest-each, greatest-start}
use Rattle.elf_layout_plan.proofs.ApartLists.{Each, each-at, each-both, each-more, each-unmap}
use Rattle.elf_layout_plan.proofs.ApartNotes.{IsAtDistance}

-- a segment that has a range, as far from its address
pub shows-from : (p : SegmentHeader) (o z a : ℕ) → p.p_offset ≤ o → o + z ≤ p.p_offset + p.p_filesz → a + p.p_offset ≡ p.p_vaddr + o → shows_at p (range o z) a ≡ true
shows-from p o z a begins ends distance =
    and_from (lies_in (range o z) (file_part p)) ((a + p.p_offset) == (p.p_vaddr + o))
    (and_from (nat_le p.p_offset o) (nat_le (o + z) (p.p_offset + p.p_filesz)) (le-leb p.p_offset o begins) (le-leb (o + z) (p.p_offset + p.p_filesz) ends))
    (eq-eqb (a + p.p_offset) (p.p_vaddr + o) distance)

-- in memory, at a distance
abbrev pub IsAt : ℕ → ℕ → Place → Type 0
IsAt offset address s = (occupies_memory s ≡ true) × IsAtDistance offset address s.sh_offset s.sh_addr

-- the first in the file is one of the places, and no other begins before it
first-has : (P : Place → Type 0) (s : Place) (ss : List Place) → P s → Each P ss → P (first_in_file s ss)
unfolding first_in_file
first-has P s [] h each = h
first-has P s (t ∷ ts) h each = first-has P (if nat_lt t.sh_offset s.sh_offset then t else s) ts (by_test (nat_lt t.sh_offset s.sh_offset)) each.1
  where
    by_test : (b : Bool) → P (if b then t else s)
    by_test true = each.0
    by_test false = h

lower : (t s : Place) (b : Bool) → nat_lt t.sh_offset s.sh_offset ≡ b → ((if b then t else s).sh_offset ≤ s.sh_offset) × ((if b then t else s).sh_offset ≤ t.sh_offset)
lower t s true e = let less = ltb-true t.sh_offset s.sh_offset e in (omega (arith, less), omega arith)
lower t s false e = let more = ltb-false t.sh_offset s.sh_offset e in (omega arith, omega (arith, more))

first-low : (s : Place) (ss : List Place) → ((first_in_file s ss).sh_offset ≤ s.sh_offset) × Each (λ t. (first_in_file s ss).sh_offset ≤ t.sh_offset) ss
unfolding first_in_file
first-low s [] = (omega arith, tt)
first-low s (t ∷ ts) =
    let next : Place = if nat_lt t.sh_offset s.sh_offset then t else s in
    let (low, each) = first-low next ts in
    let both = lower t s (nat_lt t.sh_offset s.sh_offset) refl in
    let below_s : (first_in_file next ts).sh_offset ≤ s.sh_offset = let a = both.0 in omega (arith, low, a) in
    let below_t : (first_in_file next ts).sh_offset ≤ t.sh_offset = let a = both.1 in omega (arith, low, a) in
    (below_s, (below_t, each))

in_memory-address : (s : Place) → occupies_memory s ≡ true → address_in_memory s ≡ Some s.sh_addr
in_memory-address s h = ap (λ b. if b then Some s.sh_addr else None) h

-- anchored there, a program header has the target's range and address
anchored_shows : (form : Form) (p : SegmentHeader) (t : Target) (address : ℕ) (x : Place) → t.address ≡ Some address → t.part.start ≤ x.sh_offset → end_of (file_range x) ≤ end_of t.part
    → x.sh_addr + t.part.start ≡ address + x.sh_offset → shows_place (anchored_to form p t) x ≡ true
anchored_shows form p t address x e begins ends distance =
    let vaddr : (anchored_to form p t).p_vaddr ≡ address = ap (λ (o : Option ℕ). elim o as (λ _. ℕ) [ Some a ↦ a | None ↦ p.p_vaddr ]) e in
    shows-from (anchored_to form p t) x.sh_offset x.sh_size x.sh_addr begins ends (omega (arith, distance, vaddr))

-- over several places at one distance, it shows each of them
over_shows : (form : Form) (p : SegmentHeader) (offset address : ℕ) (s : Place) (ss : List Place) → Each (IsAt offset address) (s ∷ ss) → Each (λ x. shows_place (anchored_to form p (target_over s ss)) x ≡ true) (s ∷ ss)
over_shows form p offset address s ss each = (one s each.0 low.0 (greatest-start (end_of (file_range s)) ends), rest)
  where
    first : Place
    first = first_in_file s ss

    ends : List ℕ
    ends = map (λ (t : Place). end_of (file_range t)) ss

    low : ((first_in_file s ss).sh_offset ≤ s.sh_offset) × Each (λ t. (first_in_file s ss).sh_offset ≤ t.sh_offset) ss
    low = first-low s ss

    one : (x : Place) → IsAt offset address x → (first_in_file s ss).sh_offset ≤ x.sh_offset → end_of (file_range x) ≤ greatest (end_of (file_range s)) (map (λ (t : Place). end_of (file_range t)) ss)
        → shows_place (anchored_to form p (target_over s ss)) x ≡ true
    one x at begins end =
        let at_first : IsAt offset address (first_in_file s ss) = first-has (IsAt offset address) s ss each.0 each.1 in
        let distance = at.1 in
        let first_distance = at_first.1 in
        anchored_shows form p (target_over s ss) (first_in_file s ss).sh_addr x (in_memory-address (first_in_file s ss) at_first.0) begins (omega (arith, begins, end)) (omega (arith, distance, first_distance))

    rest : Each (λ x. shows_place (anchored_to form p (target_over s ss)) x ≡ true) ss
    rest =
        each-more (λ x. (IsAt offset address x × ((first_in_file s ss).sh_offset ≤ x.sh_offset)) × (end_of (file_range x) ≤ greatest (end_of (file_range s)) (map (λ (t : Place). end_of (file_range t)) ss)))
        (λ x. shows_place (anchored_to form p (target_over s ss)) x ≡ true) (λ x h. one x h.0.0 h.0.1 h.1) ss
        (each-both (λ x. IsAt offset address x × ((first_in_file s ss).sh_offset ≤ x.sh_offset)) (λ x. end_of (file_range x) ≤ greatest (end_of (file_range s)) (map (λ (t : Place). end_of (file_range t)) ss)) ss
        (each-both (IsAt offset address) (λ x. (first_in_file s ss).sh_offset ≤ x.sh_offset) ss each.1 low.1)
        (each-unmap (λ m. m ≤ greatest (end_of (file_range s)) (map (λ (t : Place). end_of (file_range t)) ss)) (λ (t : Place). end_of (file_range t)) ss (greatest-each (end_of (file_range s)) (map (λ (t : Place). end_of (file_range t)) ss))))

-- the target over places of which one is wanted
pub targets_show : (form : Form) (p : SegmentHeader) (offset address : ℕ) (places : List Place) → Each (IsAt offset address) places → (i : ℕ) (x : Place) → slice_get places i ≡ Some x
    → (j : ℕ) × (t : Target) × (slice_get (targets_over places) j ≡ Some t) × (shows_place (anchored_to form p t) x ≡ true)
targets_show form p offset address [] each i x at = absurd (none-some x at)
targets_show form p offset address (s ∷ ss) each i x at = (0, target_over s ss, refl, each-at (λ x. shows_place (anchored_to form p (target_over s ss)) x ≡ true) (s ∷ ss) (over_shows form p offset address s ss each) i x at)

-- anchored to one place, it shows that
pub target_shows : (form : Form) (p : SegmentHeader) (x : Place) → occupies_memory x ≡ true → shows_place (anchored_to form p (target_at x)) x ≡ true
target_shows form p x h = anchored_shows form p (target_at x) x.sh_addr x (in_memory-address x h) (omega arith) (omega arith) refl

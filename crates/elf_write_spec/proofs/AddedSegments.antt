-- The loaded segments that are added: their alignment, their order, and the sections in them.
use Rattle.std.proofs.Common.{◌≡◌, ◌≢◌, ◌<◌, ◌≤◌, ℕ, zero, suc, ◌+◌, ◌-◌, ◌*◌, ◌/◌, ◌%◌, Bool, true, false, List, [], ◌∷◌, map, refl, sym, ap, ◌∙◌, subst, inl, inr, Option, Some, None, arith}
use Rattle.std.specs.Prelude.{◌==◌, filter, if◌then◌else◌, not}
use Rattle.std.specs.Int.{next_multiple_of}
use Rattle.std.specs.List.{AllByRecursion, slice_get}
use Rattle.std.proofs.Math.Nat.{add-mod-mod, add-mul-mod_self_left, div-add-mod, mul-mod_right}
use Rattle.std.proofs.lemmas.Bool.{eqb-true}
use Rattle.std.proofs.lemmas.Bool.Decides.{nat_tests}
use Rattle.elf_format.specs.declared.constants.TheConstants.{EM_AARCH64, EM_ALPHA, EM_IA_64, EM_LOONGARCH, EM_MIPS, EM_PPC, EM_PPC64, EM_SPARC, EM_SPARCV9, EM_TILEGX, PT_LOAD}
use Rattle.elf_format.specs.declared.records.SegmentHeader.{SegmentHeader}
use Rattle.elf_format.specs.File.{loads_of}
use Rattle.elf_format.specs.Image.{Image}
use Rattle.elf_format.specs.Machine.{default_page_size}
use Rattle.elf_format.specs.Options.{is_one_of}
use Rattle.elf_image.specs.Kept.{image_at_read, kept_sections}
use Rattle.elf_image.specs.Segments.{loads_end}
use Rattle.elf_layout_plan.specs.Added.{AddedLoad, Slot, added_loads, alignment_at_read, alignment_of, greatest, had_memory, kept_end, load_alignment, loads_from, memory_end, slots_from}
use Rattle.elf_layout_plan.specs.Memory.{Resized, SizedSection, sized_sections}
use Rattle.elf_layout_plan.specs.Plan.{resized}
use Rattle.elf_layout_plan.specs.Rounds.{added_flags, each_once, flags_for, sections_at}
use Rattle.elf_layout_plan.proofs.ForCallers.ApartLists.{Each, each-filter, each-more}
use Rattle.elf_layout_plan.proofs.ForCallers.ApartSections.{IsMoved, file_behind, first_load, memory_behind, sections_move, sized-at, sized_of, with_flags}
use Rattle.elf_layout_plan.proofs.ForCallers.PlacedLists.{Has, filter-at, filter_map-at, greatest-first, has_cases, has_here, has_none, has_same, has_there, map-at}
use Rattle.elf_layout_plan.proofs.ForCallers.PlacedWritten.{headers_added}
use Rattle.elf_write_spec.specs.KeptSegments.{AreBehind, IsAddedLoad}

-- ## Rests

rests : (m e a q t : ℕ) → a * q + t ≡ m → t < a → m + e + (a - t) ≡ e + a * (q + 1)
rests m e a q t whole less = omega (arith, whole, less)

wholes : (m a q t : ℕ) → a * q + t ≡ m → t < a → m + (a - t) ≡ a * (q + 1)
wholes m a q t whole less = omega (arith, whole, less)

turned : (m e x : ℕ) → m + x + e ≡ m + e + x
turned m e x = omega arith

-- a multiple leaves no rest
multiples : (n align : ℕ) → 0 < align → next_multiple_of n align % align ≡ 0
multiples n align positive =
    let left : ℕ = align - n % align in
    let less : n % align < align = omega arith in
    add-mod-mod n left align
    ∙ ap (λ (m : ℕ). m % align) (wholes n align (n / align) (n % align) (div-add-mod n align) less)
    ∙ mul-mod_right align (n / align + 1)

-- as far behind a multiple as an offset is
same_rest : (align end memory : ℕ) → 0 < align → end % align ≡ (next_multiple_of memory align + end % align) % align
same_rest align end memory positive =
    let left : ℕ = align - memory % align in
    let less : memory % align < align = omega arith in
    sym (add-mod-mod (memory + left % align) end align
    ∙ ap (λ (n : ℕ). n % align) (turned memory end (left % align))
    ∙ add-mod-mod (memory + end) left align
    ∙ ap (λ (n : ℕ). n % align) (rests memory end align (memory / align) (memory % align) (div-add-mod memory align) less)
    ∙ add-mul-mod_self_left end align (memory / align + 1))

-- ## The alignment

filled : (n : ℕ) → (n == 0) ≡ false → 0 < n
filled n h = grind (arith, nat_tests)

pages_by : (a b : Bool) → 0 < (if a then 65536 else if b then 8192 else 4096)
pages_by true b = omega arith
pages_by false true = omega arith
pages_by false false = omega arith

pages_positive : (machine : ℕ) → 0 < default_page_size machine
pages_positive machine =
    pages_by
    (is_one_of (EM_ALPHA ∷ EM_IA_64 ∷ EM_MIPS ∷ EM_PPC ∷ EM_PPC64 ∷ EM_AARCH64 ∷ EM_TILEGX ∷ EM_LOONGARCH ∷ []) machine)
    (is_one_of (EM_SPARC ∷ EM_SPARCV9 ∷ []) machine)

found_by : (found pages : ℕ) → 0 < pages → (b : Bool) → (found == 0) ≡ b → 0 < (if b then pages else found)
found_by found pages positive true none = positive
found_by found pages positive false some = filled found some

read_positive : (r : Resized) → 0 < alignment_at_read r.read
read_positive r =
    let found : ℕ = greatest 0 (map (λ p. p.p_align) (loads_of r.read.segments)) in
    found_by found (default_page_size r.read.header.e_machine) (pages_positive r.read.header.e_machine) (found == 0) refl

size_positive : (read : ℕ) → 0 < read → (o : Option ℕ) → o ≢ Some 0 → 0 < (elim o as (λ _. ℕ) [ Some size ↦ size | None ↦ read ])
size_positive read positive None set = positive
size_positive read positive (Some zero) set = absurd (set refl)
size_positive read positive (Some (suc n)) set = omega arith

align_positive : (r : Resized) → r.image.page_size ≢ Some 0 → 0 < load_alignment r.read r.image
unfolding load_alignment
align_positive r set = size_positive (alignment_at_read r.read) (read_positive r) r.image.page_size set

-- ## Each of them

record IsLoadAt (align : ℕ) (sets : List ℕ) (q : SegmentHeader) : Type 0 where
  type : q.p_type ≡ PT_LOAD
  flags : Has q.p_flags sets
  memory : q.p_memsz ≡ q.p_filesz
  physical : q.p_paddr ≡ q.p_vaddr
  aligned : q.p_align ≡ align
  congruent : 0 < q.p_align → q.p_offset % q.p_align ≡ q.p_vaddr % q.p_align

loads_at : (leave : Bool) (align : ℕ) (sets : List ℕ) (end memory : ℕ) (flags : List ℕ) (ss : List SizedSection) → ((n : ℕ) → Has n flags → Has n sets)
    → AllByRecursion (IsLoadAt align sets) (map (λ load. load.header) (loads_from leave align end memory flags ss))
unfolding loads_from
loads_at leave align sets end memory [] ss among = tt
loads_at leave align sets end memory (f ∷ more) ss among =
    let load = first_load leave align f end memory ss in (
      record {
        type = refl;
        flags = among f (has_here f more);
        memory = refl;
        physical = refl;
        aligned = refl;
        congruent = same_rest align end memory;
      },
      loads_at leave align sets (file_behind load) (memory_behind load) more ss (λ n h. among n (has_there n f more h)),
    )

loads_ordered : (leave : Bool) (align end memory : ℕ) (flags : List ℕ) (ss : List SizedSection)
    → AreBehind memory (map (λ load. load.header) (loads_from leave align end memory flags ss))
unfolding loads_from
loads_ordered leave align end memory [] ss = tt
loads_ordered leave align end memory (f ∷ more) ss =
    let load = first_load leave align f end memory ss in
    (omega arith, loads_ordered leave align (file_behind load) (memory_behind load) more ss)

all_weaker : {A : Type 0} (P Q : A → Type 0) → ((x : A) → P x → Q x) → (xs : List A) → AllByRecursion P xs → AllByRecursion Q xs
all_weaker P Q more [] h = tt
all_weaker P Q more (x ∷ xs) h = (more x h.0, all_weaker P Q more xs h.1)

behind_less : (low high : ℕ) → low ≤ high → (qs : List SegmentHeader) → AreBehind high qs → AreBehind low qs
behind_less low high less [] h = tt
behind_less low high less (q ∷ qs) h = (omega (arith, less, h.0), h.1)

module _ (r : Resized) (moved : List ℕ) where
  added_at : AllByRecursion (IsLoadAt (load_alignment r.read r.image) (added_flags r moved)) (headers_added r moved)
  unfolding added_loads
  added_at =
      loads_at r.image.moves_dynamic (load_alignment r.read r.image) (added_flags r moved) (kept_end r moved) (memory_end r) (added_flags r moved) (sections_at r moved) (λ n h. h)

  added_behind : AreBehind (memory_end r) (headers_added r moved)
  unfolding added_loads
  added_behind = loads_ordered r.image.moves_dynamic (load_alignment r.read r.image) (kept_end r moved) (memory_end r) (added_flags r moved) (sections_at r moved)

  loads_before : loads_end r.image.segments ≤ memory_end r
  unfolding memory_end
  loads_before =
      greatest-first (loads_end r.image.segments)
      (map (λ s. s.kept.section.sh_addr + s.kept.section.sh_size) (filter (λ s. had_memory r.image s.kept.section) (sized_sections r)))

  pub added_ordered : AreBehind (loads_end r.image.segments) (headers_added r moved)
  added_ordered = behind_less (loads_end r.image.segments) (memory_end r) loads_before (headers_added r moved) added_behind

-- each number of a list that comes once is one of them
once_back : (ns : List ℕ) (n : ℕ) → Has n (each_once ns) → Has n ns
unfolding each_once
once_back [] n h = absurd (has_none n h)
once_back (m ∷ ms) n h = elim (has_cases n m (filter (λ k. not (k == m)) (each_once ms)) h) [
  | inl same ↦ has_same n m ms same
  | inr later ↦ has_there n m ms (once_back ms n (filter-at (λ (k : ℕ). not (k == m)) (each_once ms) n later).0)
]

module _ (image : Image) (sized : sized_sections (resized image) ≡ map (sized_of (resized image)) (kept_sections image)) (moved : List ℕ) where
  load_is : (q : SegmentHeader) → IsLoadAt (load_alignment (image_at_read image) image) (added_flags (resized image) moved) q → IsAddedLoad (image_at_read image) image q
  load_is q h =
      let r : Resized = resized image in
      let need = map-at (λ (s : SizedSection). flags_for r.image.moves_dynamic s.kept.section) (sections_at r moved) q.p_flags
      (once_back (map (λ s. flags_for r.image.moves_dynamic s.kept.section) (sections_at r moved)) q.p_flags h.flags) in
      let given = filter_map-at (λ (position : ℕ). slice_get (sized_sections r) position) moved need.source need.here in
      record {
        type = h.type;
        index = given.source;
        section = need.source.kept;
        is_section = (sized-at r sized given.source need.source given.given).1;
        flags = sym need.made;
        memory = h.memory;
        physical = h.physical;
        align = h.aligned;
        aligned = λ set. subst (λ (n : ℕ). 0 < n) (sym h.aligned) (align_positive r set);
        congruent = h.congruent;
      }

  pub added_each : AllByRecursion (IsAddedLoad (image_at_read image) image) (headers_added (resized image) moved)
  added_each =
      let r : Resized = resized image in
      all_weaker (IsLoadAt (load_alignment r.read r.image) (added_flags r moved)) (IsAddedLoad (image_at_read image) image) load_is (headers_added r moved) (added_at r moved)

-- ## The sections in them

module _ (r : Resized) (sized : sized_sections r ≡ map (sized_of r) (kept_sections r.image)) where
  -- the slot is that of a section that needs these flags, at a multiple of its alignment
  abbrev pub IsSlotFor : ℕ → Slot → Type 0
  IsSlotFor flags x = (t : SizedSection) × (slice_get (sized_sections r) x.position ≡ Some t) × (flags_for r.image.moves_dynamic t.kept.section ≡ flags)
      × (x.address % alignment_of t ≡ 0)

  abbrev Needs : ℕ → SizedSection → Type 0
  Needs flags t = (slice_get (sized_sections r) t.kept.position ≡ Some t) × (flags_for r.image.moves_dynamic t.kept.section ≡ flags)

  slots_for : (flags offset address : ℕ) (ss : List SizedSection) → Each (Needs flags) ss → Each (IsSlotFor flags) (slots_from offset address ss)
  unfolding slots_from
  slots_for flags offset address [] h = tt
  slots_for flags offset address (s ∷ ss) h =
      let at = next_multiple_of address (alignment_of s) in (
        (s, h.0.0, h.0.1, multiples address (alignment_of s) (omega arith)),
        slots_for flags (offset + (at - address) + s.size) (at + s.size) ss h.1,
      )

  abbrev IsPlaced : SizedSection → Type 0
  IsPlaced t = slice_get (sized_sections r) t.kept.position ≡ Some t

  loads_for : (align end memory : ℕ) (flags : List ℕ) (ss : List SizedSection) → Each IsPlaced ss
      → Each (λ (load : AddedLoad). Each (IsSlotFor load.header.p_flags) load.slots) (loads_from r.image.moves_dynamic align end memory flags ss)
  unfolding loads_from
  loads_for align end memory [] ss placed = tt
  loads_for align end memory (f ∷ more) ss placed =
      let load = first_load r.image.moves_dynamic align f end memory ss in (
        slots_for f end load.header.p_vaddr (with_flags r.image.moves_dynamic f ss)
            (each-more (λ t. ((flags_for r.image.moves_dynamic t.kept.section == f) ≡ true) × IsPlaced t) (Needs f)
            (λ t h. (h.1, eqb-true (flags_for r.image.moves_dynamic t.kept.section) f h.0)) (with_flags r.image.moves_dynamic f ss)
            (each-filter IsPlaced (λ t. flags_for r.image.moves_dynamic t.kept.section == f) ss placed)),
        loads_for align (file_behind load) (memory_behind load) more ss placed,
      )

  pub added_for : (moved : List ℕ) → Each (λ (load : AddedLoad). Each (IsSlotFor load.header.p_flags) load.slots) (added_loads r moved)
  unfolding added_loads
  added_for moved =
      loads_for (load_alignment r.read r.image) (kept_end r moved) (memory_end r) (added_flags r moved) (sections_at r moved)
      (each-more (IsMoved r sized moved) IsPlaced (λ t h. h.1) (sections_at r moved) (sections_move r sized moved))

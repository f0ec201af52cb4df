-- Data of the program never moves, and keeps its size.
use Rattle.std.proofs.Common.{◌≡◌, ◌≤◌, ◌<◌, ℕ, ◌+◌, ◌*◌, Bool, true, false, eqb, List, [], ◌∷◌, length, refl, sym, ap, ◌∙◌, subst, inl, inr, Some, arith}
use Rattle.std.specs.Prelude.{◌==◌, ◌&&◌, ◌||◌, not, if◌then◌else◌}
use Rattle.std.specs.List.{slice_get}
use Rattle.std.proofs.lemmas.Bool.Decides.{nat_tests}
use Rattle.std.proofs.lemmas.Bool.{and_parts, both_ways, cond-false, eq-eqb, eqb-true, false_from_ne_true, not-true}
use Rattle.std.proofs.lemmas.Option.{same_Some}
use Rattle.elf_format.specs.declared.constants.TheConstants.{SHT_DYNAMIC, SHT_DYNSYM, SHT_GNU_HASH, SHT_GNU_VERDEF, SHT_GNU_VERNEED, SHT_GNU_VERSYM, SHT_HASH, SHT_NOTE, SHT_STRTAB, SHT_SYMTAB}
use Rattle.elf_format.specs.declared.records.SectionHeader.{SectionHeader}
use Rattle.elf_format.specs.File.{Parts}
use Rattle.elf_format.specs.Image.{Image}
use Rattle.elf_format.specs.Options.{is_one_of}
use Rattle.elf_format.specs.Placement.{is_stored}
use Rattle.elf_format.specs.Places.{Place, occupies_file, occupies_memory}
use Rattle.elf_format.specs.Records.{symbol_size}
use Rattle.elf_format.specs.Rules.{data_of, is_opaque_relocation}
use Rattle.elf_image.specs.Edited.{IsEdited}
use Rattle.elf_layout_plan.specs.Added.{memory_end}
use Rattle.elf_layout_plan.specs.Anchors.{is_loaded_section}
use Rattle.elf_layout_plan.specs.Blocks.{have_causes, stay_apart}
use Rattle.elf_image.specs.Kept.{KeptSection, dynamic_strings_number, interpreter_number, is_numbered, kept_sections, place_at_read}
use Rattle.elf_layout_plan.specs.Memory.{Resized, SizedSection, blocks_with, is_movable, priority_of, sized_sections}
use Rattle.elf_layout_plan.specs.Needs.{written_needs}
use Rattle.elf_layout_plan.specs.Plan.{IsPlan, Plan, plan_for, resized}
use Rattle.elf_layout_plan.specs.Rounds.{are_in_old_order, sections_at}
use Rattle.elf_layout_plan.specs.Sizes.{definitions_size, dynamic_size, hash_size, interpreter_size, needs_size, new_size, strings_size, table_size}
use Rattle.elf_layout_plan.specs.Standing.{place_in, places}
use Rattle.elf_layout_plan.proofs.ForCallers.ApartFixed.{fixed_isnt_moved, fixed_sections_stay, resized_sections}
use Rattle.elf_layout_plan.proofs.ForCallers.ApartLists.{at-map, none-from}
use Rattle.elf_layout_plan.proofs.ForCallers.ApartSections.{at-sized, sized_of}
use Rattle.elf_layout_plan.proofs.ForCallers.PlacedAdded.{is_added}
use Rattle.elf_layout_plan.proofs.ForCallers.PlacedLists.{Has, slice_get-at}
use Rattle.elf_layout_plan.proofs.ForCallers.PlacedPlaces.{StandsAdded, stored_stands}
use Rattle.elf_layout_plan.proofs.ForCallers.PlacedRead.{ReadsPlaced, reads_placed}
use Rattle.elf_layout_plan.proofs.ForCallers.PlacedSegments.{before_memory_end}
use Rattle.elf_layout_plan.proofs.ForCallers.PlacedStays.{IsKeptIn, kept_in}
use Rattle.elf_write_spec.specs.Base.{is_data, is_interpreter, is_opaque}
use Rattle.elf_write_spec.proofs.SectionKinds.{kind_by, kind_is}

-- ## What data is

pub record DataFacts (r : Resized) (s : KeptSection) : Type 0 where
  pub loaded : is_loaded_section s.section ≡ true
  pub opaque : is_opaque s.section.kind ≡ true
  pub other : is_interpreter r.read s ≡ false

pub data_facts : (r : Resized) (s : KeptSection) → is_data r.read s ≡ true → DataFacts r s
data_facts r s h =
    let outer = and_parts (is_loaded_section s.section && is_opaque s.section.kind) (not (is_interpreter r.read s)) h in
    let inner = and_parts (is_loaded_section s.section) (is_opaque s.section.kind) outer.0 in
    record { loaded = inner.0; opaque = inner.1; other = not-true (is_interpreter r.read s) outer.1 }

-- ## Its type

-- a type of which no section is data
IsNoData : ℕ → Type 0
IsNoData x = (o : Bool) → is_opaque (kind_by x o) ≡ false

no_data : (p : Parts) (s : SectionHeader) → is_opaque (data_of p s) ≡ true → (x : ℕ) → IsNoData x → (s.sh_type == x) ≡ false
unfolding IsNoData
no_data p s opaque x none = false_from_ne_true (s.sh_type == x) (λ same.
    both_ways (is_opaque (data_of p s))
    (ap is_opaque (kind_is p s) ∙ ap (λ (n : ℕ). is_opaque (kind_by n (is_opaque_relocation p s))) (eqb-true s.sh_type x same)
    ∙ none (is_opaque_relocation p s))
    opaque)

-- the types of tables and notes
pub record IsNoTable (n : ℕ) : Type 0 where
  pub note : (n == SHT_NOTE) ≡ false
  pub dynamic : (n == SHT_DYNAMIC) ≡ false
  pub strings : (n == SHT_STRTAB) ≡ false
  pub symbols : (n == SHT_SYMTAB) ≡ false
  pub dynamic_symbols : (n == SHT_DYNSYM) ≡ false
  pub version_symbols : (n == SHT_GNU_VERSYM) ≡ false
  pub definitions : (n == SHT_GNU_VERDEF) ≡ false
  pub needs : (n == SHT_GNU_VERNEED) ≡ false
  pub hash : (n == SHT_HASH) ≡ false
  pub gnu_hash : (n == SHT_GNU_HASH) ≡ false

pub no_table : (p : Parts) (s : SectionHeader) → is_opaque (data_of p s) ≡ true → IsNoTable s.sh_type
unfolding IsNoData
no_table p s opaque =
    let none : (x : ℕ) → IsNoData x → (s.sh_type == x) ≡ false = no_data p s opaque in
    record {
      note = none SHT_NOTE (λ o. refl);
      dynamic = none SHT_DYNAMIC (λ o. refl);
      strings = none SHT_STRTAB (λ o. refl);
      symbols = none SHT_SYMTAB (λ o. refl);
      dynamic_symbols = none SHT_DYNSYM (λ o. refl);
      version_symbols = none SHT_GNU_VERSYM (λ o. refl);
      definitions = none SHT_GNU_VERDEF (λ o. refl);
      needs = none SHT_GNU_VERNEED (λ o. refl);
      hash = none SHT_HASH (λ o. refl);
      gnu_hash = none SHT_GNU_HASH (λ o. refl);
    }

-- ## Its size

chain : (a b c d e f g h i z n : ℕ) → IsNoTable n
    → (if n == SHT_DYNAMIC then a else if n == SHT_STRTAB then b else if n == SHT_SYMTAB then c
    else if n == SHT_DYNSYM then d else if n == SHT_GNU_VERSYM then e else if n == SHT_GNU_VERDEF then f
    else if n == SHT_GNU_VERNEED then g else if n == SHT_HASH then h else if n == SHT_GNU_HASH then i else z) ≡ z
chain a b c d e f g h i z n none =
    cond-false (n == SHT_DYNAMIC) a _ none.dynamic ∙ cond-false (n == SHT_STRTAB) b _ none.strings
    ∙ cond-false (n == SHT_SYMTAB) c _ none.symbols
    ∙ cond-false (n == SHT_DYNSYM) d _ none.dynamic_symbols ∙ cond-false (n == SHT_GNU_VERSYM) e _ none.version_symbols
    ∙ cond-false (n == SHT_GNU_VERDEF) f _ none.definitions ∙ cond-false (n == SHT_GNU_VERNEED) g _ none.needs
    ∙ cond-false (n == SHT_HASH) h _ none.hash ∙ cond-false (n == SHT_GNU_HASH) i z none.gnu_hash

pub data_keeps_size : (read image : Image) (k : KeptSection) → is_numbered (interpreter_number read) k ≡ false
    → IsNoTable k.section.sh_type
    → new_size read image k ≡ k.section.sh_size
unfolding new_size
data_keeps_size read image k other none =
    cond-false (is_numbered (interpreter_number read) k) (interpreter_size image k.section) (table_size read image k) other
    ∙ chain (dynamic_size read image k.section) (strings_size read image k) (length image.symbols * symbol_size image.form)
    (length image.dynamic_symbols * symbol_size image.form)
    (2 * length image.dynamic_symbols) (definitions_size image.definitions) (needs_size (written_needs read image))
    (hash_size read image k.section) (hash_size read image k.section)
    k.section.sh_size k.section.sh_type none

-- ## Its place

turned : (a b : ℕ) → (a == b) ≡ false → (b == a) ≡ false
turned a b h = false_from_ne_true (b == a) (λ e. both_ways (a == b) h (eq-eqb a b (sym (eqb-true b a e))))

fixed : (r : Resized) (k : KeptSection) → is_interpreter r.read k ≡ false → IsNoTable k.section.sh_type → priority_of r k ≡ 0
fixed r k other none =
    let n : ℕ = k.section.sh_type in
    let tables : List ℕ = SHT_NOTE ∷ SHT_DYNSYM ∷ SHT_HASH ∷ SHT_GNU_HASH ∷ SHT_GNU_VERSYM ∷ SHT_GNU_VERDEF ∷ SHT_GNU_VERNEED ∷ [] in
    let first : is_one_of tables n ≡ false = none-from (λ x. x == n) tables (
      turned n SHT_NOTE none.note,
      (
        turned n SHT_DYNSYM none.dynamic_symbols,
        (
          turned n SHT_HASH none.hash,
          (
            turned n SHT_GNU_HASH none.gnu_hash,
            (
              turned n SHT_GNU_VERSYM none.version_symbols,
              (turned n SHT_GNU_VERDEF none.definitions, (turned n SHT_GNU_VERNEED none.needs, tt)),
            ),
          ),
        ),
      ),
    ) in
    let strings : Bool = is_numbered (dynamic_strings_number r.image) k in
    let leave : Bool = r.image.moves_dynamic in
    let stays : is_movable r.image k ≡ false =
    ap (λ (b : Bool). b || (n == SHT_STRTAB && strings) || (n == SHT_DYNAMIC && leave)) first
    ∙ ap (λ (b : Bool). (b && strings) || (n == SHT_DYNAMIC && leave)) none.strings ∙ ap (λ (b : Bool). b && leave) none.dynamic in
    cond-false (is_numbered (interpreter_number r.read) k) 1 (if is_movable r.image k then 2 else 0) other
    ∙ cond-false (is_movable r.image k) 2 0 stays

-- a section that can't move, and has bytes in the file and in memory as it had at read, keeps its offset
module _ (image : Image) (plan : Plan) (edited : IsEdited image) (planned : IsPlan (resized image) plan) where
  abbrev r : Resized
  r = resized image

  -- a section that can't move doesn't move
  stays_there : (i : ℕ) (k : KeptSection) → slice_get (kept_sections image) i ≡ Some k → priority_of r k ≡ 0 → is_one_of planned.moved k.position ≡ false
  stays_there i k at fixed_there = false_from_ne_true (is_one_of planned.moved k.position) (λ among.
      absurd (fixed_isnt_moved r (resized_sections image) plan.looked planned.moved planned.ended.move i k at fixed_there among))

  all_apart_there : stay_apart planned.moved (blocks_with r plan.looked) ≡ true
  all_apart_there =
      let causes : Bool = have_causes (blocks_with r plan.looked) planned.moved in
      let apart : Bool = stay_apart planned.moved (blocks_with r plan.looked) in
      (and_parts causes apart (and_parts (causes && apart) (are_in_old_order (sections_at r planned.moved)) planned.ended.move).0).1

  -- a section that can't move is in a loaded segment that is still there
  pub fixed_in_load : (i : ℕ) (k : KeptSection) → slice_get (kept_sections image) i ≡ Some k → is_interpreter r.read k ≡ false
      → IsNoTable k.section.sh_type → is_stored (place_at_read k.section) ≡ true
      → IsKeptIn r k.section.sh_offset k.section.sh_size k.section.sh_addr
  fixed_in_load i k at other none stored =
      let t : SizedSection = sized_of r k in
      let at_t : slice_get (sized_sections r) i ≡ Some t = at-sized r (resized_sections image) i k at in
      let here : Has t (sized_sections r) = slice_get-at (sized_sections r) i t at_t in
      let parts = and_parts (occupies_memory (place_at_read k.section) && occupies_file (place_at_read k.section)) (not (eqb k.section.sh_size 0))
      stored in
      let inner = and_parts (occupies_memory (place_at_read k.section)) (occupies_file (place_at_read k.section)) parts.0 in
      let size : t.size ≡ k.section.sh_size = data_keeps_size r.read image k other none in
      let some : 0 < k.section.sh_size = some_bytes k.section.sh_size parts.1 in
      subst (λ (n : ℕ). IsKeptIn r k.section.sh_offset n k.section.sh_addr) size
      (kept_in r planned.moved plan.looked (reads_placed image edited) all_apart_there t (record {
        here = here;
        stays = stays_there i k at (fixed r k other none);
        takes = inner.0;
        stored = inner.1;
        filled = omega (arith, size, some);
      }))
    where
      some_bytes : (n : ℕ) → not (eqb n 0) ≡ true → 0 < n
      some_bytes n h = grind (arith, nat_tests)

  -- in an added segment it would stand behind all memory
  not_added : (moved : List ℕ) (s : SizedSection) → IsKeptIn r s.kept.section.sh_offset s.kept.section.sh_size s.kept.section.sh_addr
      → 0 < s.kept.section.sh_size → (place_in r moved s).sh_addr ≡ s.kept.section.sh_addr → StandsAdded r moved s → ⊥
  not_added moved s held filled same added =
      let reads : ReadsPlaced r = reads_placed image edited in
      let is = is_added r moved added.is_moved.load added.is_moved.here in
      let slot = is.slots added.slot added.is_moved.among in
      let address : (place_in r moved s).sh_addr ≡ added.slot.address = ap (λ (x : Place). x.sh_addr) added.place in
      let fits : held.load.p_filesz ≤ held.load.p_memsz = reads.fit held.load held.here in
      let low : held.load.p_vaddr + held.load.p_memsz ≤ memory_end r = before_memory_end r moved reads held.load held.here in
      let high : memory_end r ≤ added.is_moved.load.header.p_vaddr = is.in_memory in
      absurd (omega (arith, same, address, held.begins, held.ends, held.distance, fits, low, high, slot.begins, slot.distance, filled))

  pub fixed_keeps_offset : (i : ℕ) (k : KeptSection) (place : Place) → slice_get (kept_sections image) i ≡ Some k
      → slice_get plan.places i ≡ Some place
      → is_interpreter r.read k ≡ false → IsNoTable k.section.sh_type → is_stored (place_at_read k.section) ≡ true → is_stored place ≡ true
      → k.position ≡ i → place.sh_offset ≡ k.section.sh_offset
  unfolding plan_for places
  fixed_keeps_offset i k place at_k at_place other none stored stored_now position =
      let t : SizedSection = sized_of r k in
      let moved : List ℕ = planned.moved in
      let at_t : slice_get (sized_sections r) i ≡ Some t = at-sized r (resized_sections image) i k at_k in
      let here : Has t (sized_sections r) = slice_get-at (sized_sections r) i t at_t in
      let placed : plan.places ≡ places r moved = ap (λ (l : Plan). l.places) planned.follows in
      let there : slice_get plan.places i ≡ Some (place_in r moved t) =
      ap (λ (l : List Place). slice_get l i) placed ∙ at-map (place_in r moved) (sized_sections r) i t at_t in
      let same : place ≡ place_in r moved t = same_Some place (place_in r moved t) (sym at_place ∙ there) in
      let kept = fixed_sections_stay image plan planned i k at_k (fixed r k other none) in
      let kept_place : kept.place ≡ place =
      same_Some kept.place place (sym kept.is_there ∙ ap (λ (n : ℕ). slice_get plan.places n) position ∙ at_place) in
      let address : (place_in r moved t).sh_addr ≡ k.section.sh_addr =
      ap (λ (x : Place). x.sh_addr) (sym same ∙ sym kept_place) ∙ kept.same_address in
      let filled : 0 < k.section.sh_size = positive k.section.sh_size
      (and_parts (occupies_memory (place_at_read k.section) && occupies_file (place_at_read k.section)) (not (eqb k.section.sh_size 0))
      stored).1 in
      elim (stored_stands r moved t here (ap is_stored (sym same) ∙ stored_now)) [
        | inl added ↦ absurd (not_added moved t (fixed_in_load i k at_k other none stored) filled address added)
        | inr on ↦ ap (λ (x : Place). x.sh_offset) (same ∙ on.place)
      ]
    where
      positive : (n : ℕ) → not (eqb n 0) ≡ true → 0 < n
      positive n h = grind (arith, nat_tests)

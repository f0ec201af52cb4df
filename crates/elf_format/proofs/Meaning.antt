-- What the read rules mean, from their tests.
use Rattle.std.proofs.Common.{◌≡◌, ℕ, suc, Bool, true, false, cond, eqb, List, [], ◌∷◌, length, sym, ap, ◌∙◌, Option, Some, arith}
use Rattle.std.specs.Prelude.{◌&&◌, find, is_some}
use Rattle.std.specs.List.{slice_get}
use Rattle.std.proofs.lemmas.Option.{none-some}
use Rattle.std.proofs.lemmas.Bool.{and_parts, eqb-true}
use Rattle.elf_format.specs.declared.constants.TheConstants.{DT_STRTAB, PT_DYNAMIC, PT_INTERP, SHT_DYNAMIC, SHT_PROGBITS}
use Rattle.elf_format.specs.Dynamic.{has_tag, value_of_tag}
use Rattle.elf_format.specs.Facts.{ArePlaced, IsDynamicSection, IsInterpreter, TestsMean}
use Rattle.elf_format.specs.File.{Parts, is_allocated, linked_section, section_of_type, segment_of_type}
use Rattle.elf_format.specs.Options.{is_some_and}
use Rattle.elf_format.specs.Places.{places_of}
use Rattle.elf_format.specs.Records.{SectionHeader, SegmentHeader}
use Rattle.elf_format.specs.Rules.{MeetsRules, dynamic_section_agrees, file_of, header_ranges, raw_entries, segment_table_range, tag_is_address}
use Rattle.elf_format.specs.Views.{interpreter_section}
use Rattle.elf_format.proofs.Placed.{find_some}
use Rattle.elf_format.proofs.PlacementTests.{file_parts_fit-means, header_table_loaded-means, ranges_in_file-means, sections_loaded-means, segments_apart-means, uninitialized_clear-means}
use Rattle.elf_format.proofs.ViewsAgree.{both_missing, both_there, raw_both, strings_right, test_at, there_and, there_if}

-- ## Lists

-- the number of an element that is found
found_by : {X : Type 0} → (test : X → Bool) (y : X) (ys : List X) (x : X) → (find test ys ≡ Some x → (i : ℕ) × (slice_get ys i ≡ Some x))
    → (b : Bool) → cond b (Some y) (find test ys) ≡ Some x → (i : ℕ) × (slice_get (y ∷ ys) i ≡ Some x)
found_by test y ys x more true h = (0, h)
found_by test y ys x more false h = let (i, there) = more h in (suc i, there)

found_at : {X : Type 0} → (test : X → Bool) (xs : List X) (x : X) → find test xs ≡ Some x → (i : ℕ) × (slice_get xs i ≡ Some x)
found_at test [] x h = absurd (none-some x h)
found_at test (y ∷ ys) x h = found_by test y ys x (found_at test ys x) (test y) h

-- ## The rules

module _ (p : Parts) (rules : MeetsRules p) where
  placed : ArePlaced (length (file_of p)) (header_ranges p) p.segments (places_of p.sections)
  placed = record {
    in_file = (ranges_in_file-means (length (file_of p)) p.segments (places_of p.sections)).0 rules.in_file;
    fit = (file_parts_fit-means p.segments).0 rules.fit;
    apart = (segments_apart-means p.segments).0 rules.segments;
    loaded = (sections_loaded-means (header_ranges p) p.segments (places_of p.sections)).0 rules.loaded;
    clear = (uninitialized_clear-means p.segments (places_of p.sections)).0 rules.clear;
  }

  dynamic_section : (list : SectionHeader) → section_of_type SHT_DYNAMIC p.sections ≡ Some list → IsDynamicSection p list
  dynamic_section list is_list =
      let raw = raw_entries p in
      let strings : Option SectionHeader = linked_section p.sections list in
      let (segment, segment_there, right) = both_there (dynamic_section_agrees p) (segment_of_type PT_DYNAMIC p.segments) (section_of_type SHT_DYNAMIC p.sections) list rules.dynamic is_list in
      let places = and_parts (eqb segment.p_offset list.sh_offset && eqb segment.p_vaddr list.sh_addr && is_allocated list) _ right in
      let placed_at = and_parts (eqb segment.p_offset list.sh_offset && eqb segment.p_vaddr list.sh_addr) (is_allocated list) places.0 in
      let same = and_parts (eqb segment.p_offset list.sh_offset) (eqb segment.p_vaddr list.sh_addr) placed_at.0 in
      let (_, _, entries, _) = raw_both p rules list is_list (length (file_of p)) (omega arith) in
      let named = and_parts (has_tag DT_STRTAB raw) (tag_is_address raw DT_STRTAB strings) (and_parts (has_tag DT_STRTAB raw && tag_is_address raw DT_STRTAB strings) _ (strings_right p rules list is_list)).0 in
      let (value, value_there) = there_if (value_of_tag DT_STRTAB raw) named.0 in
      let (s, s_there, both) = there_and (λ t. is_allocated t && eqb t.sh_addr value) strings (test_at (λ v. is_some_and (λ t. is_allocated t && eqb t.sh_addr v) strings) (value_of_tag DT_STRTAB raw) value named.1 value_there) in
      let (allocated, at_value) = and_parts (is_allocated s) (eqb s.sh_addr value) both in
      record {
        segment = segment;
        is_segment = segment_there;
        same_offset = eqb-true segment.p_offset list.sh_offset same.0;
        same_address = eqb-true segment.p_vaddr list.sh_addr same.1;
        allocated = placed_at.1;
        entries = entries;
        strings = s;
        is_strings = s_there;
        strings_allocated = allocated;
        strings_named = value_there ∙ ap Some (sym (eqb-true s.sh_addr value at_value));
      }

  interpreter : (segment : SegmentHeader) → segment_of_type PT_INTERP p.segments ≡ Some segment → IsInterpreter p segment
  interpreter q is_q =
      let test : SectionHeader → Bool = λ t. eqb t.sh_type SHT_PROGBITS && eqb t.sh_offset q.p_offset && eqb t.sh_addr q.p_vaddr && eqb t.sh_size q.p_filesz in
      let (s, s_there) = there_if (interpreter_section q p.sections) (test_at (λ r. is_some (interpreter_section r p.sections)) (segment_of_type PT_INTERP p.segments) q rules.interpreter is_q) in
      let (here, found) = find_some test p.sections s s_there in
      let (number, at_number) = found_at test p.sections s s_there in
      let (three, sized) = and_parts (eqb s.sh_type SHT_PROGBITS && eqb s.sh_offset q.p_offset && eqb s.sh_addr q.p_vaddr) (eqb s.sh_size q.p_filesz) found in
      let (two, address) = and_parts (eqb s.sh_type SHT_PROGBITS && eqb s.sh_offset q.p_offset) (eqb s.sh_addr q.p_vaddr) three in
      let (typed, offset) = and_parts (eqb s.sh_type SHT_PROGBITS) (eqb s.sh_offset q.p_offset) two in
      record {
        section = s;
        number = number;
        is_section = at_number;
        type = eqb-true s.sh_type SHT_PROGBITS typed;
        same_offset = eqb-true s.sh_offset q.p_offset offset;
        same_address = eqb-true s.sh_addr q.p_vaddr address;
        same_size = eqb-true s.sh_size q.p_filesz sized;
      }

-- from the tests to what they mean
pub tests_mean : TestsMean
tests_mean p rules = record {
  placed = placed p rules;
  header_table = (header_table_loaded-means (segment_table_range p) p.segments).0 rules.header_table;
  dynamic = dynamic_section p rules;
  no_dynamic = both_missing (dynamic_section_agrees p) (segment_of_type PT_DYNAMIC p.segments) (section_of_type SHT_DYNAMIC p.sections) rules.dynamic;
  interpreter = interpreter p rules;
}

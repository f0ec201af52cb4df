-- A written file stands as the rules of placement ask.
use Rattle.std.proofs.Common.{◌≡◌, ◌≤◌, ℕ, true, List, sym, ap, ◌∙◌, arith}
use Rattle.std.specs.Prelude.{IsTrue, length, filter}
use Rattle.std.specs.List.{list_all}
use Rattle.std.proofs.lemmas.Bool.{and_from, and_parts, le-leb, leb-true}
use Rattle.elf_format.specs.declared.range.Range.{Range}
use Rattle.elf_format.specs.declared.records.SegmentHeader.{SegmentHeader}
use Rattle.elf_format.specs.File.{loads_of}
use Rattle.elf_format.specs.Ranges.{end_of}
use Rattle.elf_format.specs.Placement.{ends_by, file_part, file_parts_fit, header_table_loaded, ranges_in_file, sections_loaded, segments_apart, uninitialized_clear}
use Rattle.elf_format.specs.Places.{Place, file_range, occupies_file, places_of}
use Rattle.elf_format.specs.Rules.{are_sections_loaded, segment_table_range}
use Rattle.elf_layout_plan.specs.FilePlaced.{written_headers, written_size}
use Rattle.elf_layout_plan.specs.Plan.{resized}
use Rattle.elf_layout_plan.proofs.ForCallers.PlacedLists.{all-at, all-from}
use Rattle.elf_layout_plan.proofs.ForCallers.PlacedPlans.{plans_are_placed}
use Rattle.elf_write_spec.specs.ReadBack.{HasWrittenParts, written_parts}
use Rattle.elf_write_spec.specs.Output.{IsPlannedOutput, Output, written_bytes}
use Rattle.elf_write_spec.proofs.HeaderTables.{table_at}
use Rattle.elf_write_spec.proofs.WholeFacts.{places_are}

pub record IsPlacedReadBack (w : Output) : Type 0 where
  pub in_file : IsTrue (ranges_in_file (length (written_bytes w)) w.plan.segments (places_of w.headers))
  pub fit : IsTrue (file_parts_fit w.plan.segments)
  pub segments : IsTrue (segments_apart w.plan.segments)
  pub loaded : IsTrue (are_sections_loaded (written_parts w))
  pub clear : IsTrue (uninitialized_clear w.plan.segments (places_of w.headers))
  pub header_table : IsTrue (header_table_loaded (segment_table_range (written_parts w)) w.plan.segments)

-- ## The length of the file

-- the section header table lies in the file
pub size_within : (w : Output) → HasWrittenParts w → written_size (resized w.image) w.plan ≤ length (written_bytes w)
size_within w has = (table_at (written_parts w).opened w.headers has.parts.sections).within

-- what lies in a file lies in a longer one
longer : (n m : ℕ) (r : Range) → n ≤ m → ends_by n r ≡ true → ends_by m r ≡ true
longer n m r more h = let ends = leb-true (end_of r) n h in le-leb (end_of r) m (omega (arith, ends))

pub in_longer : (n m : ℕ) (segments : List SegmentHeader) (places : List Place) → n ≤ m → ranges_in_file n segments places ≡ true
    → ranges_in_file m segments places ≡ true
in_longer n m segments places more h =
    let both =
    and_parts (list_all (λ s. ends_by n (file_range s)) (filter occupies_file places)) (list_all (λ p. ends_by n (file_part p)) (loads_of segments)) h in
    and_from (list_all (λ s. ends_by m (file_range s)) (filter occupies_file places)) (list_all (λ p. ends_by m (file_part p)) (loads_of segments))
    (all-from (λ s. ends_by m (file_range s)) (filter occupies_file places) (λ s here.
    longer n m (file_range s) more (all-at (λ x. ends_by n (file_range x)) (filter occupies_file places) s both.0 here)))
    (all-from (λ p. ends_by m (file_part p)) (loads_of segments) (λ p here.
    longer n m (file_part p) more (all-at (λ x. ends_by n (file_part x)) (loads_of segments) p both.1 here)))

pub placed_read_back : (w : Output) → IsPlannedOutput w → HasWrittenParts w → IsPlacedReadBack w
placed_read_back w is has =
    let placed = plans_are_placed w.image w.plan is.edited is.planned in
    let same : w.plan.places ≡ places_of w.headers = sym (places_are w is) in
    record {
      in_file = in_longer (written_size (resized w.image) w.plan) (length (written_bytes w)) w.plan.segments (places_of w.headers) (size_within w has)
          (ap (ranges_in_file (written_size (resized w.image) w.plan) w.plan.segments) (sym same) ∙ placed.in_file);
      fit = placed.fit;
      segments = placed.apart;
      loaded = ap (sections_loaded (written_headers (resized w.image) w.plan) w.plan.segments) (sym same) ∙ placed.loaded;
      clear = ap (uninitialized_clear w.plan.segments) (sym same) ∙ placed.clear;
      header_table = placed.table;
    }

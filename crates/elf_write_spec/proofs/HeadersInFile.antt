-- In a plan the file header and the program header table end before the section header table begins.
use Rattle.std.proofs.Common.{◌≡◌, ◌≤◌, ℕ, ◌+◌, ◌*◌, List, length, true, refl, sym, ap, ◌∙◌, subst, Option, Some, None, arith}
use Rattle.std.specs.Prelude.{◌&&◌, is_some, if◌then◌else◌}
use Rattle.std.proofs.lemmas.Bool.{and_parts, leb-true}
use Rattle.std.proofs.Math.Nat.{mul-le-mul_right}
use Rattle.elf_format.specs.declared.records.SegmentHeader.{SegmentHeader}
use Rattle.elf_format.specs.Image.{Image}
use Rattle.elf_format.specs.Records.{file_header_size, segment_header_size}
use Rattle.elf_image.specs.Edited.{IsEdited}
use Rattle.elf_layout_plan.specs.Added.{header_count, kept_end}
use Rattle.elf_layout_plan.specs.Blocks.{have_causes, stay_apart}
use Rattle.elf_layout_plan.specs.Memory.{Resized, blocks_with, table_load, table_size_with}
use Rattle.elf_layout_plan.specs.Plan.{IsPlan, Plan, plan_for, resized}
use Rattle.elf_layout_plan.specs.Rounds.{are_in_old_order, do_move, headers_needed, sections_at}
use Rattle.elf_layout_plan.specs.Standing.{unloaded_start, next_table, sections_offset, segments_end, table_offset}
use Rattle.elf_layout_plan.specs.Written.{written_segments}
use Rattle.elf_layout_plan.proofs.ForCallers.PlacedCount.{length-written}
use Rattle.elf_layout_plan.proofs.ForCallers.PlacedRead.{ReadsPlaced, reads_placed}
use Rattle.elf_layout_plan.proofs.ForCallers.PlacedSegments.{before_kept_end, end_before_sections, header_before_kept_end, kept_before_segments_end, unloaded_before_end, segments_before_end}
use Rattle.elf_layout_plan.proofs.ForCallers.PlacedStays.{table_kept_in}

-- both headers in front end before the section header table
pub record EndBefore (r : Resized) (plan : Plan) : Type 0 where
  pub header : file_header_size r.image.form ≤ plan.e_shoff
  pub table : plan.e_phoff + length plan.segments * segment_header_size r.image.form ≤ plan.e_shoff

-- what stays is apart
pub what_stays : (r : Resized) (looked : ℕ) (moved : List ℕ) → do_move r looked moved ≡ true
    → stay_apart moved (blocks_with r looked) ≡ true
what_stays r looked moved h =
    (and_parts (have_causes (blocks_with r looked) moved) (stay_apart moved (blocks_with r looked))
    (and_parts (have_causes (blocks_with r looked) moved && stay_apart moved (blocks_with r looked))
    (are_in_old_order (sections_at r moved)) h).0).1

module _ (r : Resized) (rounds looked : ℕ) (moved : List ℕ) (reads : ReadsPlaced r)
    (clear : stay_apart moved (blocks_with r looked) ≡ true)
    (enough : headers_needed r moved ≤ looked) where
  header_ends : file_header_size r.image.form ≤ sections_offset r moved
  header_ends = omega (
    arith,
    header_before_kept_end r moved reads,
    kept_before_segments_end r moved reads,
    segments_before_end r moved reads,
    end_before_sections r moved reads,
  )

  -- behind the segments
  table_unloaded : table_load r ≡ None → table_offset r moved + header_count r moved * segment_header_size r.image.form ≤ unloaded_start r moved
  unfolding unloaded_start
  table_unloaded none = subst (λ (o : Option SegmentHeader).
      table_offset r moved + header_count r moved * segment_header_size r.image.form
      ≤ (if is_some o then segments_end r moved else table_offset r moved + header_count r moved * segment_header_size r.image.form))
      (sym none) (omega arith)

  -- the program header table stands where it was, where it has a segment
  table_stays : (q : SegmentHeader) → table_load r ≡ Some q → table_offset r moved ≡ r.read.header.e_phoff
  unfolding table_offset
  table_stays q h =
      ap (λ (o : Option SegmentHeader). if is_some o then r.image.header.e_phoff else next_table r (segments_end r moved)) h
      ∙ reads.table_offset

  table_ends_by : (o : Option SegmentHeader) → table_load r ≡ o
      → table_offset r moved + length (written_segments r moved) * segment_header_size r.image.form ≤ sections_offset r moved
  table_ends_by None is =
      let unit : ℕ = segment_header_size r.image.form in
      let few : length (written_segments r moved) * unit ≤ header_count r moved * unit =
      mul-le-mul_right (segment_header_size r.image.form) (length-written r moved) in
      omega (arith, few, table_unloaded is, unloaded_before_end r moved reads, end_before_sections r moved reads)
  table_ends_by (Some q) is =
      let few : length (written_segments r moved) ≤ length r.image.segments + looked = omega (arith, length-written r moved, enough) in
      let small : length (written_segments r moved) * segment_header_size r.image.form ≤ table_size_with r looked =
      mul-le-mul_right (segment_header_size r.image.form) few in
      let kept = table_kept_in r moved looked reads clear q is in
      let end : kept.load.p_offset + kept.load.p_filesz ≤ kept_end r moved = before_kept_end r moved reads kept.load kept.here in
      omega (
        arith,
        small,
        kept.ends,
        end,
        table_stays q is,
        kept_before_segments_end r moved reads,
        segments_before_end r moved reads,
        end_before_sections r moved reads,
      )

  layout_ends : EndBefore r (plan_for r rounds looked moved)
  unfolding plan_for
  layout_ends = record { header = header_ends; table = table_ends_by (table_load r) refl }

pub headers_end_before : (image : Image) (plan : Plan) → IsEdited image → IsPlan (resized image) plan → EndBefore (resized image) plan
headers_end_before image plan edited is =
    let r : Resized = resized image in
    let enough : headers_needed r is.moved ≤ plan.looked = leb-true (headers_needed r is.moved) plan.looked is.ended.enough in
    let ends = layout_ends r plan.rounds plan.looked is.moved (reads_placed image edited)
    (what_stays r plan.looked is.moved is.ended.move) enough in
    subst (λ (l : Plan). EndBefore r l) (sym is.follows) ends

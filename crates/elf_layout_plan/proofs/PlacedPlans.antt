-- A plan of an edited image is placed in the file as the rules of placement ask.
use Rattle.std.proofs.Common.{◌≡◌, ◌≤◌, ℕ, ◌+◌, ◌*◌, List, length, true, sym, subst, arith}
use Rattle.std.specs.Prelude.{◌&&◌}
use Rattle.std.proofs.lemmas.Bool.{and_parts, leb-true}
use Rattle.elf_format.specs.declared.constants.TheConstants.{SHT_NOBITS}
use Rattle.elf_format.specs.Records.{section_header_size}
use Rattle.elf_layout_plan.specs.Blocks.{have_causes, stay_apart}
use Rattle.elf_layout_plan.specs.FilePlaced.{IsPlacedInFile}
use Rattle.elf_layout_plan.specs.Memory.{Resized, SizedSection, blocks_with, sized_sections}
use Rattle.elf_layout_plan.specs.PlacedLaws.{PlansArePlaced}
use Rattle.elf_layout_plan.specs.Plan.{Plan, plan_for, resized}
use Rattle.elf_layout_plan.specs.Rounds.{are_in_old_order, do_move, headers_needed, sections_at}
use Rattle.elf_layout_plan.specs.Standing.{places, sections_offset}
use Rattle.elf_layout_plan.proofs.PlacedLists.{Has}
use Rattle.elf_layout_plan.proofs.PlacedRead.{ReadsPlaced, reads_placed}
use Rattle.elf_layout_plan.proofs.PlacedSegments.{are_apart, parts_fit}
use Rattle.elf_layout_plan.proofs.PlacedFile.{all_in_file, are_loaded, table_is_loaded}
use Rattle.elf_layout_plan.proofs.PlacedSizes.{keeps_size}
use Rattle.elf_layout_plan.proofs.PlacedClear.{is_clear}

module _ (r : Resized) (rounds looked : ℕ) (moved : List ℕ) (reads : ReadsPlaced r) (clear : stay_apart moved (blocks_with r looked) ≡ true)
    (enough : headers_needed r moved ≤ looked)
    (keeps : (s : SizedSection) → Has s (sized_sections r) → s.kept.section.sh_type ≡ SHT_NOBITS → s.size ≡ s.kept.section.sh_size) where
  layout_placed : IsPlacedInFile r (plan_for r rounds looked moved)
  unfolding plan_for
  layout_placed =
      let size : ℕ = sections_offset r moved + length (places r moved) * section_header_size r.image.form in
      record {
        in_file = all_in_file r moved looked reads clear enough size (omega arith);
        fit = parts_fit r moved reads;
        apart = are_apart r moved reads;
        loaded = are_loaded r moved looked reads clear enough;
        clear = is_clear r moved reads keeps;
        table = table_is_loaded r moved looked reads clear enough;
      }

-- what stays is apart
stays_apart : (r : Resized) (looked : ℕ) (moved : List ℕ) → do_move r looked moved ≡ true → stay_apart moved (blocks_with r looked) ≡ true
stays_apart r looked moved h =
    (and_parts (have_causes (blocks_with r looked) moved) (stay_apart moved (blocks_with r looked))
    (and_parts (have_causes (blocks_with r looked) moved && stay_apart moved (blocks_with r looked))
    (are_in_old_order (sections_at r moved)) h).0).1

-- the law
pub plans_are_placed : PlansArePlaced
plans_are_placed image plan edited is =
    let r : Resized = resized image in
    let enough : headers_needed r is.moved ≤ plan.looked = leb-true (headers_needed r is.moved) plan.looked is.ended.enough in
    let placed = layout_placed r plan.rounds plan.looked is.moved (reads_placed image edited)
    (stays_apart r plan.looked is.moved is.ended.move) enough (keeps_size image edited) in
    subst (λ (l : Plan). IsPlacedInFile r l) (sym is.follows) placed

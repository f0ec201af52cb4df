-- Opens every definition that a row computes with.
use lib.Count.{ones}
use Rattle.patch_bytes.specs.Memory.{bytes_at, number_in}
use Rattle.patch_bytes.specs.Number.{number_at}
use Rattle.elf_format.specs.Image.{counted}
use Rattle.elf_format.specs.Hashes.{gnu_header}
use Rattle.elf_tables.specs.Strings.{table_length}
use Rattle.elf_layout_plan.specs.Apart.{are_notes_shown, is_memory_apart}
use Rattle.elf_layout_plan.specs.Added.{added_loads, kept_end, load_alignment, loads_from, memory_end, slots_from}
use Rattle.elf_layout_plan.specs.Blocks.{in_order, movers, put_in, some_two}
use Rattle.elf_layout_plan.specs.Marks.{marks_behind}
use Rattle.elf_layout_plan.specs.Anchors.{is_split, anchor_of}
use Rattle.elf_layout_plan.specs.Memory.{blocks_with}
use Rattle.elf_layout_plan.specs.Needs.{written_entries, written_needs}
use Rattle.elf_layout_plan.specs.Plan.{does_plan_fit, plan_for}
use Rattle.elf_layout_plan.specs.Rounds.{are_in_old_order, each_once, headers_needed, leads_to}
use Rattle.elf_layout_plan.specs.Sizes.{new_size, new_sizes}
use Rattle.elf_layout_plan.specs.Standing.{content_end, unloaded_from, unloaded_slots, unloaded_start, place_in, places, sections_offset, segments_end, table_offset}
use Rattle.elf_layout_plan.specs.Texts.{is_subsequence, texts_in_use}
use Rattle.elf_layout_plan.specs.Written.{behind_last_load, first_in_file, targets_of, written_segments}

unfoldable pub computing : Unit {0}
unfolding are_notes_shown is_memory_apart bytes_at number_at number_in added_loads are_in_old_order behind_last_load blocks_with content_end counted does_plan_fit each_once first_in_file gnu_header headers_needed in_order is_split is_subsequence kept_end anchor_of leads_to load_alignment loads_from marks_behind movers unloaded_from unloaded_slots unloaded_start memory_end new_size new_sizes ones place_in places put_in plan_for sections_offset segments_end some_two slots_from table_length table_offset targets_of texts_in_use written_entries written_needs written_segments
computing = tt

use Rattle.std.proofs.Common.{◌++◌, ◌∙◌, List, ap, map}
use Rattle.std.specs.List.{flat_map}
use Rattle.elf_format.specs.File.{loads_of}
use Rattle.elf_format.specs.declared.records.SegmentHeader.{SegmentHeader}
use Rattle.elf_image.specs.ImageModel.{segment_model}
use Rattle.elf_layout_plan.specs.Blocks.{Block}
use Rattle.elf_layout_plan.specs.Memory.{Resized, blocks_with, edge_blocks, header_blocks}
use Rattle.elf_layout_moves.specs.ImageBlocks.{section_blocks_from}
use Rattle.elf_layout_moves.proofs.blocks.blocks_of.Goals as goal

pub returns : goal.returns
unfolding blocks_with
returns c =
    let r : Resized = c.args.r.now in
    let headers = c.in_ok-push_headers.ensures ∙ ap (λ (l : List Block). l ++ header_blocks r c.args.added) c.new-made.ensures.items in
    let segments = c.segments.ensures ∙ ap (λ (q : Resized). q.image.segments) c.r.view_is in
    let edges = c.in_ok-push_all_edges.ensures ∙ ap (λ (l : List Block). l ++ flat_map edge_blocks (loads_of (map segment_model c.segments.result.now))) headers
    ∙ ap (λ (ps : List SegmentHeader). header_blocks r c.args.added ++ flat_map edge_blocks (loads_of ps)) segments in
    c.in_ok-push_sections.ensures ∙ ap (λ (l : List Block). l ++ section_blocks_from r 0) edges

use Rattle.std.proofs.Common.{◌≡◌, ◌∙◌, ◌<◌, arith, length, map}
use Rattle.std.specs.Prelude.{vec_len}
use Rattle.std.proofs.lemmas.List.{length-map, length-set}
use Rattle.elf_image_headers.specs.PartModels.{segment_model}
use Rattle.elf_image_headers.specs.Segments.{with_align}
use Rattle.elf_image_headers.proofs.EditSteps.{mapped_all, next_changed}
use Rattle.elf_image_headers.proofs.segments.align_loads.Goals as goal

pub loop-i-preserved : goal.loop-i-preserved
loop-i-preserved c =
    let seen : length (map segment_model c.args.segments.now.items) ≡ length c.args.segments.now.items = length-map c.args.segments.now.items segment_model in
    let long : vec_len c.args.segments.now ≡ length c.args.segments.now.items = c.args.segments.now.ok.0 in
    let inside : c.loop-i.i < length (map segment_model c.args.segments.now.items) = omega arith in
    let here : c.loop-i.i < length c.loop-i.segments.items = omega arith in (
      next_changed segment_model (with_align c.args.align) (map segment_model c.args.segments.now.items) c.loop-i.i inside c.loop-i.segments.items c.loop-i.invariant.0 here
          c.index_mut.result.now c.index_mut.ensures.value c.align_load.new.self c.align_load.ensures,
      length-set c.loop-i.segments.items c.loop-i.i c.align_load.new.self ∙ c.loop-i.invariant.1,
    )

pub returns : goal.returns
returns c =
    let seen : length (map segment_model c.args.segments.now.items) ≡ length c.args.segments.now.items = length-map c.args.segments.now.items segment_model in
    let long : vec_len c.args.segments.now ≡ length c.args.segments.now.items = c.args.segments.now.ok.0 in
    mapped_all (with_align c.args.align) (map segment_model c.loop-i.segments.items) (map segment_model c.args.segments.now.items) c.loop-i.i (omega arith) c.loop-i.invariant.0

use Rattle.std.proofs.Common.{◌≡◌, ◌∙◌, ◌<◌, arith, length, map}
use Rattle.std.specs.Prelude.{◌==◌, if◌then◌else◌, vec_len}
use Rattle.std.proofs.lemmas.List.{length-map, length-set}
use Rattle.elf_format.specs.Dynamic.{Entry}
use Rattle.elf_format.specs.Image.{entry_tag}
use Rattle.elf_image_headers.specs.PartModels.{entry_model}
use Rattle.elf_image_headers.specs.DynamicList.{with_tag}
use Rattle.elf_image_headers.proofs.EditSteps.{mapped_all, next_changed}
use Rattle.elf_image_headers.proofs.entries.retag_entries.Goals as goal

pub loop-i-preserved : goal.loop-i-preserved
loop-i-preserved c =
    let seen : length (map entry_model c.args.list.now.items) ≡ length c.args.list.now.items = length-map c.args.list.now.items entry_model in
    let long : vec_len c.args.list.now ≡ length c.args.list.now.items = c.args.list.now.ok.0 in
    let inside : c.loop-i.i < length (map entry_model c.args.list.now.items) = omega arith in
    let here : c.loop-i.i < length c.loop-i.list.items = omega arith in (
      next_changed entry_model (λ (e : Entry). if entry_tag e == c.args.old then with_tag c.args.new e else e) (map entry_model c.args.list.now.items) c.loop-i.i inside c.loop-i.list.items c.loop-i.invariant.0 here
          c.index_mut.result.now c.index_mut.ensures.value c.change_tag.new.self c.change_tag.ensures,
      length-set c.loop-i.list.items c.loop-i.i c.change_tag.new.self ∙ c.loop-i.invariant.1,
    )

pub returns : goal.returns
returns c =
    let seen : length (map entry_model c.args.list.now.items) ≡ length c.args.list.now.items = length-map c.args.list.now.items entry_model in
    let long : vec_len c.args.list.now ≡ length c.args.list.now.items = c.args.list.now.ok.0 in
    mapped_all (λ (e : Entry). if entry_tag e == c.args.old then with_tag c.args.new e else e) (map entry_model c.loop-i.list.items) (map entry_model c.args.list.now.items) c.loop-i.i (omega arith) c.loop-i.invariant.0

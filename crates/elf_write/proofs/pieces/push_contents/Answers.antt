use Rattle.std.proofs.Common.{◌≡◌, ◌<◌, ◌∙◌, ℕ, List, length, map, get_or, ap, sym, arith}
use Rattle.std.proofs.lemmas.List.{get_or-map, length-map}
use Rattle.byte_store.specs.Laid.{patches_of}
use Rattle.patch_bytes.specs.ByteString.{StringValue, bytes_of_each}
use Rattle.elf_layout_plan.specs.declared.plan.SectionPlace.{SectionPlace}
use Rattle.elf_image.specs.Kept.{kept_sections}
use Rattle.elf_layout_plan.specs.Plan.{resized}
use Rattle.elf_layout_plan.specs.PlanModel.{place_model}
use Rattle.elf_write.specs.LayingSteps.{content_patches}
use Rattle.elf_write_contents.proofs.ForCallers.{long_held}
use Rattle.elf_write.proofs.LayingWhole.{IsAt, left-next, pushed-all, pushed-next}
use Rattle.elf_write.proofs.pieces.push_contents.Goals as goal

abbrev no_place : SectionPlace
no_place = record { sh_type = 0; sh_flags = 0; sh_addr = 0; sh_offset = 0; sh_size = 0 }

pub loop-i-preserved : goal.loop-i-preserved
loop-i-preserved c =
    let bytes : List ℕ = c.as_slice.result.now in
    let shown : StringValue → List ℕ = λ s. s.bytes in
    let contents : List (List ℕ) = bytes_of_each c.args.contents.now in
    let here : c.loop-i.i < length c.args.contents.now =
    omega (arith, c.requires.contents, long_held c.sections-sections.result.now c.args.image.now.sections c.sections-sections.ensures) in
    let seen : map place_model c.places-places.result.now ≡ c.args.plan.now.places = c.places-places.ensures in
    let content : bytes ≡ get_or contents c.loop-i.i bytes =
    c.as_slice.ensures ∙ ap shown c.index-contents-i.is ∙ sym (get_or-map shown c.args.contents.now c.loop-i.i c.index-contents-i.result bytes here) in
    let at : IsAt c.args.image.now c.sections-sections.result.now c.places-places.result.now contents c.loop-i.i c.read_section.result
    c.index-sections-i.result bytes = record {
      edited = c.source-source.ensures.edited;
      seen = c.sections-sections.ensures;
      as_many_places = sym (length-map c.places-places.result.now place_model) ∙ ap length seen ∙ c.requires.places;
      as_many_contents = length-map c.args.contents.now shown ∙ c.requires.contents;
      here = c.loop-i-test.true;
      section = c.index-sections-i.is;
      of_number = c.read_section.ensures;
      content = content;
    } in
    let next = left-next c.args.image.now c.args.interpreter c.sections-sections.result.now c.places-places.result.now
    c.args.plan.now.places contents c.loop-i.i c.read_section.result c.index-sections-i.result bytes no_place c.is_data-stays.result
    c.requires.interpreter seen at c.is_data-stays.ensures in
    pushed-next (resized c.args.image.now) (kept_sections c.args.image.now) c.args.plan.now.places contents c.loop-i.i
    (patches_of c.args.pieces.now.items) (patches_of c.loop-i.pieces.items) (patches_of c.push_content.new.pieces.items)
    (content_patches (place_model (get_or c.places-places.result.now c.loop-i.i no_place)) c.is_data-stays.result bytes)
    next c.loop-i.invariant c.in_ok-push_content.ensures

pub returns : goal.returns
returns c = pushed-all c.args.image.now c.sections-sections.result.now c.args.plan.now.places (bytes_of_each c.args.contents.now) c.loop-i.i
    (patches_of c.args.pieces.now.items) (patches_of c.loop-i.pieces.items) c.source-source.ensures.edited c.sections-sections.ensures
    c.loop-i-test.false c.loop-i.invariant

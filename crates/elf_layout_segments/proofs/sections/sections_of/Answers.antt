use Rattle.std.proofs.Common.{◌≡◌, ◌<◌, ◌++◌, ℕ, List, [], ◌∷◌, length, get_or, map, sym, ap, ◌∙◌, arith}
use Rattle.std.proofs.lemmas.List.{get_or-map, length-map, take_all}
use Rattle.elf_format.specs.Image.{ImageSection}
use Rattle.elf_image.specs.declared.section.Section.{Section}
use Rattle.elf_image.specs.ImageModel.{section_model}
use Rattle.elf_layout_segments.specs.Sections.{section_at, indexed_sections}
use Rattle.elf_layout_segments.proofs.SectionSteps.{length-seen, seen-more}
use Rattle.elf_layout_segments.proofs.sections.sections_of.Goals as goal

pub loop-i-preserved : goal.loop-i-preserved
loop-i-preserved c =
    let sections : List Section = c.sections-sections.result.now in
    let i : ℕ = c.loop-i.i in
    let x : ImageSection = section_model c.index-sections-i.result in
    let seen : map section_model sections ≡ c.args.image.now.sections = c.sections-sections.ensures in
    let many : length c.args.image.now.sections ≡ length sections = sym (ap length seen) ∙ length-map sections section_model in
    let here : i < length sections = c.loop-i-test.true in
    let there : i < length c.args.image.now.sections = omega arith in
    let at : get_or c.args.image.now.sections i x ≡ x =
    ap (λ l. get_or l i x) (sym seen) ∙ get_or-map section_model sections i c.index-sections-i.result x here ∙ ap section_model (sym c.index-sections-i.is) in
    c.in_ok-push.ensures.items
    ∙ ap (λ n. c.loop-i.made.items ++ section_at (record { position = i; number = n; section = x }) ∷ []) c.read_section.ensures
    ∙ seen-more c.args.image.now c.loop-i.made.items i x c.source-source.ensures.edited.is_edit.sections.numbered there at c.loop-i.invariant

pub returns : goal.returns
returns c =
    let seen : map section_model c.sections-sections.result.now ≡ c.args.image.now.sections = c.sections-sections.ensures in
    let many : length c.args.image.now.sections ≡ length c.sections-sections.result.now = sym (ap length seen) ∙ length-map c.sections-sections.result.now section_model in
    let long : length (indexed_sections c.args.image.now) ≡ length c.args.image.now.sections = length-seen c.args.image.now c.source-source.ensures.edited.is_edit.sections.numbered in
    c.loop-i.invariant ∙ take_all c.loop-i.i (indexed_sections c.args.image.now) (omega arith)

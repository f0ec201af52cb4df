-- One kind more.
use Rattle.std.proofs.Common.{◌<◌, ◌++◌, ◌∷◌, ◌∙◌, [], List, ap, get_or, length, subst, sym}
use Rattle.std.proofs.lemmas.List.{map_more}
use Rattle.elf_format.specs.declared.records.SectionHeader.{SectionHeader}
use Rattle.elf_format.specs.declared.section_data.SectionData.{SectionData}
use Rattle.elf_format.specs.File.{Parts}
use Rattle.elf_format.specs.Rules.{data_of}
use Rattle.elf_image_versions.specs.Read.{parts_model}
use Rattle.elf_image.proofs.TextSteps.{no_section}
use Rattle.elf_image.proofs.read.kinds.Goals as goal

pub loop-section-preserved : goal.loop-section-preserved
loop-section-preserved c =
    let p : Parts = parts_model c.args.parts.now in
    let i = c.loop-section.section-index in
    let made = c.loop-section.made.items in
    let whole = c.as_slice-section-items.ensures.value in
    let less : i < length p.sections = subst (λ (l : List SectionHeader). i < length l) whole c.loop-section-test.true in
    c.in_ok-push.ensures.items
    ∙ ap (λ (k : SectionData). made ++ k ∷ []) (c.kind_of.ensures ∙ ap (λ (l : List SectionHeader). data_of p (get_or l i no_section)) whole)
    ∙ ap (λ (l : List SectionData). l ++ data_of p (get_or p.sections i no_section) ∷ []) c.loop-section.invariant
    ∙ sym (map_more (data_of p) p.sections i no_section less)

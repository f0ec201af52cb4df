-- One section after another, each with the kind at its position.
use Rattle.std.proofs.Common.{◌≡◌, ◌++◌, ◌∷◌, [], ◌<◌, ◌≤◌, ℕ, List, get_or, length, map, sym, ap, subst, ◌∙◌, arith}
use Rattle.std.specs.List.{slice_get}
use Rattle.std.proofs.lemmas.List.{get_or-map, map_push}
use Rattle.std.proofs.lemmas.Result.{err_from_is_err_and}
use Rattle.patch_bytes.specs.Memory.{memory_of}
use Rattle.elf_format.specs.declared.section_data.SectionData.{SectionData}
use Rattle.elf_format.specs.declared.section_data.SectionData.TheVariants.{Opaque}
use Rattle.elf_format.specs.File.{Parts}
use Rattle.elf_format.specs.Image.{section_read}
use Rattle.elf_image.specs.ImageModel.{section_model}
use Rattle.elf_format.specs.Options.{each}
use Rattle.elf_format.specs.Answers.{Fails}
use Rattle.elf_image_versions.specs.Read.{parts_model}
use Rattle.elf_format.specs.declared.records.SectionHeader.{SectionHeader}
use Rattle.elf_format.specs.Rules.{data_of, file_of, texts_of}
use Rattle.elf_image.specs.TextSteps.{named_section}
use Rattle.elf_format.proofs.ForCallers.ReadingSteps.{each_done, each_ends, each_goes}
use Rattle.elf_image.proofs.TextSteps.{no_section, section_named}
use Rattle.elf_image.proofs.read.texts.sections.sections.Goals as goal

-- the section that the loop reads at a position
at_place : (p : Parts) (items : List SectionHeader) (kinds : List SectionData) (texts : List ℕ) (i : ℕ) → items ≡ p.sections → kinds ≡ map (data_of p) p.sections → i < length p.sections
    → memory_of texts ≡ texts_of p (slice_get p.sections p.opened.header.e_shstrndx)
    → named_section (file_of p) (memory_of texts) (get_or items i no_section) (get_or kinds i Opaque) ≡ section_read p (get_or p.sections i no_section)
at_place p items kinds texts i same_items same_kinds less same_texts =
    ap (λ (l : List SectionHeader). named_section (file_of p) (memory_of texts) (get_or l i no_section) (get_or kinds i Opaque)) same_items
    ∙ section_named p (memory_of texts) (get_or p.sections i no_section) (get_or kinds i Opaque) same_texts
    (ap (λ (l : List SectionData). get_or l i Opaque) same_kinds ∙ get_or-map (data_of p) p.sections i no_section Opaque less)

pub returns-in_err-one : goal.returns-in_err-one
returns-in_err-one c =
    let e = err_from_is_err_and c.from_residual.result c.from_residual.ensures.1 in
    let p : Parts = parts_model c.args.parts.now in
    let less : c.loop-i.i < length p.sections = omega (arith, ap length c.deref-header-items.ensures.value) in
    let here = at_place p c.deref-header-items.result.now c.args.kinds.now c.section_names-names.result.now c.loop-i.i c.deref-header-items.ensures.value c.requires less c.section_names-names.ensures.value in
    rw (e.1, e.2) (each_ends (section_read p) c.in_err-one.field-0.0 (map section_model c.loop-i.made.items) p.sections c.loop-i.i no_section (each (section_read p) p.sections) less
    (subst (Fails c.in_err-one.field-0.0) here c.in_err-one.ensures.shown) c.loop-i.invariant)

pub loop-i-preserved : goal.loop-i-preserved
loop-i-preserved c =
    let p : Parts = parts_model c.args.parts.now in
    let less : c.loop-i.i < length p.sections = omega (arith, ap length c.deref-header-items.ensures.value) in
    let here = at_place p c.deref-header-items.result.now c.args.kinds.now c.section_names-names.result.now c.loop-i.i c.deref-header-items.ensures.value c.requires less c.section_names-names.ensures.value in
    let pushed : map section_model c.push.new.self.items ≡ map section_model c.loop-i.made.items ++ section_model c.in_ok-one.one ∷ [] = ap (map section_model) c.in_ok-push.ensures.items ∙ map_push section_model c.loop-i.made.items c.in_ok-one.one in
    rw pushed (each_goes (section_read p) (map section_model c.loop-i.made.items) p.sections c.loop-i.i no_section (section_model c.in_ok-one.one) (each (section_read p) p.sections) less (sym here ∙ c.in_ok-one.ensures.shown) c.loop-i.invariant)

pub returns : goal.returns
returns c =
    let p : Parts = parts_model c.args.parts.now in
    let past : length p.sections ≤ c.loop-i.i = omega (arith, ap length c.deref-header-items.ensures.value) in
    each_done (section_read p) (map section_model c.loop-i.made.items) p.sections c.loop-i.i (each (section_read p) p.sections) past c.loop-i.invariant

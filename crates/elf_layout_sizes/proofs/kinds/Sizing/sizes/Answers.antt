-- One section more, one that doesn't fit, and the end.
use Rattle.std.proofs.Common.{◌≡◌, ◌<◌, ◌∙◌, length, subst, sym, ap, arith}
use Rattle.std.specs.Prelude.{slice_index}
use Rattle.std.proofs.lemmas.Result.{err_from_is_err_and}
use Rattle.elf_format.specs.Image.{Image, ImageSection}
use Rattle.elf_image.specs.Edited.{IsEdited}
use Rattle.elf_image.specs.ImageModel.{section_model}
use Rattle.elf_layout_sizes.specs.Inner.{Edit, does_size_fit, size_by}
use Rattle.elf_layout_sizes.proofs.SizeSteps.{long_sections, section_at, sized_all, sized_more, sized_refused}
use Rattle.elf_layout_sizes.proofs.kinds.Sizing.sizes.Goals as goal

pub loop-i-preserved : goal.loop-i-preserved
loop-i-preserved c =
    let image_is : c.image-image.result.now ≡ c.args.self.now.image = c.image-image.ensures ∙ ap (λ (e : Edit). e.image) c.self.view_is in
    let edited : IsEdited c.args.self.now.image = subst IsEdited image_is c.source-source.ensures.edited in
    let are = c.sections-sections.ensures ∙ ap (λ (m : Image). m.sections) image_is in
    let within : c.loop-i.i < length c.args.self.now.image.sections = omega (arith, long_sections c.sections-sections.result.now c.args.self.now.image.sections are) in
    let number : c.read_section.result ≡ slice_index c.args.self.now.image.section_numbers c.loop-i.i = c.read_section.ensures ∙ ap (λ (m : Image). slice_index m.section_numbers c.loop-i.i) image_is in
    let s : ImageSection = section_model c.index-sections-i.result in
    sized_more c.args.self.now.read c.args.self.now.image edited c.loop-i.i s within
    (section_at c.sections-sections.result.now c.args.self.now.image.sections c.loop-i.i c.index-sections-i.result are c.loop-i-test.true c.index-sections-i.is)
    c.loop-i.sizes.items c.push.new.self.items c.in_ok-size.size c.loop-i.invariant
    (c.in_ok-size.ensures.0 ∙ ap (λ n. size_by c.args.self.now.read c.args.self.now.image n s) number)
    (sym (ap (λ n. does_size_fit c.args.self.now.read c.args.self.now.image n s) number) ∙ c.in_ok-size.ensures.1)
    c.in_ok-push.ensures.items

pub returns : goal.returns
returns c =
    let image_is : c.image-image.result.now ≡ c.args.self.now.image = c.image-image.ensures ∙ ap (λ (e : Edit). e.image) c.self.view_is in
    let edited : IsEdited c.args.self.now.image = subst IsEdited image_is c.source-source.ensures.edited in
    let are = c.sections-sections.ensures ∙ ap (λ (m : Image). m.sections) image_is in
    sized_all c.args.self.now.read c.args.self.now.image c.loop-i.sizes.items c.loop-i.i edited
    (omega (arith, long_sections c.sections-sections.result.now c.args.self.now.image.sections are)) c.loop-i.invariant

pub returns-in_err-size : goal.returns-in_err-size
returns-in_err-size c =
    let image_is : c.image-image.result.now ≡ c.args.self.now.image = c.image-image.ensures ∙ ap (λ (e : Edit). e.image) c.self.view_is in
    let edited : IsEdited c.args.self.now.image = subst IsEdited image_is c.source-source.ensures.edited in
    let are = c.sections-sections.ensures ∙ ap (λ (m : Image). m.sections) image_is in
    let within : c.loop-i.i < length c.args.self.now.image.sections = omega (arith, long_sections c.sections-sections.result.now c.args.self.now.image.sections are) in
    let number : c.read_section.result ≡ slice_index c.args.self.now.image.section_numbers c.loop-i.i = c.read_section.ensures ∙ ap (λ (m : Image). slice_index m.section_numbers c.loop-i.i) image_is in
    let s : ImageSection = section_model c.index-sections-i.result in
    let e = err_from_is_err_and c.from_residual.result c.from_residual.ensures.1 in
    rw (e.1, e.2) (λ large.
    sized_refused c.args.self.now.read c.args.self.now.image edited c.loop-i.i s within
    (section_at c.sections-sections.result.now c.args.self.now.image.sections c.loop-i.i c.index-sections-i.result are c.loop-i-test.true c.index-sections-i.is)
    c.loop-i.sizes.items c.loop-i.invariant
    (sym (ap (λ n. does_size_fit c.args.self.now.read c.args.self.now.image n s) number) ∙ c.in_err-size.ensures large))

-- One section after another.
use Rattle.std.proofs.Common.{◌≡◌, ◌++◌, ◌∷◌, [], ◌∙◌, List, Option, Some, ℕ, ap, arith, map, refl, sym}
use Rattle.std.specs.List.{slice_get}
use Rattle.std.proofs.lemmas.List.{map-append}
use Rattle.elf_edits.specs.Changes.{name_for}
use Rattle.elf_format.specs.Image.{ImageSection}
use Rattle.elf_image.specs.ImageModel.{section_model, text_model}
use Rattle.elf_symbol_edits.specs.Named.{section_name}
use Rattle.elf_symbol_edits.proofs.NumberSteps.{model_there}
use Rattle.elf_symbol_edits.proofs.RenameSteps.{maps_one}
use Rattle.elf_symbol_edits.proofs.sections.names_in.Goals as goal

pub loop-i-preserved : goal.loop-i-preserved
loop-i-preserved c =
    let ss : List ImageSection = map section_model c.args.sections.now in
    let name : ImageSection → Option (List ℕ) = λ s. name_for c.args.names.now.entries (section_name s) in
    let s : ImageSection = section_model c.index-sections-i.result in
    let made = c.loop-i.made.items in
    let at : slice_get ss c.loop-i.i ≡ Some s = model_there section_model c.args.sections.now ss c.loop-i.i c.index-sections-i.result refl (omega (arith, c.loop-i-test.true)) c.index-sections-i.is in
    let more : map text_model c.push.new.self.items ≡ map text_model made ++ name s ∷ [] =
    ap (map text_model) c.in_ok-push.ensures.items ∙ map-append text_model made (c.in_ok-new_name.field-0 ∷ [])
    ∙ ap (λ (n : Option (List ℕ)). map text_model made ++ n ∷ []) (c.in_ok-new_name.ensures ∙ ap (name_for c.args.names.now.entries) (c.as_slice.ensures ∙ ap (λ x. section_name (section_model x)) (sym c.index-sections-i.is))) in
    (omega (arith, c.loop-i.invariant.0), maps_one name (map text_model made) (map text_model c.push.new.self.items) _ ss c.loop-i.i s at more c.loop-i.invariant.1)

-- The names are those of the pairs.
use Rattle.std.proofs.Common.{◌≡◌, ℕ, List, Option, ap, sym, subst, ◌∙◌, map, drop, is_some}
use Rattle.std.specs.List.{list_any}
use Rattle.elf_edits.specs.TextModel.{pairs_model}
use Rattle.elf_format.specs.Image.{Image, ImageSection}
use Rattle.elf_image.specs.ImageModel.{section_model, text_model}
use Rattle.elf_symbol_edits.specs.Steps.{AreNames, with_section_names}
use Rattle.elf_symbol_edits.proofs.RenameSteps.{any_named, any_text, names_of, names_whole, sections_named}
use Rattle.elf_symbol_edits.proofs.sections.rename_sections.Goals as goal

pub put_names-requires-clause-whole : goal.put_names-requires-clause-whole
put_names-requires-clause-whole c =
    subst AreNames (sym c.in_ok-names.ensures) (names_whole (pairs_model c.args.pairs.now) (drop 1 (map section_model c.sections.result.now)) c.requires)

pub returns : goal.returns
returns c =
    let pairs : List (List ℕ × List ℕ) = pairs_model c.args.pairs.now in
    let image : Image = c.args.image.now in
    let names : map text_model c.in_ok-names.names.items ≡ names_of pairs (drop 1 image.sections) =
    c.in_ok-names.ensures ∙ ap (λ (ss : List ImageSection). names_of pairs (drop 1 ss)) c.sections.ensures in
    record {
      told = c.has_name-is_found.ensures ∙ ap (λ l. list_any is_some l) c.deref.ensures.value ∙ any_text c.in_ok-names.names.items
          ∙ ap (λ (l : List (Option (List ℕ))). list_any is_some l) names ∙ any_named pairs (drop 1 image.sections);
      made = c.put_names.ensures ∙ ap (λ (l : List (Option (List ℕ))). with_section_names l image) names ∙ sections_named pairs image;
    }

-- The first section of that type in the list of all.
use Rattle.std.proofs.Common.{◌≡◌, ap, ◌∙◌, refl, Option, Some, None, option_map, rules}
use Rattle.std.specs.Prelude.{◌==◌, find}
use borrow.Author.Tests.{tests}
use denote.Ref.{Bor}
use Rattle.std.proofs.lemmas.Iterator.{YieldsList-from_slice}
use Rattle.std.proofs.lemmas.Iterator.Search.{find_from_yields_List}
use Rattle.elf_image.specs.Section.{Section}
use Rattle.elf_image.specs.ImageModel.{section_model}
use Rattle.elf_image.proofs.ForCallers.LookupSteps.{find-map}
use Rattle.elf_image_uses.proofs.hash_tables.first_of_type.Goals as goal

kept-now : (o : Option (Bor Section)) → option_map (λ s. section_model s.now) o ≡ option_map section_model (option_map (λ (s : Bor Section). s.now) o)
kept-now None = refl
kept-now (Some s) = refl

pub returns : goal.returns
returns c =
    let found : option_map (λ (s : Bor Section). s.now) c.find.result ≡ find (λ s. (section_model s).sh_type == c.args.kind) c.args.sections.now =
    find_from_yields_List (λ s. (section_model s).sh_type == c.args.kind) _ _ c.find.result c.find.ensures.ran (YieldsList-from_slice c.args.sections.now c.iter.ensures.rest) (λ x b q k. search (rules, tests)) in
    kept-now c.find.result ∙ ap (option_map section_model) found ∙ find-map section_model (λ s. s.sh_type == c.args.kind) c.args.sections.now

use Rattle.std.proofs.Common.{◌≡◌, ap, sym, subst, map, ◌∙◌, List, ℕ}
use Rattle.std.specs.List.{All}
use Rattle.elf_format.specs.Versions.{VersionDefinition}
use Rattle.elf_image.specs.ImageModel.{definition_model}
use Rattle.elf_image_rules.specs.Read.{parts_model}
use Rattle.elf_layout_plan.specs.Texts.{texts_of_definitions}
use Rattle.elf_write_strings.specs.PlacedTexts.{TellsAll}
use Rattle.elf_write_strings.specs.VersionPlaces.{AreDefinitionsAt, TellsDefinition}
use Rattle.elf_write_strings.proofs.Results.{if_ok}
use Rattle.elf_write_strings.proofs.VersionsHave.{definitions_all}
use Rattle.elf_write_strings.proofs.VersionsCopied.{copied_definitions}
use Rattle.elf_write_strings.proofs.versions.place_read_definitions.Goals as goal

pub place_definitions-requires : goal.place_definitions-requires
place_definitions-requires c =
    let definitions : map definition_model c.deref.result.now ≡ c.args.read.now.definitions =
    ap (map definition_model) c.deref.ensures.value ∙ c.versions.ensures.definitions in
    subst (λ (l : List ℕ). AreDefinitionsAt l c.deref.result.now c.deref-2.result.now) (sym c.requires.bytes)
    (copied_definitions c.args.read.now c.requires.unedited c.args.number (parts_model c.in_ok-headers.headers) c.in_ok-headers.ensures
    c.requires.linked c.deref.result.now definitions c.deref-2.result.now (c.deref-2.ensures.value ∙ c.in_ok-walk.ensures.0))

pub returns-clause-told : goal.returns-clause-told
returns-clause-told c =
    let definitions : map definition_model c.deref.result.now ≡ c.args.read.now.definitions =
    ap (map definition_model) c.deref.ensures.value ∙ c.versions.ensures.definitions in
    if_ok c.place_definitions.result (λ _. All (TellsDefinition c.place_definitions.new.table) c.deref.result.now)
    (λ _. TellsAll c.place_definitions.new.table (texts_of_definitions c.args.read.now.definitions))
    (λ _ h. subst (λ (l : List VersionDefinition). TellsAll c.place_definitions.new.table (texts_of_definitions l)) definitions
    (definitions_all c.place_definitions.new.table c.deref.result.now h)) c.place_definitions.ensures.told

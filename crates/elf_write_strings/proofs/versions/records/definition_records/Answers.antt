use Rattle.std.proofs.lemmas.List.{length-map}
use Rattle.std.proofs.Common.{List, ap, length, map, subst, sym, ◌∙◌}
use Rattle.elf_format.specs.Versions.{VersionDefinition}
use Rattle.elf_layout_plan.specs.Texts.{texts_of_definitions}
use Rattle.elf_layout_plan.specs.Sizes.{definitions_size}
use Rattle.elf_image.specs.ImageModel.{definition_model}
use Rattle.elf_image_versions.specs.declared.version.VersionDef.{VersionDef}
use Rattle.elf_write_strings.specs.PlacedTexts.{TellsAll}
use Rattle.elf_write_strings.proofs.VersionsHave.{definitions_told, length-definitions}
use Rattle.elf_write_strings.proofs.VersionsShown.{definitions_of}
use Rattle.elf_write_strings.proofs.versions.records.definition_records.Goals as goal

pub returns-in-Ok-clause-sized : goal.returns-in-Ok-clause-sized
returns-in-Ok-clause-sized c =
    ap length c.in-Ok.ensures.bytes.0
    ∙ length-definitions c.order.result c.args.names.now (map definition_model c.deref.result.now)
    ∙ ap (λ (ds : List VersionDef). definitions_size (map definition_model ds)) c.deref.ensures.value
    ∙ ap definitions_size c.versions.ensures.definitions

pub returns-in-Ok-clause-versions : goal.returns-in-Ok-clause-versions
returns-in-Ok-clause-versions c =
    definitions_of c.order.result c.args.image.now.form c.args.names.now (map definition_model c.deref.result.now) c.args.image.now.definitions
    (length c.deref.result.now) c.in-Ok.bytes.items c.order.ensures
    (ap (λ (l : List VersionDef). map definition_model l) c.deref.ensures.value ∙ c.versions.ensures.definitions)
    (length-map c.deref.result.now definition_model)
    (definitions_told c.args.names.now c.args.image.now.definitions c.requires.told) c.requires.stand c.in-Ok.ensures.bytes.0 c.in-Ok.ensures.read

pub build_verdef-requires : goal.build_verdef-requires
build_verdef-requires c =
    definitions_told c.args.names.now (map definition_model c.deref.result.now)
    (subst (λ (ds : List VersionDefinition). TellsAll c.args.names.now (texts_of_definitions ds))
    (sym (ap (λ (l : List VersionDef). map definition_model l) c.deref.ensures.value ∙ c.versions.ensures.definitions)) c.requires.told)

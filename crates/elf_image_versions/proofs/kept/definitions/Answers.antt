-- The versions that the one section defines.
use Rattle.std.proofs.Common.{List, Option, Some, map, sym, ap, subst, ◌∙◌}
use Rattle.patch_bytes.specs.Memory.{memory_of}
use Rattle.elf_format.specs.declared.constants.TheConstants.{SHT_GNU_VERDEF}
use Rattle.elf_format.specs.File.{Parts, section_of_type}
use Rattle.elf_image_versions.specs.VersionsModel.{definition_model}
use Rattle.elf_format.specs.Answers.{Gives}
use Rattle.elf_image_rules.specs.Read.{parts_model}
use Rattle.elf_format.specs.declared.records.SectionHeader.{SectionHeader}
use Rattle.elf_format.specs.Versions.{VersionDefinition}
use Rattle.elf_image_versions.proofs.KeptSteps.{definitions_none, definitions_some, none_found}
use Rattle.elf_image_versions.proofs.kept.definitions.Goals as goal

pub returns-in_default : goal.returns-in_default
returns-in_default c =
    let o : Option SectionHeader = section_of_type SHT_GNU_VERDEF c.args.parts.now.sections.items in
    definitions_none (parts_model c.args.parts.now) o (none_found c.section_of_type.result o c.in_default.not-Some (c.section_of_type.ensures ∙ ap (section_of_type SHT_GNU_VERDEF) c.deref.ensures.value))
    ∙ ap (λ l. Some (map definition_model l)) (sym c.new.ensures.items)

pub returns : goal.returns
returns c =
    let p : Parts = parts_model c.args.parts.now in
    subst (λ (o : Option (List VersionDefinition)). Gives (λ v. map definition_model v.items) c.kept_definitions.result o)
    (definitions_some p (section_of_type SHT_GNU_VERDEF p.sections) c.in-Some.section (memory_of c.dynamic_texts-texts.result.now)
    (c.in-Some.ensures ∙ ap (section_of_type SHT_GNU_VERDEF) c.deref.ensures.value) c.dynamic_texts-texts.ensures.value c.args.walked.now c.requires.walked)
    c.kept_definitions.ensures

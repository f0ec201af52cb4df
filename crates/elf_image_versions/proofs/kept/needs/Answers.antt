-- The versions that the one section needs.
use Rattle.std.proofs.Common.{List, Option, Some, map, sym, ap, subst, ◌∙◌}
use Rattle.patch_bytes.specs.Memory.{memory_of}
use Rattle.elf_format.specs.declared.constants.TheConstants.{SHT_GNU_VERNEED}
use Rattle.elf_format.specs.File.{Parts, section_of_type}
use Rattle.elf_image_versions.specs.VersionsModel.{needs_model}
use Rattle.elf_format.specs.Answers.{Gives}
use Rattle.elf_image_rules.specs.Read.{parts_model}
use Rattle.elf_format.specs.declared.records.SectionHeader.{SectionHeader}
use Rattle.elf_format.specs.Versions.{VersionNeeds}
use Rattle.elf_image_versions.proofs.KeptSteps.{needs_none, needs_some, none_found}
use Rattle.elf_image_versions.proofs.kept.needs.Goals as goal

pub returns-in_default : goal.returns-in_default
returns-in_default c =
    let o : Option SectionHeader = section_of_type SHT_GNU_VERNEED c.args.parts.now.sections.items in
    needs_none (parts_model c.args.parts.now) o (none_found c.section_of_type.result o c.in_default.not-Some (c.section_of_type.ensures ∙ ap (section_of_type SHT_GNU_VERNEED) c.deref.ensures.value))
    ∙ ap (λ l. Some (map needs_model l)) (sym c.new.ensures.items)

pub returns : goal.returns
returns c =
    let p : Parts = parts_model c.args.parts.now in
    subst (λ (o : Option (List VersionNeeds)). Gives (λ v. map needs_model v.items) c.kept_needs.result o)
    (needs_some p (section_of_type SHT_GNU_VERNEED p.sections) c.in-Some.section (memory_of c.dynamic_texts-texts.result.now)
    (c.in-Some.ensures ∙ ap (section_of_type SHT_GNU_VERNEED) c.deref.ensures.value) c.dynamic_texts-texts.ensures.value c.args.walked.now c.requires.walked)
    c.kept_needs.ensures

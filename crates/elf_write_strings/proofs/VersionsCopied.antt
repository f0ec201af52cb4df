-- The texts of version records, where the string table that they stand in is copied.
use Rattle.std.proofs.Common.{◌≡◌, ℕ, List, length, map, refl, sym, ap, ◌∙◌, Option, Some, Ok}
use Rattle.elf_format.specs.declared.constants.TheConstants.{SHT_GNU_VERDEF, SHT_GNU_VERNEED}
use Rattle.elf_format.specs.declared.records.SectionHeader.{SectionHeader}
use Rattle.elf_format.specs.File.{Parts, section_of_type}
use Rattle.elf_format.specs.Image.{Image, definitions_read, needs_read}
use Rattle.elf_format.specs.Options.{each, list_at}
use Rattle.elf_format.specs.Rules.{accepted_parts, definition_steps, file_of, linked_texts, need_steps}
use Rattle.elf_format.specs.Versions.{DefinitionNumbers, NeedNumbers, VersionDefinition, VersionNeeds, shown_definition, shown_need, values_of}
use Rattle.elf_image.specs.Kept.{link_of_type}
use Rattle.elf_image_versions.specs.declared.version.VersionDef.{VersionDef}
use Rattle.elf_image_versions.specs.declared.version.VersionNeed.{VersionNeed}
use Rattle.elf_image_versions.specs.VersionsModel.{definition_model, needs_model}
use Rattle.elf_image_versions.specs.WalkSteps.{defined_in, needed_in}
use Rattle.elf_write_strings.specs.PlacedTexts.{IsUnedited}
use Rattle.elf_write_strings.specs.VersionPlaces.{AreDefinitionsAt, AreNeedsAt, content_in}
use Rattle.elf_write_strings.proofs.ReadTables.{UserWas, facts, linked_stands, same_parts, user_was}
use Rattle.elf_write_strings.proofs.VersionsTexts.{definitions_at_places, needs_at_places}

read_definitions : (p : Parts) (old : SectionHeader) (o : Option SectionHeader) (ds : List VersionDefinition) → o ≡ Some old
    → definitions_read p o ≡ Some ds
    → each (shown_definition (length (file_of p)) (linked_texts p old)) (values_of (definition_steps p old)) ≡ Some ds
unfolding definitions_read
read_definitions p old o ds same h = sym (ap (definitions_read p) same) ∙ h

read_needs : (p : Parts) (old : SectionHeader) (o : Option SectionHeader) (ns : List VersionNeeds) → o ≡ Some old
    → needs_read p o ≡ Some ns
    → each (shown_need (length (file_of p)) (linked_texts p old)) (values_of (need_steps p old)) ≡ Some ns
unfolding needs_read
read_needs p old o ns same h = sym (ap (needs_read p) same) ∙ h

module _ (read : Image) (is : IsUnedited read) (number : ℕ) (p : Parts) (accepted : accepted_parts read.source ≡ Ok p) where
  same : p ≡ (facts read is).parts
  same = same_parts read is p accepted

  -- the names of the defined versions stand where their records say
  pub copied_definitions : link_of_type SHT_GNU_VERDEF read ≡ Some number → (ds : List VersionDef) → map definition_model ds ≡ read.definitions
      → (records : List DefinitionNumbers) → records ≡ defined_in p → AreDefinitionsAt (content_in read.sections number) ds records
  copied_definitions linked ds kept_ds records walked =
      let q : Parts = (facts read is).parts in
      let user : UserWas q SHT_GNU_VERDEF number = user_was read read (facts read is) SHT_GNU_VERDEF number refl linked in
      let room : ℕ = length (file_of q) in
      let show : DefinitionNumbers → Option VersionDefinition = shown_definition room (linked_texts q user.old) in
      let raws : records ≡ values_of (definition_steps q user.old) =
      walked ∙ ap defined_in same ∙ ap (list_at (λ (h : SectionHeader). values_of (definition_steps q h))) user.is_old in
      let shown : each show (values_of (definition_steps q user.old)) ≡ Some read.definitions =
      read_definitions q user.old (section_of_type SHT_GNU_VERDEF q.sections) read.definitions user.is_old (facts read is).holds.definitions in
      definitions_at_places room (linked_texts q user.old) (content_in read.sections number)
      (linked_stands read is user.old number user.link) records ds
      (ap (each show) raws ∙ shown ∙ ap (λ (l : List VersionDefinition). Some l) (sym kept_ds))

  -- the texts of the needed versions stand where their records say
  pub copied_needs : link_of_type SHT_GNU_VERNEED read ≡ Some number → (ns : List VersionNeed) → map needs_model ns ≡ read.needs
      → (records : List NeedNumbers) → records ≡ needed_in p → AreNeedsAt (content_in read.sections number) ns records
  copied_needs linked ns kept_ns records walked =
      let q : Parts = (facts read is).parts in
      let user : UserWas q SHT_GNU_VERNEED number = user_was read read (facts read is) SHT_GNU_VERNEED number refl linked in
      let room : ℕ = length (file_of q) in
      let show : NeedNumbers → Option VersionNeeds = shown_need room (linked_texts q user.old) in
      let raws : records ≡ values_of (need_steps q user.old) =
      walked ∙ ap needed_in same ∙ ap (list_at (λ (h : SectionHeader). values_of (need_steps q h))) user.is_old in
      let shown : each show (values_of (need_steps q user.old)) ≡ Some read.needs =
      read_needs q user.old (section_of_type SHT_GNU_VERNEED q.sections) read.needs user.is_old (facts read is).holds.needs in
      needs_at_places room (linked_texts q user.old) (content_in read.sections number)
      (linked_stands read is user.old number user.link) records ns
      (ap (each show) raws ∙ shown ∙ ap (λ (l : List VersionNeeds). Some l) (sym kept_ns))
